-- What is taken off a connection.
--     TakesRequest old new r    a request was taken, and no byte that it does not need
use Rattle.std.specs.Prelude.{◌≡◌, ℕ, ◌+◌, ◌<◌, ◌≤◌, List, [], ◌∷◌, ◌++◌, length, take, Option, Some, None, IfSome}
use Rattle.std.specs.Io.KnownBytes.{Consumes, IsAtEnd}
use Rattle.http_exchange.specs.declared.request.Request.{Request}
use Rattle.http_exchange.specs.declared.request.Asked.{Asked}
use Rattle.http_exchange.specs.declared.request.Asked.TheVariants.{Known, Body}
use Rattle.http_exchange.specs.declared.reading.Front.{Front}
use Rattle.http_exchange.specs.declared.reading.Front.TheVariants.{Head, Endless, Cut}
use Rattle.http_exchange.specs.Heads.{head_of, longest_head}
use Rattle.http_exchange.specs.Requests.{longest_body, answered_with, Asks, SubmitsOnly}

-- the most bytes that are taken
abbrev pub most_taken : ℕ
most_taken = longest_head + longest_body

-- the bytes ask this whatever follows them, or nothing follows them and they end before a request does
abbrev pub AsksJust : List ℕ → Option (List ℕ) → Option (List ℕ) → Option Request → Type 0
AsksJust taken old new None = IfSome old (λ _. IsAtEnd new) × Asks taken None
AsksJust taken old new (Some r) = (rest : List ℕ) → Asks (taken ++ rest) (Some r)

-- Bytes were taken that ask for r, and each front of them that is shorter asks for nothing yet.
pub record TakesRequest (old new : Option (List ℕ)) (r : Option Request) : Type 0 where
  pub taken : List ℕ
  pub consumed : Consumes old new taken
  pub asks : AsksJust taken old new r
  pub needed : (n : ℕ) → n < length taken → Asks (take n taken) None

-- a byte was taken, or nothing was left
abbrev pub TakesByte : Option (List ℕ) → Option (List ℕ) → Option ℕ → Type 0
TakesByte old new None = Consumes old new [] × IsAtEnd new
TakesByte old new (Some byte) = Consumes old new (byte ∷ [])

-- no front of the bytes has the end of a head
abbrev pub HasNoEnd : List ℕ → Type 0
HasNoEnd bytes = (n : ℕ) → n ≤ length bytes → head_of (take n bytes) ≡ None

-- a head was taken, to its end
pub record TakesHead (old new : Option (List ℕ)) (head : List ℕ) : Type 0 where
  pub consumed : Consumes old new head
  pub is_head : head_of head ≡ Some head
  pub short : length head ≤ longest_head
  pub first : (n : ℕ) → n < length head → head_of (take n head) ≡ None

-- bytes were taken that have no end of a head
pub record TakesNoHead (old new : Option (List ℕ)) (taken : List ℕ) : Type 0 where
  pub consumed : Consumes old new taken
  pub no_head : HasNoEnd taken

-- what was found at the front
abbrev pub FrontOf : Option (List ℕ) → Option (List ℕ) → Front → Type 0
FrontOf old new (Head head) = TakesHead old new head
FrontOf old new Endless = (taken : List ℕ) × TakesNoHead old new taken × (length taken ≡ longest_head)
FrontOf old new Cut = (taken : List ℕ) × TakesNoHead old new taken × (length taken < longest_head) × IfSome old (λ _. IsAtEnd new)

-- a head alone submits nothing but what can be submitted, and asks for no body that is too long
abbrev pub AsksLittle : Asked → Type 0
AsksLittle (Known r) = SubmitsOnly r
AsksLittle (Body s length) = length ≤ longest_body

-- the bytes behind a head decide what is asked, whatever follows them, or nothing follows them
abbrev pub DecidesJust : Asked → List ℕ → Option (List ℕ) → Option (List ℕ) → Option Request → Type 0
DecidesJust asked taken old new None = IfSome old (λ _. IsAtEnd new) × (answered_with asked taken ≡ None)
DecidesJust asked taken old new (Some r) = (rest : List ℕ) → answered_with asked (taken ++ rest) ≡ Some r

-- What a head asks for besides was taken: it decides the request whatever follows it, or nothing follows it and it is too short.
pub record TakesRest (asked : Asked) (old new : Option (List ℕ)) (r : Option Request) : Type 0 where
  pub taken : List ℕ
  pub consumed : Consumes old new taken
  pub decides : DecidesJust asked taken old new r
  pub needed : (n : ℕ) → n < length taken → answered_with asked (take n taken) ≡ None
