-- What bytes ask, by what was found in them.
use Rattle.std.proofs.Common.{◌≡◌, ◌∙◌, sym, refl, ap, subst, arith, ℕ, ◌+◌, ◌-◌, ◌≤◌, ◌<◌, Bool, true, false, List, ◌++◌, length, take, drop, Option, Some, None, length-append}
use Rattle.std.specs.Prelude.{MatchOption, nat_lt}
use Rattle.std.proofs.lemmas.Bool.{ltb-true, lt-ltb}
use Rattle.std.proofs.lemmas.List.{take_all}
use Rattle.std.proofs.Math.Seq.{take-append_seam, take-append-add, drop-append_seam}
use Rattle.http_exchange.specs.declared.request.Request.{Request}
use Rattle.http_exchange.specs.declared.request.Request.TheVariants as request
use Rattle.http_exchange.specs.declared.request.Refusal.TheVariants as refusal
use Rattle.http_exchange.specs.declared.request.Asked.{Asked}
use Rattle.http_exchange.specs.Heads.{head_of, longest_head}
use Rattle.http_exchange.specs.Requests.{HeadAsks, answered_with, without_head, Asks}
use Rattle.http_exchange.proofs.HeadLemmas.{head_of-more}

pub not_less : (m n : ℕ) → n ≤ m → nat_lt m n ≡ false
not_less m n enough = by (nat_lt m n) refl
  where
    by : (v : Bool) → nat_lt m n ≡ v → v ≡ false
    by true e = absurd (let less = ltb-true m n e in omega (arith, less, enough))
    by false e = refl

-- the bytes and what they are found to hold
by_none : (found : Option (List ℕ)) (bytes : List ℕ) (r : Option Request) → found ≡ None → r ≡ without_head bytes
    → MatchOption found (r ≡ without_head bytes) (λ head. (asked : Asked) × HeadAsks head asked × (r ≡ answered_with asked (drop (length head) bytes)))
by_none None bytes r none e = e
by_none (Some head) bytes r none e = absurd (cc none)

by_some : (found : Option (List ℕ)) (head bytes : List ℕ) (r : Option Request) (asked : Asked) → found ≡ Some head → HeadAsks head asked
    → r ≡ answered_with asked (drop (length head) bytes)
    → MatchOption found (r ≡ without_head bytes) (λ head. (asked : Asked) × HeadAsks head asked × (r ≡ answered_with asked (drop (length head) bytes)))
by_some None head bytes r asked found asks e = absurd (cc found)
by_some (Some other) head bytes r asked found asks e =
    let same : head ≡ other = cc in
    subst (λ (front : List ℕ). (asked : Asked) × HeadAsks front asked × (r ≡ answered_with asked (drop (length front) bytes))) same (asked, asks, e)

-- fewer bytes than a head may have, and no end of one
pub asks-cut : (xs : List ℕ) → head_of xs ≡ None → length xs < longest_head → Asks xs None
asks-cut xs none short =
    let all : take longest_head xs ≡ xs = take_all longest_head xs (omega (arith, short)) in
    let cut : nat_lt (length xs) longest_head ≡ true = lt-ltb (length xs) longest_head short in
    by_none (head_of (take longest_head xs)) xs None (ap head_of all ∙ none) (rw cut refl)

-- as many bytes as a head may have, and no end of one
pub asks-endless : (xs rest : List ℕ) → head_of xs ≡ None → length xs ≡ longest_head → Asks (xs ++ rest) (Some (request.Refused refusal.Request))
asks-endless xs rest none long =
    let first : take longest_head (xs ++ rest) ≡ xs = ap (λ (n : ℕ). take n (xs ++ rest)) (sym long) ∙ take-append_seam xs rest in
    let enough : longest_head ≤ length (xs ++ rest) = omega (arith, long, length-append xs rest) in
    let whole = not_less (length (xs ++ rest)) longest_head enough in
    by_none (head_of (take longest_head (xs ++ rest))) (xs ++ rest) _ (ap head_of first ∙ none) (rw whole refl)

-- a head, and what it asks of what is behind it
pub asks-head : (head rest : List ℕ) (asked : Asked) (r : Option Request) → head_of head ≡ Some head → length head ≤ longest_head → HeadAsks head asked
    → r ≡ answered_with asked rest → Asks (head ++ rest) r
asks-head head rest asked r found short asks e =
    let room = longest_head - length head in
    let split : take longest_head (head ++ rest) ≡ head ++ take room rest =
    ap (λ (n : ℕ). take n (head ++ rest)) (let sum : longest_head ≡ length head + room = omega (arith, short) in sum) ∙ take-append-add head rest room in
    by_some (head_of (take longest_head (head ++ rest))) head (head ++ rest) r asked
    (ap head_of split ∙ head_of-more head (take room rest) head found) asks
    (e ∙ ap (answered_with asked) (sym (drop-append_seam head rest)))
