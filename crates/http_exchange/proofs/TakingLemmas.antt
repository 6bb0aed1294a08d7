-- A head and what it asks for besides, taken one after the other.
use Rattle.std.proofs.Common.{◌≡◌, IfSome, IfOk, OnErr, Result, Ok, Err, ◌⊎◌, inl, inr, ◌∙◌, sym, refl, ap, subst, arith, ℕ, ◌+◌, ◌-◌, ◌≤◌, ◌<◌, Bool, true, false, cond, List, [], ◌∷◌, ◌++◌, length, take, append_assoc, append-nil, Option, Some, None, length-append, codes}
use Rattle.std.specs.Prelude.{nat_lt, bytes_eq}
use Rattle.std.specs.Str.Parse.{digits_value}
use Rattle.std.specs.Io.KnownBytes.{Consumes, IsAtEnd}
use Rattle.std.proofs.KnownBytes.{Consumes-trans}
use Rattle.std.proofs.lemmas.Bool.{ltb-true, ltb-false, lt-ltb}
use Rattle.std.proofs.lemmas.List.{take-append-le, length-take, take-append-drop, drop_all}
use Rattle.std.proofs.Math.Seq.{take-append-add, take-append_seam}
use Rattle.httparse.specs.Grammar.{RequestHead}
use Rattle.partition.specs.Names.{is_name}
use Rattle.bench_edge.specs.declared.stream.EdgeStop.{EdgeStop}
use Rattle.bench_edge.specs.Whole.{TookFirst, LostFront}
use Rattle.http_exchange.specs.declared.page.Submission.{Submission}
use Rattle.http_exchange.specs.declared.page.Page.{Page}
use Rattle.http_exchange.specs.declared.page.Page.TheVariants as page
use Rattle.http_exchange.specs.declared.request.Request.{Request}
use Rattle.http_exchange.specs.declared.request.Request.TheVariants as request
use Rattle.http_exchange.specs.declared.request.Refusal.TheVariants as refusal
use Rattle.http_exchange.specs.declared.request.Asked.{Asked}
use Rattle.http_exchange.specs.declared.request.Asked.TheVariants.{Known, Body}
use Rattle.http_exchange.specs.Heads.{head_of, ends_head, longest_head, values_of}
use Rattle.http_exchange.specs.Routes.{page_at, path_of, serial_in, verb_of, verb_name}
use Rattle.http_exchange.specs.Bodies.{command_of}
use Rattle.http_exchange.specs.Requests.{refused, longest_body, is_length, sized, posted, unit_asked, page_asked, routed, coded, asked_by, HeadAsks, commanded, answered_with, Asks}
use Rattle.http_exchange.specs.Reading.{AsksJust, TakesRequest, TakesHead, TakesNoHead, AsksLittle, DecidesJust, TakesRest, TakesByte, most_taken}
use Rattle.http_exchange.proofs.HeadLemmas.{no_end-whole, no_end-by, head_of-ends, shorter}
use Rattle.http_exchange.proofs.AsksLemmas.{not_less, asks-cut, asks-endless, asks-head}

above : (n m : ℕ) → nat_lt n m ≡ false → m ≤ n
above n m e = ltb-false n m e

below_or_not : (n m : ℕ) → (n < m) ⊎ (m ≤ n)
below_or_not n m = by (nat_lt n m) refl
  where
    by : (v : Bool) → nat_lt n m ≡ v → (n < m) ⊎ (m ≤ n)
    by true e = inl (ltb-true n m e)
    by false e = inr (above n m e)

-- nothing is left behind both
ends_behind : (old mid new : Option (List ℕ)) (head : List ℕ) → Consumes old mid head → IfSome mid (λ _. IsAtEnd new) → IfSome old (λ _. IsAtEnd new)
ends_behind None mid new head consumed end = tt
ends_behind (Some xs) None new head consumed end = absurd consumed
ends_behind (Some xs) (Some ys) new head consumed end = end

-- what the whole asks
whole_asks : (old mid new : Option (List ℕ)) (head taken : List ℕ) (asked : Asked) (r : Option Request) → Consumes old mid head → head_of head ≡ Some head → length head ≤ longest_head
    → HeadAsks head asked → DecidesJust asked taken mid new r → AsksJust (head ++ taken) old new r
whole_asks old mid new head taken asked None consumed found short asks decides = (ends_behind old mid new head consumed decides.0, asks-head head taken asked None found short asks (sym decides.1))
whole_asks old mid new head taken asked (Some r) consumed found short asks decides =
    λ rest. subst (λ (bytes : List ℕ). Asks bytes (Some r)) (sym (append_assoc head taken rest)) (asks-head head (taken ++ rest) asked (Some r) found short asks (sym (decides rest)))

-- a front of the whole is a front of the head, or the head and a front of the rest
front_asks : (head taken : List ℕ) (asked : Asked) (n : ℕ) → head_of head ≡ Some head → length head ≤ longest_head → HeadAsks head asked
    → ((k : ℕ) → k < length head → head_of (take k head) ≡ None) → ((k : ℕ) → k < length taken → answered_with asked (take k taken) ≡ None)
    → n < length (head ++ taken) → (n < length head) ⊎ (length head ≤ n) → Asks (take n (head ++ taken)) None
front_asks head taken asked n found short asks first needed within (inl less) =
    let front : take n (head ++ taken) ≡ take n head = take-append-le n head taken (omega (arith, less)) in
    subst (λ (bytes : List ℕ). Asks bytes None) (sym front) (asks-cut (take n head) (first n less) (omega (arith, length-take n head, less, short)))
front_asks head taken asked n found short asks first needed within (inr more) =
    let k = n - length head in
    let sum : n ≡ length head + k = omega (arith, more) in
    let front : take n (head ++ taken) ≡ head ++ take k taken = ap (λ (m : ℕ). take m (head ++ taken)) sum ∙ take-append-add head taken k in
    let fits : k < length taken = omega (arith, within, more, length-append head taken) in
    subst (λ (bytes : List ℕ). Asks bytes None) (sym front) (asks-head head (take k taken) asked None found short asks (sym (needed k fits)))

pub takes-whole : (old mid new : Option (List ℕ)) (head : List ℕ) (asked : Asked) (r : Option Request)
    → TakesHead old mid head → HeadAsks head asked → TakesRest asked mid new r → TakesRequest old new r
takes-whole old mid new head asked r front asks rest =
    record {
      taken = head ++ rest.taken;
      consumed = Consumes-trans old mid new head rest.taken front.consumed rest.consumed;
      asks = whole_asks old mid new head rest.taken asked r front.consumed front.is_head front.short asks rest.decides;
      needed = λ n within. front_asks head rest.taken asked n front.is_head front.short asks front.first rest.needed within (below_or_not n (length head));
    }

-- no end of a head
pub takes-endless : (old new : Option (List ℕ)) (taken : List ℕ) → TakesNoHead old new taken → length taken ≡ longest_head
    → TakesRequest old new (Some (request.Refused refusal.Request))
takes-endless old new taken front long =
    let none = front.no_head in
    record {
      taken = taken;
      consumed = front.consumed;
      asks = λ rest. asks-endless taken rest (no_end-whole taken none) long;
      needed = λ n within. asks-cut (take n taken) (none n (omega (arith, within))) (omega (arith, length-take n taken, within, long));
    }

pub takes-cut : (old new : Option (List ℕ)) (taken : List ℕ) → TakesNoHead old new taken → length taken < longest_head → IfSome old (λ _. IsAtEnd new) → TakesRequest old new None
takes-cut old new taken front short end =
    let none = front.no_head in
    record {
      taken = taken;
      consumed = front.consumed;
      asks = (end, asks-cut taken (no_end-whole taken none) short);
      needed = λ n within. asks-cut (take n taken) (none n (omega (arith, within))) (omega (arith, length-take n taken, within, short));
    }

-- the bytes that came of a body
took_consumes : (old new : Option (List ℕ)) (most : ℕ) (bytes : List ℕ) → TookFirst old new most bytes → Consumes old new bytes
took_consumes None new most bytes took = tt
took_consumes (Some xs) None most bytes took = absurd took
took_consumes (Some xs) (Some ys) most bytes took = sym (ap (λ (l : List ℕ). l ++ ys) took.0 ∙ ap (λ (l : List ℕ). take most xs ++ l) took.1 ∙ take-append-drop most xs)

took_all : (old new : Option (List ℕ)) (most : ℕ) (bytes : List ℕ) → TookFirst old new most bytes → length bytes < most → IfSome old (λ _. IsAtEnd new)
took_all None new most bytes took short = tt
took_all (Some xs) None most bytes took short = absurd took
took_all (Some xs) (Some ys) most bytes took short =
    let all : length xs ≤ most = omega (arith, short, ap length took.0, length-take most xs) in
    took.1 ∙ drop_all most xs all

pub body-cut : (s : Submission) (n : ℕ) (old new : Option (List ℕ)) (body : List ℕ) → TookFirst old new n body → length body < n → TakesRest (Body s n) old new None
body-cut s n old new body took short =
    let cut : (k : List ℕ) → length k < n → answered_with (Body s n) k ≡ None = λ k less. let yes : nat_lt (length k) n ≡ true = lt-ltb (length k) n less in rw yes refl in
    record {
      taken = body;
      consumed = took_consumes old new n body took;
      decides = (took_all old new n body took short, cut body short);
      needed = λ k within. cut (take k body) (omega (arith, length-take k body, within, short));
    }

pub body-whole : (s : Submission) (n : ℕ) (old new : Option (List ℕ)) (body : List ℕ) → TookFirst old new n body → length body ≡ n
    → TakesRest (Body s n) old new (Some (commanded (command_of s body)))
body-whole s n old new body took whole =
    record {
      taken = body;
      consumed = took_consumes old new n body took;
      decides = λ rest.
          let enough = not_less (length (body ++ rest)) n (omega (arith, whole, length-append body rest)) in
          let front : take n (body ++ rest) ≡ body = ap (λ (m : ℕ). take m (body ++ rest)) (sym whole) ∙ take-append_seam body rest in
          rw enough (ap (λ (l : List ℕ). Some (commanded (command_of s l))) front);
      needed = λ k within. let yes : nat_lt (length (take k body)) n ≡ true = lt-ltb _ _ (omega (arith, length-take k body, within, whole)) in rw yes refl;
    }

-- a head asks for no body that is too long
little_sized : (s : Submission) (n : ℕ) → AsksLittle (sized s n)
little_sized s n = by (nat_lt longest_body n) refl
  where
    by : (v : Bool) → nat_lt longest_body n ≡ v → AsksLittle (cond v (refused refusal.TooLong) (Body s n))
    by true e = tt
    by false e = above longest_body n e

little_told : (s : Submission) (text : List ℕ) → AsksLittle (posted s (text ∷ []))
little_told s text =
    elim (is_length text) as (λ v. AsksLittle (cond v (sized s (digits_value 10 text)) (refused refusal.Request))) [
      | true ↦ little_sized s (digits_value 10 text)
      | false ↦ tt
    ]

little_posted : (s : Submission) (values : List (List ℕ)) → AsksLittle (posted s values)
little_posted s [] = tt
little_posted s (text ∷ []) = little_told s text
little_posted s (text ∷ other ∷ more) = tt

little_unit : (serial : List ℕ) → AsksLittle (unit_asked serial)
little_unit serial = elim (is_name serial) as (λ v. AsksLittle (cond v (Known (request.Unit serial)) (refused refusal.NotFound))) [ true ↦ tt | false ↦ tt ]

little_page : (h : RequestHead) (p : Page) → AsksLittle (page_asked h p)
little_page h (page.Submit s) = little_posted s (values_of (codes "content-length") h)
little_page h page.Unit = little_unit (serial_in (path_of h.target))
little_page h page.Report = tt

little_routed : (h : RequestHead) (o : Option Page) → AsksLittle (routed h o)
little_routed h None = tt
little_routed h (Some p) =
    elim (bytes_eq h.method (verb_name (verb_of p))) as (λ v. AsksLittle (cond v (page_asked h p) (refused (refusal.Method (verb_of p))))) [
      | true ↦ little_page h p
      | false ↦ tt
    ]

little_coded : (h : RequestHead) (values : List (List ℕ)) → AsksLittle (coded h values)
little_coded h [] = little_routed h (page_at (path_of h.target))
little_coded h (coding ∷ more) = tt

little_asked : (h : RequestHead) → AsksLittle (asked_by h)
unfolding asked_by
little_asked h = little_coded h (values_of (codes "transfer-encoding") h)

pub asks-little : (head : List ℕ) (asked : Asked) → HeadAsks head asked → AsksLittle asked
asks-little head asked (inl (never, e)) = subst AsksLittle (sym e) tt
asks-little head asked (inr (h, is, e)) = subst AsksLittle (sym e) (little_asked h)

-- nothing follows
pub next-none : (old mid new : Option (List ℕ)) (taken : List ℕ) → Consumes old mid taken → head_of taken ≡ None → TakesByte mid new None
    → TakesNoHead old new taken × IfSome old (λ _. IsAtEnd new)
next-none old mid new taken consumed none next = (
  record { consumed = subst (Consumes old new) (append-nil taken) (Consumes-trans old mid new taken [] consumed next.0); no_head = no_end-by taken none },
  at_end old next.1,
)
  where
    at_end : (o : Option (List ℕ)) → IsAtEnd new → IfSome o (λ _. IsAtEnd new)
    at_end None end = tt
    at_end (Some xs) end = end

-- a byte follows that ends the head
pub next-ends : (old mid new : Option (List ℕ)) (taken : List ℕ) (b : ℕ) → Consumes old mid taken → head_of taken ≡ None → length taken < longest_head
    → TakesByte mid new (Some b) → ends_head (taken ++ b ∷ []) ≡ true → TakesHead old new (taken ++ b ∷ [])
next-ends old mid new taken b consumed none short next ends =
    record {
      consumed = Consumes-trans old mid new taken (b ∷ []) consumed next;
      is_head = head_of-ends taken b none ends;
      short = omega (arith, short, length-append taken (b ∷ []));
      first = shorter taken b none;
    }

-- whatever the answer
pub whole_or_refused : (old mid new : Option (List ℕ)) (head : List ℕ) (asked : Asked) (r : Result (Option Request) EdgeStop)
    → TakesHead old mid head → HeadAsks head asked → IfOk r (TakesRest asked mid new) → IfOk r (TakesRequest old new)
whole_or_refused old mid new head asked (Ok r) front asks rest = takes-whole old mid new head asked r front asks rest
whole_or_refused old mid new head asked (Err e) front asks rest = tt

pub lost-behind : (old mid new : Option (List ℕ)) (head : List ℕ) (r : Result (Option Request) EdgeStop)
    → TakesHead old mid head → OnErr r (LostFront mid new longest_body) → OnErr r (LostFront old new most_taken)
lost-behind old mid new head (Ok r) front lost = tt
lost-behind old mid new head (Err e) front (rest, within, consumed) =
    let short = front.short in
    (head ++ rest, omega (arith, within, short, length-append head rest), Consumes-trans old mid new head rest front.consumed consumed)
