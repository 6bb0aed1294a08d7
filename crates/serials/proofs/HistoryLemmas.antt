-- What the records say of a serial, with one record more.
use Rattle.std.proofs.Common.{◌≡◌, ℕ, ◌+◌, ◌≤◌, Bool, true, false, ◌||◌, ◌&&◌, if◌then◌else◌, List, [], ◌∷◌, ◌++◌, length, drop, filter_map, Option, None, Some, is_some, bytes_eq, refl, ap, ◌∙◌, arith, length-append}
use Rattle.std.specs.List.{last_or, list_any}
use Rattle.std.specs.Option.{option_or, option_map_or}
use Rattle.std.proofs.lemmas.List.{drop_all, drop-append-le}
use Rattle.wirelist.specs.declared.outcome.Outcome.{Outcome}
use Rattle.records.specs.declared.record.Staff.{Staff}
use Rattle.records.specs.declared.record.Body.{Body}
use Rattle.records.specs.declared.record.Body.TheVariants.{Adopt, Enrol, Calibrate, Tested, Rework, Release, Scrap, Mark}
use Rattle.records.specs.declared.record.StationRecord.{StationRecord}
use Rattle.serials.specs.declared.facts.SerialFacts.{SerialFacts}
use Rattle.serials.specs.Scan.{names_in, names, enrols, is_test_of, outcome_in, reworks, releases, scraps, is_pass, tests, last_test, has_passed, is_reworked, is_known}
use Rattle.serials.specs.Facts.{history}
use Rattle.serials.specs.FactsAfter.{facts_after}
use Rattle.serials.proofs.Pushed.{first_number-push, last_number-push, last_number-within, list_any-push, filter_map-push, last_of_option}

-- facts with equal fields are equal
same_facts : (f g : SerialFacts) → f.enrol ≡ g.enrol → f.tests ≡ g.tests → f.last_test ≡ g.last_test → f.last_passed ≡ g.last_passed
    → f.reworked ≡ g.reworked → f.released ≡ g.released → f.scrapped ≡ g.scrapped → f ≡ g
same_facts f g a b c d e u v = λ i. record { enrol = a i; tests = b i; last_test = c i; last_passed = d i; reworked = e i; released = u i; scrapped = v i }

-- one, where there is an outcome
pub count_of : Option Outcome → ℕ
count_of None = 0
count_of (Some o) = 1

-- the facts with one record more, by what it says of the serial
abbrev pushed_facts : SerialFacts → ℕ → Bool → Option Outcome → Bool → Bool → Bool → SerialFacts
pushed_facts f n enrolled found reworked released scrapped = record {
  enrol = option_or f.enrol (if enrolled then Some n else None);
  tests = f.tests + count_of found;
  last_test = if is_some found then Some n else f.last_test;
  last_passed = option_map_or is_pass found f.last_passed;
  reworked = if is_some found then false else f.reworked || (is_some f.last_test && reworked);
  released = f.released || released;
  scrapped = f.scrapped || scrapped;
}

module _ (R : List StationRecord) (serial : List ℕ) (r : StationRecord) where
  tests-push : tests (R ++ r ∷ []) serial ≡ tests R serial ++ filter_map (λ (z : Option Outcome). z) (outcome_in serial r ∷ [])
  tests-push = filter_map-push (outcome_in serial) R r

  count-push : (o : Option Outcome) → length (tests R serial ++ filter_map (λ (z : Option Outcome). z) (o ∷ [])) ≡ length (tests R serial) + count_of o
  unfolding count_of
  count-push None = omega (arith, length-append (tests R serial) [])
  count-push (Some o) = omega (arith, length-append (tests R serial) (o ∷ []))

  passed-push : (o : Option Outcome) → option_map_or is_pass (last_or None (tests R serial ++ filter_map (λ (z : Option Outcome). z) (o ∷ []))) false ≡ option_map_or is_pass o (has_passed R serial)
  passed-push None = ap (λ (o : Option Outcome). option_map_or is_pass o false) (last_of_option (tests R serial) None)
  passed-push (Some o) = ap (λ (o : Option Outcome). option_map_or is_pass o false) (last_of_option (tests R serial) (Some o))

  last_test-push : last_test (R ++ r ∷ []) serial ≡ (if is_test_of serial r then Some (length R + 1) else last_test R serial)
  last_test-push = last_number-push (is_test_of serial) R r

  -- reworks behind the test with this number
  abbrev behind : List StationRecord → Option ℕ → Bool
  behind S o = option_map_or (λ k. list_any (reworks serial) (drop k S)) o false

  behind-other : (o : Option ℕ) → last_test R serial ≡ o → behind (R ++ r ∷ []) o ≡ (behind R o || (is_some o && reworks serial r))
  behind-other None is = refl
  behind-other (Some k) is =
      let within : k ≤ length R = (last_number-within (is_test_of serial) R k is).1 in
      ap (λ (S : List StationRecord). list_any (reworks serial) S) (drop-append-le k R (r ∷ []) within) ∙ list_any-push (reworks serial) (drop k R) r

  behind-test : behind (R ++ r ∷ []) (Some (length R + 1)) ≡ false
  behind-test =
      let past : length (R ++ r ∷ []) ≤ length R + 1 = omega (arith, length-append R (r ∷ [])) in
      ap (λ (S : List StationRecord). list_any (reworks serial) S) (drop_all (length R + 1) (R ++ r ∷ []) past)

  behind-push : (b : Bool) → behind (R ++ r ∷ []) (if b then Some (length R + 1) else last_test R serial)
      ≡ (if b then false else is_reworked R serial || (is_some (last_test R serial) && reworks serial r))
  behind-push true = behind-test
  behind-push false = behind-other (last_test R serial) refl

  is_reworked-push : is_reworked (R ++ r ∷ []) serial ≡ (if is_test_of serial r then false else is_reworked R serial || (is_some (last_test R serial) && reworks serial r))
  is_reworked-push = ap (λ (o : Option ℕ). behind (R ++ r ∷ []) o) last_test-push ∙ behind-push (is_test_of serial r)

  -- what the records say with one more is what they said, and what it says
  pub history-push : history (R ++ r ∷ []) serial ≡ pushed_facts (history R serial) (length R + 1) (enrols serial r) (outcome_in serial r) (reworks serial r) (releases serial r) (scraps serial r)
  history-push =
      same_facts (history (R ++ r ∷ []) serial) (pushed_facts (history R serial) (length R + 1) (enrols serial r) (outcome_in serial r) (reworks serial r) (releases serial r) (scraps serial r))
      (first_number-push (enrols serial) R r)
      (ap (λ (os : List Outcome). length os) tests-push ∙ count-push (outcome_in serial r))
      last_test-push
      (ap (λ (os : List Outcome). option_map_or is_pass (last_or None os) false) tests-push ∙ passed-push (outcome_in serial r))
      is_reworked-push
      (list_any-push (releases serial) R r)
      (list_any-push (scraps serial) R r)

-- ---- record by record

or_false : (b : Bool) → (b || false) ≡ b
or_false true = refl
or_false false = refl

or_true : (b : Bool) → (b || true) ≡ true
or_true true = refl
or_true false = refl

and_true : (b : Bool) → (b && true) ≡ b
and_true true = refl
and_true false = refl

or_and_false : (b c : Bool) → (b || (c && false)) ≡ b
or_and_false true c = refl
or_and_false false true = refl
or_and_false false false = refl

or_none : (o : Option ℕ) → option_or o None ≡ o
or_none None = refl
or_none (Some n) = refl

none_more : (n : ℕ) → n + count_of None ≡ n
unfolding count_of
none_more n = omega arith

one_more : (n : ℕ) (o : Outcome) → n + count_of (Some o) ≡ n + 1
unfolding count_of
one_more n o = refl

module _ (f : SerialFacts) (n : ℕ) where
  nothing : pushed_facts f n false None false false false ≡ f
  nothing = same_facts (pushed_facts f n false None false false false) f (or_none f.enrol) (none_more f.tests) refl refl (or_and_false f.reworked (is_some f.last_test)) (or_false f.released) (or_false f.scrapped)

  enrolled : (s : List ℕ) (b : Bool) → pushed_facts f n b None false false false ≡ (if b then facts_after f (Enrol s) n else f)
  enrolled s true = same_facts (pushed_facts f n true None false false false) (facts_after f (Enrol s) n) refl (none_more f.tests) refl refl (or_and_false f.reworked (is_some f.last_test)) (or_false f.released) (or_false f.scrapped)
  enrolled s false = nothing

  tested : (s : List ℕ) (attempt : ℕ) (staff : Option Staff) (o : Outcome) (b : Bool) → pushed_facts f n false (if b then Some o else None) false false false ≡ (if b then facts_after f (Tested s attempt staff o) n else f)
  tested s attempt staff o true = same_facts (pushed_facts f n false (Some o) false false false) (facts_after f (Tested s attempt staff o) n) (or_none f.enrol) (one_more f.tests o) refl refl refl (or_false f.released) (or_false f.scrapped)
  tested s attempt staff o false = nothing

  reworked : (s : List ℕ) (b : Bool) → pushed_facts f n false None b false false ≡ (if b then facts_after f (Rework s) n else f)
  reworked s true = same_facts (pushed_facts f n false None true false false) (facts_after f (Rework s) n) (or_none f.enrol) (none_more f.tests) refl refl (ap (λ (b : Bool). f.reworked || b) (and_true (is_some f.last_test))) (or_false f.released) (or_false f.scrapped)
  reworked s false = nothing

  released : (s : List ℕ) (b : Bool) → pushed_facts f n false None false b false ≡ (if b then facts_after f (Release s) n else f)
  released s true = same_facts (pushed_facts f n false None false true false) (facts_after f (Release s) n) (or_none f.enrol) (none_more f.tests) refl refl (or_and_false f.reworked (is_some f.last_test)) (or_true f.released) (or_false f.scrapped)
  released s false = nothing

  scrapped : (s : List ℕ) (b : Bool) → pushed_facts f n false None false false b ≡ (if b then facts_after f (Scrap s) n else f)
  scrapped s true = same_facts (pushed_facts f n false None false false true) (facts_after f (Scrap s) n) (or_none f.enrol) (none_more f.tests) refl refl (or_and_false f.reworked (is_some f.last_test)) (or_false f.released) (or_true f.scrapped)
  scrapped s false = nothing

  -- what a record says, by its fields
  by_body : (serial id : List ℕ) (moment : ℕ) (b : Body) →
      let r : StationRecord = record { id = id; moment = moment; body = b } in
      pushed_facts f n (enrols serial r) (outcome_in serial r) (reworks serial r) (releases serial r) (scraps serial r) ≡ (if names_in serial b then facts_after f b n else f)
  by_body serial id moment (Adopt p) = nothing
  by_body serial id moment (Enrol s) = enrolled s (bytes_eq s serial)
  by_body serial id moment (Calibrate day) = nothing
  by_body serial id moment (Tested s attempt staff o) = tested s attempt staff o (bytes_eq s serial)
  by_body serial id moment (Rework s) = reworked s (bytes_eq s serial)
  by_body serial id moment (Release s) = released s (bytes_eq s serial)
  by_body serial id moment (Scrap s) = scrapped s (bytes_eq s serial)
  by_body serial id moment Mark = nothing

pub history-after : (R : List StationRecord) (serial : List ℕ) (r : StationRecord) → history (R ++ r ∷ []) serial ≡ (if names_in serial r.body then facts_after (history R serial) r.body (length R + 1) else history R serial)
history-after R serial r = history-push R serial r ∙ by_body (history R serial) (length R + 1) serial r.id r.moment r.body

pub known-after : (R : List StationRecord) (serial : List ℕ) (r : StationRecord) → is_known (R ++ r ∷ []) serial ≡ (is_known R serial || names_in serial r.body)
known-after R serial r = list_any-push (names serial) R r
