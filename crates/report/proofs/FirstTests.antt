-- The first test of each serial, kept in a map.
use Rattle.std.proofs.Common.{◌≡◌, ℕ, ◌+◌, ◌<◌, Bool, true, false, cond, if◌then◌else◌, List, [], ◌∷◌, ◌++◌, length, take, get_or, Option, None, Some, is_some, slice_get, refl, sym, ◌∙◌, ap, bytes_eq}
use Rattle.std.specs.Prelude.{filter_map, option_map}
use Rattle.std.specs.Option.{option_or}
use Rattle.std.specs.Ordering.{is_eq, nat_cmp}
use Rattle.std.specs.Cmp.Lexicographic.{slice_cmp}
use Rattle.std.proofs.lemmas.List.Elements.{filter_map-append}
use Rattle.std.proofs.lemmas.Map.Text.{is_eq-slice_cmp}
use Rattle.std.proofs.lemmas.Slice.Eq.{bytes_eq-Decides}
use Rattle.wirelist.specs.declared.outcome.Outcome.{Outcome}
use Rattle.records.specs.declared.record.Body.{Body}
use Rattle.records.specs.declared.record.Body.TheVariants.{Adopt, Enrol, Calibrate, Tested, Rework, Release, Scrap, Mark}
use Rattle.records.specs.declared.record.StationRecord.{StationRecord}
use Rattle.serials.specs.Scan.{is_pass, outcome_in, tests}
use Rattle.report.specs.LotText.{first_test}
use Rattle.report.specs.Counting.{outcome_by}
use Rattle.report.proofs.Adopted.{up_to}

same_bytes : (a b : List ℕ) → bytes_eq a b ≡ true → a ≡ b
same_bytes a b e = (bytes_eq-Decides a b).0 e

absent : (o : Option Bool) → false ≡ is_some o → o ≡ None
absent None e = refl
absent (Some x) e = absurd cc

-- ---- one test noted, over the look-up before it

new_entry : (serial q : List ℕ) (passed : Bool) (o : Option Bool) (b : Bool) → bytes_eq serial q ≡ b → (serial ≡ q → o ≡ None) → cond b (Some passed) o ≡ option_or o (if b then Some passed else None)
new_entry serial q passed o true e none = let is = none (same_bytes serial q e) in rw is refl
new_entry serial q passed None false e none = refl
new_entry serial q passed (Some x) false e none = refl

pub test_new : (before after : List ℕ → Option Bool) (serial : List ℕ) (passed : Bool) → false ≡ is_some (before serial)
    → ((q : List ℕ) → after q ≡ cond (is_eq (slice_cmp nat_cmp serial q)) (Some passed) (before q))
    → (q : List ℕ) → after q ≡ option_or (before q) (if bytes_eq serial q then Some passed else None)
test_new before after serial passed none step q =
    step q
    ∙ ap (λ (b : Bool). cond b (Some passed) (before q)) (is_eq-slice_cmp serial q)
    ∙ new_entry serial q passed (before q) (bytes_eq serial q) refl (λ e. ap before (sym e) ∙ absent (before serial) none)

old_entry : (o : Option Bool) (passed b : Bool) → (b ≡ true → is_some o ≡ true) → o ≡ option_or o (if b then Some passed else None)
old_entry None passed true there = let found = there refl in absurd cc
old_entry None passed false there = refl
old_entry (Some x) passed b there = refl

pub test_there : (before : List ℕ → Option Bool) (serial : List ℕ) (passed : Bool) → true ≡ is_some (before serial)
    → (q : List ℕ) → before q ≡ option_or (before q) (if bytes_eq serial q then Some passed else None)
test_there before serial passed there q = old_entry (before q) passed (bytes_eq serial q) (λ e. ap (λ (k : List ℕ). is_some (before k)) (sym (same_bytes serial q e)) ∙ sym there)

-- ---- one record noted

pub mapped_if : (b passed : Bool) (o : Outcome) → passed ≡ is_pass o → (if b then Some passed else None) ≡ option_map is_pass (if b then Some o else None)
mapped_if true passed o is = ap (λ (x : Bool). Some x) is
mapped_if false passed o is = refl

-- the first of some and perhaps one more
first_more : (os : List Outcome) (o : Option Outcome) → option_map is_pass (slice_get (os ++ filter_map (λ (z : Option Outcome). z) (o ∷ [])) 0) ≡ option_or (option_map is_pass (slice_get os 0)) (option_map is_pass o)
first_more [] None = refl
first_more [] (Some o) = refl
first_more (x ∷ os) o = refl

outcome_is : (serial id : List ℕ) (moment : ℕ) (b : Body) → outcome_in serial (record { id = id; moment = moment; body = b }) ≡ outcome_by serial b
outcome_is serial id moment (Adopt p) = refl
outcome_is serial id moment (Enrol s) = refl
outcome_is serial id moment (Calibrate d) = refl
outcome_is serial id moment (Tested s a t o) = refl
outcome_is serial id moment (Rework s) = refl
outcome_is serial id moment (Release s) = refl
outcome_is serial id moment (Scrap s) = refl
outcome_is serial id moment Mark = refl

pub first_test_more : (R : List StationRecord) (k : ℕ) (r : StationRecord) (serial : List ℕ) → k < length R → r ≡ get_or R k r → (before after : Option Bool)
    → before ≡ option_map is_pass (first_test (take k R) serial) → after ≡ option_or before (option_map is_pass (outcome_by serial r.body))
    → after ≡ option_map is_pass (first_test (take (k + 1) R) serial)
first_test_more R k r serial inside is before after so_far step =
    step
    ∙ ap (λ (o : Option Bool). option_or o (option_map is_pass (outcome_by serial r.body))) so_far
    ∙ ap (λ (o : Option Outcome). option_or (option_map is_pass (first_test (take k R) serial)) (option_map is_pass o)) (sym (outcome_is serial r.id r.moment r.body))
    ∙ sym (first_more (tests (take k R) serial) (outcome_in serial r))
    ∙ ap (λ (os : List Outcome). option_map is_pass (slice_get os 0)) (sym (filter_map-append (outcome_in serial) (take k R) (r ∷ [])))
    ∙ ap (λ (S : List StationRecord). option_map is_pass (first_test S serial)) (sym (up_to R k r inside is))
