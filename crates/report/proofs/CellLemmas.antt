-- The fields of a test's row.
use Rattle.std.proofs.Common.{◌≡◌, ℕ, List, [], ◌∷◌, ◌++◌, Bool, Option, Some, None, refl, ◌∙◌, ap, append-nil}
use Rattle.std.specs.Prelude.{IfSome}
use Rattle.wirelist.specs.Canonical.{line_of}
use Rattle.wirelist.specs.declared.outcome.Outcome.{Outcome}
use Rattle.wirelist.specs.declared.outcome.Outcome.TheVariants.{Pass, Wiring, Parts, Insulation, Withstand}
use Rattle.records.specs.RecordRanges.{IsStaff}
use Rattle.records.specs.declared.record.Staff.{Staff}
use Rattle.records.specs.declared.record.Body.{Body}
use Rattle.records.specs.declared.record.Body.TheVariants.{Tested}
use Rattle.records.specs.declared.record.StationRecord.{StationRecord}
use Rattle.report.specs.ResultText.{fixture_of, operator_of, result_row, test_fields, verdict_word}
use Rattle.report.specs.Writing.{IsPlain, lines_of}
use Rattle.report.proofs.PlainRows.{name_plain}

-- fields that are equal one by one
pub eight : {a b c d e f g h p q r s t u v w : List ℕ} → a ≡ p → b ≡ q → c ≡ r → d ≡ s → e ≡ t → f ≡ u → g ≡ v → h ≡ w
    → (a ∷ b ∷ c ∷ d ∷ e ∷ f ∷ g ∷ h ∷ []) ≡ (p ∷ q ∷ r ∷ s ∷ t ∷ u ∷ v ∷ w ∷ [])
eight a b c d e f g h = λ i. a i ∷ b i ∷ c i ∷ d i ∷ e i ∷ f i ∷ g i ∷ h i ∷ []

pub two_more : {front back : List (List ℕ)} {a b p q : List ℕ} → front ≡ back → a ≡ p → b ≡ q → front ++ (a ∷ b ∷ []) ≡ back ++ (p ∷ q ∷ [])
two_more front a b = λ i. front i ++ (a i ∷ b i ∷ [])

pub word_plain : (o : Outcome) → IsPlain (verdict_word o)
word_plain Pass = refl
word_plain (Wiring d) = refl
word_plain (Parts faults) = refl
word_plain (Insulation faults) = refl
word_plain (Withstand bit volts leak) = refl

pub staff_plain : (staff : Option Staff) → IfSome staff IsStaff → IsPlain (operator_of staff) × IsPlain (fixture_of staff)
staff_plain None ok = (refl, refl)
staff_plain (Some staff) ok = (name_plain staff.operator ok.operator, name_plain staff.fixture ok.fixture)

-- the row of a record with these fields
abbrev row_by : Bool → ℕ → StationRecord → Body → Option (List (List ℕ))
row_by with_staff k r b = elim b [ Tested serial attempt staff outcome ↦ Some (test_fields with_staff k r serial attempt staff outcome) | _ ↦ None ]

pub row_of_test : (with_staff : Bool) (k : ℕ) (r : StationRecord) (serial : List ℕ) (attempt : ℕ) (staff : Option Staff) (outcome : Outcome) → r.body ≡ Tested serial attempt staff outcome
    → lines_of (result_row with_staff (k, r)) ≡ line_of (test_fields with_staff k r serial attempt staff outcome)
row_of_test with_staff k r serial attempt staff outcome is =
    ap (λ (b : Body). lines_of (row_by with_staff k r b)) is ∙ append-nil (line_of (test_fields with_staff k r serial attempt staff outcome))
