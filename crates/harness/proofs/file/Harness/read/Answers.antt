use Rattle.std.proofs.Common.{rules, ◌≡◌, ◌⊎◌, ℕ, ◌≤◌, List, Result, Ok, Err, length, refl, sym, ◌∙◌, ap, subst, inl, inr}
use Rattle.std.specs.Prelude.{IfOk, IfErr, IsTrue}
use Rattle.lines.specs.Lines.{lines_of}
use Rattle.harness.specs.declared.file.Harness.{Harness}
use Rattle.harness.specs.declared.row.HarnessRow.{HarnessRow}
use Rattle.harness.specs.declared.refusal.HarnessRefusal.{HarnessRefusal}
use Rattle.harness.specs.declared.refusal.HarnessRefusal.TheVariants.{BadLine, PointRange, SecondElement, SameUnit, NoEnd, TooMany, TooLong, Memory}
use Rattle.harness.specs.Above.{ReadRows}
use Rattle.harness.specs.Places.{has_end}
use Rattle.harness.specs.Units.{IsSecond, RefusesSecond}
use Rattle.harness.specs.Harness.{most_bytes, row_numbers, AreRows, IsHarness, IsRefused, IsOfRows}
use Rattle.harness.proofs.Sound.{rows_few, least_line}
use Rattle.harness.proofs.file.Harness.read.Goals as goal

file_of : (r : Result Harness HarnessRefusal) (rows : List HarnessRow) (bytes : List ℕ) → length bytes ≤ most_bytes → AreRows (lines_of bytes) rows → IsTrue (has_end rows) → IfOk r (IsOfRows rows) →
    IfOk r (λ h. (u j : ℕ) → IsSecond rows u j → ⊥) → IfOk r (λ h. (rs : List HarnessRow) × IsHarness bytes rs × IsOfRows rs h)
file_of (Ok h) rows bytes short are ends is single = (rows, record { short = short; rows_are = are; ends = ends; single = single }, is)
file_of (Err e) rows bytes short are ends is single = tt

refusal_of : (e : HarnessRefusal) (rows : List HarnessRow) (numbers bytes : List ℕ) → length bytes ≤ most_bytes → AreRows (lines_of bytes) rows → IsTrue (has_end rows) → numbers ≡ row_numbers 1 (lines_of bytes) →
    RefusesSecond rows numbers e → (e ≡ Memory) ⊎ IsRefused bytes e
refusal_of (SecondElement n) rows numbers bytes short are ends is why = inr (inr (short, least_line (lines_of bytes) rows numbers n why.0 why.1 are ends is why.2 why.3))
refusal_of Memory rows numbers bytes short are ends is why = inl refl
refusal_of (BadLine n) rows numbers bytes short are ends is why = absurd why
refusal_of (PointRange n) rows numbers bytes short are ends is why = absurd why
refusal_of (SameUnit n) rows numbers bytes short are ends is why = absurd why
refusal_of (TooMany n) rows numbers bytes short are ends is why = absurd why
refusal_of NoEnd rows numbers bytes short are ends is why = absurd why
refusal_of TooLong rows numbers bytes short are ends is why = absurd why

refused_of : (r : Result Harness HarnessRefusal) (rows : List HarnessRow) (numbers bytes : List ℕ) → length bytes ≤ most_bytes → AreRows (lines_of bytes) rows → IsTrue (has_end rows) → numbers ≡ row_numbers 1 (lines_of bytes) →
    IfErr r (RefusesSecond rows numbers) → IfErr r (λ e. (e ≡ Memory) ⊎ IsRefused bytes e)
refused_of (Ok h) rows numbers bytes short are ends is why = tt
refused_of (Err e) rows numbers bytes short are ends is why = refusal_of e rows numbers bytes short are ends is why

pub of_rows-requires-clause-few : goal.of_rows-requires-clause-few
of_rows-requires-clause-few c =
    let rows = c.rows.ensures ∙ ap (λ (r : ReadRows). r.rows) c.into_rows-list.ensures.rows in
    rows_few (lines_of c.args.bytes.now) c.rows.result.now (subst (AreRows (lines_of c.args.bytes.now)) (sym rows) c.in_ok-above.ensures.rows)

pub returns-clause-file : goal.returns-clause-file
returns-clause-file c =
    let rows = c.rows.ensures ∙ ap (λ (r : ReadRows). r.rows) c.into_rows-list.ensures.rows in
    file_of c.of_rows.result c.rows.result.now c.args.bytes.now c.if-bytes-gt-MOST_BYTES.false (subst (AreRows (lines_of c.args.bytes.now)) (sym rows) c.in_ok-above.ensures.rows)
    (subst (λ (rs : List HarnessRow). IsTrue (has_end rs)) (sym rows) (search rules)) c.of_rows.ensures.rows c.of_rows.ensures.single

pub returns-clause-refused : goal.returns-clause-refused
returns-clause-refused c =
    let rows = c.rows.ensures ∙ ap (λ (r : ReadRows). r.rows) c.into_rows-list.ensures.rows in
    let numbers = c.numbers.ensures ∙ ap (λ (r : ReadRows). r.numbers) c.into_rows-list.ensures.rows ∙ c.in_ok-above.ensures.numbers in
    refused_of c.of_rows.result c.rows.result.now c.numbers.result.now c.args.bytes.now c.if-bytes-gt-MOST_BYTES.false (subst (AreRows (lines_of c.args.bytes.now)) (sym rows) c.in_ok-above.ensures.rows)
    (subst (λ (rs : List HarnessRow). IsTrue (has_end rs)) (sym rows) (search rules)) numbers c.of_rows.ensures.refused
