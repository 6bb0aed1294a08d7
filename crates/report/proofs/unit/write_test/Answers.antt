use Rattle.std.proofs.Common.{ℕ, List, ◌++◌, ◌∙◌, ap}
use Rattle.std.specs.Prelude.{codes, decimal}
use Rattle.wirelist.specs.declared.outcome.Verdict.{Verdict}
use Rattle.outcome_lines.specs.VerdictText.{verdict_text}
use Rattle.outcome_lines.proofs.Appending.{start, more, last, named}
use Rattle.report.specs.UnitText.{record_date, staff_text}
use Rattle.report.proofs.unit.write_test.Goals as goal

pub returns : goal.returns
returns c =
    let line : List ℕ → Verdict → List ℕ = λ date verdict.
    codes "test record " ++ decimal c.args.number ++ codes " " ++ date ++ codes " attempt " ++ decimal c.args.attempt ++ staff_text c.args.staff.now ++ codes " " ++ verdict_text verdict ++ codes "\n" in
    let number = more (start c.args.out.now (codes "test record ") _ c.in_ok-push_str.ensures.ok) _ _ c.in_ok-write_decimal.ensures.ok in
    let date = more (more number _ _ c.in_ok-push_str-2.ensures.ok) _ _ c.in_ok-push_str-3.ensures.ok in
    let attempt = more (more date _ _ c.in_ok-push_str-4.ensures.ok) _ _ c.in_ok-write_decimal-2.ensures.ok in
    let staff = more attempt _ _ c.in_ok-write_staff.ensures in
    let verdict = more (more staff _ _ c.in_ok-push_str-5.ensures.ok) _ _ c.in_ok-write_verdict.ensures.ok in
    named _ c.args.out.now _ _ _
    (ap (λ (d : List ℕ). line d c.verdict.result) (c.as_str.ensures ∙ c.in_ok-date.ensures) ∙ ap (λ (v : Verdict). line (record_date c.args.noted.now) v) c.verdict.ensures)
    (last verdict _ _ _ c.push_str-6.ensures.ok)
