use Rattle.std.proofs.Common.{sym, ap}
use Rattle.std.specs.Prelude.{codes}
use Rattle.outcome_lines.specs.VerdictText.{verdict_text}
use Rattle.outcome_lines.proofs.Appending.{start, more, last, named}
use Rattle.outcome_lines.proofs.verdict.append_verdict.Goals as goal

pub returns-in_ok-push_str-in-Insulation : goal.returns-in_ok-push_str-in-Insulation
returns-in_ok-push_str-in-Insulation c =
    named _ c.args.out.now _ _ _ (ap verdict_text (sym c.in-Insulation.is))
    (last (start c.args.out.now (codes "INSULATION ") _ c.in_ok-push_str-in-Insulation.ensures.ok) _ _ _ c.write_decimal-in-Insulation.ensures.ok)

pub returns-in_ok-push_str-in-Withstand-2 : goal.returns-in_ok-push_str-in-Withstand-2
returns-in_ok-push_str-in-Withstand-2 c =
    let bit = more (start c.args.out.now (codes "WITHSTAND bit=") _ c.in_ok-push_str-in-Withstand.ensures.ok) _ _ c.in_ok-write_decimal-in-Withstand.ensures.ok in
    named _ c.args.out.now _ _ _ (ap verdict_text (sym c.in-Withstand.is))
    (last (more bit _ _ c.in_ok-push_str-in-Withstand-2.ensures.ok) _ _ _ c.write_decimal-in-Withstand-2.ensures.ok)
