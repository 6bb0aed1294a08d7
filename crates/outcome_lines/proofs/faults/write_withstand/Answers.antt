use Rattle.std.specs.Prelude.{codes}
use Rattle.outcome_lines.proofs.Appending.{start, more, last}
use Rattle.outcome_lines.proofs.faults.write_withstand.Goals as goal

pub returns : goal.returns
returns c =
    let bit = more (start c.args.out.now (codes "  withstand bit ") _ c.in_ok-push_str.ensures.ok) _ _ c.in_ok-write_decimal.ensures.ok in
    let volts = more (more bit _ _ c.in_ok-push_str-2.ensures.ok) _ _ c.in_ok-write_decimal-2.ensures.ok in
    let leak = more (more volts _ _ c.in_ok-push_str-3.ensures.ok) _ _ c.in_ok-write_reading.ensures in
    last leak _ _ _ c.push_str-4.ensures.ok
