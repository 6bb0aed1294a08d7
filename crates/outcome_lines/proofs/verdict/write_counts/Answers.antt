use Rattle.std.specs.Prelude.{codes}
use Rattle.outcome_lines.proofs.Appending.{start, more, last}
use Rattle.outcome_lines.proofs.verdict.write_counts.Goals as goal

pub returns : goal.returns
returns c =
    let opens = more (start c.args.out.now (codes "WIRING opens=") _ c.in_ok-push_str.ensures.ok) _ _ c.in_ok-write_decimal.ensures.ok in
    let shorts = more (more opens _ _ c.in_ok-push_str-2.ensures.ok) _ _ c.in_ok-write_decimal-2.ensures.ok in
    last (more shorts _ _ c.in_ok-push_str-3.ensures.ok) _ _ _ c.write_decimal-3.ensures.ok
