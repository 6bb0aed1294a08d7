use Rattle.std.proofs.Common.{◌∙◌}
use Rattle.bench_cli.proofs.ways.TakingLemmas.{with_line}
use Rattle.bench_cli.proofs.wires.end_with_difference.Goals as goal

pub returns-in-Ok : goal.returns-in-Ok
returns-in-Ok g c = with_line _ _ _ 13 c.end_with_line.result (c.as_bytes.ensures.value ∙ c.in-Ok.ensures) c.end_with_line.ensures
