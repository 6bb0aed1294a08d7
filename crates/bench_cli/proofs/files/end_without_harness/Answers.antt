use Rattle.std.proofs.Common.{◌∙◌}
use Rattle.bench_cli.proofs.ways.TakingLemmas.{refused_closes}
use Rattle.bench_cli.proofs.files.end_without_harness.Goals as goal

pub returns-in-Ok : goal.returns-in-Ok
returns-in-Ok g c = refused_closes _ 3 _ c.args.stop c.in-Refused.refusal c.as_bytes.result.now _ c.in-Refused.is (c.as_bytes.ensures.value ∙ c.in-Ok.ensures) c.end_with_line-in-Ok.ensures
