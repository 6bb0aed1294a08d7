use Rattle.bench_cli.proofs.ways.TakingLemmas.{refuses_harness}
use Rattle.bench_cli.proofs.files.read_harness.Goals as goal

pub returns : goal.returns
returns g c = refuses_harness _ c.in_ok-bytes.bytes c.as_slice.result.now c.in-Err.refusal c.stop_for.result c.in_ok-bytes.ensures.bytes c.as_slice.ensures c.in-Err.ensures.refused c.stop_for.ensures
