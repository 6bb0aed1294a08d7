use Rattle.bench_cli.proofs.ways.TakingLemmas.{harness_stops}
use Rattle.bench_cli.proofs.taking.take_harness.Goals as goal

pub returns-in-Err-clause-stops : goal.returns-in-Err-clause-stops
returns-in-Err-clause-stops g c = λ wired wires alone. harness_stops wired _ _ _ c.in-Err.stop alone c.in-Err.ensures c.end_without_harness.ensures
