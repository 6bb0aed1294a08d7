use Rattle.bench_cli.proofs.ways.TakingLemmas.{refuses_wires, takes_wires}
use Rattle.bench_cli.proofs.wires.read_wires.Goals as goal

pub returns-in-Ok-clause-wires : goal.returns-in-Ok-clause-wires
returns-in-Ok-clause-wires g c = takes_wires _ c.in_ok-bytes.bytes c.as_slice.result.now c.in-Ok.p c.in_ok-bytes.ensures.bytes c.as_slice.ensures c.in-Ok.ensures.finds c.in-Ok.ensures.program

pub returns-clause-wires : goal.returns-clause-wires
returns-clause-wires g c = refuses_wires _ c.in_ok-bytes.bytes c.as_slice.result.now c.in-Err.refusal c.stop_for.result c.in_ok-bytes.ensures.bytes c.as_slice.ensures c.in-Err.ensures.finds c.stop_for.ensures
