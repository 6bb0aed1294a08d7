use Rattle.bench_cli.proofs.ways.Obeying.{learning_comes}
use Rattle.bench_cli.proofs.learning.learn_wiring.Goals as goal

pub returns-in-Ok : goal.returns-in-Ok
returns-in-Ok g c = λ wires alone.
    learning_comes c.args.unit.now _ c.in-Ok.sim c.learn_unit-status.result.rig _ c.learn_unit-status.result.status c.in-Ok.ensures.takes alone (rw c.in-Ok.ensures.alone at c.learn_unit-status.ensures)
