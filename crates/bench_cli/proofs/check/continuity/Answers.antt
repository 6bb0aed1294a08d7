use Rattle.bench_cli.proofs.ways.Obeying.{check_comes}
use Rattle.bench_cli.proofs.check.continuity.Goals as goal

pub returns-in-Ok : goal.returns-in-Ok
returns-in-Ok g c =
    check_comes c.args.unit.now _ c.in-Ok.field-0.sim c.check_unit-status.result.rig c.in-Ok.field-0.p c.as_slice.result.now _ c.check_unit-status.result.status c.as_slice.ensures c.in-Ok.ensures.takes
    (rw c.in-Ok.ensures.alone at c.check_unit-status.ensures)
