use Rattle.std.proofs.Common.{ap}
use Rattle.wirelist.specs.declared.program.Program.{Program}
use Rattle.soak.proofs.Soaking.{good_stops}
use Rattle.soak.proofs.run.run_pair.Goals as goal

pub returns-in-Ok-clause-good : goal.returns-in-Ok-clause-good
returns-in-Ok-clause-good c = rw (ap (λ (q : Program). q.nets.points) c.in_ok-program.ensures.program) at c.run_bad.ensures.good

pub returns-in-Ok-clause-bad : goal.returns-in-Ok-clause-bad
returns-in-Ok-clause-bad c = rw (ap (λ (q : Program). q.nets.points) c.in_ok-program.ensures.program) at c.run_bad.ensures.bad

pub stop_of-requires : goal.stop_of-requires
stop_of-requires c = (c.args.points, good_stops _ c.in_ok-program.program c.in_ok-rig.rig c.in_ok-program.ensures.program c.in_ok-rig.ensures c.in-Err.stop c.in-Err.ensures)

pub returns-clause-stops : goal.returns-clause-stops
returns-clause-stops c = c.stop_of.ensures _ (good_stops _ c.in_ok-program.program c.in_ok-rig.rig c.in_ok-program.ensures.program c.in_ok-rig.ensures c.in-Err.stop c.in-Err.ensures)
