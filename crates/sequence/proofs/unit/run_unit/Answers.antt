use Rattle.std.proofs.Common.{sym, subst}
use Rattle.unit_outcome.specs.Tested.{IsStopped}
use Rattle.sequence.proofs.Halting.{ended, unseated}
use Rattle.sequence.proofs.stages.Passing.{seat-judged}
use Rattle.sequence.proofs.unit.run_unit.Goals as goal

pub test_seated-requires-clause-judged : goal.test_seated-requires-clause-judged
test_seated-requires-clause-judged g c = seat-judged c.args.p.now c.args.serial.now c.args.attempt c.in-Ok.ensures

pub returns-in-Ok : goal.returns-in-Ok
returns-in-Ok g c =
    ended g.R.Rig.state c.args.p.now c.requires.program c.args.serial.now c.args.attempt c.in-Ok.ensures c.requires.points c.requires.unpowered c.test_seated.result c.test_seated.ensures

pub returns-in-Err : goal.returns-in-Err
returns-in-Err g c =
    subst (λ stop. IsStopped g.R.Rig.state c.args.p.now c.args.serial.now c.args.attempt (g.R.Rig.state c.args.rig) stop) (sym c.unseated.ensures)
    (unseated c.args.p.now c.args.serial.now c.args.attempt c.requires.unpowered g.R.Rig.state c.in-Err.stop c.in-Err.ensures)
