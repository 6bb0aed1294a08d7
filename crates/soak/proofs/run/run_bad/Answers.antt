use Rattle.soak.proofs.Soaking.{bad_stops, both_good, both_bad, both_soaked}
use Rattle.soak.proofs.run.run_bad.Goals as goal

pub stop_of-requires : goal.stop_of-requires
stop_of-requires c = (c.args.program.now.nets.points, bad_stops _ c.args.program.now c.args.rig.state c.args.good c.requires.before c.in-Err.stop c.in-Err.ensures)

pub returns-in-Ok-clause-good : goal.returns-in-Ok-clause-good
returns-in-Ok-clause-good c = both_good _ c.args.program.now c.args.rig.state c.args.good c.requires.before c.in-Ok.field-0.rig.state c.in-Ok.field-0.outcome c.in-Ok.ensures

pub returns-in-Ok-clause-bad : goal.returns-in-Ok-clause-bad
returns-in-Ok-clause-bad c = both_bad _ c.args.program.now c.args.rig.state c.args.good c.requires.before c.in-Ok.field-0.rig.state c.in-Ok.field-0.outcome c.in-Ok.ensures

pub returns-in-Ok-clause-rig : goal.returns-in-Ok-clause-rig
returns-in-Ok-clause-rig c = both_soaked _ c.args.program.now c.args.rig.state c.args.good c.requires.before c.in-Ok.field-0.rig.state c.in-Ok.field-0.outcome c.in-Ok.ensures

pub returns-in-Err-clause-stops : goal.returns-in-Err-clause-stops
returns-in-Err-clause-stops c = c.stop_of.ensures _ (bad_stops _ c.args.program.now c.args.rig.state c.args.good c.requires.before c.in-Err.stop c.in-Err.ensures)
