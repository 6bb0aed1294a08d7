use Rattle.bench_cli.proofs.ways.UnitLemmas.{seated_ends, unseated_ends}
use Rattle.bench_cli.proofs.learning.learn_unit.Goals as goal

pub returns-in-Ok : goal.returns-in-Ok
returns-in-Ok g c = seated_ends _ _ _ _ _ c.args.unit.now.serial _ _ _ c.text.ensures.bytes (g.R.Rig.state c.in-Ok.seat) c.in-Ok.ensures c.learn_seated.ensures

pub returns-in-Err : goal.returns-in-Err
returns-in-Err g c = unseated_ends _ _ _ _ _ c.args.unit.now.serial _ _ _ c.text.ensures.bytes (c.end_unseated.ensures _ _ _ c.in-Err.ensures)
