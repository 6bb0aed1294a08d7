use Rattle.std.proofs.Common.{◌∙◌, sym, arith, le-ltb}
use Rattle.partition.specs.Classes.{has}
use Rattle.partition.specs.NetTable.{judged_points}
use Rattle.partition.proofs.tables.NetLaws.{judged-below}
use Rattle.wirelist_reader.proofs.Numbers.{not_true}
use Rattle.wirelist_reader.proofs.parts.is_judged.Goals as goal

pub returns-else-point-points : goal.returns-else-point-points
returns-else-point-points c =
    le-ltb c.point.inside.0 c.points.result (omega arith)
    ∙ sym (not_true (has (judged_points c.args.nets.now) c.args.point) (λ h. let below = judged-below c.args.nets.now c.args.point h in omega arith))
