use Rattle.std.proofs.Common.{take}
use Rattle.continuity_check.specs.Compared.{compared_with}
use Rattle.continuity_check.proofs.Checking.{Checking}
use Rattle.continuity_check.proofs.check.check_points.Given as goal

abbrev pub invariant-loop-point : goal.invariant-loop-point
invariant-loop-point g l =
    Checking (g.R.Rig.state l.fn.seat) (g.R.Rig.state l.seat) l.fn.sheet l.sheet (compared_with l.name l.head (take l.point-index l.points))
