use Rattle.std.proofs.Common.{◌≡◌, map}
use Rattle.partition.specs.Classes.{points_below}
use Rattle.difference.specs.Measured.{stray_anchor}
use Rattle.difference.proofs.strays.stray_anchors.Given as goal

abbrev pub invariant-loop-p : goal.invariant-loop-p
invariant-loop-p l = l.found.items ≡ map (stray_anchor l.nets l.measured) (points_below l.p)
