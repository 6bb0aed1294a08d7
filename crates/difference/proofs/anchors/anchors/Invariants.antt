use Rattle.std.proofs.Common.{◌≡◌}
use Rattle.partition.specs.Classes.{points_below}
use Rattle.difference.proofs.MeasuredLemmas.{AnchorsFrom}
use Rattle.difference.proofs.anchors.anchors.Given as goal

abbrev pub invariant-loop-p : goal.invariant-loop-p
invariant-loop-p l = l.anchors.items ≡ points_below l.p

abbrev pub invariant-loop-i : goal.invariant-loop-i
invariant-loop-i l = AnchorsFrom l.nets l.measured l.i l.anchors.items
