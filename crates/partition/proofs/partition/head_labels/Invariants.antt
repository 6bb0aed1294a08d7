use Rattle.std.proofs.Common.{◌≡◌, map}
use Rattle.partition.specs.Classes.{points_below}
use Rattle.partition.specs.Claims.{head_class}
use Rattle.partition.proofs.partition.head_labels.Given as goal

abbrev pub invariant-loop-p : goal.invariant-loop-p
invariant-loop-p l = l.labels.items ≡ map (head_class l.nets) (points_below l.p)
