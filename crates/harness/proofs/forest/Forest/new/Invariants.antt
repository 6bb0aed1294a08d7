use Rattle.std.proofs.Common.{◌≡◌}
use Rattle.partition.specs.Classes.{points_below}
use Rattle.harness.proofs.forest.Forest.new.Given as goal

abbrev pub invariant-loop-point : goal.invariant-loop-point
invariant-loop-point l = l.parents.items ≡ points_below l.point
