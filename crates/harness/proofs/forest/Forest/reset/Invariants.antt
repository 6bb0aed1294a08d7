use Rattle.std.proofs.Common.{◌≡◌, length}
use Rattle.harness.specs.Forest.{AreListed}
use Rattle.harness.proofs.forest.Forest.reset.Given as goal

abbrev pub invariant-loop-point : goal.invariant-loop-point
invariant-loop-point l = record {
  size : length l.self.parents.items ≡ length l.initial.self.parents.items;
  listed : AreListed l.self.parents.items l.self.moved.items;
}

abbrev pub decreases-loop-point : goal.decreases-loop-point
decreases-loop-point l = length l.self.moved.items
