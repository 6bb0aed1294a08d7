use Rattle.harness.proofs.Trees.{Flattened}
use Rattle.harness.proofs.forest.Forest.flatten.Given as goal

abbrev pub invariant-loop-point : goal.invariant-loop-point
invariant-loop-point l = Flattened l.initial.self.parents.items l.self.parents.items l.point
