use Rattle.std.proofs.Common.{length}
use Rattle.harness.proofs.Trees.{Linking}
use Rattle.harness.proofs.forest.Forest.link_all.Given as goal

abbrev pub invariant-loop-row : goal.invariant-loop-row
invariant-loop-row l = Linking l.rows (length l.initial.self.parents.items) l.row-index l.self.parents.items l.self.moved.items
