use Rattle.std.proofs.Common.{◌≡◌}
use Rattle.harness.specs.Forest.{Climbs}
use Rattle.harness.proofs.forest.Forest.root.Given as goal

abbrev pub invariant-loop-self : goal.invariant-loop-self
invariant-loop-self l = record {
  climbs : Climbs l.initial.self.parents.items l.self.parents.items l.fn.point l.at;
  moved : l.self.moved.items ≡ l.initial.self.moved.items;
}

abbrev pub decreases-loop-self : goal.decreases-loop-self
decreases-loop-self l = l.at
