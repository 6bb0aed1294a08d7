use Rattle.std.proofs.Common.{◌≡◌, length}
use Rattle.harness.specs.Forest.{IsForest, AreListed}
use Rattle.harness.proofs.Repeats.{Seen}
use Rattle.harness.proofs.second.first_repeat.Given as goal

abbrev pub invariant-loop-place : goal.invariant-loop-place
invariant-loop-place g l = record {
  size : length l.forest.parents.items ≡ length l.initial.forest.parents.items;
  forest : IsForest l.forest.parents.items g.classes;
  listed : AreListed l.forest.parents.items l.forest.moved.items;
  seen : Seen g.classes l.rows l.place l.pairs;
}
