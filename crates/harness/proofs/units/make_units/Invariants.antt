use Rattle.std.proofs.Common.{◌≡◌}
use Rattle.partition.specs.Classes.{points_below}
use Rattle.harness.proofs.Sound.{Making}
use Rattle.harness.proofs.units.make_units.Given as goal

abbrev pub invariant-loop-place : goal.invariant-loop-place
invariant-loop-place l = record {
  alone : l.forest.parents.items ≡ points_below l.points;
  making : Making l.rows l.place l.units;
}
