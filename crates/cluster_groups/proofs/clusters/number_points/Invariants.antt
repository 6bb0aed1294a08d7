use Rattle.std.proofs.Common.{◌≡◌, map}
use Rattle.partition.specs.Classes.{points_below}
use Rattle.cluster_groups.specs.Places.{number_by}
use Rattle.cluster_groups.proofs.clusters.number_points.Given as goal

abbrev pub invariant-loop-q : goal.invariant-loop-q
invariant-loop-q l = l.numbers.items ≡ map (number_by l.classes l.places) (points_below l.q)
