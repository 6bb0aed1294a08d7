use Rattle.std.proofs.Common.{◌≡◌, filter}
use Rattle.partition.specs.Classes.{points_below}
use Rattle.cluster_groups.specs.Numbered.{number_at, takes}
use Rattle.cluster_groups.proofs.clusters.points_of.Given as goal

abbrev pub invariant-loop-q : goal.invariant-loop-q
invariant-loop-q l = l.list ≡ filter (λ q. takes l.choice (number_at l.numbers q)) (points_below l.q)
