use Rattle.std.proofs.Common.{◌≡◌, map}
use Rattle.partition.specs.Classes.{points_below}
use Rattle.hv.specs.Routes.{numbered_pair}
use Rattle.hv.proofs.routes.pair_clusters.Given as goal

abbrev pub invariant-loop-k : goal.invariant-loop-k
invariant-loop-k l = l.pairs.items ≡ map (numbered_pair l.clusters.numbers) (points_below l.k)
