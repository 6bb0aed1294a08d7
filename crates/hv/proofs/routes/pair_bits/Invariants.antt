use Rattle.std.proofs.Common.{◌≡◌, map}
use Rattle.partition.specs.Classes.{points_below}
use Rattle.hv.specs.Routes.{numbered_sides}
use Rattle.hv.proofs.routes.pair_bits.Given as goal

abbrev pub invariant-loop-bit : goal.invariant-loop-bit
invariant-loop-bit l = l.pairs.items ≡ map (numbered_sides l.clusters.numbers) (points_below l.bit)
