use Rattle.std.proofs.Common.{◌≡◌, filter, eqb}
use Rattle.partition.specs.Classes.{points_below}
use Rattle.partition.specs.Claims.{owner_at}
use Rattle.partition.proofs.nets.owned_points.Given as goal

abbrev pub invariant-loop-p : goal.invariant-loop-p
invariant-loop-p l = l.list ≡ filter (λ q. eqb (owner_at l.owners q) l.owner) (points_below l.p)
