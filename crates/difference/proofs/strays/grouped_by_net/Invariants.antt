use Rattle.std.proofs.Common.{◌≡◌, ◌<◌, ℕ, [], length, get_or, filter, eqb, take}
use Rattle.partition.specs.NetTable.{net_at, net_count}
use Rattle.difference.proofs.strays.grouped_by_net.Given as goal

abbrev pub invariant-loop-point : goal.invariant-loop-point
invariant-loop-point l = record {
  size : length l.lists ≡ net_count l.nets;
  each : (k : ℕ) → k < net_count l.nets → get_or l.lists k [] ≡ filter (λ q. eqb (net_at l.nets q) k) (take l.point-index l.points);
}
