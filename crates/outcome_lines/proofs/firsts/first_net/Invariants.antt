use Rattle.std.proofs.Common.{◌≡◌, ◌≤◌, ◌<◌, ℕ, get_or}
use Rattle.std.specs.Prelude.{Contains}
use Rattle.partition.specs.NetTable.{net_at}
use Rattle.outcome_lines.proofs.firsts.first_net.Given as goal

abbrev pub invariant-loop-point : goal.invariant-loop-point
invariant-loop-point l = record {
  least : (k : ℕ) → k < l.point-index → l.first ≤ net_at l.nets (get_or l.group k 0);
  one : (q : ℕ) × Contains l.group q × (l.first ≡ net_at l.nets q);
}
