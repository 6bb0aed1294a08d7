use Rattle.std.proofs.Common.{◌≡◌, ℕ, cond, take, true}
use Rattle.partition.specs.Classes.{class_at, has}
use Rattle.partition.specs.NetTable.{judged_points, net_at}
use Rattle.difference.proofs.rebuilding.label_short.Given as goal

abbrev pub invariant-loop-net : goal.invariant-loop-net
invariant-loop-net l =
    (q : ℕ) → has (judged_points l.nets) q ≡ true →
    class_at l.labels q ≡ cond (has (take l.net-index l.net-items) (net_at l.nets q)) l.short.class (class_at l.initial.labels q)
