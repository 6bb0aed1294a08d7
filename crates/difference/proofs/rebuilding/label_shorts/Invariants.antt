use Rattle.std.proofs.Common.{◌≡◌, ℕ, take, true}
use Rattle.partition.specs.Classes.{class_at, has}
use Rattle.partition.specs.NetTable.{judged_points, net_at}
use Rattle.difference.specs.Rebuild.{short_label}
use Rattle.difference.proofs.rebuilding.label_shorts.Given as goal

abbrev pub invariant-loop-short : goal.invariant-loop-short
invariant-loop-short l =
    (q : ℕ) → has (judged_points l.nets) q ≡ true → class_at l.labels q ≡ short_label (take l.short-index l.shorts) (net_at l.nets q) (class_at l.initial.labels q)
