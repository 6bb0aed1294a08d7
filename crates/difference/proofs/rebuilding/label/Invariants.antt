use Rattle.std.proofs.Common.{◌≡◌, ℕ, ◌<◌, length, cond, take}
use Rattle.partition.specs.Classes.{class_at, has}
use Rattle.difference.proofs.rebuilding.label.Given as goal

abbrev pub invariant-loop-point : goal.invariant-loop-point
invariant-loop-point l = (q : ℕ) → q < length l.initial.labels → class_at l.labels q ≡ cond (has (take l.point-index l.points) q) l.to (class_at l.initial.labels q)
