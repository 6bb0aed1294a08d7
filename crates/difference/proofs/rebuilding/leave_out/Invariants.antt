use Rattle.std.proofs.Common.{◌≡◌, ℕ, ◌<◌, ◌≤◌, cond}
use Rattle.partition.specs.Classes.{class_at, has, no_class}
use Rattle.partition.specs.NetTable.{judged_points}
use Rattle.difference.proofs.rebuilding.leave_out.Given as goal

abbrev pub invariant-loop-p : goal.invariant-loop-p
invariant-loop-p l = record {
  done : (q : ℕ) → q < l.p → class_at l.labels q ≡ cond (has (judged_points l.nets) q) (class_at l.initial.labels q) no_class;
  ahead : (q : ℕ) → l.p ≤ q → class_at l.labels q ≡ class_at l.initial.labels q;
}
