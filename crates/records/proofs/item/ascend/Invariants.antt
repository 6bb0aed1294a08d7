use Rattle.std.proofs.Common.{ℕ, ◌<◌}
use Rattle.std.specs.List.{slice_index_or}
use Rattle.records.proofs.item.ascend.Given as goal

abbrev pub invariant-loop-i : goal.invariant-loop-i
invariant-loop-i g l = (j k : ℕ) (d : g.row.T.Denot) → j < k → k < l.i → g.T.Item.Before (slice_index_or l.items j d) (slice_index_or l.items k d)
