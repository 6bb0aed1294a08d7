use Rattle.std.proofs.Common.{◌≡◌, ◌+◌, ◌++◌, filter, map}
use Rattle.partition.specs.Classes.{points_below}
use Rattle.wirelist_reader.specs.Rows.{ends_in, is_kind, row_at}
use Rattle.wirelist_reader.proofs.parts.add_ends.Given as goal

abbrev pub invariant-loop-i : goal.invariant-loop-i
invariant-loop-i l = l.ends.items ≡ l.fn.ends.items ++ map (λ i. ends_in (i + 1) (row_at l.rows i)) (filter (λ i. is_kind l.kind (row_at l.rows i)) (points_below l.i))
