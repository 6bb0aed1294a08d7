use Rattle.std.proofs.Common.{◌≡◌, [], take}
use Rattle.std.specs.List.{flat_map}
use Rattle.partition.specs.Classes.{points_below}
use Rattle.wirelist_reader.specs.Refusals.{row_faults}
use Rattle.wirelist_reader.specs.Seen.{IsSeen}
use Rattle.wirelist_reader.proofs.check.check_rows.Given as goal

abbrev pub invariant-loop-i : goal.invariant-loop-i
invariant-loop-i l = (flat_map (row_faults l.rows) (points_below l.i) ≡ []) × IsSeen (take l.i l.rows) l.seen.names l.seen.components
