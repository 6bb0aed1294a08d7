use Rattle.std.proofs.Common.{◌≡◌, take}
use Rattle.csv.specs.Records.{fields_of}
use Rattle.wirelist_rows.specs.Filled.{filled}
use Rattle.wirelist_rows.proofs.table.filled_count.Given as goal

abbrev pub invariant-loop-place : goal.invariant-loop-place
invariant-loop-place l = take l.count (fields_of l.read) ≡ filled (take l.place (fields_of l.read))
