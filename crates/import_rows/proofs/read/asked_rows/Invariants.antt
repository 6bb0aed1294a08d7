use Rattle.std.proofs.Common.{◌≡◌, take}
use Rattle.std.specs.Prelude.{filter_map}
use Rattle.std.specs.List.{enumerate_from}
use Rattle.import_rows.specs.Rows.{asked_by}
use Rattle.import_rows.proofs.read.asked_rows.Given as goal

abbrev pub invariant-loop-place : goal.invariant-loop-place
invariant-loop-place l = l.asked.items ≡ filter_map asked_by (take l.place (enumerate_from 1 l.read))
