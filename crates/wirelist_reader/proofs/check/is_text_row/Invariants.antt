use Rattle.std.proofs.Common.{◌≡◌, take, true}
use Rattle.std.specs.List.{list_all}
use Rattle.wirelist_reader.specs.Refusals.{is_text}
use Rattle.wirelist_reader.proofs.check.is_text_row.Given as goal

abbrev pub invariant-loop-place : goal.invariant-loop-place
invariant-loop-place l = list_all is_text (take l.place l.row) ≡ true
