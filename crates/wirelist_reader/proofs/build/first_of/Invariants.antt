use Rattle.std.proofs.Common.{◌≡◌, [], take}
use Rattle.wirelist_reader.specs.Rows.{rows_of_kind}
use Rattle.wirelist_reader.proofs.build.first_of.Given as goal

abbrev pub invariant-loop-row : goal.invariant-loop-row
invariant-loop-row l = rows_of_kind l.kind (take l.row-index l.rows) ≡ []
