use Rattle.std.proofs.Common.{◌≡◌, take}
use Rattle.wirelist_reader.specs.Rows.{listed_nets}
use Rattle.wirelist_reader.proofs.build.listed_nets.Given as goal

abbrev pub invariant-loop-row : goal.invariant-loop-row
invariant-loop-row l = l.lists ≡ listed_nets (take l.row-index l.rows)
