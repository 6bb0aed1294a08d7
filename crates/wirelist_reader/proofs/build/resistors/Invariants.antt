use Rattle.std.proofs.Common.{◌≡◌, take, map}
use Rattle.wirelist_reader.specs.Rows.{resistor_of, rows_of_kind}
use Rattle.wirelist_reader.specs.declared.kind.Kind.TheVariants.{Resistor}
use Rattle.wirelist_reader.proofs.build.resistors.Given as goal

abbrev pub invariant-loop-row : goal.invariant-loop-row
invariant-loop-row l = l.list ≡ map resistor_of (rows_of_kind Resistor (take l.row-index l.rows))
