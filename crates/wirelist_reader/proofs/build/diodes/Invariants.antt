use Rattle.std.proofs.Common.{◌≡◌, take, map}
use Rattle.wirelist_reader.specs.Rows.{diode_of, rows_of_kind}
use Rattle.wirelist_reader.specs.declared.kind.Kind.TheVariants.{Diode}
use Rattle.wirelist_reader.proofs.build.diodes.Given as goal

abbrev pub invariant-loop-row : goal.invariant-loop-row
invariant-loop-row l = l.list ≡ map diode_of (rows_of_kind Diode (take l.row-index l.rows))
