use Rattle.std.proofs.Common.{◌≡◌, ◌++◌, map, take}
use Rattle.std.specs.List.{flat_map}
use Rattle.wirelist.specs.Canonical.{line_of, diode_row}
use Rattle.wirelist.proofs.printing.print_diodes.Given as goal

abbrev pub invariant-loop-diode : goal.invariant-loop-diode
invariant-loop-diode l = l.text ≡ l.fn.text ++ flat_map line_of (map diode_row (take l.diode-index l.diodes))
