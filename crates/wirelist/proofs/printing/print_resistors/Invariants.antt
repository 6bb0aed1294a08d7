use Rattle.std.proofs.Common.{◌≡◌, ◌++◌, map, take}
use Rattle.std.specs.List.{flat_map}
use Rattle.wirelist.specs.Canonical.{line_of, resistor_row}
use Rattle.wirelist.proofs.printing.print_resistors.Given as goal

abbrev pub invariant-loop-resistor : goal.invariant-loop-resistor
invariant-loop-resistor l = l.text ≡ l.fn.text ++ flat_map line_of (map resistor_row (take l.resistor-index l.resistors))
