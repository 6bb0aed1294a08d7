use Rattle.std.proofs.Common.{◌≡◌, ◌++◌, map, take}
use Rattle.std.specs.List.{flat_map, zip}
use Rattle.wirelist.specs.Canonical.{line_of, net_row}
use Rattle.wirelist.proofs.printing.print_nets.Given as goal

abbrev pub invariant-loop-i : goal.invariant-loop-i
invariant-loop-i l = l.text ≡ l.fn.text ++ flat_map line_of (map net_row (take l.i (zip l.names l.nets.named)))
