use Rattle.std.proofs.Common.{◌≡◌, map}
use Rattle.std.specs.List.{range_with_len}
use Rattle.soak_pair.specs.Pair.{net_wire}
use Rattle.soak_pair.proofs.units.good_unit.Given as goal

abbrev pub invariant-loop-i : goal.invariant-loop-i
invariant-loop-i l = l.rows ≡ map net_wire (range_with_len 0 l.i)
