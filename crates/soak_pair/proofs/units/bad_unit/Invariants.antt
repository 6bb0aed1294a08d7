use Rattle.std.proofs.Common.{◌≡◌}
use Rattle.std.specs.List.{range_with_len, flat_map}
use Rattle.soak_pair.specs.Pair.{bad_four}
use Rattle.soak_pair.proofs.units.bad_unit.Given as goal

abbrev pub invariant-loop-q : goal.invariant-loop-q
invariant-loop-q l = l.rows ≡ flat_map bad_four (range_with_len 0 l.q)
