use Rattle.std.proofs.Common.{◌≡◌, map}
use Rattle.std.specs.List.{range_with_len}
use Rattle.soak_pair.specs.Pair.{soak_name}
use Rattle.soak_pair.proofs.program.names_of.Given as goal

abbrev pub invariant-loop-i : goal.invariant-loop-i
invariant-loop-i l = l.names ≡ map soak_name (range_with_len 0 l.i)
