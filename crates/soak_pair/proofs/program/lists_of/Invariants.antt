use Rattle.std.proofs.Common.{◌≡◌, map}
use Rattle.std.specs.List.{range_with_len}
use Rattle.soak_pair.specs.Pair.{soak_net}
use Rattle.soak_pair.proofs.program.lists_of.Given as goal

abbrev pub invariant-loop-i : goal.invariant-loop-i
invariant-loop-i l = l.lists ≡ map soak_net (range_with_len 0 l.i)
