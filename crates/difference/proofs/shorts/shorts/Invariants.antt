use Rattle.std.proofs.Common.{◌≡◌}
use Rattle.difference.proofs.MeasuredLemmas.{shorts_to}
use Rattle.difference.proofs.shorts.shorts.Given as goal

abbrev pub invariant-loop-i : goal.invariant-loop-i
invariant-loop-i l = l.shorts.items ≡ shorts_to l.nets l.measured l.i
