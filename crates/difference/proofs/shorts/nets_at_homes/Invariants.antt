use Rattle.difference.specs.Measured.{AreHomes}
use Rattle.difference.proofs.shorts.nets_at_homes.Given as goal

abbrev pub invariant-loop-i : goal.invariant-loop-i
invariant-loop-i l = AreHomes l.nets l.measured l.i l.homes.items
