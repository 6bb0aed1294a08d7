use Rattle.difference.proofs.Judging.{AgreesTo}
use Rattle.difference.proofs.tests.is_measured.Given as goal

abbrev pub invariant-loop-p : goal.invariant-loop-p
invariant-loop-p l = AgreesTo l.nets l.measured l.p
