use Rattle.difference.specs.Measured.{AreMixed}
use Rattle.difference.proofs.measure.mixed_classes.Given as goal

abbrev pub invariant-loop-p : goal.invariant-loop-p
invariant-loop-p l = AreMixed l.nets l.measured l.p l.mixed.items
