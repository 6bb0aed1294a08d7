use Rattle.std.proofs.Common.{◌≡◌, ◌++◌, length}
use Rattle.harness.specs.Units.{elements_of}
use Rattle.harness.proofs.units.make_elements.Given as goal

abbrev pub invariant-loop-rest : goal.invariant-loop-rest
invariant-loop-rest l = l.elements ++ elements_of l.rest ≡ elements_of l.fn.rows

abbrev pub decreases-loop-rest : goal.decreases-loop-rest
decreases-loop-rest l = length l.rest
