use Rattle.std.proofs.Common.{refl}
use Rattle.partition.specs.Digits.{digits_of}
use Rattle.worked_examples.proofs.outcomes.an_arc_is_found_at_its_first_step.Goals as goal

pub returns-clause-arc : goal.returns-clause-arc
unfolding digits_of
returns-clause-arc c = refl

pub returns-clause-none : goal.returns-clause-none
unfolding digits_of
returns-clause-none c = refl
