use Rattle.unit_outcome.proofs.FirstBreakdown.{is_first_breakdown}
use Rattle.unit_outcome.proofs.laws.the_first_breakdown_is_one.Goals as goal

pub returns : goal.returns
returns c = is_first_breakdown
