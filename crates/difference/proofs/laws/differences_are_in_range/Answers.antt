use Rattle.difference.proofs.InRange.{difference_in_range}
use Rattle.difference.proofs.laws.differences_are_in_range.Goals as goal

pub returns : goal.returns
returns c = λ t m ok few is. difference_in_range t m ok is few
