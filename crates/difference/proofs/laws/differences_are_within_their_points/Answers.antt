use Rattle.difference.proofs.DifferenceRange.{difference-within}
use Rattle.difference.proofs.laws.differences_are_within_their_points.Goals as goal

pub returns : goal.returns
returns c = λ t m most ok few. difference-within t m most ok few
