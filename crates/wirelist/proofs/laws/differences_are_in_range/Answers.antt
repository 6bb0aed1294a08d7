use Rattle.difference.proofs.DifferenceRange.{difference-within}
use Rattle.wirelist.specs.Ranges.{most_points}
use Rattle.wirelist.proofs.laws.differences_are_in_range.Goals as goal

pub returns : goal.returns
returns c = λ p classes program. difference-within p.nets classes most_points program.nets program.points
