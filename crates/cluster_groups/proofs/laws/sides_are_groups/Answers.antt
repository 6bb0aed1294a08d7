use Rattle.cluster_groups.proofs.Grouping.{route_law}
use Rattle.cluster_groups.proofs.laws.sides_are_groups.Goals as goal

pub returns : goal.returns
returns c = route_law
