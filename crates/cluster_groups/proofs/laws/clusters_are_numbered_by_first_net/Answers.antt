use Rattle.cluster_groups.proofs.Grouping.{number_law}
use Rattle.cluster_groups.proofs.laws.clusters_are_numbered_by_first_net.Goals as goal

pub returns : goal.returns
returns c = number_law
