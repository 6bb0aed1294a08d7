use Rattle.cluster_groups.proofs.Grouping.{clusters_law}
use Rattle.cluster_groups.proofs.laws.clusters_are_groups.Goals as goal

pub returns : goal.returns
returns c = clusters_law
