use Rattle.wirelist.proofs.ClusterLaw.{clusters_are_linked}
use Rattle.wirelist.proofs.laws.clusters_are_linked_nets.Goals as goal

pub returns : goal.returns
returns c = clusters_are_linked
