use Rattle.std.proofs.Common.{◌≡◌, map}
use Rattle.partition.specs.Classes.{points_below}
use Rattle.wirelist.specs.Linking.{first_net_of}
use Rattle.wirelist.proofs.cluster.first_nets.Given as goal

abbrev pub invariant-loop-p : goal.invariant-loop-p
invariant-loop-p l = l.labels ≡ map (first_net_of l.nets l.linked) (points_below l.p)
