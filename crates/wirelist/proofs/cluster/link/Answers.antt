use Rattle.std.proofs.Common.{◌∙◌, ℕ, ap, subst, sym, arith}
use Rattle.partition.specs.Classes.{merged}
use Rattle.partition.specs.NetTable.{net_at}
use Rattle.wirelist.specs.Linking.{AreOfNets}
use Rattle.wirelist.proofs.ClusterLemmas.{merged_of_nets}
use Rattle.wirelist.proofs.cluster.link.Goals as goal

pub net_point-requires-clause-few : goal.net_point-requires-clause-few
net_point-requires-clause-few c = omega (arith, c.requires.nets.size, c.requires.nets.valid.few)

pub merge-requires-clause-a : goal.merge-requires-clause-a
merge-requires-clause-a c = c.requires.nets.each c.net_point.result c.net_point.ensures.inside

pub merge-requires-clause-b : goal.merge-requires-clause-b
merge-requires-clause-b c = c.requires.nets.each c.net_point-2.result c.net_point-2.ensures.inside

pub returns-clause-linked : goal.returns-clause-linked
returns-clause-linked c =
    c.merge.ensures.merged
    ∙ ap (λ (k : ℕ). merged c.args.linked.now k c.net_point-2.result) c.net_point.ensures.number
    ∙ ap (λ (k : ℕ). merged c.args.linked.now (net_at c.args.nets.now c.args.a) k) c.net_point-2.ensures.number

pub returns-clause-nets : goal.returns-clause-nets
returns-clause-nets c =
    subst (AreOfNets c.args.nets.now) (sym c.merge.ensures.merged)
    (merged_of_nets c.args.nets.now c.args.linked.now c.net_point.result c.net_point-2.result c.requires.nets c.net_point.ensures.inside c.net_point-2.ensures.inside)
