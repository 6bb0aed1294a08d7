use Rattle.wirelist.proofs.ClusterLemmas.{label_more}
use Rattle.wirelist.proofs.cluster.first_nets.Goals as goal

pub loop-p-preserved : goal.loop-p-preserved
loop-p-preserved c =
    label_more c.args.nets.now c.args.linked.now c.loop-p.labels c.push.new.self c.loop-p.p c.first_net.result c.loop-p.invariant c.in_ok-push.ensures.ok c.first_net.ensures
