use Rattle.std.proofs.Common.{length, ap, ◌∙◌, arith}
use Rattle.wirelist.proofs.ClusterLemmas.{heads_are_firsts, heads_few}
use Rattle.wirelist.proofs.cluster.cluster_count.Goals as goal

pub overflow_cast-result : goal.overflow_cast-result
overflow_cast-result c =
    let few = heads_few c.in_ok-linked.linked in
    let size = c.len.ensures ∙ ap length c.in_ok-firsts.ensures.heads in
    let nets = c.in_ok-linked.ensures.nets.size in
    let points = c.in_ok-linked.ensures.few in
    let small = c.in_ok-linked.ensures.small in
    omega arith

pub returns : goal.returns
returns c = c.len.ensures ∙ ap length c.in_ok-firsts.ensures.heads ∙ heads_are_firsts c.args.p.now c.in_ok-linked.linked c.in_ok-linked.ensures.linked c.in_ok-linked.ensures.nets.size
