use Rattle.std.proofs.Common.{◌∙◌, ap, length, arith}
use Rattle.std.proofs.lemmas.List.{length-set}
use Rattle.difference.proofs.StraySteps.{net_group_more, net_groups_all}
use Rattle.difference.proofs.strays.grouped_by_net.Goals as goal

pub loop-point-preserved : goal.loop-point-preserved
loop-point-preserved c = record {
  size = ap length c.in_ok-add.ensures.ok ∙ length-set c.loop-point.lists c.net_of.result _ ∙ c.loop-point.invariant.size;
  each = net_group_more c.args.nets.now c.args.points.now c.loop-point.lists _ c.loop-point.point-index c.point-item.result c.net_of.result c.loop-point.invariant.size c.loop-point.invariant.each
      c.loop-point-test.true c.point-item.is c.net_of.ensures.number c.net_of.ensures.net c.in_ok-add.ensures.ok;
}

pub returns : goal.returns
returns c = net_groups_all c.args.nets.now c.args.points.now c.loop-point.lists c.loop-point.point-index c.loop-point.invariant.size c.loop-point.invariant.each (omega arith)
