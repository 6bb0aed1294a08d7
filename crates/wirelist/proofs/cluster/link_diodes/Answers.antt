use Rattle.std.proofs.Common.{ap}
use Rattle.partition.specs.NetTable.{net_at}
use Rattle.wirelist.specs.declared.parts.Diode.{Diode}
use Rattle.wirelist.specs.Clusters.{diode_link}
use Rattle.wirelist.proofs.ClusterLemmas.{linked_more}
use Rattle.wirelist.proofs.cluster.link_diodes.Goals as goal

pub loop-diode-preserved : goal.loop-diode-preserved
loop-diode-preserved c = (
  linked_more (diode_link c.args.nets.now) c.args.diodes.now c.loop-diode.diode-index c.diode-item.result c.args.linked.now c.loop-diode.linked c.link.new.linked
      (net_at c.args.nets.now c.diode-item.result.from) (net_at c.args.nets.now c.diode-item.result.to) c.loop-diode-test.true c.loop-diode.invariant.0 c.link.ensures.linked
      (ap (λ (x : Diode). net_at c.args.nets.now x.from) c.diode-item.is)
      (ap (λ (x : Diode). net_at c.args.nets.now x.to) c.diode-item.is),
  c.link.ensures.nets,
)
