use Rattle.std.proofs.Common.{ap}
use Rattle.partition.specs.NetTable.{net_at}
use Rattle.wirelist.specs.declared.parts.Resistor.{Resistor}
use Rattle.wirelist.specs.Clusters.{resistor_link}
use Rattle.wirelist.proofs.ClusterLemmas.{linked_more}
use Rattle.wirelist.proofs.cluster.link_resistors.Goals as goal

pub loop-resistor-preserved : goal.loop-resistor-preserved
loop-resistor-preserved c = (
  linked_more (resistor_link c.args.nets.now) c.args.resistors.now c.loop-resistor.resistor-index c.resistor-item.result c.args.linked.now c.loop-resistor.linked c.link.new.linked
      (net_at c.args.nets.now c.resistor-item.result.a) (net_at c.args.nets.now c.resistor-item.result.b) c.loop-resistor-test.true c.loop-resistor.invariant.0 c.link.ensures.linked
      (ap (λ (x : Resistor). net_at c.args.nets.now x.a) c.resistor-item.is)
      (ap (λ (x : Resistor). net_at c.args.nets.now x.b) c.resistor-item.is),
  c.link.ensures.nets,
)
