use Rattle.std.proofs.Common.{List, map, ◌∙◌, ap, arith}
use Rattle.partition.specs.Classes.{points_below}
use Rattle.wirelist.specs.declared.parts.Resistor.{Resistor}
use Rattle.wirelist.specs.declared.parts.Diode.{Diode}
use Rattle.wirelist.specs.Clusters.{resistor_link, diode_link}
use Rattle.wirelist.specs.Linking.{linked_by}
use Rattle.wirelist.proofs.ClusterLemmas.{links_all, singles_of_nets}
use Rattle.wirelist.proofs.cluster.linked_nets.Goals as goal

pub link_resistors-requires-clause-nets : goal.link_resistors-requires-clause-nets
link_resistors-requires-clause-nets c =
    singles_of_nets c.args.p.now.nets c.in_ok-linked.linked (c.in_ok-linked.ensures ∙ ap points_below c.count.ensures.count) (omega arith)

pub returns-clause-linked : goal.returns-clause-linked
returns-clause-linked c =
    links_all c.args.p.now c.in_ok-linked.linked c.link_resistors.new.linked c.link_diodes.new.linked
    (c.in_ok-linked.ensures ∙ ap points_below c.count.ensures.count)
    (c.link_resistors.ensures.linked ∙ ap (λ (rs : List Resistor). linked_by c.in_ok-linked.linked (map (resistor_link c.args.p.now.nets) rs)) c.as_slice.ensures)
    (c.link_diodes.ensures.linked ∙ ap (λ (ds : List Diode). linked_by c.link_resistors.new.linked (map (diode_link c.args.p.now.nets) ds)) c.as_slice-2.ensures)
