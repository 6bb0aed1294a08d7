use Rattle.std.proofs.Common.{◌≡◌, map, take}
use Rattle.wirelist.specs.Clusters.{resistor_link}
use Rattle.wirelist.specs.Linking.{AreOfNets, linked_by}
use Rattle.wirelist.proofs.cluster.link_resistors.Given as goal

abbrev pub invariant-loop-resistor : goal.invariant-loop-resistor
invariant-loop-resistor l = (l.linked ≡ linked_by l.initial.linked (map (resistor_link l.nets) (take l.resistor-index l.resistors))) × AreOfNets l.nets l.linked
