use Rattle.std.proofs.Common.{◌≡◌, map, take}
use Rattle.wirelist.specs.Clusters.{diode_link}
use Rattle.wirelist.specs.Linking.{AreOfNets, linked_by}
use Rattle.wirelist.proofs.cluster.link_diodes.Given as goal

abbrev pub invariant-loop-diode : goal.invariant-loop-diode
invariant-loop-diode l = (l.linked ≡ linked_by l.initial.linked (map (diode_link l.nets) (take l.diode-index l.diodes))) × AreOfNets l.nets l.linked
