-- The laws of the definitions.
use Rattle.std.specs.Prelude.{◌↔◌, ℕ, IsTrue}
use Rattle.partition.specs.Classes.{has, IsPartition, Same, Walk}
use Rattle.partition.specs.NetTable.{judged_points, net_at}
use Rattle.wirelist.specs.Clusters.{component_links, cluster_classes}
use Rattle.wirelist.specs.declared.program.Program.{Program}

-- two points are in one cluster exactly where a walk of components leads from the net of the one to that of the other
pub record ClusterLaw (p : Program) : Type 0 where
  pub partition : IsPartition (judged_points p.nets) p.nets.points (cluster_classes p)
  pub together : (x y : ℕ) → IsTrue (has (judged_points p.nets) x) → IsTrue (has (judged_points p.nets) y) →
      Same (cluster_classes p) x y ↔ Walk (component_links p) (net_at p.nets x) (net_at p.nets y)
