-- How the clusters are numbered: net by net, each class of points by cluster once.
use Rattle.std.specs.Prelude.{◌≡◌, ◌<◌, ◌≤◌, ◌==◌, ℕ, List, length, IsTrue, if◌then◌else◌}
use Rattle.partition.specs.Classes.{class_at, has, no_class}
use Rattle.partition.specs.Heads.{heads_to}
use Rattle.partition.specs.NetTable.{judged_points}
use Rattle.wirelist.specs.declared.program.Program.{Program}
use Rattle.wirelist.specs.Clusters.{cluster_classes, cluster_first_at, net_clusters}
use Rattle.cluster_groups.specs.Numbered.{cluster_number, number_at}

-- after the first i nets: the classes of clusters whose first net is one of them have their numbers, and the others none
pub record Places (p : Program) (i : ℕ) (places : List ℕ) (count : ℕ) : Type 0 where
  pub size : length places ≡ p.nets.points
  pub counted : count ≡ heads_to (net_clusters p) i
  pub numbered : (q : ℕ) → IsTrue (has (judged_points p.nets) q) → cluster_first_at p q < i →
      number_at places (class_at (cluster_classes p) q) ≡ cluster_number p q
  pub unnumbered : (q : ℕ) → IsTrue (has (judged_points p.nets) q) → i ≤ cluster_first_at p q →
      number_at places (class_at (cluster_classes p) q) ≡ no_class

-- the number at a point's class, and none where the point is not judged
abbrev pub number_by : List ℕ → List ℕ → ℕ → ℕ
number_by classes places q = if class_at classes q == no_class then no_class else number_at places (class_at classes q)
