-- The laws of the groups.
use Rattle.std.specs.Prelude.{◌≡◌, ◌≢◌, ℕ, ◌-◌, ◌<◌, ◌≤◌, ◌^◌, Bool, true, false, List, [], length, Contains, IsTrue, slice_index_or}
use Rattle.std.specs.List.Sorted.{IsStrictlyIncreasing}
use Rattle.partition.specs.Classes.{JoinsBelow, has}
use Rattle.partition.specs.Digits.{digits_of, bit_of}
use Rattle.partition.specs.NetTable.{IsNetTable, judged_points, net_count}
use Rattle.partition.specs.Partitions.{Meets}
use Rattle.wirelist.specs.declared.program.Program.{Program}
use Rattle.wirelist.specs.Clusters.{cluster_classes, cluster_count, clusters_of, component_links, others, side}
use Rattle.cluster_groups.specs.Numbered.{is_cluster, is_on_side, is_other, numbers_of, points_with}

-- the nets are nets, components lie between them, and there are no more nets than points, which 16 bits number
pub record IsClusterable (p : Program) : Type 0 where
  pub nets : IsNetTable p.nets
  pub links : JoinsBelow (component_links p) (net_count p.nets)
  pub few : net_count p.nets ≤ p.nets.points
  pub small : p.nets.points < 2 ^ 16

-- judged points, at least one, in ascending order
pub record IsGroupOf (p : Program) (group : List ℕ) : Type 0 where
  pub some : 0 < length group
  pub ascending : IsStrictlyIncreasing group
  pub judged : (q : ℕ) → Contains group q → IsTrue (has (judged_points p.nets) q)

-- two groups that share no point, with no cluster in both
pub record AreOpposite (p : Program) (a b : List ℕ) : Type 0 where
  pub left : IsGroupOf p a
  pub right : IsGroupOf p b
  pub apart : (q : ℕ) → Contains a q → Contains b q → ⊥
  pub bonds : Meets (cluster_classes p) a b → ⊥

-- the points of cluster k
abbrev pub cluster_at : Program → ℕ → List ℕ
cluster_at p k = slice_index_or (clusters_of p) k []

-- what is numbered are the clusters in order of first net
pub record NumberLaw (p : Program) : Type 0 where
  pub count : length (clusters_of p) ≡ cluster_count p
  pub clusters : (k : ℕ) → k < cluster_count p → points_with (is_cluster k) (numbers_of p) ≡ cluster_at p k
  pub others : (k : ℕ) → k < cluster_count p → points_with (is_other k) (numbers_of p) ≡ others p (cluster_at p k)
  pub sides : (j : ℕ) (set : Bool) → points_with (is_on_side j set) (numbers_of p) ≡ side p j set

-- the clusters are groups, apart, and have all judged points together
pub record ClustersLaw (p : Program) : Type 0 where
  pub groups : (k : ℕ) → k < cluster_count p → IsGroupOf p (cluster_at p k)
  pub apart : (j k q : ℕ) → j < cluster_count p → k < cluster_count p → Contains (cluster_at p j) q → Contains (cluster_at p k) q → j ≡ k
  pub all_points : (q : ℕ) → IsTrue (has (judged_points p.nets) q) → (k : ℕ) × (k < cluster_count p) × Contains (cluster_at p k) q

-- what the tests route: a cluster against the others, where there are two at least, and the two sides of each bit that the numbers need
pub record RouteLaw (p : Program) : Type 0 where
  pub others : 2 ≤ cluster_count p → (k : ℕ) → k < cluster_count p → AreOpposite p (cluster_at p k) (others p (cluster_at p k))
  pub sides : (j : ℕ) → j < digits_of (cluster_count p - 1) → AreOpposite p (side p j false) (side p j true)
  -- any two clusters stand on opposite sides of some bit
  pub opposite : (j k : ℕ) → j < cluster_count p → k < cluster_count p → j ≢ k →
      (bit : ℕ) × (bit < digits_of (cluster_count p - 1)) × (bit_of j bit ≢ bit_of k bit)
  -- and each cluster stands whole on the side of its number's bit
  pub on_side : (k bit q : ℕ) → k < cluster_count p → Contains (cluster_at p k) q → Contains (side p bit (bit_of k bit)) q
