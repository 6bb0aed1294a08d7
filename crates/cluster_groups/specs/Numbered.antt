-- The clusters of a program by their numbers, 0, 1, .. in order of first net.
--     cluster_number p q         the number of the cluster of a judged point
--     clusters_by_number p       for each point the number of its cluster, and how many clusters there are
--     points_with test numbers   the points whose number passes a test, ascending
--     is_cluster, is_other, is_on_side    the tests for a cluster, for the other clusters, and for the clusters in whose number a bit has a value
use Rattle.std.specs.Prelude.{ℕ, ◌<◌, ◌==◌, ◌&&◌, ⊤, Bool, not, List, map, filter, length, slice_index_or, if◌then◌else◌}
use Rattle.std.specs.Bool.{beq}
use Rattle.partition.specs.Classes.{points_below, has, no_class}
use Rattle.partition.specs.Digits.{bit_of}
use Rattle.partition.specs.Heads.{heads_to}
use Rattle.partition.specs.NetTable.{judged_points}
use Rattle.wirelist.specs.declared.program.Program.{Program}
use Rattle.wirelist.specs.Clusters.{cluster_count, cluster_first_at, net_clusters}
use Rattle.cluster_groups.specs.declared.clusters.Choice.{Choice}
use Rattle.cluster_groups.specs.declared.clusters.Choice.TheVariants.{Cluster, Others, Side}

-- what contracts see of `Clusters`
pub record Numbered : Type 0 where
  pub numbers : List ℕ
  pub count : ℕ

-- how many clusters have an earlier first net
abbrev pub cluster_number : Program → ℕ → ℕ
cluster_number p q = heads_to (net_clusters p) (cluster_first_at p q)

-- for each point the number of its cluster, and 65,535 where the point is not judged
abbrev pub numbers_of : Program → List ℕ
numbers_of p = map (λ q. if has (judged_points p.nets) q then cluster_number p q else no_class) (points_below p.nets.points)

abbrev pub clusters_by_number : Program → Numbered
clusters_by_number p = record { numbers = numbers_of p; count = cluster_count p }

-- the number of a point's cluster
abbrev pub number_at : List ℕ → ℕ → ℕ
number_at numbers q = slice_index_or numbers q no_class

-- the points whose number passes a test, ascending
abbrev pub points_with : (ℕ → Bool) → List ℕ → List ℕ
points_with test numbers = filter (λ q. test (number_at numbers q)) (points_below (length numbers))

abbrev pub is_cluster : ℕ → ℕ → Bool
is_cluster k number = number == k

abbrev pub is_other : ℕ → ℕ → Bool
is_other k number = not (number == no_class) && not (number == k)

abbrev pub is_on_side : ℕ → Bool → ℕ → Bool
is_on_side bit set number = not (number == no_class) && beq (bit_of number bit) set

-- the test of a choice
abbrev pub takes : Choice → ℕ → Bool
takes (Cluster k) number = is_cluster k number
takes (Others k) number = is_other k number
takes (Side bit set) number = is_on_side bit set number

-- the bit is one of a number of 16 bits
abbrev pub IsBitChoice : Choice → Type 0
IsBitChoice (Cluster k) = ⊤
IsBitChoice (Others k) = ⊤
IsBitChoice (Side bit set) = bit < 16
