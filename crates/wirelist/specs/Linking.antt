-- What is kept while clusters are found.
--     linked_by classes links      the classes after further links
--     AreOfNets t classes          classes of the nets
--     first_nets_of t classes      for each point the first net of its cluster
use Rattle.std.specs.Prelude.{◌≡◌, ℕ, ◌<◌, List, map, fold, length, if◌then◌else◌}
use Rattle.partition.specs.Classes.{points_below, has, class_at, no_class, merged}
use Rattle.partition.specs.NetTable.{NetTable, judged_points, net_at, net_count}
use Rattle.partition.specs.Partitions.{HasClass, IsPartitionValue}

-- the classes after further links
abbrev pub linked_by : List ℕ → List (ℕ × ℕ) → List ℕ
linked_by classes links = fold (λ found link. merged found link.0 link.1) classes links

-- classes of the nets: a partition with a class for each net
pub record AreOfNets (t : NetTable) (classes : List ℕ) : Type 0 where
  pub size : length classes ≡ net_count t
  pub valid : IsPartitionValue classes
  pub each : (i : ℕ) → i < net_count t → HasClass classes i

-- the first net of a point's cluster, where the classes are those of linked nets
abbrev pub first_net_of : NetTable → List ℕ → ℕ → ℕ
first_net_of t classes point = if has (judged_points t) point then class_at classes (net_at t point) else no_class

-- for each point the first net of its cluster
abbrev pub first_nets_of : NetTable → List ℕ → List ℕ
first_nets_of t classes = map (first_net_of t classes) (points_below t.points)
