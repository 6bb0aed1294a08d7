-- The pairs of groups that the tests route.
--     cluster_pairs p    each cluster against all other judged points, in order; none where there is one cluster
--     bit_pairs p        for each bit that the clusters' numbers need, the clusters with 0 there against those with 1
--     numbered_pair, numbered_sides    the same by the number of each point's cluster
use Rattle.std.specs.Prelude.{ℕ, ◌-◌, nat_le, true, false, List, [], map, if◌then◌else◌}
use Rattle.partition.specs.Classes.{points_below}
use Rattle.partition.specs.Digits.{digits_of}
use Rattle.wirelist.specs.declared.program.Program.{Program}
use Rattle.wirelist.specs.Clusters.{cluster_count, clusters_of, others, side}
use Rattle.applications.specs.declared.sides.Sides.{Sides}
use Rattle.cluster_groups.specs.Numbered.{is_cluster, is_on_side, is_other, points_with}

-- a cluster against the others
abbrev pub against_others : Program → List ℕ → Sides
against_others p group = record { left = group; right = others p group }

abbrev pub cluster_pairs : Program → List Sides
cluster_pairs p = if nat_le 2 (cluster_count p) then map (against_others p) (clusters_of p) else []

-- the two sides of a bit
abbrev pub sides_of_bit : Program → ℕ → Sides
sides_of_bit p j = record { left = side p j false; right = side p j true }

-- how many of so many clusters are measured, and how many bits their numbers need: none where there is one cluster
abbrev pub tested_clusters : ℕ → ℕ
tested_clusters count = if nat_le 2 count then count else 0

abbrev pub tested_bits : ℕ → ℕ
tested_bits count = digits_of (count - 1)

abbrev pub bit_pairs : Program → List Sides
bit_pairs p = map (sides_of_bit p) (points_below (tested_bits (cluster_count p)))

-- by the number of each point's cluster
abbrev pub numbered_pair : List ℕ → ℕ → Sides
numbered_pair numbers k = record { left = points_with (is_cluster k) numbers; right = points_with (is_other k) numbers }

abbrev pub numbered_sides : List ℕ → ℕ → Sides
numbered_sides numbers j = record { left = points_with (is_on_side j false) numbers; right = points_with (is_on_side j true) numbers }
