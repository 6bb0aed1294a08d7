-- The clusters of a program: the classes of nets under 'a programmed component lies between them'. A point that is not judged is in no net and no cluster.
--     component_links p        for each component the numbers of the nets of its ends
--     cluster_firsts p         the first net of each cluster, in order
--     cluster_count p          how many clusters there are
--     clusters_of p            the points of each cluster, ascending, in order of first net
--     cluster_classes p        the points' partition by cluster; 65,535 stands at a point that is not judged
--     side p j set             the points of the clusters whose number has 1 (or 0) as binary digit j
--     others p cluster         the judged points that are not in the group
use Rattle.std.specs.Prelude.{ℕ, ◌==◌, Bool, IsTrue, not, List, ◌++◌, map, filter, length, All}
use Rattle.std.specs.List.{enumerate_from}
use Rattle.std.specs.Bool.{beq}
use Rattle.partition.specs.Classes.{points_below, has, class_at, classes_by, joined_by}
use Rattle.partition.specs.NetTable.{NetTable, judged_points, net_at, net_count}
use Rattle.partition.specs.Digits.{bit_of}
use Rattle.wirelist.specs.declared.program.Program.{Program}
use Rattle.wirelist.specs.declared.parts.Resistor.{Resistor}
use Rattle.wirelist.specs.declared.parts.Diode.{Diode}

-- the numbers of the nets at the ends of a component
abbrev pub resistor_link : NetTable → Resistor → ℕ × ℕ
resistor_link t r = (net_at t r.a, net_at t r.b)

abbrev pub diode_link : NetTable → Diode → ℕ × ℕ
diode_link t d = (net_at t d.from, net_at t d.to)

-- for each component the numbers of the nets of its ends
abbrev pub component_links : Program → List (ℕ × ℕ)
component_links p = map (resistor_link p.nets) p.resistors ++ map (diode_link p.nets) p.diodes

-- for each net the first net of its cluster
abbrev pub net_clusters : Program → List ℕ
net_clusters p = joined_by (component_links p) (net_count p.nets)

-- the first net of each cluster, in order
abbrev pub cluster_firsts : Program → List ℕ
cluster_firsts p = filter (λ i. class_at (net_clusters p) i == i) (points_below (net_count p.nets))

-- how many clusters there are
abbrev pub cluster_count : Program → ℕ
cluster_count p = length (cluster_firsts p)

-- the first net of a point's cluster
abbrev pub cluster_first_at : Program → ℕ → ℕ
cluster_first_at p point = class_at (net_clusters p) (net_at p.nets point)

-- the points of each cluster, ascending, the clusters in order of first net
abbrev pub clusters_of : Program → List (List ℕ)
clusters_of p = map (λ first. filter (λ point. cluster_first_at p point == first) (judged_points p.nets)) (cluster_firsts p)

-- the points' partition by cluster
abbrev pub cluster_classes : Program → List ℕ
cluster_classes p = classes_by (judged_points p.nets) p.nets.points (cluster_first_at p)

-- the judged points that are not in the group
abbrev pub others : Program → List ℕ → List ℕ
others p group = filter (λ point. not (has group point)) (judged_points p.nets)

-- the judged points of the clusters whose number has the bit j set, or not set, ascending
abbrev pub side : Program → ℕ → Bool → List ℕ
side p j set =
    let firsts = cluster_firsts p in
    let coded = filter (λ (n : ℕ × ℕ). beq (bit_of n.0 j) set) (enumerate_from 0 firsts) in
    let chosen = map (λ (n : ℕ × ℕ). n.1) coded in
    filter (λ point. has chosen (cluster_first_at p point)) (judged_points p.nets)

-- the point is judged
abbrev pub IsJudged : NetTable → ℕ → Type 0
IsJudged t point = IsTrue (has (judged_points t) point)

-- the ends of the components are judged points
abbrev pub ResistorsInside : NetTable → List Resistor → Type 0
ResistorsInside t resistors = All (λ (r : Resistor). IsJudged t r.a × IsJudged t r.b) resistors

abbrev pub DiodesInside : NetTable → List Diode → Type 0
DiodesInside t diodes = All (λ (d : Diode). IsJudged t d.from × IsJudged t d.to) diodes

pub record ComponentsInside (p : Program) : Type 0 where
  pub resistors_in : ResistorsInside p.nets p.resistors
  pub diodes_in : DiodesInside p.nets p.diodes
