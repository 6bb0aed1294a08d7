-- What nets, components and clusters are called in a report, under the program of the test or under none.
--     net_label p i            the label of net number i
--     component_label p i      the label of component number i
--     cluster_label p i        the label of cluster number i
use Rattle.std.specs.Prelude.{◌≡◌, ℕ, not, List, [], ◌++◌, map, filter, length, codes, decimal, Option, option_map, unwrap_or, slice_get}
use Rattle.std.specs.List.{list_any}
use Rattle.partition.specs.Classes.{has}
use Rattle.partition.specs.NetTable.{NetTable, judged_points}
use Rattle.wirelist.specs.Clusters.{ComponentsInside, cluster_firsts}
use Rattle.wirelist.specs.declared.program.Program.{Program}
use Rattle.wirelist.specs.declared.parts.Resistor.{Resistor}
use Rattle.wirelist.specs.declared.parts.Diode.{Diode}

-- `#` and a number
abbrev pub unlabelled : ℕ → List ℕ
unlabelled i = codes "#" ++ decimal i

-- the label with this number, or `#` and the number where there is none
abbrev pub label_at : List (List ℕ) → ℕ → List ℕ
label_at labels i = unwrap_or (slice_get labels i) (unlabelled i)

-- the judged points of no named net, in order
abbrev pub unused_points : NetTable → List ℕ
unused_points t = filter (λ q. not (list_any (λ net. has net q) t.named)) (judged_points t)

-- `pt` and a point
abbrev pub point_label : ℕ → List ℕ
point_label q = codes "pt" ++ decimal q

-- the names of the named nets, then `pt` and the point for each other net
abbrev pub labels_of_nets : Program → List (List ℕ)
labels_of_nets p = p.names ++ map point_label (unused_points p.nets)

-- the names of the components, resistors first
abbrev pub labels_of_components : Program → List (List ℕ)
labels_of_components p = map (λ (r : Resistor). r.name) p.resistors ++ map (λ (d : Diode). d.name) p.diodes

-- the label of each cluster's first net
abbrev pub labels_of_clusters : Program → List (List ℕ)
labels_of_clusters p = map (label_at (labels_of_nets p)) (cluster_firsts p)

-- the labels under a program, and none without one
abbrev pub labels_under : (Program → List (List ℕ)) → Option Program → List (List ℕ)
labels_under labels program = unwrap_or (option_map labels program) []

unfoldable pub net_label : Option Program → ℕ → List ℕ
net_label program i = label_at (labels_under labels_of_nets program) i

unfoldable pub component_label : Option Program → ℕ → List ℕ
component_label program i = label_at (labels_under labels_of_components program) i

unfoldable pub cluster_label : Option Program → ℕ → List ℕ
cluster_label program i = label_at (labels_under labels_of_clusters program) i

-- what is asked of a program whose nets and clusters have labels: a name for each named net, and components between judged points
pub record HasLabels (p : Program) : Type 0 where
  pub names : length p.names ≡ length p.nets.named
  pub inside : ComponentsInside p
