-- Two points are in one cluster exactly where a walk of components links their nets.
use Rattle.std.proofs.Common.{ℕ, ◌<◌, map, subst, All}
use Rattle.std.proofs.lemmas.List.Elements.{All-append, All-map}
use Rattle.partition.specs.Classes.{JoinsBelow}
use Rattle.partition.specs.NetTable.{IsNetTable, judged_points, net_at, net_count}
use Rattle.partition.proofs.classes.ClassLaws.{classes_by-IsPartition, classes_by-same, same-classes_by}
use Rattle.partition.proofs.tables.KeptLemmas.{net_at-below}
use Rattle.partition.proofs.tables.NetLaws.{net_facts}
use Rattle.partition.proofs.classes.WalkLaws.{joined_by-walk, walk-joined_by}
use Rattle.wirelist.specs.declared.program.Program.{Program}
use Rattle.wirelist.specs.Clusters.{ComponentsInside, component_links, cluster_first_at, resistor_link, diode_link}
use Rattle.wirelist.specs.Laws.{ClusterLaw}
use Rattle.wirelist.specs.Programs.{IsProgram}

-- the links of components lie between nets
links_below : (p : Program) → IsNetTable p.nets → ComponentsInside p → JoinsBelow (component_links p) (net_count p.nets)
links_below p ok inside a b there =
    let n = net_count p.nets in
    let Below : ℕ × ℕ → Type 0 = λ link. (link.0 < n) × (link.1 < n) in
    let resistors : All Below (map (resistor_link p.nets) p.resistors) =
    All-map Below (resistor_link p.nets) p.resistors
    (λ k d l. let ends = inside.resistors_in k d l in (net_at-below p.nets ok _ ends.0, net_at-below p.nets ok _ ends.1)) in
    let diodes : All Below (map (diode_link p.nets) p.diodes) =
    All-map Below (diode_link p.nets) p.diodes
    (λ k d l. let ends = inside.diodes_in k d l in (net_at-below p.nets ok _ ends.0, net_at-below p.nets ok _ ends.1)) in
    subst Below there.2 (All-append Below (map (resistor_link p.nets) p.resistors) (map (diode_link p.nets) p.diodes) resistors diodes there.0 (a, b) there.1)

pub clusters_are_linked : (p : Program) → IsProgram p → ClusterLaw p
clusters_are_linked p program =
    let ok = program.nets in
    let f = net_facts p.nets ok in
    let js = judged_points p.nets in
    let n = p.nets.points in
    let label = cluster_first_at p in
    let below = links_below p ok program.components.inside in
    record {
      partition = classes_by-IsPartition js n label f.below;
      together = λ x y kx ky. (
        λ s. joined_by-walk (component_links p) (net_count p.nets) below (net_at p.nets x) (net_at p.nets y) (net_at-below p.nets ok x kx) (net_at-below p.nets ok y ky)
            (same-classes_by js n label x y (f.below x kx) (f.below y ky) kx ky s),
        λ w. classes_by-same js n label x y (f.below x kx) (f.below y ky) kx ky (walk-joined_by (component_links p) (net_count p.nets) below w),
      );
    }
