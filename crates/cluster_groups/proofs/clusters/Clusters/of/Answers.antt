use Rattle.std.proofs.Common.{ℕ, List, length, map, ap, arith, ◌∙◌}
use Rattle.partition.specs.Classes.{points_below}
use Rattle.cluster_groups.specs.Laws.{IsClusterable}
use Rattle.cluster_groups.specs.Numbered.{Numbered, numbers_of}
use Rattle.cluster_groups.specs.Places.{number_by}
use Rattle.cluster_groups.proofs.Placing.{clusterable, length-classes, numbered-all}
use Rattle.cluster_groups.proofs.Numbering.{length-numbers_of}
use Rattle.cluster_groups.proofs.clusters.Clusters.of.Goals as goal

pub number_points-requires : goal.number_points-requires
number_points-requires c =
    let size = c.in_ok-placed.ensures.size in
    omega (arith, ap length c.as_slice.ensures.value, length-classes c.args.p.now c.in_ok-classes.classes c.in_ok-classes.ensures)

pub returns-clause-clusterable : goal.returns-clause-clusterable
returns-clause-clusterable c =
    let count = c.count-net_count.ensures.count in
    let few = c.count-net_count.ensures.few in
    let points = c.points-point_count.ensures.points in
    clusterable c.args.p.now c.points-point_count.ensures.valid c.requires (omega arith) (omega arith)

pub invariant_of-result : goal.invariant_of-result
invariant_of-result c =
    let count = c.count-net_count.ensures.count in
    let few = c.count-net_count.ensures.few in
    let points = c.points-point_count.ensures.points in
    let valid : IsClusterable c.args.p.now = clusterable c.args.p.now c.points-point_count.ensures.valid c.requires (omega arith) (omega arith) in
    let made = c.in_ok-numbers.ensures ∙ ap (λ (places : List ℕ). map (number_by c.in_ok-classes.classes places) (points_below (length c.in_ok-classes.classes))) c.as_slice.ensures.value in
    let numbers = numbered-all c.args.p.now valid c.in_ok-classes.classes c.in_ok-placed.placed.places.items c.in_ok-numbers.numbers.items c.in_ok-placed.placed.count c.in_ok-classes.ensures c.in_ok-placed.ensures made in
    omega (arith, ap length numbers, length-numbers_of c.args.p.now valid)

pub returns-clause-clusters : goal.returns-clause-clusters
returns-clause-clusters c =
    let count = c.count-net_count.ensures.count in
    let few = c.count-net_count.ensures.few in
    let points = c.points-point_count.ensures.points in
    let valid : IsClusterable c.args.p.now = clusterable c.args.p.now c.points-point_count.ensures.valid c.requires (omega arith) (omega arith) in
    let made = c.in_ok-numbers.ensures ∙ ap (λ (places : List ℕ). map (number_by c.in_ok-classes.classes places) (points_below (length c.in_ok-classes.classes))) c.as_slice.ensures.value in
    let numbers = numbered-all c.args.p.now valid c.in_ok-classes.classes c.in_ok-placed.placed.places.items c.in_ok-numbers.numbers.items c.in_ok-placed.placed.count c.in_ok-classes.ensures c.in_ok-placed.ensures made in
    ap (λ (xs : List ℕ). let all : Numbered = record { numbers = xs; count = c.in_ok-placed.placed.count } in all) numbers
    ∙ ap (λ (n : ℕ). let all : Numbered = record { numbers = numbers_of c.args.p.now; count = n } in all) c.in_ok-placed.ensures.counted
