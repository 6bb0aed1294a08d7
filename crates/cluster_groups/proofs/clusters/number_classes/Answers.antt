use Rattle.std.proofs.Common.{ℕ, List, ap, arith, ◌∙◌}
use Rattle.partition.specs.Classes.{class_at}
use Rattle.cluster_groups.specs.Laws.{IsClusterable}
use Rattle.cluster_groups.proofs.Placing.{Places-few, Places-turn, class-below, clusterable, head-inside}
use Rattle.cluster_groups.proofs.clusters.number_classes.Goals as goal

ok : (c : goal.After-class_of) → IsClusterable c.args.p.now
ok c =
    let count = c.count-i-end.ensures.count in
    let few = c.count-i-end.ensures.few in
    let points = c.points.ensures.points in
    clusterable c.args.p.now c.points.ensures.valid c.requires.components (omega arith) (omega arith)

pub class_of-requires : goal.class_of-requires
class_of-requires c = head-inside c.args.p.now c.args.classes.now c.head.result c.requires.classes c.head.ensures.judged

pub number_class-count-requires-clause-inside : goal.number_class-count-requires-clause-inside
number_class-count-requires-clause-inside c =
    let at = c.class_of.ensures ∙ ap (λ (cs : List ℕ). class_at cs c.head.result) c.requires.classes in
    let size = c.loop-i.invariant.size in
    let low = class-below c.args.p.now (ok c) c.head.result c.head.ensures.judged in
    omega arith

pub number_class-count-requires-clause-few : goal.number_class-count-requires-clause-few
number_class-count-requires-clause-few c =
    Places-few c.args.p.now (ok c) c.loop-i.invariant (let less = c.loop-i-test.true in let count = c.count-i-end.ensures.count in omega arith)

pub loop-i-preserved : goal.loop-i-preserved
loop-i-preserved c =
    let at = c.class_of.ensures ∙ ap (λ (cs : List ℕ). class_at cs c.head.result) c.requires.classes in
    let count = c.count-i-end.ensures.count in
    let few = c.count-i-end.ensures.few in
    let points = c.points.ensures.points in
    let valid : IsClusterable c.args.p.now = clusterable c.args.p.now c.points.ensures.valid c.requires.components (omega arith) (omega arith) in
    let less = c.loop-i-test.true in
    Places-turn c.args.p.now valid c.loop-i.invariant (omega arith) c.head.result c.head.ensures.judged c.head.ensures.head c.class_of.result at c.number_class-count.new.places.items c.number_class-count.result
    c.number_class-count.ensures.kept c.number_class-count.ensures.next
