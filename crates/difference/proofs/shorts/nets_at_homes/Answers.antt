use Rattle.std.proofs.Common.{◌<◌, ◌∙◌, ap, arith}
use Rattle.partition.specs.Classes.{class_at}
use Rattle.difference.proofs.MeasuredLemmas.{class_below, homes_push, judged_inside}
use Rattle.difference.proofs.shorts.nets_at_homes.Goals as goal

pub class_of-requires : goal.class_of-requires
class_of-requires c = judged_inside c.args.nets.now c.args.measured.now c.requires c.head.result c.head.ensures.judged

pub index_mut-requires : goal.index_mut-requires
index_mut-requires c =
    omega (arith, c.index.ensures.same, c.class_of.ensures, class_below c.args.nets.now c.args.measured.now c.requires c.head.result c.head.ensures.judged, c.loop-i.invariant.size, c.loop-i.homes.ok)

pub loop-i-preserved : goal.loop-i-preserved
loop-i-preserved c =
    let t = c.args.nets.now in
    let m = c.args.measured.now in
    let home = c.index.ensures.same ∙ c.class_of.ensures ∙ ap (class_at m) c.head.ensures.head in
    let low = class_below t m c.requires c.head.result c.head.ensures.judged in
    let below : c.index.result < t.points = omega (arith, c.index.ensures.same, c.class_of.ensures) in
    homes_push t m c.loop-i.homes.items c.loop-i.i c.index.result c.index_mut.result.now c.push.new.self c.loop-i.invariant home below c.index_mut.ensures.value c.in_ok-push.ensures.ok
