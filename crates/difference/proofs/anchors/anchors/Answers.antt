use Rattle.std.proofs.Common.{◌≡◌, ◌-◌, refl, ◌∙◌, ap, arith}
use Rattle.partition.specs.Classes.{points_below}
use Rattle.partition.proofs.classes.HeadLemmas.{points_below-push}
use Rattle.difference.proofs.MeasuredLemmas.{anchors_all, anchors_more, anchors_none, class_below, judged_inside}
use Rattle.difference.proofs.anchors.anchors.Goals as goal

pub loop-p-preserved : goal.loop-p-preserved
loop-p-preserved c = points_below-push _ _ _ c.loop-p.invariant c.in_ok-push.ensures.items

pub loop-i-init : goal.loop-i-init
loop-i-init c =
    let all : c.loop-p.p ≡ c.args.nets.now.points = omega (arith, c.points-p-end.ensures.points) in
    anchors_none c.args.nets.now c.args.measured.now c.loop-p.anchors.items c.count-i.result c.count-i.ensures.count (c.loop-p.invariant ∙ ap points_below all)

pub class_of-requires : goal.class_of-requires
class_of-requires c = judged_inside c.args.nets.now c.args.measured.now c.requires c.head-head.result c.head-head.ensures.judged

pub index_mut-requires : goal.index_mut-requires
index_mut-requires c =
    omega (arith, c.index.ensures.same, c.class_of.ensures, class_below c.args.nets.now c.args.measured.now c.requires c.head-head.result c.head-head.ensures.judged, c.loop-i.invariant.size, c.loop-i.anchors.ok)

pub loop-i-preserved : goal.loop-i-preserved
loop-i-preserved c =
    let class = c.index.ensures.same ∙ c.class_of.ensures in
    anchors_more c.args.nets.now c.args.measured.now c.loop-i.anchors.items _ c.loop-i.i (c.loop-i.i - 1) c.head-head.result c.index.result c.loop-i.invariant (omega arith)
    (omega (arith, c.loop-i.auto.i, c.count-i.ensures.count)) c.head-head.ensures.head class
    (omega (arith, class, class_below c.args.nets.now c.args.measured.now c.requires c.head-head.result c.head-head.ensures.judged)) refl

pub returns : goal.returns
returns c = anchors_all c.args.nets.now c.args.measured.now c.loop-i.anchors.items c.loop-i.i (omega arith) c.loop-i.invariant
