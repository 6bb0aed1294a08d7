use Rattle.difference.proofs.MeasuredLemmas.{judged_inside}
use Rattle.difference.proofs.StraySteps.{along_more, anchor_inside, anchor_read, item_judged}
use Rattle.difference.proofs.strays.pieces_along.Goals as goal

pub class_of-requires : goal.class_of-requires
class_of-requires c =
    judged_inside c.args.nets.now c.args.measured.now c.requires.measured c.point-item.result
    (item_judged c.args.nets.now c.args.points.now c.loop-point.point-index c.point-item.result c.requires.points c.loop-point-test.true c.point-item.is)

pub bounds-anchors-index : goal.bounds-anchors-index
bounds-anchors-index c =
    let counts = item_judged c.args.nets.now c.args.points.now c.loop-point.point-index c.point-item.result c.requires.points c.loop-point-test.true c.point-item.is in
    (anchor_inside c.args.nets.now c.args.measured.now c.args.anchors.now c.point-item.result c.class_of.result c.index.result c.requires.measured c.requires.anchors counts c.index.ensures.same c.class_of.ensures)

pub loop-point-preserved : goal.loop-point-preserved
loop-point-preserved c =
    let counts = item_judged c.args.nets.now c.args.points.now c.loop-point.point-index c.point-item.result c.requires.points c.loop-point-test.true c.point-item.is in
    along_more c.args.nets.now c.args.measured.now c.args.points.now c.loop-point.pieces.items _ c.loop-point.point-index c.point-item.result c.net_of.result c.index-anchors-index.result c.loop-point.invariant
    c.loop-point-test.true c.point-item.is c.net_of.ensures.number
    (anchor_read c.args.nets.now c.args.measured.now c.args.anchors.now c.point-item.result c.class_of.result c.index.result c.requires.measured c.requires.anchors counts c.index.ensures.same c.class_of.ensures
    c.index-anchors-index.result c.index-anchors-index.is)
    c.in_ok-add_point.ensures
