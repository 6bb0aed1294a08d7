use Rattle.std.proofs.Common.{◌∙◌, sym, arith}
use Rattle.difference.proofs.MeasuredLemmas.{measured_size}
use Rattle.difference.proofs.StraySteps.{anchor_inside, anchor_read, stray_counts, stray_value}
use Rattle.difference.proofs.strays.stray_anchor.Goals as goal

pub class_of-requires : goal.class_of-requires
class_of-requires c = omega (arith, measured_size c.args.nets.now c.args.measured.now c.requires.measured, c.requires.inside)

pub bounds-anchors-index : goal.bounds-anchors-index
bounds-anchors-index c =
    anchor_inside c.args.nets.now c.args.measured.now c.args.anchors.now c.args.point c.class_of.result c.index.result c.requires.measured c.requires.anchors
    (stray_counts c.args.nets.now c.args.measured.now c.args.point (sym c.is_stray.ensures ∙ c.if-not-is_stray.false)) c.index.ensures.same c.class_of.ensures

pub returns : goal.returns
returns c =
    let stray = sym c.is_stray.ensures ∙ c.if-not-is_stray.false in
    stray_value c.args.nets.now c.args.measured.now c.args.point c.index-2.result stray
    (c.index-2.ensures.same
    ∙ anchor_read c.args.nets.now c.args.measured.now c.args.anchors.now c.args.point c.class_of.result c.index.result c.requires.measured c.requires.anchors
    (stray_counts c.args.nets.now c.args.measured.now c.args.point stray) c.index.ensures.same c.class_of.ensures c.index-anchors-index.result c.index-anchors-index.is)
