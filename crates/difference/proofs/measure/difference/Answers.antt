use Rattle.std.proofs.Common.{◌∙◌, sym, subst}
use Rattle.difference.specs.Measured.{AreMixed}
use Rattle.difference.proofs.MeasuredLemmas.{difference_is, miswires_are, opens_are, pieces_can_be}
use Rattle.difference.proofs.measure.difference.Goals as goal

pub parted-requires : goal.parted-requires
parted-requires c =
    let mixed = subst (AreMixed c.args.nets.now c.args.measured.now c.args.nets.now.points) (sym c.deref-2.ensures.value) c.in_ok-mixed.ensures.mixed in
    pieces_can_be c.args.nets.now c.args.measured.now c.mixed_classes.ensures.valid c.requires c.mixed_classes.ensures.few c.deref-2.result.now mixed c.in_ok-pieces.pieces.items c.in_ok-pieces.ensures

pub returns : goal.returns
returns c =
    let t = c.args.nets.now in
    let m = c.args.measured.now in
    let valid = c.mixed_classes.ensures.valid in
    let few = c.mixed_classes.ensures.few in
    let mixed = subst (AreMixed t m t.points) (sym c.deref-2.ensures.value) c.in_ok-mixed.ensures.mixed in
    difference_is t m c.from_vec.result c.from_vec-2.result c.in_ok-shorts.field-0
    (c.from_vec.ensures ∙ opens_are t m valid c.requires few c.deref-2.result.now mixed c.in_ok-pieces.pieces.items c.in_ok-opens.opens.items c.in_ok-pieces.ensures c.in_ok-opens.ensures.opens)
    c.in_ok-shorts.ensures
    (c.from_vec-2.ensures ∙ miswires_are t m valid c.requires few c.deref-2.result.now mixed c.in_ok-pieces.pieces.items c.in_ok-opens.miswires.items c.in_ok-pieces.ensures c.in_ok-opens.ensures.miswires)
