use Rattle.std.proofs.Common.{◌∙◌, arith}
use Rattle.std.proofs.lemmas.Result.{IfOk-weaker}
use Rattle.difference.proofs.StraySteps.{all_judged, all_judged_by_net, by_anchor_is, by_net_joined, pieces_all, strays_size}
use Rattle.difference.proofs.strays.pieces.Goals as goal

pub grouped-requires-clause-small : goal.grouped-requires-clause-small
grouped-requires-clause-small c =
    let small = c.points.type_inv in
    omega (arith, strays_size c.args.nets.now c.args.measured.now c.deref.result.now (c.deref.ensures.value ∙ c.in_ok-strays.ensures), c.points.ensures.points)

pub grouped_by_net-requires : goal.grouped_by_net-requires
grouped_by_net-requires c =
    let small = c.points.type_inv in
    all_judged c.args.nets.now c.args.measured.now c.points.ensures.valid c.requires.measured (omega (arith, c.points.ensures.points)) c.as_slice.result.now
    (by_anchor_is c.args.nets.now c.args.measured.now c.deref.result.now (c.deref.ensures.value ∙ c.in_ok-strays.ensures) c.in_ok-grouped.field-0 c.as_slice.result.now c.points.result c.points.ensures.points
    c.in_ok-grouped.ensures (c.as_slice.ensures ∙ c.in_ok-by_anchor.ensures))

pub pieces_along-requires-clause-points : goal.pieces_along-requires-clause-points
pieces_along-requires-clause-points c =
    let small = c.points.type_inv in
    let by_anchor =
    by_anchor_is c.args.nets.now c.args.measured.now c.deref.result.now (c.deref.ensures.value ∙ c.in_ok-strays.ensures) c.in_ok-grouped.field-0 c.as_slice.result.now c.points.result c.points.ensures.points
    c.in_ok-grouped.ensures (c.as_slice.ensures ∙ c.in_ok-by_anchor.ensures) in
    all_judged_by_net c.args.nets.now c.args.measured.now c.points.ensures.valid c.requires.measured (omega (arith, c.points.ensures.points)) c.as_slice-2.result.now
    (by_net_joined c.args.nets.now c.args.measured.now c.as_slice.result.now c.as_slice-2.result.now c.in_ok-grouped_by_net.field-0 by_anchor c.in_ok-grouped_by_net.ensures
    (c.as_slice-2.ensures ∙ c.in_ok-by_net.ensures))

pub returns : goal.returns
returns c =
    let small = c.points.type_inv in
    let by_anchor =
    by_anchor_is c.args.nets.now c.args.measured.now c.deref.result.now (c.deref.ensures.value ∙ c.in_ok-strays.ensures) c.in_ok-grouped.field-0 c.as_slice.result.now c.points.result c.points.ensures.points
    c.in_ok-grouped.ensures (c.as_slice.ensures ∙ c.in_ok-by_anchor.ensures) in
    let by_net =
    by_net_joined c.args.nets.now c.args.measured.now c.as_slice.result.now c.as_slice-2.result.now c.in_ok-grouped_by_net.field-0 by_anchor c.in_ok-grouped_by_net.ensures
    (c.as_slice-2.ensures ∙ c.in_ok-by_net.ensures) in
    IfOk-weaker c.pieces_along.result _ _
    (λ made e. pieces_all c.args.nets.now c.args.measured.now c.points.ensures.valid c.requires.measured (omega (arith, c.points.ensures.points)) c.as_slice-2.result.now made.items by_net e)
    c.pieces_along.ensures
