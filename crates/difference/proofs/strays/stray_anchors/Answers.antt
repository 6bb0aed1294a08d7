use Rattle.std.proofs.Common.{◌≡◌, ◌∙◌, ap, arith, map}
use Rattle.partition.specs.Classes.{points_below}
use Rattle.difference.specs.Measured.{stray_anchor}
use Rattle.difference.proofs.StraySteps.{strays_more}
use Rattle.difference.proofs.strays.stray_anchors.Goals as goal

pub loop-p-preserved : goal.loop-p-preserved
loop-p-preserved c = strays_more c.args.nets.now c.args.measured.now _ _ c.loop-p.p c.stray_anchor.result c.loop-p.invariant c.stray_anchor.ensures c.in_ok-push.ensures.items

pub returns : goal.returns
returns c =
    let last : c.loop-p.p ≡ c.args.nets.now.points = omega (arith, c.points-p-end.ensures.points) in
    c.loop-p.invariant ∙ ap (λ n. map (stray_anchor c.args.nets.now c.args.measured.now) (points_below n)) last
