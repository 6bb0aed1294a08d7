use Rattle.std.proofs.Common.{ℕ, ◌∷◌, ap, sym, ◌∙◌, arith}
use Rattle.std.specs.Fmt.{decimal}
use Rattle.wirelist.proofs.PrintingLemmas.{points_more}
use Rattle.wirelist.proofs.printing.print_points.Goals as goal

pub loop-point-preserved : goal.loop-point-preserved
loop-point-preserved c =
    let field = c.as_bytes.ensures.value ∙ c.in_ok-field.ensures.ok ∙ ap (λ (x : ℕ). 44 ∷ decimal x) c.point.view_is in
    points_more c.args.text.now c.loop-point.text c.append.new.self c.as_bytes.result.now c.args.points.now c.loop-point.point-index c.point-item.result
    (omega (arith, c.loop-point-test.true)) (sym c.point-item.is) c.loop-point.invariant c.in_ok-append.ensures.ok field
