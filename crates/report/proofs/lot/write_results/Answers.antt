use Rattle.std.proofs.Common.{ℕ, ◌++◌, ◌∙◌, ap}
use Rattle.std.specs.Prelude.{codes, decimal}
use Rattle.outcome_lines.proofs.Appending.{start, more, last}
use Rattle.report.proofs.lot.write_results.Goals as goal

pub returns : goal.returns
returns c =
    let all = more (start c.args.out.now (codes "results ") _ c.in_ok-push_str.ensures.ok) _ _ (c.in_ok-write_decimal.ensures.ok ∙ ap (λ (n : ℕ). c.push_str.new.self ++ decimal n) c.total.ensures) in
    let pass = more (more all _ _ c.in_ok-push_str-2.ensures.ok) _ _ c.in_ok-write_decimal-2.ensures.ok in
    let wiring = more (more pass _ _ c.in_ok-push_str-3.ensures.ok) _ _ c.in_ok-write_decimal-3.ensures.ok in
    let parts = more (more wiring _ _ c.in_ok-push_str-4.ensures.ok) _ _ c.in_ok-write_decimal-4.ensures.ok in
    let insulation = more (more parts _ _ c.in_ok-push_str-5.ensures.ok) _ _ c.in_ok-write_decimal-5.ensures.ok in
    let withstand = more (more insulation _ _ c.in_ok-push_str-6.ensures.ok) _ _ c.in_ok-write_decimal-6.ensures.ok in
    last withstand _ _ _ c.push_str-7.ensures.ok
