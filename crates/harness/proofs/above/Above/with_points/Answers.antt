use Rattle.std.proofs.Common.{sym, ap}
use Rattle.harness.specs.Above.{ReadRows}
use Rattle.harness.proofs.PlaceLemmas.{summary-first}
use Rattle.harness.proofs.above.Above.with_points.Goals as goal

pub invariant_of-self : goal.invariant_of-self
invariant_of-self c =
    let here = rw (sym c.self.view_is) at c.requires in
    let grown = c.in_ok-push.ensures in
    summary-first c.self.inside.rows.rows c.push.new.self.rows c.self.inside.rows.numbers c.push.new.self.numbers c.args.number c.args.points c.self.inside.points c.self.inside.has_unit c.self.inside.has_charge
    c.self.inside.has_end c.self.inside.units c.self.invariant here (ap (λ (r : ReadRows). r.rows) grown) (ap (λ (r : ReadRows). r.numbers) grown)
