use Rattle.std.proofs.Common.{◌≡◌, Bool, true, false, refl, sym, ◌∙◌, ap, subst}
use Rattle.std.specs.Prelude.{◌||◌}
use Rattle.harness.specs.Places.{is_end, is_first, Stands}
use Rattle.harness.specs.Above.{ReadRows}
use Rattle.harness.proofs.PlaceLemmas.{summary-other}
use Rattle.harness.proofs.above.Above.with_other.Goals as goal
use Rattle.harness.proofs.above.Above.with_other.Goals.{then-self, else-self}

or_own : (a b : Bool) → a ≡ true → a ≡ (a || b)
or_own true b h = refl
or_own false b h = cc

or_other : (a b : Bool) → a ≡ false → b ≡ (a || b)
or_other true b h = cc
or_other false b h = refl

pub invariant_of-self : goal.invariant_of-self
invariant_of-self c =
    let grown = c.in_ok-push.ensures in
    let here = subst (λ (r : ReadRows). Stands r.rows c.args.row) (sym c.self.view_is) c.requires.stands in
    let below = subst (λ (r : ReadRows). is_first r.rows ≡ false) (sym c.self.view_is) c.requires.later in
    let end_is : c.if-self.self ≡ (c.self.inside.has_end || is_end c.args.row) = elim c.if-self.branch [
      | then-self w ↦ w.self-is ∙ or_own c.self.inside.has_end (is_end c.args.row) w.if-self.true
      | else-self w ↦ w.self-is ∙ w.is_last.ensures ∙ or_other c.self.inside.has_end (is_end c.args.row) w.if-self.false
    ] in
    summary-other c.self.inside.rows.rows c.push.new.self.rows c.args.row c.self.inside.rows.numbers c.push.new.self.numbers c.args.number c.self.inside.points c.self.inside.has_unit c.self.inside.has_charge
    c.has_charge_after.result c.self.inside.has_end c.if-self.self c.self.inside.units c.self.invariant here (ap (λ (r : ReadRows). r.rows) grown) (ap (λ (r : ReadRows). r.numbers) grown) below c.requires.other
    c.has_charge_after.ensures end_is
