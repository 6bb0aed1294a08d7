use Rattle.std.proofs.Common.{sym, ap, true}
use Rattle.std.specs.Prelude.{string_bytes}
use Rattle.std.proofs.lemmas.Map.Text.{btree_set_updates_text}
use Rattle.harness.specs.Above.{ReadRows}
use Rattle.harness.proofs.PlaceLemmas.{summary-unit}
use Rattle.harness.proofs.above.Above.with_new_unit.Goals as goal

pub invariant_of-self : goal.invariant_of-self
invariant_of-self c =
    let grown = c.in_ok-push.ensures in
    summary-unit c.self.inside.rows.rows c.push.new.self.rows c.args.serial c.self.inside.rows.numbers c.push.new.self.numbers c.args.number c.args.attempt c.self.inside.points c.self.inside.has_unit
    c.self.inside.has_charge c.self.inside.has_end c.self.inside.units c.insert.new.self (string_bytes c.args.key) c.self.invariant
    (rw (sym c.self.view_is) at c.requires.row) (ap (λ (r : ReadRows). r.rows) grown) (ap (λ (r : ReadRows). r.numbers) grown) c.requires.key
    (btree_set_updates_text (string_bytes c.args.key) c.self.inside.units c.insert.new.self true c.in_ok-insert.ensures.updates)
