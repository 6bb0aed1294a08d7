use Rattle.std.proofs.Common.{ℕ, List, ◌∙◌, ap}
use Rattle.std.specs.BTreeSet.{contains_text}
use Rattle.std.specs.List.{list_any}
use Rattle.harness.specs.Places.{is_unit_of}
use Rattle.harness.specs.Above.{ReadRows}
use Rattle.harness.proofs.above.Above.has_key.Goals as goal

pub returns : goal.returns
returns c =
    c.contains.ensures
    ∙ ap (λ (key : List ℕ). contains_text c.self.inside.units key) c.requires
    ∙ c.self.invariant.units_are c.args.serial.now c.args.attempt
    ∙ ap (list_any (is_unit_of c.args.serial.now c.args.attempt)) (ap (λ (r : ReadRows). r.rows) c.self.view_is)
