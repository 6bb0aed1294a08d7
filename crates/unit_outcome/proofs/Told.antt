-- What a rig tells of its units stays.
use Rattle.std.proofs.Common.{◌≡◌, Bool, List, Option, None, ◌∙◌, ap, if◌then◌else◌}
use Rattle.std.specs.Prelude.{◌&&◌, is_some, option_map}
use Rattle.rig.specs.RigState.{RigState}
use Rattle.rig.specs.declared.unit.Unit.{Unit}
use Rattle.wirelist.specs.declared.program.Program.{Program}
use Rattle.unit_outcome.specs.Found.{Findings, found_in, told_by}
use Rattle.unit_outcome.specs.Tested.{Keeps}

telling : Program → Bool → Bool → Option (List Unit) → Option Findings
telling p honest trail units = if honest && trail then option_map (λ (list : List Unit). found_in list p) units else None

pub told_stays : (p : Program) {old new : RigState} → Keeps old new → told_by p new ≡ told_by p old
unfolding telling
told_stays p {old} {new} keeps =
    let first : telling p new.honest (is_some new.trail) new.units ≡ telling p old.honest (is_some new.trail) new.units = ap (λ (b : Bool). telling p b (is_some new.trail) new.units) keeps.honest in
    let second : telling p old.honest (is_some new.trail) new.units ≡ telling p old.honest (is_some old.trail) new.units = ap (λ (b : Bool). telling p old.honest b new.units) keeps.trail in
    let third : telling p old.honest (is_some old.trail) new.units ≡ telling p old.honest (is_some old.trail) old.units = ap (telling p old.honest (is_some old.trail)) keeps.units in
    first ∙ second ∙ third
