-- What a trail says of components.
--     last_ohms, last_junction    the answer of the last such reading of two points
--     PartsRead p trail faults    the trail has the readings, and the last ones give the faults
use Rattle.std.specs.Prelude.{◌≡◌, ℕ, ◌==◌, ◌&&◌, List, Option, Some, None, unwrap_or, IsSome, All, fold, if◌then◌else◌}
use Rattle.wirelist.specs.declared.program.Program.{Program}
use Rattle.wirelist.specs.declared.parts.Resistor.{Resistor}
use Rattle.wirelist.specs.declared.parts.Diode.{Diode}
use Rattle.wirelist.specs.declared.faults.PartFault.{PartFault}
use Rattle.rig.specs.declared.event.Event.{Event}
use Rattle.rig.specs.declared.event.Event.TheVariants.{Ohms, Junction}
use Rattle.parts_check.specs.PartRule.{part_faults_by}

-- the answer of the last Ohms of a and b, if there is one
abbrev pub ohms_after : ℕ → ℕ → Option (Option ℕ) → Event → Option (Option ℕ)
ohms_after a b found (Ohms p q r) = if (p == a) && (q == b) then Some r else found
ohms_after a b found _ = found

abbrev pub last_ohms : List Event → ℕ → ℕ → Option (Option ℕ)
last_ohms trail a b = fold (ohms_after a b) None trail

-- the answer of the last Junction from a to b, if there is one
abbrev pub junction_after : ℕ → ℕ → Option (Option ℕ) → Event → Option (Option ℕ)
junction_after a b found (Junction p q d) = if (p == a) && (q == b) then Some d else found
junction_after a b found _ = found

abbrev pub last_junction : List Event → ℕ → ℕ → Option (Option ℕ)
last_junction trail a b = fold (junction_after a b) None trail

-- each resistor was read, each diode both ways, and the last readings give exactly these faults
pub record PartsRead (p : Program) (trail : List Event) (faults : List PartFault) : Type 0 where
  pub resistors : All (λ (part : Resistor). IsSome (last_ohms trail part.a part.b)) p.resistors
  pub diodes : All (λ (part : Diode). IsSome (last_junction trail part.from part.to) × IsSome (last_junction trail part.to part.from)) p.diodes
  pub faults_are : part_faults_by p (λ a b. unwrap_or (last_ohms trail a b) None) (λ a b. unwrap_or (last_junction trail a b) None) ≡ faults
