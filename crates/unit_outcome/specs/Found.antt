-- What the harness file and the program say of each unit.
--     Found                      the outcome of a unit, and the volts that outlast its discharge
--     found_in units p           what a list of units and a program say of each serial and attempt
--     told_by p state            the same of a rig, where it is honest and tells its units and its events
--     HasOutcome, StopsSo        how the test of a unit ends, of which this is known
use Rattle.std.specs.Prelude.{◌≡◌, ℕ, ◌&&◌, List, Option, Some, None, is_some, option_map, ⊤, if◌then◌else◌}
use Rattle.rig.specs.Joins.{unit_rows}
use Rattle.rig.specs.RigState.{RigState}
use Rattle.rig.specs.declared.unit.Row.{Row}
use Rattle.rig.specs.declared.unit.Unit.{Unit}
use Rattle.wirelist.specs.declared.outcome.Outcome.{Outcome}
use Rattle.wirelist.specs.declared.program.Program.{Program}
use Rattle.unit_outcome.specs.Defined.{charged_of, outcome_of}
use Rattle.unit_outcome.specs.declared.run.UnitStop.{UnitStop}
use Rattle.unit_outcome.specs.declared.run.UnitStop.TheVariants.{Empty, InterlockOpen, NotDischarged, RigFault, NotZero, Memory}

-- what the test of a unit states, and the volts that outlast its discharge
pub record Found : Type 0 where
  pub outcome : Outcome
  pub charged : Option ℕ

-- of each serial and attempt; none where there is no such unit
abbrev pub Findings : Type 0
Findings = List ℕ → ℕ → Option Found

abbrev pub found_of : Program → List Row → Found
found_of p rows = record { outcome = outcome_of p rows; charged = charged_of p rows }

-- what a list of units and a program say
abbrev pub found_in : List Unit → Program → Findings
found_in units p serial attempt = option_map (found_of p) (unit_rows units serial attempt)

-- what a rig says, where it is honest and tells its units and its events
abbrev pub told_by : Program → RigState → Option Findings
told_by p state = if state.honest && is_some state.trail then option_map (λ (units : List Unit). found_in units p) state.units else None

-- there is such a unit
abbrev pub IsThere : Option Found → Type 0
IsThere unit = (found : Found) × (unit ≡ Some found)

-- the unit is there, is discharged, and has this outcome
pub record HasOutcome (unit : Option Found) (outcome : Outcome) : Type 0 where
  pub found : Found
  pub there : unit ≡ Some found
  pub discharged : found.charged ≡ None
  pub outcome_is : outcome ≡ found.outcome

-- a test of this unit stops so
abbrev pub StopsSo : {R : Type 0} → Option Found → UnitStop R → Type 0
StopsSo unit (Empty rig) = unit ≡ None
StopsSo unit (InterlockOpen rig) = IsThere unit
StopsSo unit (NotDischarged rig volts) = (found : Found) × (unit ≡ Some found) × (found.charged ≡ Some volts)
StopsSo unit (RigFault rig) = ⊤
StopsSo unit (NotZero stuck) = IsThere unit
StopsSo unit (Memory rig) = ⊤
