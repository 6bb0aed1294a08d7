-- What a check of components leaves.
--     ChecksParts p old new faults    each component was read, and these are the faults
--     StopsChecking old new stop      a call was refused
use Rattle.std.specs.Prelude.{◌≡◌, ℕ, ◌+◌, ◌*◌, ◌<◌, List, length, map, All, Option, Some, None, IsTrue, IfSome, option_map}
use Rattle.wirelist.specs.Ranges.{PartFaultsInRange}
use Rattle.wirelist.specs.declared.program.Program.{Program}
use Rattle.wirelist.specs.declared.faults.PartFault.{PartFault}
use Rattle.rig.specs.declared.event.Event.{Event}
use Rattle.rig.specs.declared.event.Tally.{Tally}
use Rattle.rig.specs.declared.rig.RigStop.{RigStop}
use Rattle.rig.specs.declared.rig.RigStop.TheVariants.{Failed, Memory as NoMemory}
use Rattle.rig.specs.Happened.{Happens, with_last}
use Rattle.rig.specs.HvOrder.{HvOrder}
use Rattle.rig.specs.RigState.{RigState}
use Rattle.rig.specs.Source.{Ends}
use Rattle.rig.specs.States.{Tested}
use Rattle.rig.specs.Trail.{IsProbe}
use Rattle.parts_check.specs.PartRule.{part_faults}
use Rattle.parts_check.specs.PartsRead.{PartsRead}
use Rattle.parts_check.specs.Probed.{Probed, ResistorRead, DiodeRead, probes_of, faults_of}
use Rattle.parts_check.specs.declared.check.PartsStop.{PartsStop}
use Rattle.parts_check.specs.declared.check.PartsStop.TheVariants.{Rig, Memory}

-- the last tally with some more readings of components
abbrev pub probed_more : ℕ → Option (List Tally) → Option (List Tally)
probed_more n tallies = option_map (with_last (λ (tally : Tally). record tally { probes = tally.probes + n })) tallies

-- Each component was read once, in order, each diode both ways, and nothing else happened.
pub record ChecksParts (p : Program) (old new : RigState) (faults : List PartFault) : Type 0 where
  pub probed : Probed
  pub resistors : map (λ (x : ResistorRead). x.part) probed.resistors ≡ p.resistors
  pub diodes : map (λ (x : DiodeRead). x.part) probed.diodes ≡ p.diodes
  pub happens : Happens old new (probes_of probed) None
  -- the faults are those that the readings give
  pub faults_are : faults ≡ faults_of probed
  -- and of an honest rig those of the unit
  pub truth : IsTrue old.honest → IfSome old.truth (λ rows. faults ≡ part_faults p rows)
  -- the trail shows them
  pub read : IfSome new.trail (λ trail. PartsRead p trail faults)
  -- one reading of each resistor and two of each diode are counted
  pub counted : new.tallies ≡ probed_more (length p.resistors + 2 * length p.diodes) old.tallies
  -- where there are any, records can keep them
  pub in_range : 0 < length faults → PartFaultsInRange faults

-- Some components were read, up to the call that was refused. Where memory ran out no fault was counted.
pub record StopsChecking (old new : RigState) (stop : RigStop) : Type 0 where
  pub events : List Event
  pub probes : All IsProbe events
  pub happens : Happens old new events (Some stop)
  pub no_fault : stop ≡ NoMemory → new.faults ≡ old.faults

-- a trail in the order of high voltage, with the source at rest, stays so
abbrev pub IsInOrder : List ℕ → List ℕ → RigState → Type 0
IsInOrder classes bonds state = IfSome state.trail (λ trail. HvOrder classes bonds trail × Ends trail)

abbrev pub StaysInOrder : RigState → RigState → Type 0
StaysInOrder old new = (classes bonds : List ℕ) → IsInOrder classes bonds old → IsInOrder classes bonds new

-- what a refused check hands back, and why it was refused
abbrev pub parts_stop_state : {R : Type 0} → PartsStop R → Tested R
parts_stop_state (Rig proven) = proven
parts_stop_state (Memory proven) = proven

abbrev pub parts_stop_cause : {R : Type 0} → PartsStop R → RigStop
parts_stop_cause (Rig proven) = Failed
parts_stop_cause (Memory proven) = NoMemory
