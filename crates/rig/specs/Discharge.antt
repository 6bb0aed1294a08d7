-- How a unit is discharged.
use Rattle.std.specs.Prelude.{◌≡◌, ◌<◌, ◌≤◌, ◌⊎◌, ◌++◌, ℕ, List, [], ◌∷◌, length, All, Option, Some, None, Result, Ok, Err, IsTrue, IfSome}
use Rattle.std.specs.Result.{result_err}
use Rattle.rig.specs.declared.event.Event.{Event}
use Rattle.rig.specs.declared.event.Event.TheVariants.{Residual, Tick}
use Rattle.rig.specs.declared.rig.RigStop.{RigStop}
use Rattle.rig.specs.declared.rig.RigStop.TheVariants.{Failed, Memory as NoMemory}
use Rattle.rig.specs.declared.safe.DischargeStop.{DischargeStop}
use Rattle.rig.specs.declared.safe.DischargeStop.TheVariants.{NotDischarged, Rig, Memory}
use Rattle.rig.specs.RigState.{RigState}
use Rattle.rig.specs.Happened.{Happens}
use Rattle.rig.specs.Source.{source_of, residual_of}
use Rattle.rig.specs.Values.{charge_of}

-- a unit with at most so many volts is discharged
abbrev pub discharged_volts : ℕ
discharged_volts = 30

-- the ticks that are waited for
abbrev pub most_waits : ℕ
most_waits = 100

-- the volts that were read, with a tick after each
abbrev pub waited : List ℕ → List Event
waited [] = []
waited (v ∷ vs) = Residual v ∷ Tick ∷ waited vs

-- what was read last, after these waits: at most 30 volts; more of them, after 100 ticks; or a refusal before a reading, or after one that
-- fewer than 100 ticks went before
abbrev pub WaitEnds : Result (Option ℕ) RigStop → List ℕ → List Event → Type 0
WaitEnds (Ok None) waits last = (v : ℕ) × (v ≤ discharged_volts) × (last ≡ Residual v ∷ [])
WaitEnds (Ok (Some v)) waits last = (discharged_volts < v) × (length waits ≡ most_waits) × (last ≡ Residual v ∷ [])
WaitEnds (Err e) waits last = (last ≡ []) ⊎ ((v : ℕ) × (length waits < most_waits) × (last ≡ Residual v ∷ []))

-- an honest rig's last reading is what the unit's charge leaves after the events before it
abbrev pub IsTrueCharge : RigState → List Event → List Event → Type 0
IsTrueCharge old before [] = Unit {0}
IsTrueCharge old before (Residual v ∷ more) =
    IsTrue old.honest → IfSome old.truth (λ rows. IfSome old.trail (λ trail. v ≡ residual_of (charge_of rows) (source_of (trail ++ before))))
IsTrueCharge old before (_ ∷ more) = Unit {0}

-- The volts on the unit are read, and a tick is waited for as long as they are above 30, at most 100 times.
pub record Waits (old new : RigState) (result : Result (Option ℕ) RigStop) : Type 0 where
  pub waits : List ℕ
  pub last : List Event
  pub above : All (λ v. discharged_volts < v) waits
  pub few : length waits ≤ most_waits
  pub ends : WaitEnds result waits last
  pub happens : Happens old new (waited waits ++ last) (result_err result)
  pub truth : IsTrueCharge old (waited waits) last

-- what the rig's calls gave, where a discharge ended without success
abbrev pub discharge_answer : {R : Type 0} → DischargeStop R → Result (Option ℕ) RigStop
discharge_answer (NotDischarged safe v) = Ok (Some v)
discharge_answer (Rig safe) = Err Failed
discharge_answer (Memory safe) = Err NoMemory
