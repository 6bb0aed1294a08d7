-- What the test of a seated unit leaves.
use Rattle.std.specs.Prelude.{Result, Ok, Err, ◌⊎◌}
use Rattle.rig.specs.RigState.{RigState}
use Rattle.wirelist.specs.declared.outcome.Outcome.{Outcome}
use Rattle.wirelist.specs.declared.outcome.Outcome.TheVariants.{Pass, Wiring, Parts, Insulation, Withstand}
use Rattle.wirelist.specs.declared.program.Program.{Program}
use Rattle.unit_outcome.specs.Defined.{proven_charge}
use Rattle.unit_outcome.specs.Enough.{checking_readings}
use Rattle.unit_outcome.specs.declared.run.UnitRun.{UnitRun}
use Rattle.unit_outcome.specs.declared.run.UnitStop.{UnitStop}
use Rattle.sequence.specs.Stages.{FindsProven, StopsLate}
use Rattle.sequence.specs.Wired.{IsAsProgrammed, IsDifferent, StopsReading}

-- the wiring is as programmed, and these stages found the rest
pub record EndsProven (p : Program) (old new : RigState) (outcome : Outcome) : Type 0 where
  pub proven : RigState
  pub wired : IsAsProgrammed p (checking_readings p) old proven
  pub found : FindsProven p proven new outcome

abbrev pub EndsWith : Program → RigState → RigState → Outcome → Type 0
EndsWith p old new (Wiring d) = IsDifferent p (checking_readings p) old new d
EndsWith p old new Pass = EndsProven p old new Pass
EndsWith p old new (Parts faults) = EndsProven p old new (Parts faults)
EndsWith p old new (Insulation faults) = EndsProven p old new (Insulation faults)
EndsWith p old new (Withstand bit volts leak) = EndsProven p old new (Withstand bit volts leak)

-- it was stopped after the wiring was proven
pub record StopsProven {R : Type 0} (state : R → RigState) (p : Program) (old : RigState) (stop : UnitStop R) : Type 0 where
  pub proven : RigState
  pub wired : IsAsProgrammed p (checking_readings p) old proven
  pub stops : StopsLate state p (proven_charge p) proven stop

abbrev pub EndsSeated : {R : Type 0} → (R → RigState) → Program → RigState → Result (UnitRun R) (UnitStop R) → Type 0
EndsSeated state p old (Ok run) = EndsWith p old (state run.rig) run.outcome
EndsSeated state p old (Err stop) = StopsReading state p old stop ⊎ StopsProven state p old stop
