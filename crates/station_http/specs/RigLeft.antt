-- What a connection did to the rig, and that its source is at zero behind it.
use Rattle.std.specs.Prelude.{◌≡◌, ◌⊎◌, ℕ, Result, Ok, Err, ⊤}
use Rattle.rig.specs.RigState.{RigState}
use Rattle.unit_outcome.specs.Tested.{IsNotAtZero, IsCutOff}
use Rattle.serials.specs.declared.command.Command.{Command}
use Rattle.station.specs.declared.answer.Answer.{Answer}
use Rattle.station.specs.declared.stops.StepStop.{StepStop}
use Rattle.station.specs.declared.stops.StepStop.TheVariants.{Disk, NotZero, Memory}
use Rattle.station.specs.RigAfter.{AnsweredFor, LeftOrTested, GrowsTallies}
use Rattle.station.specs.View.{StationState}
use Rattle.station_http.specs.declared.serve.ServeDone.{ServeDone}
use Rattle.station_http.specs.Commanded.{OfTest}

-- A command was answered: the rig shows what its answer says, and at most the tally of its test came.
pub record DidAnswer (old new : StationState) : Type 0 where
  pub command : Command
  pub now : ℕ
  pub answer : Answer
  pub rig : AnsweredFor (OfTest old command now) old new answer
  pub tallies : GrowsTallies (OfTest old command now) old.rig new.rig

-- A command was stopped: the rig was left alone, or its test was made or cut off.
pub record DidStop (old : StationState) (rig : RigState) : Type 0 where
  pub command : Command
  pub now : ℕ
  pub test :
      LeftOrTested (OfTest old command now) old.program old.rig rig
      ⊎ OfTest old command now (λ serial attempt. IsCutOff old.program serial attempt old.rig rig)
  pub tallies : GrowsTallies (OfTest old command now) old.rig rig

-- Three zero calls of a test failed.
pub record DidNotZero (old : StationState) (rig : RigState) : Type 0 where
  pub command : Command
  pub now : ℕ
  pub test : OfTest old command now (λ serial attempt. IsNotAtZero old.program serial attempt old.rig rig)
  pub tallies : GrowsTallies (OfTest old command now) old.rig rig

-- a command was answered, and the station stopped with this rig
abbrev pub DidBehind : StationState → RigState → Type 0
DidBehind old rig = (new : StationState) × (rig ≡ new.rig) × DidAnswer old new

-- what it did to the rig: a request that came to no command left it alone
abbrev pub Does : {R D : Type 0} → (R → RigState) → StationState → Result (ServeDone R D) (StepStop R D) → Type 0
Does state old (Ok done) = (done.station.rig ≡ old.rig) ⊎ DidAnswer old done.station
Does state old (Err (Disk rig disk)) = DidStop old (state rig)
Does state old (Err (NotZero rig disk)) = DidNotZero old (state rig)
Does state old (Err (Memory rig disk)) = (state rig ≡ old.rig) ⊎ DidStop old (state rig) ⊎ DidBehind old (state rig)

-- the source is at zero, but where three zero calls failed
abbrev pub IsAtZero : {R D : Type 0} → (R → RigState) → Result (ServeDone R D) (StepStop R D) → Type 0
IsAtZero state (Ok done) = done.station.rig.volts ≡ 0
IsAtZero state (Err (Disk rig disk)) = (state rig).volts ≡ 0
IsAtZero state (Err (NotZero rig disk)) = ⊤
IsAtZero state (Err (Memory rig disk)) = (state rig).volts ≡ 0
