-- What a command made of the station, answered or not. Each field is what `apply` says of it.
use Rattle.std.specs.Prelude.{◌≡◌, ◌⊎◌, ◌≤◌, ℕ, List}
use Rattle.base.specs.Causes.{Rose}
use Rattle.disk_edge.specs.Disk.{DiskState, LeavesOnly, EachImage}
use Rattle.journal.specs.Journal.{KeepsLimit}
use Rattle.rig.specs.RigState.{RigState}
use Rattle.partition.specs.NetTable.{programmed_of}
use Rattle.wirelist.specs.Clusters.{cluster_classes}
use Rattle.applications.specs.Ordered.{IsStuckInOrder}
use Rattle.unit_outcome.specs.Found.{Findings}
use Rattle.unit_outcome.specs.Tested.{IsNotAtZero, IsCutOff}
use Rattle.ledger.specs.Kept.{IsImageOf}
use Rattle.ledger.specs.Ledger.{Tells}
use Rattle.serials.specs.declared.command.Command.{Command}
use Rattle.station.specs.declared.answer.Answer.{Answer}
use Rattle.station.specs.declared.stops.StepStop.{StepStop}
use Rattle.station.specs.declared.stops.StepStop.TheVariants.{Disk, NotZero, Memory}
use Rattle.station.specs.Ended.{End, replied, stuck, lost, Ends, EndsBy}
use Rattle.station.specs.RigAfter.{Bears, TestOf, AnsweredFor, LeftOrTested, StaysOrKeeps, GrowsTallies, StaysInOrder}
use Rattle.station.specs.Step.{answered, Step, decision_at}
use Rattle.station.specs.View.{StationState, IsTold, IsStanding, Same}

-- the command is a test that is to be made, and P holds of its serial and its attempt
abbrev pub OfTest : StationState → Command → ℕ → (List ℕ → ℕ → Type 0) → Type 0
OfTest old c now P = TestOf c (decision_at old.program old.records c now) P

-- the end is a step's: by what the rig tells of each unit, or else by something that it may have found
pub record IsStep (old : StationState) (c : Command) (now : ℕ) (end : End) : Type 0 where
  pub told : (findings : Findings) → IsTold old findings → Ends old end (Step findings old.program old.records c now)
  pub some : Tells old.disk → (findings : Findings) × Ends old end (Step findings old.program old.records c now)

-- whatever comes of a command: no image is longer than a journal may be, where none was; no count falls; the rig says of itself what it
-- said, and at most the tally of its test came
pub record GoesOn (old : StationState) (c : Command) (now : ℕ) (rig : RigState) (disk : DiskState) : Type 0 where
  pub limit : LeavesOnly old.disk disk (KeepsLimit old.disk)
  pub disk_later : old.disk.faults ≤ disk.faults
  pub rig_kept : StaysOrKeeps old.rig rig
  pub tallies : GrowsTallies (OfTest old c now) old.rig rig

-- The command was answered.
pub record WasAnswered (old : StationState) (c : Command) (now : ℕ) (a : Answer) (new : StationState) : Type 0 where
  pub step : IsStep old c now (replied (answered a) new)
  pub standing : IsStanding new
  pub same : Same old new
  pub goes_on : GoesOn old c now new.rig new.disk
  pub rig : AnsweredFor (OfTest old c now) old new a
  pub order : StaysInOrder old.program old.rig new.rig

-- The disk failed, and counted it. What a crash may keep of the command the rig shows.
pub record FailedOnDisk (old : StationState) (c : Command) (now : ℕ) (rig : RigState) (disk : DiskState) : Type 0 where
  pub step : IsStep old c now (lost disk)
  pub bears : Tells old.disk → EndsBy old (lost disk) (λ f reply later. Step f old.program old.records c now reply later × Bears old disk later rig)
  pub rose : Rose old.disk.faults disk.faults
  pub at_zero : rig.volts ≡ 0
  pub goes_on : GoesOn old c now rig disk
  pub tested : LeftOrTested (OfTest old c now) old.program old.rig rig
  pub order : StaysInOrder old.program old.rig rig

-- Three zero calls failed, and each image keeps just the records before.
pub record WasStuck (old : StationState) (c : Command) (now : ℕ) (rig : RigState) (disk : DiskState) : Type 0 where
  pub step : IsStep old c now (stuck disk)
  pub kept : EachImage disk (IsImageOf old.records)
  pub goes_on : GoesOn old c now rig disk
  pub tested : OfTest old c now (λ serial attempt. IsNotAtZero old.program serial attempt old.rig rig)
  pub order : IsStuckInOrder (programmed_of old.program.nets) (cluster_classes old.program) rig

-- Memory ran out. What a crash may keep of the command the rig shows.
pub record RanOut (old : StationState) (c : Command) (now : ℕ) (rig : RigState) (disk : DiskState) : Type 0 where
  pub step : IsStep old c now (lost disk)
  pub bears : Tells old.disk → EndsBy old (lost disk) (λ f reply later. Step f old.program old.records c now reply later × Bears old disk later rig)
  pub at_zero : rig.volts ≡ 0
  pub goes_on : GoesOn old c now rig disk
  pub tested : LeftOrTested (OfTest old c now) old.program old.rig rig ⊎ OfTest old c now (λ serial attempt. IsCutOff old.program serial attempt old.rig rig)
  pub order : StaysInOrder old.program old.rig rig

-- It ends the station.
abbrev pub WasStopped : {R D : Type 0} → (R → RigState) → (D → DiskState) → StationState → Command → ℕ → StepStop R D → Type 0
WasStopped rig_state disk_state old c now (Disk rig disk) = FailedOnDisk old c now (rig_state rig) (disk_state disk)
WasStopped rig_state disk_state old c now (NotZero rig disk) = WasStuck old c now (rig_state rig) (disk_state disk)
WasStopped rig_state disk_state old c now (Memory rig disk) = RanOut old c now (rig_state rig) (disk_state disk)
