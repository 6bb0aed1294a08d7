-- How a command ends.
use Rattle.std.specs.Prelude.{◌≡◌, ◌+◌, true, List, [], ◌∷◌, ◌++◌, length, Result, Ok, Err, IfSome, ⊤}
use Rattle.base.specs.Causes.{Rose}
use Rattle.disk_edge.specs.Disk.{DiskState, LeavesOnly, EachImage}
use Rattle.rig.specs.RigState.{RigState}
use Rattle.unit_outcome.specs.Found.{Findings, told_by}
use Rattle.records.specs.declared.record.StationRecord.{StationRecord}
use Rattle.ledger.specs.Kept.{IsImageOf, IsImageOfEither}
use Rattle.station.specs.declared.answer.Answer.{Answer}
use Rattle.station.specs.declared.answer.Answer.TheVariants as answer
use Rattle.serials.specs.declared.decision.Decision.{Decision}
use Rattle.serials.specs.declared.decision.Decision.TheVariants as decision
use Rattle.station.specs.declared.answer.Refused.{Refused}
use Rattle.station.specs.declared.answer.Refused.TheVariants as refused
use Rattle.station.specs.declared.station.StepDone.{StepDone}
use Rattle.station.specs.declared.stops.StepStop.{StepStop}
use Rattle.station.specs.declared.stops.StepStop.TheVariants.{Disk, NotZero, Memory}
use Rattle.station.specs.View.{StationState}
use Rattle.station.specs.Step.{Reply, answered, not_at_zero, keeps, verdict_in}

-- a reply and the station behind it; three failed zero calls, or no reply at all, and the disk
pub data End : Type 0 where
  replied : Reply → StationState → End
  stuck : DiskState → End
  lost : DiskState → End

-- its disk
abbrev pub disk_after : End → DiskState
disk_after (replied reply station) = station.disk
disk_after (stuck disk) = disk
disk_after (lost disk) = disk

-- the reply that was given, where one was, and the records behind it; where none was, the reply is an answer
abbrev pub Gives : List StationRecord → End → Reply → List StationRecord → Type 0
Gives before (replied reply station) r later = (r ≡ reply) × (later ≡ station.records)
Gives before (stuck disk) r later = (r ≡ not_at_zero) × (later ≡ before)
Gives before (lost disk) r later = (a : Answer) × (r ≡ answered a)

-- Some reply and the records behind it are allowed. They are those that were given; where none was, a crash leaves the records
-- before, or those.
pub record Ends (old : StationState) (end : End) (Allowed : Reply → List StationRecord → Type 0) : Type 0 where
  pub reply : Reply
  pub later : List StationRecord
  pub allowed : Allowed reply later
  pub given : Gives old.records end reply later
  pub images : LeavesOnly old.disk (disk_after end) (IsImageOfEither old.records later)

-- It ends so by some findings, which are those that the rig tells, where it does.
pub record EndsBy (old : StationState) (end : End) (Allowed : Findings → Reply → List StationRecord → Type 0) : Type 0 where
  pub findings : Findings
  pub told : IfSome (told_by old.program old.rig) (λ told. findings ≡ told)
  pub ends : Ends old end (Allowed findings)

-- a record is stored, where there is room
abbrev pub Stores : List StationRecord → StationRecord → Reply → List StationRecord → Type 0
Stores R r reply later = (reply ≡ answered (keeps R r).0) × (later ≡ (keeps R r).1)

-- the record stands behind the others, or there was no room
abbrev pub StoredOr : StationState → StationRecord → List StationRecord → Answer → Type 0
StoredOr old r later (answer.Stored number v) = later ≡ old.records ++ r ∷ []
StoredOr old r later (answer.Same number v) = ⊥
StoredOr old r later (answer.No why) = (why ≡ refused.Full) × (old.full ≡ true)

-- Whatever the disk tells: a stored record stands behind those before, with its number, and any other answer leaves them.
abbrev pub LeavesRecords : List StationRecord → List StationRecord → Answer → Type 0
LeavesRecords before after (answer.Stored number v) = (r : StationRecord) × (after ≡ before ++ r ∷ []) × (number ≡ length before + 1) × (v ≡ verdict_in r.body)
LeavesRecords before after (answer.Same number v) = after ≡ before
LeavesRecords before after (answer.No why) = after ≡ before

-- a record is to be kept, or a test to be made
abbrev pub IsToDo : Decision → Type 0
IsToDo (decision.Same number) = ⊥
IsToDo (decision.No r) = ⊥
IsToDo decision.Keep = ⊤
IsToDo (decision.Test attempt) = ⊤

-- a test is to be made
abbrev pub IsToTest : Decision → Type 0
IsToTest (decision.Test attempt) = ⊤
IsToTest others = ⊥

abbrev pub RefusesBy : Decision → Refused → Type 0
RefusesBy d (refused.Rule r) = d ≡ decision.No r
RefusesBy d refused.Full = IsToDo d
RefusesBy d others = IsToTest d

-- an answer by the rules is that of the decision, and any other comes only where something is to be done
abbrev pub AnswersBy : Decision → Answer → Type 0
AnswersBy d (answer.Stored number v) = IsToDo d
AnswersBy d (answer.Same number v) = d ≡ decision.Same number
AnswersBy d (answer.No why) = RefusesBy d why

-- how it ended, by what it answers
abbrev pub end_of : {R D : Type 0} → (D → DiskState) → Result (StepDone R D) (StepStop R D) → End
end_of state (Ok done) = replied (answered done.answer) done.station
end_of state (Err (Disk rig disk)) = lost (state disk)
end_of state (Err (NotZero rig disk)) = stuck (state disk)
end_of state (Err (Memory rig disk)) = lost (state disk)

-- the rig behind a command
abbrev pub rig_after : {R D : Type 0} → (R → RigState) → Result (StepDone R D) (StepStop R D) → RigState
rig_after state (Ok done) = done.station.rig
rig_after state (Err (Disk rig disk)) = state rig
rig_after state (Err (NotZero rig disk)) = state rig
rig_after state (Err (Memory rig disk)) = state rig

-- as a record is stored
abbrev pub StopsStoring : {R D : Type 0} → (D → DiskState) → StationState → StepStop R D → Type 0
StopsStoring disk_state old (Disk rig disk) = Rose old.disk.faults (disk_state disk).faults
StopsStoring disk_state old (NotZero rig disk) = ⊥
StopsStoring disk_state old (Memory rig disk) = ⊤

-- a disk that failed has counted a fault, and the source is at zero, but where three zero calls failed; then each image keeps just
-- the records before
abbrev pub StopsFor : {R D : Type 0} → (R → RigState) → (D → DiskState) → StationState → StepStop R D → Type 0
StopsFor rig_state disk_state old (Disk rig disk) = Rose old.disk.faults (disk_state disk).faults × ((rig_state rig).volts ≡ 0)
StopsFor rig_state disk_state old (NotZero rig disk) = EachImage (disk_state disk) (IsImageOf old.records)
StopsFor rig_state disk_state old (Memory rig disk) = (rig_state rig).volts ≡ 0
