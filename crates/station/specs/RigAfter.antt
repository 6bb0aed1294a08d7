-- What a command did to the rig, by what it answers.
--     Leaves p body old new          what the record that was stored says of the rig
--     RigEnds state Of old result    the same of each answer and each stop
use Rattle.std.specs.Prelude.{◌≡◌, ◌⊎◌, ◌-◌, ℕ, List, length, IfSome, Result, Ok, Err}
use Rattle.std.specs.List.{slice_get}
use Rattle.base.specs.Causes.{Rose}
use Rattle.disk_edge.specs.Disk.{DiskState}
use Rattle.rig.specs.RigState.{RigState}
use Rattle.wirelist.specs.declared.outcome.Outcome.{Outcome}
use Rattle.wirelist.specs.declared.program.Program.{Program}
use Rattle.partition.specs.NetTable.{programmed_of}
use Rattle.wirelist.specs.Clusters.{cluster_classes}
use Rattle.applications.specs.Ordered.{IsStuckInOrder}
use Rattle.unit_outcome.specs.Tested.{IsTested, IsEmpty, IsOpen, IsCharged, IsCutOff, IsNotAtZero, Keeps, AddsTally, IsTallyOf, IsInOrderOf}
use Rattle.records.specs.declared.record.Body.{Body}
use Rattle.records.specs.declared.record.Body.TheVariants as body
use Rattle.records.specs.declared.record.StationRecord.{StationRecord}
use Rattle.serials.specs.declared.command.Command.{Command}
use Rattle.serials.specs.declared.command.Command.TheVariants as command
use Rattle.serials.specs.declared.decision.Decision.{Decision}
use Rattle.serials.specs.declared.decision.Decision.TheVariants as decision
use Rattle.station.specs.declared.answer.Answer.{Answer}
use Rattle.station.specs.declared.answer.Answer.TheVariants as answer
use Rattle.station.specs.declared.answer.Refused.{Refused}
use Rattle.station.specs.declared.answer.Refused.TheVariants as refused
use Rattle.station.specs.declared.station.StepDone.{StepDone}
use Rattle.station.specs.declared.stops.StepStop.{StepStop}
use Rattle.station.specs.declared.stops.StepStop.TheVariants.{Disk, NotZero, Memory}
use Rattle.station.specs.View.{StationState}

-- the command is the test of a serial, it is to be made with this attempt, and P holds of both
abbrev pub TestOf : Command → Decision → (List ℕ → ℕ → Type 0) → Type 0
TestOf (command.Test id serial staff) (decision.Test attempt) P = P serial attempt
TestOf c d P = ⊥

-- a test found what its record states, and all that is said of a unit with an outcome holds; for every other record the rig was left alone
abbrev pub Leaves : Program → Body → RigState → RigState → Type 0
Leaves p (body.Tested serial attempt staff outcome) old new = IsTested p serial attempt old new outcome
Leaves p (body.Adopt q) old new = new ≡ old
Leaves p (body.Enrol serial) old new = new ≡ old
Leaves p (body.Calibrate day) old new = new ≡ old
Leaves p (body.Rework serial) old new = new ≡ old
Leaves p (body.Release serial) old new = new ≡ old
Leaves p (body.Scrap serial) old new = new ≡ old
Leaves p body.Mark old new = new ≡ old

-- so it is for the last of these records
abbrev pub LeavesFor : Program → List StationRecord → RigState → RigState → Type 0
LeavesFor p R old new = IfSome (slice_get R (length R - 1)) (λ (r : StationRecord). Leaves p r.body old new)

-- The records behind, where a crash may keep one more, are what the rig shows: nothing was written, or no record came, or the last one is
-- what was found.
abbrev pub Bears : StationState → DiskState → List StationRecord → RigState → Type 0
Bears old disk later new = (disk ≡ old.disk) ⊎ (later ≡ old.records) ⊎ LeavesFor old.program later old.rig new

-- Below, `Of P` says that P holds of the serial and the attempt of the command's test.

-- a refusal: the rig was left alone, or the test of the unit shows the cause
abbrev pub RefusedFor : ((List ℕ → ℕ → Type 0) → Type 0) → Program → RigState → RigState → Refused → Type 0
RefusedFor Of p old new (refused.Rule r) = new ≡ old
RefusedFor Of p old new refused.Full = new ≡ old
RefusedFor Of p old new refused.Empty = Of (λ serial attempt. IsEmpty serial attempt old new)
RefusedFor Of p old new refused.Door = Of (λ serial attempt. IsOpen p serial attempt old new)
RefusedFor Of p old new (refused.Charged volts) = Of (λ serial attempt. IsCharged p serial attempt old new volts)
RefusedFor Of p old new refused.RigFault = Of (λ serial attempt. IsCutOff p serial attempt old new) × Rose old.faults new.faults

-- a test was made, whose outcome may not be kept
abbrev pub WasTested : Program → RigState → RigState → List ℕ → ℕ → Type 0
WasTested p old new serial attempt = (outcome : Outcome) × IsTested p serial attempt old new outcome

-- the rig was left alone, or the command's test was made
abbrev pub LeftOrTested : ((List ℕ → ℕ → Type 0) → Type 0) → Program → RigState → RigState → Type 0
LeftOrTested Of p old new = (new ≡ old) ⊎ Of (WasTested p old new)

-- for a stored record the rig was left alone, or the command's test was made; for the same answer again it was left alone
abbrev pub AnsweredFor : ((List ℕ → ℕ → Type 0) → Type 0) → StationState → StationState → Answer → Type 0
AnsweredFor Of old new (answer.Stored number v) = LeavesFor old.program new.records old.rig new.rig × LeftOrTested Of old.program old.rig new.rig
AnsweredFor Of old new (answer.Same number v) = new.rig ≡ old.rig
AnsweredFor Of old new (answer.No why) = RefusedFor Of old.program old.rig new.rig why

-- Where the disk fails or memory runs out the rig was left alone, or a test was made or cut off. Three zero calls that failed end a test.
abbrev pub RigEnds : {R D : Type 0} → (R → RigState) → ((List ℕ → ℕ → Type 0) → Type 0) → StationState
    → Result (StepDone R D) (StepStop R D) → Type 0
RigEnds state Of old (Ok done) = AnsweredFor Of old done.station done.answer
RigEnds state Of old (Err (Disk rig disk)) = LeftOrTested Of old.program old.rig (state rig)
RigEnds state Of old (Err (NotZero rig disk)) = Of (λ serial attempt. IsNotAtZero old.program serial attempt old.rig (state rig))
RigEnds state Of old (Err (Memory rig disk)) =
    LeftOrTested Of old.program old.rig (state rig) ⊎ Of (λ serial attempt. IsCutOff old.program serial attempt old.rig (state rig))

-- ---- what follows for every answer and stop

-- the rig says of itself what it said, and no count fell
abbrev pub StaysOrKeeps : RigState → RigState → Type 0
StaysOrKeeps old new = (new ≡ old) ⊎ Keeps old new

-- no tally came, or one of this test did
abbrev pub GrowsTallies : ((List ℕ → ℕ → Type 0) → Type 0) → RigState → RigState → Type 0
GrowsTallies Of old new = (new.tallies ≡ old.tallies) ⊎ Of (λ serial attempt. AddsTally (IsTallyOf serial attempt) old new)

-- no seat answered, and the trail is that before; or it is in the order of high voltage and ended at zero
abbrev pub StaysInOrder : Program → RigState → RigState → Type 0
StaysInOrder p old new = (new.trail ≡ old.trail) ⊎ IsInOrderOf p new

-- where three zero calls failed, it is in this order and ended with them
abbrev pub VoltageEnds : {R D : Type 0} → (R → RigState) → StationState → Result (StepDone R D) (StepStop R D) → Type 0
VoltageEnds state old (Ok done) = StaysInOrder old.program old.rig done.station.rig
VoltageEnds state old (Err (Disk rig disk)) = StaysInOrder old.program old.rig (state rig)
VoltageEnds state old (Err (NotZero rig disk)) = IsStuckInOrder (programmed_of old.program.nets) (cluster_classes old.program) (state rig)
VoltageEnds state old (Err (Memory rig disk)) = StaysInOrder old.program old.rig (state rig)
