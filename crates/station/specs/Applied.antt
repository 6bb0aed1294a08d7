-- All that is so after a command, as one record, of which the contract of `apply` has each part.
use Rattle.std.specs.Prelude.{◌≡◌, ◌≤◌, ℕ, List, Result, IfOk, IfErr, ⊤}
use Rattle.disk_edge.specs.Disk.{DiskState, LeavesOnly}
use Rattle.journal.specs.Journal.{KeepsLimit}
use Rattle.rig.specs.RigState.{RigState}
use Rattle.wirelist.specs.declared.program.Program.{Program}
use Rattle.unit_outcome.specs.Found.{Findings}
use Rattle.unit_outcome.specs.declared.run.UnitStop.{UnitStop}
use Rattle.unit_outcome.specs.declared.run.UnitStop.TheVariants.{Empty, InterlockOpen, NotDischarged, RigFault, NotZero, Memory}
use Rattle.records.specs.declared.record.StationRecord.{StationRecord}
use Rattle.ledger.specs.Ledger.{LedgerState, Tells}
use Rattle.station.specs.declared.station.StepDone.{StepDone}
use Rattle.station.specs.declared.stops.StepStop.{StepStop}
use Rattle.station.specs.AnswerText.{HasDays}
use Rattle.station.specs.View.{StationState, IsManned, IsStanding, Same}
use Rattle.station.specs.Step.{Reply}
use Rattle.station.specs.Ended.{Ends, EndsBy, Stores, StoredOr, StopsStoring, StopsFor, disk_after, rig_after, end_of}
use Rattle.station.specs.RigAfter.{Bears, RigEnds, StaysOrKeeps}

-- the station of a rig and of what else there is
abbrev pub station_of : RigState → LedgerState → Program → StationState
station_of rig ledger p = record { rig = rig; disk = ledger.disk; program = p; records = ledger.records; full = ledger.full }

-- A command: the reply and the records are allowed; `Of P` says that P holds of the serial and the attempt of its test.
pub record Applied {R D : Type 0} (rig_state : R → RigState) (disk_state : D → DiskState) (Of : (List ℕ → ℕ → Type 0) → Type 0)
    (Allowed : Findings → Reply → List StationRecord → Type 0) (old : StationState) (result : Result (StepDone R D) (StepStop R D)) : Type 0 where
  pub step : Tells old.disk → EndsBy old (end_of disk_state result) Allowed
  pub bears : Tells old.disk → EndsBy old (end_of disk_state result)
      (λ findings reply later. Allowed findings reply later × Bears old (disk_after (end_of disk_state result)) later (rig_after rig_state result))
  pub days : IfOk result (λ done. HasDays done.answer)
  pub standing : IfOk result (λ done. IsStanding done.station)
  pub same : IfOk result (λ done. Same old done.station)
  pub stop : IfErr result (StopsFor rig_state disk_state old)
  pub limit : LeavesOnly old.disk (disk_after (end_of disk_state result)) (KeepsLimit old.disk)
  pub disk_later : old.disk.faults ≤ (disk_after (end_of disk_state result)).faults
  pub rig : RigEnds rig_state Of old result
  pub rig_kept : StaysOrKeeps old.rig (rig_after rig_state result)

-- The storing of a record, which leaves the rig alone.
pub record Storing {R D : Type 0} (rig_state : R → RigState) (disk_state : D → DiskState) (r : StationRecord) (old : StationState)
    (result : Result (StepDone R D) (StepStop R D)) : Type 0 where
  pub step : Tells old.disk → Ends old (end_of disk_state result) (Stores old.records r)
  pub answers : IfOk result (λ done. StoredOr old r done.station.records done.answer)
  pub standing : IfOk result (λ done. IsStanding done.station)
  pub program : IfOk result (λ done. done.station.program ≡ old.program)
  pub stop : IfErr result (StopsStoring disk_state old)
  pub limit : LeavesOnly old.disk (disk_after (end_of disk_state result)) (KeepsLimit old.disk)
  pub disk_later : old.disk.faults ≤ (disk_after (end_of disk_state result)).faults
  pub rig : rig_after rig_state result ≡ old.rig

-- but for a source that is not at zero, a test that was stopped leaves the rig manned
abbrev pub LeavesManned : {R : Type 0} → (R → RigState) → Program → UnitStop R → Type 0
LeavesManned state p (Empty rig) = IsManned (state rig) p
LeavesManned state p (InterlockOpen rig) = IsManned (state rig) p
LeavesManned state p (NotDischarged rig volts) = IsManned (state rig) p
LeavesManned state p (RigFault rig) = IsManned (state rig) p
LeavesManned state p (NotZero rig) = ⊤
LeavesManned state p (Memory rig) = IsManned (state rig) p
