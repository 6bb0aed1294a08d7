-- A serving from its opening on: the journal is opened, the door listens, and connections are served.
--     ServeRefused ..     the journal was refused
--     ServeOpened ..      it was opened, and the door listened or did not
use Rattle.std.specs.Prelude.{◌≡◌, ◌⊎◌, ℕ, List, Option}
use Rattle.std.specs.Option.{ForSome}
use Rattle.bench_edge.specs.Whole.{WroteFront}
use Rattle.disk_edge.specs.Disk.{DiskState, LeavesOnly}
use Rattle.door_edge.specs.Doors.{Talk}
use Rattle.journal.specs.Format.{IsSound}
use Rattle.journal.specs.Journal.{KeepsLimit}
use Rattle.rig.specs.RigState.{RigState}
use Rattle.wirelist.specs.declared.program.Program.{Program}
use Rattle.unit_outcome.specs.Found.{Findings}
use Rattle.unit_outcome.specs.Tested.{IsInOrderOf}
use Rattle.records.specs.declared.record.StationRecord.{StationRecord}
use Rattle.ledger.specs.Opening.{Opening, Opens, BeginsSound, found}
use Rattle.ledger.specs.Ledger.{Tells}
use Rattle.station.specs.View.{StationState, IsTold}
use Rattle.unopened.specs.Refused.{refused_status, refused_line}
use Rattle.script.specs.Opened.{IsRefusal, IsRunImage}
use Rattle.serving.specs.Counted.{AnswersWithin, TestsSpend}
use Rattle.serving.specs.InTurn.{ServesTold}
use Rattle.serving.specs.Tallied.{ServingShows}
use Rattle.serving.specs.Keeping.{Counts, InOrderAt, ServingKeeps}
use Rattle.serving.specs.Lines.{Closing, status_of}
use Rattle.serving.specs.Visits.{Stage, Left, EndsAtDoor, Serves}

-- ---- what is around the station

-- what the door has waiting and done, the moments to come, and what was written
pub record Around : Type 0 where
  pub waiting : Option (List (List ℕ))
  pub done : Option (List Talk)
  pub moments : Option (List ℕ)
  pub got : Option (List ℕ)

-- a station there
abbrev pub stage_at : StationState → Around → Stage
stage_at s around = record { station = s; waiting = around.waiting; done = around.done; moments = around.moments; got = around.got }

-- and what is left of one
abbrev pub left_at : RigState → DiskState → Around → Left
left_at rig disk around = record { rig = rig; disk = disk; waiting = around.waiting; done = around.done; moments = around.moments; got = around.got }

abbrev pub counts : ℕ → ℕ → ℕ → ℕ → Counts
counts out disk rig door = record { out = out; disk = disk; rig = rig; door = door }

-- ---- how it ends

-- The journal was not opened: the status and a front of the closing line say why, no connection came, and the clock was not asked.
pub record ServeRefused (began : DiskState) (old : Around) (status : ℕ) (ended : DiskState) (new : Around) : Type 0 where
  pub why : Opening
  pub refusal : IsRefusal why
  pub opens : Opens began ended why
  pub status_is : status ≡ refused_status why
  pub wrote : WroteFront old.got new.got (refused_line why)
  pub waiting : new.waiting ≡ old.waiting
  pub done : new.done ≡ old.done
  pub moments : new.moments ≡ old.moments

-- The door does not listen: the status and a front of the closing line say so, and no connection came.
pub record IsUnheard (first : Stage) (status : ℕ) (left : Left) : Type 0 where
  pub closing : Closing
  pub status_is : status ≡ status_of closing
  pub at_door : EndsAtDoor first closing left

-- The door listens, and connections were served. What is said of the rig and the disk is said of their states.
--     answers    no more answers blame the rig or the door of the fixture than its counts rose by
--     in_order   where the rig tells its units, and the door and the output are told, each connection is its reply, in order
--     tests      each test among the records that were added had a seating of its own, which counts enough for its outcome
--     spent      with 0 the group readings are those that each recorded test takes, where no unit had a wiring fault and no test was refused
pub record ServedAll (count : ℕ) (first : Stage) (status : ℕ) (left : Left) : Type 0 where
  pub serves : Serves (λ (rig : RigState). rig) (λ (disk : DiskState). disk) count first status left
  pub answers : AnswersWithin (λ (rig : RigState). rig) (λ (disk : DiskState). disk) count first status left
  pub in_order : (findings : Findings) → IsTold first.station findings → ServesTold findings first count status left
  pub tests : Tells first.station.disk → ServingShows first.station status left.rig left.disk
  pub spent : Tells first.station.disk → TestsSpend (λ (rig : RigState). rig) (λ (disk : DiskState). disk) count first status left

-- the door does not listen, or connections were served
abbrev pub ServesFrom : ℕ → Stage → ℕ → Left → Type 0
ServesFrom count first status left = IsUnheard first status left ⊎ ServedAll count first status left

-- Over a sound file: the records found are those that it keeps, and what the disk keeps at the exit. Stopped at any moment since the serving
-- began, it leaves the records found and a front of those that were added, or the records found and the one that the file's gate covered.
pub record OpenedKeeps (began : DiskState) (file : List ℕ) (R0 : List StationRecord) (station : StationState) (status : ℕ) (ended : DiskState) : Type 0 where
  pub found : station.records ≡ R0
  pub keeps : ServingKeeps station status ended
  pub stopped : LeavesOnly began ended (IsRunImage file R0 keeps.later)

-- The journal was opened, and the serving began with this station.
--     keeps    over a sound file, what the disk keeps at the exit, and what a stop at any moment leaves
--     limit    no image is longer than a journal may be, where none was
--     order    at every exit the trail is in the order of high voltage, and ended at zero, or with three zero calls that failed
pub record ServeOpened (rig0 : RigState) (program : Program) (began : DiskState) (count : ℕ) (old : Around) (status : ℕ) (rig : RigState)
    (ended : DiskState) (new : Around) : Type 0 where
  pub station : StationState
  pub rig_is : station.rig ≡ rig0
  pub program_is : station.program ≡ program
  pub opens : Opens began station.disk (found station.records)
  pub served : ServesFrom count (stage_at station old) status (left_at rig ended new)
  pub keeps : (file : List ℕ) (R0 : List StationRecord) → BeginsSound began file R0 → OpenedKeeps began file R0 station status ended
  pub limit : LeavesOnly began ended (λ image. ForSome began.reads_as IsSound → KeepsLimit began image)
  pub order : IsInOrderOf program rig0 → InOrderAt program status rig
