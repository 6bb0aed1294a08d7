-- `report`, `unit` and `export`: the journal is loaded, and what is asked is written of its records.
--     PrintsReport asked given ..    how its own work ends
--     IsReporting asked run ..       what it promises
use Rattle.std.specs.Prelude.{◌≡◌, ◌⊎◌, ℕ, List, Option, None, Some}
use Rattle.base.specs.Causes.{Rose}
use Rattle.disk_edge.specs.Disk.{DiskState}
use Rattle.records.specs.declared.record.StationRecord.{StationRecord}
use Rattle.rig_sim.specs.SimRig.{SimState}
use Rattle.ledger.specs.Opening.{Says, found}
use Rattle.reporting.specs.Reported.{Reported, WriteCause, report_text}
use Rattle.reporting.specs.declared.reporting.Report.{Report}
use Rattle.bench_cli.specs.Closing.{Sunk, IsUnasked, Wrote}
use Rattle.bench_cli.specs.Run.{Run, Given, nothing, simulator, both, LeavesAll}
use Rattle.bench_cli.specs.Told.{Is}

-- ---- how its work ends

-- what was written and what is so of the disk are the report's; no rig is handed out
pub record Printed (asked : Report) (sunk : Sunk) (disk disk_after : DiskState) (status : ℕ) (rig : Option SimState) : Type 0 where
  pub reported : Reported asked disk disk_after status sunk.got sunk.got_after
  pub cause : WriteCause sunk.faults sunk.faults_after status
  pub no_rig : rig ≡ None

abbrev pub PrintsReport : Report → Given → Run → ℕ → Option SimState → Type 0
PrintsReport asked nothing run status rig = Printed asked run.sunk run.disk run.disk_after status rig
PrintsReport asked (simulator sim) run status rig = ⊥
PrintsReport asked (both sim p) run status rig = ⊥

-- ---- what it promises

-- so it is where the disk reads as a file that keeps these records, and is no longer than a journal may be
abbrev pub OverRecords : Run → (List StationRecord → Type 0) → Type 0
OverRecords run So = (file : List ℕ) (R : List StationRecord) → run.disk.reads_as ≡ Some file → Says file (found R) → So R

-- memory ran out before the disk was asked
pub record EndsUnasked (run : Run) (status : ℕ) : Type 0 where
  pub memory : status ≡ 9
  pub unused : LeavesAll run
  pub unwritten : IsUnasked run.sunk

pub record IsReporting (asked : Report) (run : Run) (status : ℕ) (rig : Option SimState) : Type 0 where
  -- the journal was loaded and the text written, or the journal was refused; or memory ran out before
  pub came : EndsUnasked run status ⊎ Printed asked run.sunk run.disk run.disk_after status rig
  -- 0: the whole text of the records that the disk holds was written
  pub whole : status ≡ 0 → OverRecords run (λ R. Wrote run.sunk (report_text asked R))
  -- 7 only where a write failed, and 8 only where the disk did
  pub write_fault : status ≡ 7 → Rose run.sunk.faults run.sunk.faults_after
  pub disk_fault : status ≡ 8 → Rose run.disk.faults run.disk_after.faults
  -- with no failed write and no fault of the disk the text is written, unless memory runs out
  pub complete : (Rose run.sunk.faults run.sunk.faults_after → ⊥) → (Rose run.disk.faults run.disk_after.faults → ⊥) → OverRecords run (λ R. Is 0 status)
  -- no rig is handed out
  pub kept_back : rig ≡ None
