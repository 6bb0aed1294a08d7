-- `run`: the journal is opened, and the commands of the script are answered line by line.
--     RunsScript given ..        how its own work ends
--     IsScripting run ..         what it promises: the headline is `headline` of HasRun
use Rattle.std.specs.Prelude.{◌≡◌, ◌⊎◌, ℕ, true, List, Option, Some, MatchOption}
use Rattle.rig.specs.RigState.{RigState}
use Rattle.harness.specs.declared.row.HarnessRow.{HarnessRow}
use Rattle.harness.specs.Places.{points_in}
use Rattle.harness.specs.Units.{units_of}
use Rattle.rig_sim.specs.SimRig.{SimState, IsNew}
use Rattle.wirelist.specs.declared.program.Program.{Program}
use Rattle.records.specs.declared.record.StationRecord.{StationRecord}
use Rattle.unit_outcome.specs.Found.{found_in}
use Rattle.ledger.specs.Opening.{BeginsSound, Says, found}
use Rattle.script.specs.Causes.{Counts, Causes, Completes}
use Rattle.script.specs.Opened.{RunOpened, RunRefused, RunHeadline}
use Rattle.bench_cli.specs.Run.{Run, Given, nothing, simulator, both, StopsAtFiles, LeavesAll}
use Rattle.bench_cli.specs.Told.{HasRows, HasProgram, FailedRead, HarnessInForm, WiresInForm}

-- how often a read of the input, a write of the output, the disk and the rig failed
abbrev pub counts_before : Run → RigState → Counts
counts_before run rig = record { input = run.input.faults; out = run.sunk.faults; disk = run.disk.faults; rig = rig.faults }

abbrev pub counts_after : Run → RigState → Counts
counts_after run rig = record { input = run.input.faults_after; out = run.sunk.faults_after; disk = run.disk_after.faults; rig = rig.faults }

-- so it is where the disk reads as a file of records that is no longer than a journal may be
abbrev pub OverJournal : Run → Type 0 → Type 0
OverJournal run So = (file : List ℕ) (R0 : List StationRecord) → run.disk.reads_as ≡ Some file → Says file (found R0) → So

-- ---- how its work ends

-- the journal was refused, and the rig is not handed out
pub record Refused (run : Run) (status : ℕ) (rig : RigState) : Type 0 where
  pub refused : RunRefused run.disk run.sunk.got run.moments run.input.left status run.disk_after run.sunk.got_after run.moments_after run.input.left_after
  pub causes : Causes (counts_before run rig) (counts_after run rig) status
  pub complete : OverJournal run (Completes (counts_before run rig) (counts_after run rig) status)

-- it was opened
pub record Opened (p : Program) (run : Run) (status : ℕ) (rig final : RigState) : Type 0 where
  pub opened : RunOpened rig p run.disk run.sunk.got run.moments run.input.left status final run.disk_after run.sunk.got_after run.input.left_after
  pub causes : Causes (counts_before run rig) (counts_after run final) status
  pub complete : OverJournal run (Completes (counts_before run rig) (counts_after run final) status)

abbrev pub RunsScript : Given → Run → ℕ → Option SimState → Type 0
RunsScript nothing run status rig = ⊥
RunsScript (simulator sim) run status rig = ⊥
RunsScript (both sim p) run status rig = MatchOption rig (Refused run status sim.state) (λ final. Opened p run status sim.state final.state)

-- ---- what it promises

-- The journal was opened over a new simulator of the harness file, and the script was run against the wirelist.
-- `headline` is said of a disk that is honest, tells, and begins with a sound file: a file that keeps the records R0. What the output had
-- got, the moments and the script are those that are told. What is said of each unit is the outcome that the unit's rows in the harness
-- file and the program define.
pub record HasRun (rows : List HarnessRow) (p : Program) (run : Run) (status : ℕ) (final : RigState) : Type 0 where
  pub sim : SimState
  pub new : IsNew rows sim
  pub ends : Opened p run status sim.state final
  pub headline : (file : List ℕ) (R0 : List StationRecord) → BeginsSound run.disk file R0
      → (got moments script : List ℕ) → run.sunk.got ≡ Some got → run.moments ≡ Some moments → run.input.left ≡ Some script
      → RunHeadline run.disk file R0 ends.opened.station (record { findings = found_in (units_of rows) p; got = got; moments = moments }) script
      run.input.left_after status run.disk_after run.sunk.got_after

-- both files are in form, with these rows and this program over as many points; the journal was opened, or refused
pub record RanOnFiles (run : Run) (status : ℕ) (rig : Option SimState) : Type 0 where
  pub rows : List HarnessRow
  pub p : Program
  pub harness : HasRows run.files rows
  pub wires : HasProgram run.files p
  pub over : p.nets.points ≡ points_in rows
  pub began : SimState
  pub new : IsNew rows began
  pub ends : MatchOption rig (Refused run status began.state) (λ final. HasRun rows p run status final.state)

-- one of the files gave nothing; input, disk and clock were left as they were
pub record EndsAtFiles (run : Run) (status : ℕ) (rig : Option SimState) : Type 0 where
  pub stops : StopsAtFiles true run.files run.sunk status rig
  pub unused : LeavesAll run

pub record IsScripting (run : Run) (status : ℕ) (rig : Option SimState) : Type 0 where
  -- memory ran out before anything was read, or the run ended at one of the files, or the journal was opened or refused
  pub came : ((status ≡ 9) × LeavesAll run) ⊎ (EndsAtFiles run status rig ⊎ RanOnFiles run status rig)
  -- it came to the journal where both files are in form, unless a read of them failed or memory ran out
  pub reaches : (rows : List HarnessRow) → HarnessInForm run.files rows → WiresInForm run.files rows
      → RanOnFiles run status rig ⊎ ((status ≡ 9) ⊎ FailedRead run.files status)
