-- `import`: the journal is opened, and the rows of the input are answered.
--     ImportsRows given ..      how its own work ends
--     IsImporting run ..        what it promises: the crash promise and the answers are `headline` of HasImported
use Rattle.std.specs.Prelude.{◌≡◌, ◌⊎◌, ℕ, List, Option, Some, MatchOption}
use Rattle.harness.specs.declared.row.HarnessRow.{HarnessRow}
use Rattle.harness.specs.Places.{points_in}
use Rattle.harness.specs.Units.{units_of}
use Rattle.rig.specs.RigState.{RigState}
use Rattle.rig_sim.specs.SimRig.{SimState, IsNew}
use Rattle.wirelist.specs.declared.program.Program.{Program}
use Rattle.records.specs.declared.record.StationRecord.{StationRecord}
use Rattle.unit_outcome.specs.Found.{found_in}
use Rattle.ledger.specs.Opening.{BeginsSound}
use Rattle.script.specs.Causes.{Causes, Completes}
use Rattle.importing.specs.Imported.{ImportAnswered, ImportUnanswered, ImportOpened, ImportHeadline}
use Rattle.bench_cli.specs.Run.{Run, Given, nothing, simulator, both, LeavesAll}
use Rattle.bench_cli.specs.Scripting.{Refused, EndsAtFiles, OverJournal, counts_before, counts_after}
use Rattle.bench_cli.specs.Told.{HasRows, HasProgram, FailedRead, HarnessInForm, WiresInForm}

-- ---- how its work ends

-- the journal was opened, and the input was taken in
pub record Imported (p : Program) (run : Run) (status : ℕ) (rig final : RigState) : Type 0 where
  pub opened : ImportOpened rig p run.disk run.sunk.got run.moments run.input.left status final
      run.disk_after run.sunk.got_after run.moments_after run.input.left_after
  pub causes : Causes (counts_before run rig) (counts_after run final) status
  pub complete : OverJournal run (Completes (counts_before run rig) (counts_after run final) status)

abbrev pub ImportsRows : Given → Run → ℕ → Option SimState → Type 0
ImportsRows nothing run status rig = ⊥
ImportsRows (simulator sim) run status rig = ⊥
ImportsRows (both sim p) run status rig = MatchOption rig (Refused run status sim.state) (λ final. Imported p run status sim.state final.state)

-- ---- what it promises

-- The rows were answered, over a new simulator of the harness file.
-- `headline` is said of a disk that is honest, tells, and begins with a sound file: a file that keeps the records R0. What the output had
-- got, the moments and the input are those that are told.
pub record AnsweredRows (rows : List HarnessRow) (p : Program) (run : Run) (status : ℕ) (began final : RigState) : Type 0 where
  pub rows_answered : ImportAnswered began p run.disk run.sunk.got run.moments run.input.left status final
      run.disk_after run.sunk.got_after run.input.left_after
  pub headline : (file : List ℕ) (R0 : List StationRecord) → BeginsSound run.disk file R0
      → (got moments input : List ℕ) → run.sunk.got ≡ Some got → run.moments ≡ Some moments → run.input.left ≡ Some input
      → ImportHeadline run.disk file R0 rows_answered.begun.station (record { findings = found_in (units_of rows) p; got = got; moments = moments })
      rows_answered.rows status run.disk_after run.sunk.got_after

-- the journal was opened; the input asked nothing and no row was answered, or its rows were
pub record HasImported (rows : List HarnessRow) (p : Program) (run : Run) (status : ℕ) (final : RigState) : Type 0 where
  pub sim : SimState
  pub new : IsNew rows sim
  pub causes : Causes (counts_before run sim.state) (counts_after run final) status
  pub complete : OverJournal run (Completes (counts_before run sim.state) (counts_after run final) status)
  pub came : ImportUnanswered sim.state p run.disk run.sunk.got run.moments run.input.left status final run.disk_after run.sunk.got_after run.moments_after
      ⊎ AnsweredRows rows p run status sim.state final

-- both files are in form, with these rows and this program over as many points; the journal was opened, or refused
pub record ImportedOnFiles (run : Run) (status : ℕ) (rig : Option SimState) : Type 0 where
  pub rows : List HarnessRow
  pub p : Program
  pub harness : HasRows run.files rows
  pub wires : HasProgram run.files p
  pub over : p.nets.points ≡ points_in rows
  pub began : SimState
  pub new : IsNew rows began
  pub ends : MatchOption rig (Refused run status began.state) (λ final. HasImported rows p run status final.state)

pub record IsImporting (run : Run) (status : ℕ) (rig : Option SimState) : Type 0 where
  -- memory ran out before anything was read, or the run ended at one of the files, or the journal was opened or refused
  pub came : ((status ≡ 9) × LeavesAll run) ⊎ (EndsAtFiles run status rig ⊎ ImportedOnFiles run status rig)
  -- it came to the journal where both files are in form, unless a read of them failed or memory ran out
  pub reaches : (rows : List HarnessRow) → HarnessInForm run.files rows → WiresInForm run.files rows
      → ImportedOnFiles run status rig ⊎ ((status ≡ 9) ⊎ FailedRead run.files status)
