-- `serve`: the journal is opened, the door listens, and so many connections are served.
--     ServesDoor service given ..      how its own work ends
--     IsServing service run ..         what it promises: `opened` of HasServed says of each connection what it was replied, what its line is
--                                      and the records behind it
use Rattle.std.specs.Prelude.{◌≡◌, ◌⊎◌, ℕ, List, Option, Some, MatchOption}
use Rattle.harness.specs.declared.row.HarnessRow.{HarnessRow}
use Rattle.harness.specs.Places.{points_in}
use Rattle.harness.specs.Units.{units_of}
use Rattle.rig.specs.RigState.{RigState}
use Rattle.rig_sim.specs.SimRig.{SimState, IsNew}
use Rattle.wirelist.specs.declared.program.Program.{Program}
use Rattle.unit_outcome.specs.Found.{found_in, told_by}
use Rattle.records.specs.declared.record.StationRecord.{StationRecord}
use Rattle.ledger.specs.Opening.{BeginsSound}
use Rattle.words.specs.declared.command.Service.{Service}
use Rattle.serving.specs.Completes.{Completes}
use Rattle.serving.specs.Keeping.{Counts, Causes, InOrderAt}
use Rattle.serving.specs.InTurn.{ServesTold}
use Rattle.serving.specs.Opened.{Around, IsUnheard, ServeRefused, ServeOpened, left_at, stage_at}
use Rattle.bench_cli.specs.Run.{Run, Given, nothing, simulator, both, LeavesAll}
use Rattle.bench_cli.specs.Scripting.{EndsAtFiles, OverJournal}
use Rattle.bench_cli.specs.Told.{HasRows, HasProgram, FailedRead, HarnessInForm, WiresInForm}

-- what the door has waiting and done, the moments to come and what was written, before and after
abbrev pub around_before : Run → Around
around_before run = record { waiting = run.door.waiting; done = run.door.done; moments = run.moments; got = run.sunk.got }

abbrev pub around_after : Run → Around
around_after run = record { waiting = run.door.waiting_after; done = run.door.done_after; moments = run.moments_after; got = run.sunk.got_after }

-- how often a write of the output, the disk, the rig and the door failed
abbrev pub faults_before : Run → RigState → Counts
faults_before run rig = record { out = run.sunk.faults; disk = run.disk.faults; rig = rig.faults; door = run.door.faults }

abbrev pub faults_after : Run → RigState → Counts
faults_after run rig = record { out = run.sunk.faults_after; disk = run.disk_after.faults; rig = rig.faults; door = run.door.faults_after }

-- ---- how its work ends

-- the journal was refused, and the rig is not handed out
pub record ServingRefused (run : Run) (status : ℕ) (rig : RigState) : Type 0 where
  pub refused : ServeRefused run.disk (around_before run) status run.disk_after (around_after run)
  pub causes : Causes (faults_before run rig) (faults_after run rig) status
  pub complete : OverJournal run (Completes (faults_before run rig) (faults_after run rig) status)

-- it was opened; the door listened and connections were served, or it did not
pub record ServingOpened (service : Service) (p : Program) (run : Run) (status : ℕ) (rig final : RigState) : Type 0 where
  pub opened : ServeOpened rig p run.disk service.count (around_before run) status final run.disk_after (around_after run)
  pub causes : Causes (faults_before run rig) (faults_after run final) status
  pub complete : OverJournal run (Completes (faults_before run rig) (faults_after run final) status)

abbrev pub ServesDoor : Service → Given → Run → ℕ → Option SimState → Type 0
ServesDoor service nothing run status rig = ⊥
ServesDoor service (simulator sim) run status rig = ⊥
ServesDoor service (both sim p) run status rig =
    MatchOption rig (ServingRefused run status sim.state) (λ final. ServingOpened service p run status sim.state final.state)

-- ---- what it promises

-- The journal was opened over a new simulator of the harness file, and connections were served against the wirelist. What the rig tells
-- of each unit is the outcome that the unit's rows in the harness file and the program define. At every exit its trail is in the order of
-- high voltage, and ended at zero, or with three zero calls that failed.
pub record HasServed (service : Service) (rows : List HarnessRow) (p : Program) (run : Run) (status : ℕ) (final : RigState) : Type 0 where
  pub sim : SimState
  pub new : IsNew rows sim
  pub ends : ServingOpened service p run status sim.state final
  pub told : told_by p ends.opened.station.rig ≡ Some (found_in (units_of rows) p)
  pub order : InOrderAt p status final
  -- Over a sound file, where the door and the output are told: the door did not listen, or each connection is its reply by the records that
  -- the one before it left, and by the outcomes that the units' rows in the harness file and the program define.
  pub in_order : (file : List ℕ) (R0 : List StationRecord) → BeginsSound run.disk file R0
      → IsUnheard (stage_at ends.opened.station (around_before run)) status (left_at final run.disk_after (around_after run))
      ⊎ ServesTold (found_in (units_of rows) p) (stage_at ends.opened.station (around_before run)) service.count status
      (left_at final run.disk_after (around_after run))

-- both files are in form, with these rows and this program over as many points; the journal was opened, or refused
pub record ServedOnFiles (service : Service) (run : Run) (status : ℕ) (rig : Option SimState) : Type 0 where
  pub rows : List HarnessRow
  pub p : Program
  pub harness : HasRows run.files rows
  pub wires : HasProgram run.files p
  pub over : p.nets.points ≡ points_in rows
  pub began : SimState
  pub new : IsNew rows began
  pub ends : MatchOption rig (ServingRefused run status began.state) (λ final. HasServed service rows p run status final.state)

pub record IsServing (service : Service) (run : Run) (status : ℕ) (rig : Option SimState) : Type 0 where
  -- memory ran out before anything was read, or the run ended at one of the files, or the journal was opened or refused
  pub came : ((status ≡ 9) × LeavesAll run) ⊎ (EndsAtFiles run status rig ⊎ ServedOnFiles service run status rig)
  -- it came to the journal where both files are in form, unless a read of them failed or memory ran out
  pub reaches : (rows : List HarnessRow) → HarnessInForm run.files rows → WiresInForm run.files rows
      → ServedOnFiles service run status rig ⊎ ((status ≡ 9) ⊎ FailedRead run.files status)
