-- `continuity`: each point of a net is read against the net's head, and the text says which do not conduct.
--     ChecksUnit unit given ..     how its own work ends
--     IsCheck unit run ..          what it promises
use Rattle.std.specs.Prelude.{◌≡◌, ◌⊎◌, ◌++◌, ℕ, List, [], ◌∷◌, Option, None, Some, map, zip}
use Rattle.base.specs.Causes.{Rose}
use Rattle.rig.specs.declared.unit.Row.{Row}
use Rattle.rig.specs.Joins.{joined_classes, unit_rows}
use Rattle.harness.specs.declared.row.HarnessRow.{HarnessRow}
use Rattle.harness.specs.Places.{points_in}
use Rattle.harness.specs.Units.{units_of}
use Rattle.rig_sim.specs.SimRig.{SimState}
use Rattle.wirelist.specs.declared.program.Program.{Program}
use Rattle.continuity_check.specs.Compared.{Compared, Trial, trial_of, reading_of, checked_text, compared_of}
use Rattle.words.specs.declared.command.UnitName.{UnitName}
use Rattle.bench_cli.specs.Closing.{Sunk, Wrote, WroteSome}
use Rattle.bench_cli.specs.Findings.{ComparesAll, StopsAmong}
use Rattle.bench_cli.specs.Run.{Files, Run, Given, nothing, simulator, both}
use Rattle.bench_cli.specs.Told.{HasRows, HasProgram, Failed, FailedRead, FindsUnit, WiresInForm, Undisturbed, Is}
use Rattle.bench_cli.specs.UnitWork.{WorksOn, LacksUnit, CountsFault, ReadsAlone}

-- the points that a program compares, in order
abbrev pub compared_by : Program → List Compared
compared_by p = compared_of (zip p.names p.nets.named)

abbrev pub ChecksUnit : UnitName → Given → Sunk → ℕ → Option SimState → Type 0
ChecksUnit unit nothing sunk status rig = ⊥
ChecksUnit unit (simulator sim) sunk status rig = ⊥
ChecksUnit unit (both sim p) sunk status rig = WorksOn (ComparesAll (compared_by p)) (StopsAmong (compared_by p)) unit sim sunk status rig

-- The unit was checked: each point of a net of the wirelist, but the head, was read against the head, and nothing else was.
-- The answers are those of the unit's joins in the harness file.
pub record IsChecked (unit : UnitName) (files : Files) (sim : SimState) (trials : List Trial) : Type 0 where
  pub rows : List HarnessRow
  pub elements : List Row
  pub p : Program
  pub harness : HasRows files rows
  pub wires : HasProgram files p
  pub over : p.nets.points ≡ points_in rows
  pub found : unit_rows (units_of rows) unit.serial unit.attempt ≡ Some elements
  pub answers : trials ≡ map (trial_of (joined_classes elements (points_in rows))) (compared_by p)
  pub trail : sim.state.trail ≡ Some (map reading_of trials)

-- The check was cut off by a call of the rig that failed, and no call was made after it. What the trail has are the readings of points
-- that stand first among those to be compared; the failed one is that of the next point.
pub record IsCutOff (files : Files) (sim : SimState) (trials : List Trial) : Type 0 where
  pub p : Program
  pub next : Compared
  pub rest : List Compared
  pub wires : HasProgram files p
  pub front : compared_by p ≡ map (λ (t : Trial). t.compared) trials ++ (next ∷ rest)
  pub trail : sim.state.trail ≡ Some (map reading_of trials)

-- both files are in form, and the unit of the words is this one, or is none
pub record AreInForm (unit : UnitName) (files : Files) (rows : List HarnessRow) (found : Option (List Row)) : Type 0 where
  pub finds : FindsUnit unit files rows found
  pub wires : WiresInForm files rows

pub record IsCheck (unit : UnitName) (run : Run) (status : ℕ) (rig : Option SimState) : Type 0 where
  -- whatever the status, no voltage was commanded
  pub unpowered : ReadsAlone rig
  -- 0: the sink got exactly the text, and the trail has exactly the readings
  pub checked : status ≡ 0
      → (sim : SimState) × (trials : List Trial) × (rig ≡ Some sim) × IsChecked unit run.files sim trials × Wrote run.sunk (checked_text trials)
  -- 7 only where a write failed, in the text, after the last reading
  pub write_fault : status ≡ 7 → (sim : SimState) × (trials : List Trial) × (rig ≡ Some sim) × IsChecked unit run.files sim trials
      × Rose run.sunk.faults run.sunk.faults_after × WroteSome run.sunk (checked_text trials)
  -- 14 exactly where there is no such unit
  pub fixture_empty : status ≡ 14 → LacksUnit unit run
  pub empty_fixture : (rows : List HarnessRow) → AreInForm unit run.files rows None
      → Is 14 status ⊎ (FailedRead run.files status ⊎ (status ≡ 15))
  -- 15 only where the rig counted a fault; the failed call was the last one: the seat, or the reading of one of the points
  pub rig_fault : status ≡ 15 → CountsFault run rig
  pub last_call : status ≡ 15
      → (sim : SimState) × (rig ≡ Some sim) × ((sim.state.trail ≡ Some []) ⊎ ((trials : List Trial) × IsCutOff run.files sim trials))
  -- files in form, a unit that is there, no `fault` row and no count that rose: the text is written, unless memory runs out
  pub complete : (rows : List HarnessRow) (elements : List Row) → AreInForm unit run.files rows (Some elements) → (Failed run.files.wires → ⊥)
      → Undisturbed run rows rig → Is 0 status
