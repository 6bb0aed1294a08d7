-- `learn`: the unit's wiring is learned by readings alone, and the text is the program that it gives.
--     LearnsUnit unit given ..     how its own work ends
--     IsLearning unit run ..       what it promises
use Rattle.std.specs.Prelude.{◌≡◌, ◌⊎◌, ◌≤◌, ◌+◌, ℕ, List, [], Option, None, Some, length}
use Rattle.base.specs.Causes.{Rose}
use Rattle.partition.specs.Heads.{heads}
use Rattle.rig.specs.declared.unit.Row.{Row}
use Rattle.rig.specs.Joins.{joined_classes, unit_rows}
use Rattle.rig.specs.Trail.{Determines, Extends, IsReading}
use Rattle.harness.specs.declared.row.HarnessRow.{HarnessRow}
use Rattle.harness.specs.Places.{points_in}
use Rattle.harness.specs.Units.{units_of}
use Rattle.rig_sim.specs.SimRig.{SimState}
use Rattle.learn.specs.Learned.{most_readings}
use Rattle.learned_program.specs.LearnedProgram.{learned_text}
use Rattle.words.specs.declared.command.UnitName.{UnitName}
use Rattle.bench_cli.specs.Closing.{Sunk, Wrote, WroteSome}
use Rattle.bench_cli.specs.Findings.{LearnsAll, StopsLearning}
use Rattle.bench_cli.specs.Run.{Files, Run, Given, nothing, simulator, both}
use Rattle.bench_cli.specs.Told.{HasRows, FailedHarness, FindsUnit, Undisturbed, Is}
use Rattle.bench_cli.specs.UnitWork.{WorksOn, LacksUnit, CountsFault, ReadsAlone}

abbrev pub LearnsUnit : UnitName → Given → Sunk → ℕ → Option SimState → Type 0
LearnsUnit unit nothing sunk status rig = ⊥
LearnsUnit unit (simulator sim) sunk status rig = WorksOn LearnsAll StopsLearning unit sim sunk status rig
LearnsUnit unit (both sim p) sunk status rig = ⊥

-- The unit was learned by readings alone, within the bounds on their number.
-- The readings determine the classes, which are those of the unit's joins in the harness file.
pub record HasLearned (unit : UnitName) (files : Files) (sim : SimState) (classes : List ℕ) : Type 0 where
  pub rows : List HarnessRow
  pub elements : List Row
  pub harness : HasRows files rows
  pub found : unit_rows (units_of rows) unit.serial unit.attempt ≡ Some elements
  pub truth : classes ≡ joined_classes elements (points_in rows)
  pub trail : Extends IsReading (Some []) sim.state.trail
  pub determined : Determines sim.state classes
  pub at_least : length classes ≤ sim.state.spent + length (heads classes)
  pub at_most : sim.state.spent ≤ most_readings (length classes) (length (heads classes))

pub record IsLearning (unit : UnitName) (run : Run) (status : ℕ) (rig : Option SimState) : Type 0 where
  -- whatever the status, no voltage was commanded
  pub unpowered : ReadsAlone rig
  -- 0: the sink got exactly the program of the unit's joins
  pub learned : status ≡ 0
      → (sim : SimState) × (classes : List ℕ) × (rig ≡ Some sim) × HasLearned unit run.files sim classes × Wrote run.sunk (learned_text classes)
  -- 7 only where a write failed, in the text, after the last reading
  pub write_fault : status ≡ 7 → (sim : SimState) × (classes : List ℕ) × (rig ≡ Some sim) × HasLearned unit run.files sim classes
      × Rose run.sunk.faults run.sunk.faults_after × WroteSome run.sunk (learned_text classes)
  -- 14 exactly where there is no such unit
  pub fixture_empty : status ≡ 14 → LacksUnit unit run
  pub empty_fixture : (rows : List HarnessRow) → FindsUnit unit run.files rows None → Is 14 status ⊎ (FailedHarness run.files status ⊎ (status ≡ 15))
  -- 15 only where the rig counted a fault
  pub rig_fault : status ≡ 15 → CountsFault run rig
  -- the harness in form, a unit that is there, no `fault` row and no count that rose: the text is written, unless memory runs out
  pub complete : (rows : List HarnessRow) (elements : List Row) → FindsUnit unit run.files rows (Some elements)
      → Undisturbed run rows rig → Is 0 status
