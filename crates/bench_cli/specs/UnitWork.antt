-- What the commands on one seated unit have in common.
--     WorksOn Finds Stops unit sim ..     the work on the unit ended so, and the rig is handed out
--     LacksUnit unit run                  there is no such unit in the harness file
--     ReadsAlone rig                      no voltage was ever commanded
use Rattle.std.specs.Prelude.{◌≡◌, ◌<◌, ℕ, List, [], Option, None, Some}
use Rattle.rig.specs.RigState.{RigState}
use Rattle.rig.specs.Joins.{unit_rows}
use Rattle.rig.specs.Trail.{Extends, IsReading}
use Rattle.harness.specs.declared.row.HarnessRow.{HarnessRow}
use Rattle.harness.specs.Units.{units_of}
use Rattle.rig_sim.specs.SimRig.{SimState}
use Rattle.words.specs.declared.command.UnitName.{UnitName}
use Rattle.bench_cli.specs.Closing.{Sunk, Closes, rig_fault_line, fixture_empty_line}
use Rattle.bench_cli.specs.Run.{Run}
use Rattle.bench_cli.specs.Told.{HasRows}
use Rattle.bench_cli.specs.UnitEnds.{UnitEnds}

pub record WorksOn (Finds : RigState → RigState → List ℕ → Type 0) (Stops : RigState → RigState → Type 0) (unit : UnitName) (sim : SimState)
    (sunk : Sunk) (status : ℕ) (rig : Option SimState) : Type 0 where
  pub final : SimState
  pub handed : rig ≡ Some final
  pub ends : UnitEnds Finds Stops sim.state final.state unit.serial unit.attempt sunk status

pub record LacksUnit (unit : UnitName) (run : Run) : Type 0 where
  pub rows : List HarnessRow
  pub harness : HasRows run.files rows
  pub none : unit_rows (units_of rows) unit.serial unit.attempt ≡ None
  pub line : Closes run.sunk fixture_empty_line

-- the rig counted a fault, of which there were none
pub record CountsFault (run : Run) (rig : Option SimState) : Type 0 where
  pub sim : SimState
  pub handed : rig ≡ Some sim
  pub counted : 0 < sim.state.faults
  pub line : Closes run.sunk rig_fault_line

-- of the rig that is handed out the trail has group readings alone: no route was made, and no voltage was commanded
abbrev pub ReadsAlone : Option SimState → Type 0
ReadsAlone rig = (sim : SimState) → rig ≡ Some sim → Extends IsReading (Some []) sim.state.trail
