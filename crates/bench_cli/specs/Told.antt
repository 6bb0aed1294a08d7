-- What is known of the two files where their sources tell.
--     Tells read most file       the file that is read of the source, which is all of it unless it is longer than a file may be
--     Is own status              the status is this, or 9 where memory ran out
use Rattle.std.specs.Prelude.{◌≡◌, ◌⊎◌, ℕ, List, Option, Some, take, Contains}
use Rattle.base.specs.Causes.{Rose}
use Rattle.rig.specs.declared.unit.Row.{Row}
use Rattle.rig.specs.Joins.{unit_rows}
use Rattle.rig.specs.Happened.{IsBelowLast}
use Rattle.harness.specs.declared.row.HarnessRow.{HarnessRow}
use Rattle.harness.specs.declared.row.HarnessRow.TheVariants.{Fault}
use Rattle.harness.specs.declared.refusal.HarnessRefusal.{HarnessRefusal}
use Rattle.harness.specs.Places.{points_in}
use Rattle.harness.specs.Units.{units_of}
use Rattle.harness.specs.Harness.{IsHarness, IsRefused}
use Rattle.rig_sim.specs.SimRig.{SimState}
use Rattle.wirelist.specs.declared.program.Program.{Program}
use Rattle.wirelist.specs.declared.refusal.WireRefusal.{WireRefusal}
use Rattle.words.specs.declared.command.UnitName.{UnitName}
use Rattle.bench_cli.specs.Run.{Read, Files, Run, most_of_harness, most_of_wires}
use Rattle.bench_cli.specs.Wires.{IsWirelist, first_refusal}

abbrev pub Tells : Read → ℕ → List ℕ → Type 0
Tells read most file = (bytes : List ℕ) × (read.left ≡ Some bytes) × (file ≡ take most bytes)

abbrev pub TellsHarness : Files → List ℕ → Type 0
TellsHarness files file = Tells files.harness most_of_harness file

abbrev pub TellsWires : Files → List ℕ → Type 0
TellsWires files file = Tells files.wires most_of_wires file

-- a failed read of the source was counted
abbrev pub Failed : Read → Type 0
Failed read = Rose read.faults read.faults_after

-- the harness file is in form, and these are its rows
abbrev pub HasRows : Files → List HarnessRow → Type 0
HasRows files rows = (file : List ℕ) → TellsHarness files file → IsHarness file rows

-- the harness file is refused so
abbrev pub HasRefusal : Files → HarnessRefusal → Type 0
HasRefusal files refusal = (file : List ℕ) → TellsHarness files file → IsRefused file refusal

-- the wirelist has no fault, and says this program
abbrev pub HasProgram : Files → Program → Type 0
HasProgram files p = (file : List ℕ) → TellsWires files file → IsWirelist file p

-- this is the first fault of the wirelist
abbrev pub HasFault : Files → WireRefusal → Type 0
HasFault files refusal = (file : List ℕ) → TellsWires files file → first_refusal file ≡ Some refusal

-- a read of the harness failed, or of one of the two files
abbrev pub FailedHarness : Files → ℕ → Type 0
FailedHarness files status = (status ≡ 6) × Failed files.harness

abbrev pub FailedRead : Files → ℕ → Type 0
FailedRead files status = (status ≡ 6) × (Failed files.harness ⊎ Failed files.wires)

-- The status is 9 in place of its own where memory ran out; this is the one answer without a cause.
abbrev pub Is : ℕ → ℕ → Type 0
Is own status = (status ≡ own) ⊎ (status ≡ 9)

-- the harness file is told and in form
pub record HarnessInForm (files : Files) (rows : List HarnessRow) : Type 0 where
  pub file : List ℕ
  pub told : TellsHarness files file
  pub is_harness : IsHarness file rows

-- so is the wirelist, and has as many points
pub record WiresInForm (files : Files) (rows : List HarnessRow) : Type 0 where
  pub file : List ℕ
  pub told : TellsWires files file
  pub p : Program
  pub is_wirelist : IsWirelist file p
  pub over : p.nets.points ≡ points_in rows

-- the harness file is in form, and has this unit, or none
pub record FindsUnit (unit : UnitName) (files : Files) (rows : List HarnessRow) (found : Option (List Row)) : Type 0 where
  pub harness : HarnessInForm files rows
  pub unit_is : unit_rows (units_of rows) unit.serial unit.attempt ≡ found

-- no `fault` row, no failed read of the harness file, no failed write, and counts of the rig that can still rise
pub record Undisturbed (run : Run) (rows : List HarnessRow) (rig : Option SimState) : Type 0 where
  pub no_fault_row : (k : ℕ) → Contains rows (Fault k) → ⊥
  pub harness_read : Failed run.files.harness → ⊥
  pub written : Rose run.sunk.faults run.sunk.faults_after → ⊥
  pub counts : (sim : SimState) → rig ≡ Some sim → IsBelowLast sim.state.spent × IsBelowLast sim.state.seats
