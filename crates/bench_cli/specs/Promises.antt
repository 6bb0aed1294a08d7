-- What a run of the program promises, of its words, the bytes that its sources had left, what its sink got, its disk, its status and the
-- rig that it hands out.
use Rattle.std.specs.Prelude.{◌≡◌, ◌≢◌, ◌⊎◌, ℕ, true, List, Option, None, Some}
use Rattle.base.specs.Causes.{Rose}
use Rattle.bench_edge.specs.Whole.{LostFront}
use Rattle.harness.specs.declared.row.HarnessRow.{HarnessRow}
use Rattle.harness.specs.declared.refusal.HarnessRefusal.{HarnessRefusal}
use Rattle.harness.specs.Places.{points_in}
use Rattle.harness.specs.Harness.{IsHarness, IsRefused}
use Rattle.rig_sim.specs.SimRig.{SimState}
use Rattle.wirelist.specs.declared.program.Program.{Program}
use Rattle.wirelist.specs.declared.refusal.WireRefusal.{WireRefusal}
use Rattle.records.specs.declared.record.StationRecord.{StationRecord}
use Rattle.ledger.specs.Opening.{BeginsSound}
use Rattle.words.specs.declared.command.Command.{Command}
use Rattle.words.specs.Words.{Asks, IsCommand}
use Rattle.bench_cli.specs.Commands.{AsksFor, reads_harness, reads_wires, reads_input, uses_disk, uses_clock, uses_door}
use Rattle.bench_cli.specs.Closing.{Closes, CountsNone, usage_line, read_fault_line}
use Rattle.bench_cli.specs.Run.{Run, IsUnread, IsShut, StaysSound, most_of_harness, most_of_wires, refusal_line}
use Rattle.bench_cli.specs.Told.{TellsHarness, TellsWires, Failed, HasRows, HasRefusal, HasProgram, HasFault, FailedHarness, FailedRead, Is}
use Rattle.bench_cli.specs.Wires.{IsWirelist, first_refusal, wires_refusal_line, points_differ_line}
use Rattle.bench_cli.specs.Ends.{Ends}
use Rattle.bench_cli.specs.Works.{Obeys}

-- a read failed of a file that the command reads, and nothing but the line was written; or of the input
abbrev pub IsReadFault : Run → Type 0
IsReadFault run =
    (((AsksFor reads_harness run.words × Failed run.files.harness) ⊎ (AsksFor reads_wires run.words × Failed run.files.wires))
    × Closes run.sunk read_fault_line)
    ⊎ (AsksFor reads_input run.words × Failed run.input)

pub record IsRun (run : Run) (status : ℕ) (rig : Option SimState) : Type 0 where
  -- each run ends in one of these ways
  pub ends : Ends run status rig
  -- the command was obeyed: what this means for each stands in a file of its own
  pub obeyed : (command : Command) → Asks run.words command → Obeys command run status rig
  -- 2 exactly where the words are no command
  pub no_command : status ≡ 2 → (IsCommand run.words → ⊥) × Closes run.sunk usage_line
  pub usage : (IsCommand run.words → ⊥) → Is 2 status
  pub commanded : Is 2 status ⊎ IsCommand run.words
  -- a source that is not asked for is left alone, and no more is read of a file than it may have, and a byte
  pub unread : (AsksFor reads_harness run.words → ⊥) → IsUnread run.files.harness
  pub wires_unread : (AsksFor reads_wires run.words → ⊥) ⊎ ((rig ≡ None) × (AsksFor uses_disk run.words → ⊥)) → IsUnread run.files.wires
  pub input_unread : (AsksFor reads_input run.words → ⊥) → IsUnread run.input
  pub harness_front : LostFront run.files.harness.left run.files.harness.left_after most_of_harness
  pub wires_front : LostFront run.files.wires.left run.files.wires.left_after most_of_wires
  -- a disk, a clock and a door that are not asked for are left as they were
  pub disk_unused : (AsksFor uses_disk run.words → ⊥) → run.disk_after ≡ run.disk
  pub clock_unused : (AsksFor uses_clock run.words → ⊥) → run.moments_after ≡ run.moments
  pub door_unused : (AsksFor uses_door run.words → ⊥) → IsShut run.door
  -- over a disk whose file is sound, whatever the command and its status, what a crash may leave stays sound
  pub sound : (file : List ℕ) (R0 : List StationRecord) → BeginsSound run.disk file R0 → StaysSound run.disk run.disk_after
  -- 3 exactly where the harness file is asked for and refused; the line says why
  pub harness_refused : status ≡ 3 → AsksFor reads_harness run.words
      × (refusal : HarnessRefusal) × HasRefusal run.files refusal × Closes run.sunk (refusal_line refusal)
  pub refused_harness : AsksFor reads_harness run.words → (file : List ℕ) (refusal : HarnessRefusal) → TellsHarness run.files file → IsRefused file refusal
      → Is 3 status ⊎ FailedHarness run.files status
  -- 4 exactly where the wirelist is asked for and refused; the line says why
  pub wires_refused : status ≡ 4 → AsksFor reads_wires run.words × (rows : List HarnessRow) × HasRows run.files rows
      × (refusal : WireRefusal) × HasFault run.files refusal × Closes run.sunk (wires_refusal_line refusal)
  pub refused_wires : AsksFor reads_wires run.words → (harness wires : List ℕ) (rows : List HarnessRow) (refusal : WireRefusal)
      → TellsHarness run.files harness → IsHarness harness rows → TellsWires run.files wires → first_refusal wires ≡ Some refusal
      → Is 4 status ⊎ FailedRead run.files status
  -- 13 exactly where both are asked for and in form, and have other numbers of points
  pub points_differ : status ≡ 13 → AsksFor reads_wires run.words × (rows : List HarnessRow) × HasRows run.files rows
      × (p : Program) × HasProgram run.files p × (p.nets.points ≢ points_in rows) × Closes run.sunk (points_differ_line (points_in rows) p.nets.points)
  pub differing_points : AsksFor reads_wires run.words → (harness wires : List ℕ) (rows : List HarnessRow) (p : Program)
      → TellsHarness run.files harness → IsHarness harness rows → TellsWires run.files wires → IsWirelist wires p
      → p.nets.points ≢ points_in rows → Is 13 status ⊎ FailedRead run.files status
  -- 6 only where a read failed of a source that the command reads
  pub read_fault : status ≡ 6 → IsReadFault run
  -- 11 only where the door failed of a command that uses it
  pub network_fault : status ≡ 11 → AsksFor uses_door run.words × Rose run.door.faults run.door.faults_after
  -- 9 in place of no failed write, but of a command that uses the disk
  pub no_memory : status ≡ 9 → (AsksFor uses_disk run.words → ⊥) → CountsNone run.sunk
  -- of a command that reads the harness file, the rig is handed out exactly where that was read, and no mounting was refused
  pub handed_out : (sim : SimState) → rig ≡ Some sim → (command : Command) × Asks run.words command
      × (reads_harness command ≡ true → (rows : List HarnessRow) × HasRows run.files rows)
  pub kept_back : rig ≡ None → AsksFor reads_harness run.words → (file : List ℕ) (rows : List HarnessRow) → TellsHarness run.files file → IsHarness file rows
      → (status ≡ 9) ⊎ (FailedHarness run.files status ⊎ (AsksFor uses_disk run.words × ((status ≡ 5) ⊎ (status ≡ 8))))
