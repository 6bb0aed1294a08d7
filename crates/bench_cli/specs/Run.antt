-- What a run is given, and what its sources, its sink, its disk and its clock are after it.
--     read_by left faults s t    what a source s that became t had left and how often it had failed, by its two meanings
--     door_by waiting done faults m n    what a door m that became n had to come and had done, and how often it had failed
--     Run                        the words, what was read and written, and the disk, the clock and the door, where they tell, before and after
--     TakesFiles files given     the files that a command reads are in form, and give this
--     StaysSound old new         what a crash may leave stays sound
--     StopsAtFiles               the ways in which a run ends where one of them gives nothing
use Rattle.std.specs.Prelude.{◌≡◌, ◌≢◌, ◌++◌, [], ℕ, Bool, true, false, List, Option, None, Some, codes, decimal, unwrap_or}
use Rattle.base.specs.Causes.{Rose}
use Rattle.bench_edge.specs.Whole.{TookFirst, LostFront}
use Rattle.disk_edge.specs.Disk.{DiskState, LeavesOnly, EachImage}
use Rattle.door_edge.specs.Doors.{Talk}
use Rattle.harness.specs.declared.row.HarnessRow.{HarnessRow}
use Rattle.harness.specs.declared.refusal.HarnessRefusal.{HarnessRefusal}
use Rattle.harness.specs.Refusals.{number_of, line_of}
use Rattle.harness.specs.Harness.{IsHarness, IsRefused}
use Rattle.rig_sim.specs.SimRig.{SimState, IsNew}
use Rattle.ledger.specs.Kept.{Sound}
use Rattle.wirelist.specs.declared.program.Program.{Program}
use Rattle.wirelist.specs.declared.refusal.WireRefusal.{WireRefusal}
use Rattle.bench_cli.specs.Closing.{Sunk, IsUnasked, ClosesWith, read_fault_line}
use Rattle.bench_cli.specs.Wires.{IsWirelist, first_refusal, wires_refusal_line, points_differ_line}

-- the bytes that a source has left and its count of failed reads, before and after
pub record Read : Type 0 where
  pub left : Option (List ℕ)
  pub left_after : Option (List ℕ)
  pub faults : ℕ
  pub faults_after : ℕ

abbrev pub read_by : {S : Type 0} → (S → Option (List ℕ)) → (S → ℕ) → S → S → Read
read_by left faults old new = record { left = left old; left_after = left new; faults = faults old; faults_after = faults new }

-- the connections that a door has to come and has done, and its count of failed calls, before and after
pub record Doorway : Type 0 where
  pub waiting : Option (List (List ℕ))
  pub waiting_after : Option (List (List ℕ))
  pub done : Option (List Talk)
  pub done_after : Option (List Talk)
  pub faults : ℕ
  pub faults_after : ℕ

abbrev pub door_by : {N : Type 0} → (N → Option (List (List ℕ))) → (N → Option (List Talk)) → (N → ℕ) → N → N → Doorway
door_by waiting done faults old new =
    record { waiting = waiting old; waiting_after = waiting new; done = done old; done_after = done new; faults = faults old; faults_after = faults new }

-- the two files
pub record Files : Type 0 where
  pub harness : Read
  pub wires : Read

pub record Run : Type 0 where
  pub words : List (List ℕ)
  pub files : Files
  pub input : Read
  pub sunk : Sunk
  pub disk : DiskState
  pub disk_after : DiskState
  pub moments : Option (List ℕ)
  pub moments_after : Option (List ℕ)
  pub door : Doorway

-- how many bytes of each file are read at most: one more than it may have
abbrev pub most_of_harness : ℕ
most_of_harness = 8388609

abbrev pub most_of_wires : ℕ
most_of_wires = 1048577

-- `harness refused N`, and `line L` where it has a line
abbrev pub line_words : Option ℕ → List ℕ
line_words None = []
line_words (Some line) = codes " line " ++ decimal line

abbrev pub refusal_line : HarnessRefusal → List ℕ
refusal_line refusal = codes "harness refused " ++ (decimal (unwrap_or (number_of refusal) 0) ++ (line_words (line_of refusal) ++ codes "\n"))

-- the harness was read, and this is its simulator
pub record TakesHarness (harness : Read) (sim : SimState) : Type 0 where
  pub file : List ℕ
  pub taken : TookFirst harness.left harness.left_after most_of_harness file
  pub rows : List HarnessRow
  pub is_harness : IsHarness file rows
  pub is_new : IsNew rows sim

-- it was read, and is refused
pub record RefusesHarness (harness : Read) (refusal : HarnessRefusal) : Type 0 where
  pub file : List ℕ
  pub taken : TookFirst harness.left harness.left_after most_of_harness file
  pub is_refused : IsRefused file refusal

-- the wirelist was read, and says this program
pub record TakesWires (wires : Read) (p : Program) : Type 0 where
  pub file : List ℕ
  pub taken : TookFirst wires.left wires.left_after most_of_wires file
  pub is_wirelist : IsWirelist file p

-- it was read, and this is its first fault
pub record RefusesWires (wires : Read) (refusal : WireRefusal) : Type 0 where
  pub file : List ℕ
  pub taken : TookFirst wires.left wires.left_after most_of_wires file
  pub first : first_refusal file ≡ Some refusal

-- a read of the source failed, which may have given a front of what was left, of at most so many bytes
pub record FailsToRead (read : Read) (most : ℕ) : Type 0 where
  pub rose : Rose read.faults read.faults_after
  pub front : LostFront read.left read.left_after most

-- the source was not asked for its bytes
pub record IsUnread (read : Read) : Type 0 where
  pub left : read.left_after ≡ read.left
  pub faults : read.faults_after ≡ read.faults

-- the door was not asked
pub record IsShut (door : Doorway) : Type 0 where
  pub waiting : door.waiting_after ≡ door.waiting
  pub done : door.done_after ≡ door.done
  pub faults : door.faults_after ≡ door.faults

-- what a command does not use is left as it was
pub record LeavesUnused (reads_input uses_disk uses_clock uses_door : Bool) (run : Run) : Type 0 where
  pub input : reads_input ≡ false → IsUnread run.input
  pub disk : uses_disk ≡ false → run.disk_after ≡ run.disk
  pub clock : uses_clock ≡ false → run.moments_after ≡ run.moments
  pub door : uses_door ≡ false → IsShut run.door

-- input, disk, clock and door are left as they were
abbrev pub LeavesAll : Run → Type 0
LeavesAll run = LeavesUnused false false false false run

-- A crash at any moment since leaves what might have been left before, or a sound image. Where every image was sound before, every one is.
pub record StaysSound (old new : DiskState) : Type 0 where
  pub stopped : LeavesOnly old new Sound
  pub exit : EachImage old Sound → EachImage new Sound

-- what the files that a command reads give: nothing where it reads none, the simulator of a harness, or that and a program
pub data Given : Type 0 where
  nothing : Given
  simulator : SimState → Given
  both : SimState → Program → Given

-- the two are of as many points
pub record TakesBoth (files : Files) (sim : SimState) (p : Program) : Type 0 where
  pub harness : TakesHarness files.harness sim
  pub wires : TakesWires files.wires p
  pub same : p.nets.points ≡ sim.state.points

abbrev pub TakesFiles : Files → Given → Type 0
TakesFiles files nothing = IsUnread files.harness × IsUnread files.wires
TakesFiles files (simulator sim) = TakesHarness files.harness sim × IsUnread files.wires
TakesFiles files (both sim p) = TakesBoth files sim p

-- A file gave nothing. In each of these ways the status may be 9 in place of its own, where memory ran out. What is handed out is the
-- simulator, where the harness file gave one.
pub data StopsAtFiles (wired : Bool) (files : Files) (sunk : Sunk) : ℕ → Option SimState → Type 0 where
  -- the harness file gave no simulator, and the wirelist was not read
  harness_fault : {status : ℕ} → FailsToRead files.harness most_of_harness → IsUnread files.wires
      → ClosesWith sunk read_fault_line 6 status → StopsAtFiles wired files sunk status None
  harness_refused : {status : ℕ} → (refusal : HarnessRefusal) → RefusesHarness files.harness refusal → IsUnread files.wires
      → ClosesWith sunk (refusal_line refusal) 3 status → StopsAtFiles wired files sunk status None
  harness_memory : LostFront files.harness.left files.harness.left_after most_of_harness → IsUnread files.wires
      → IsUnasked sunk → StopsAtFiles wired files sunk 9 None
  -- the wirelist gave no program
  wires_fault : {status : ℕ} → wired ≡ true → (sim : SimState) → TakesHarness files.harness sim → FailsToRead files.wires most_of_wires
      → ClosesWith sunk read_fault_line 6 status → StopsAtFiles wired files sunk status (Some sim)
  wires_refused : {status : ℕ} → wired ≡ true → (sim : SimState) → TakesHarness files.harness sim
      → (refusal : WireRefusal) → RefusesWires files.wires refusal → ClosesWith sunk (wires_refusal_line refusal) 4 status
      → StopsAtFiles wired files sunk status (Some sim)
  wires_memory : wired ≡ true → (sim : SimState) → TakesHarness files.harness sim
      → LostFront files.wires.left files.wires.left_after most_of_wires → IsUnasked sunk → StopsAtFiles wired files sunk 9 (Some sim)
  -- both are in form, and are of other numbers of points
  points_differ : {status : ℕ} → wired ≡ true → (sim : SimState) → TakesHarness files.harness sim → (p : Program) → TakesWires files.wires p
      → p.nets.points ≢ sim.state.points → ClosesWith sunk (points_differ_line sim.state.points p.nets.points) 13 status
      → StopsAtFiles wired files sunk status (Some sim)

-- a command comes to an end: at its files, or by its own work on what they give
pub data Comes (wired : Bool) (files : Files) (sunk : Sunk) (Works : Given → Sunk → ℕ → Option SimState → Type 0) (status : ℕ)
    (rig : Option SimState) : Type 0 where
  at_files : StopsAtFiles wired files sunk status rig → Comes wired files sunk Works status rig
  by_work : (given : Given) → TakesFiles files given → Works given sunk status rig → Comes wired files sunk Works status rig
