-- What each command reads and uses beside its words. A new command has a line in each.
--     AsksFor test words       the words ask for a command that does
use Rattle.std.specs.Prelude.{◌≡◌, List, ℕ, Bool, true, false}
use Rattle.words.specs.declared.command.Command.{Command}
use Rattle.words.specs.declared.command.Command.TheVariants.{Continuity, Learn, Run, Import, Serve, Report, Unit, Export, Soak}
use Rattle.words.specs.Words.{Asks}

abbrev pub reads_harness : Command → Bool
reads_harness (Continuity unit) = true
reads_harness (Learn unit) = true
reads_harness Run = true
reads_harness Import = true
reads_harness (Serve service) = true
reads_harness Report = false
reads_harness (Unit serial) = false
reads_harness Export = false
reads_harness (Soak points) = false

abbrev pub reads_wires : Command → Bool
reads_wires (Continuity unit) = true
reads_wires (Learn unit) = false
reads_wires Run = true
reads_wires Import = true
reads_wires (Serve service) = true
reads_wires Report = false
reads_wires (Unit serial) = false
reads_wires Export = false
reads_wires (Soak points) = false

abbrev pub reads_input : Command → Bool
reads_input (Continuity unit) = false
reads_input (Learn unit) = false
reads_input Run = true
reads_input Import = true
reads_input (Serve service) = false
reads_input Report = false
reads_input (Unit serial) = false
reads_input Export = false
reads_input (Soak points) = false

-- it mounts the journal, or loads it
abbrev pub uses_disk : Command → Bool
uses_disk (Continuity unit) = false
uses_disk (Learn unit) = false
uses_disk Run = true
uses_disk Import = true
uses_disk (Serve service) = true
uses_disk Report = true
uses_disk (Unit serial) = true
uses_disk Export = true
uses_disk (Soak points) = false

abbrev pub uses_clock : Command → Bool
uses_clock (Continuity unit) = false
uses_clock (Learn unit) = false
uses_clock Run = true
uses_clock Import = true
uses_clock (Serve service) = true
uses_clock Report = false
uses_clock (Unit serial) = false
uses_clock Export = false
uses_clock (Soak points) = false

-- it waits for connections
abbrev pub uses_door : Command → Bool
uses_door (Continuity unit) = false
uses_door (Learn unit) = false
uses_door Run = false
uses_door Import = false
uses_door (Serve service) = true
uses_door Report = false
uses_door (Unit serial) = false
uses_door Export = false
uses_door (Soak points) = false

abbrev pub AsksFor : (Command → Bool) → List (List ℕ) → Type 0
AsksFor test words = (command : Command) × Asks words command × (test command ≡ true)
