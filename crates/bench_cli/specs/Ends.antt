-- The ways in which a run ends, each with its cause, its status and its closing line.
use Rattle.std.specs.Prelude.{◌≡◌, ℕ, true, Option, None}
use Rattle.rig_sim.specs.SimRig.{SimState}
use Rattle.words.specs.declared.command.Command.{Command}
use Rattle.words.specs.Words.{Asks, IsCommand}
use Rattle.bench_cli.specs.Commands.{reads_harness, reads_wires, reads_input, uses_disk, uses_clock, uses_door}
use Rattle.bench_cli.specs.Closing.{ClosesWith, IsUnasked, usage_line}
use Rattle.bench_cli.specs.Run.{Run, IsUnread, Given, TakesFiles, StopsAtFiles, LeavesUnused, LeavesAll}
use Rattle.bench_cli.specs.Works.{Works}

pub data Ends (run : Run) : ℕ → Option SimState → Type 0 where
  -- memory ran out before it was known whether the words are a command: nothing was read or written
  no_memory : IsUnread run.files.harness → IsUnread run.files.wires → LeavesAll run → IsUnasked run.sunk → Ends run 9 None
  -- the words are no command: nothing was read
  no_command : {status : ℕ} → (IsCommand run.words → ⊥) → IsUnread run.files.harness → IsUnread run.files.wires → LeavesAll run
      → ClosesWith run.sunk usage_line 2 status → Ends run status None
  -- a file of the command gave nothing
  stopped : {status : ℕ} {rig : Option SimState} → (command : Command) → Asks run.words command → reads_harness command ≡ true
      → LeavesAll run → StopsAtFiles (reads_wires command) run.files run.sunk status rig → Ends run status rig
  -- its files are in form, and its own work ended so
  obeyed : {status : ℕ} {rig : Option SimState} → (command : Command) → Asks run.words command
      → LeavesUnused (reads_input command) (uses_disk command) (uses_clock command) (uses_door command) run → (given : Given) → TakesFiles run.files given
      → Works command given run status rig → Ends run status rig
