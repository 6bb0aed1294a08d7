-- What the frame of a run needs to know of each command's own work.
use Rattle.std.proofs.Common.{◌≡◌, ◌≢◌, ◌⊎◌, ℕ, true, false, Option, None}
use Rattle.base.specs.Causes.{Rose}
use Rattle.rig_sim.specs.SimRig.{SimState}
use Rattle.words.specs.declared.command.Command.{Command}
use Rattle.bench_cli.specs.Commands.{reads_harness, reads_wires, reads_input, uses_disk, uses_door}
use Rattle.bench_cli.specs.Closing.{CountsNone}
use Rattle.bench_cli.specs.Run.{Run, Given, nothing, simulator, both}
use Rattle.bench_cli.specs.Told.{Failed}

-- these are the files that the command reads
abbrev pub AreFilesOf : Command → Given → Type 0
AreFilesOf command nothing = (reads_harness command ≡ false) × (reads_wires command ≡ false)
AreFilesOf command (simulator sim) = (reads_harness command ≡ true) × (reads_wires command ≡ false)
AreFilesOf command (both sim p) = (reads_harness command ≡ true) × (reads_wires command ≡ true)

-- the rig is kept back only where a mounting was refused, or memory ran out
abbrev pub KeepsBack : Command → ℕ → Type 0
KeepsBack command status = (status ≡ 9) ⊎ ((uses_disk command ≡ true) × ((status ≡ 5) ⊎ (status ≡ 8)))

pub record Framed (command : Command) (given : Given) (run : Run) (status : ℕ) (rig : Option SimState) : Type 0 where
  pub files : AreFilesOf command given
  pub no_stop : (status ≢ 2) × (status ≢ 3) × (status ≢ 4) × (status ≢ 13)
  pub read_fault : status ≡ 6 → (reads_input command ≡ true) × Failed run.input
  pub network_fault : status ≡ 11 → (uses_door command ≡ true) × Rose run.door.faults run.door.faults_after
  pub no_memory : status ≡ 9 → (uses_disk command ≡ true → ⊥) → CountsNone run.sunk
  pub handed : reads_harness command ≡ true → rig ≡ None → KeepsBack command status
  pub undisked : uses_disk command ≡ false → reads_harness command ≡ true → rig ≡ None → ⊥
