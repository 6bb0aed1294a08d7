-- An import, as the frame of a run sees it.
use Rattle.std.proofs.Common.{◌≡◌, ◌≢◌, inl, inr, ℕ, Option, None, Some, refl, arith}
use Rattle.rig_sim.specs.SimRig.{SimState}
use Rattle.wirelist.specs.declared.program.Program.{Program}
use Rattle.words.specs.declared.command.Command.TheVariants.{Import}
use Rattle.importing.specs.Input.{stop_status}
use Rattle.importing.specs.declared.input.InputStop.{InputStop}
use Rattle.importing.specs.declared.input.InputStop.TheVariants.{Failed, TooLong, Memory}
use Rattle.bench_cli.specs.Importing.{ImportsRows}
use Rattle.bench_cli.specs.Run.{Run, Given, nothing, simulator, both}
use Rattle.bench_cli.proofs.frames.Framed.{Framed}
use Rattle.bench_cli.proofs.frames.StationFrames.{closing_other, opening_apart, opening_other}

-- an input that asks nothing has other statuses than words, files and the door
stop_apart : (stop : InputStop) (s : ℕ) → s ≡ stop_status stop → (s ≢ 2) × (s ≢ 3) × (s ≢ 4) × (s ≢ 13) × (s ≢ 11)
stop_apart Failed s is = (λ e. omega arith, λ e. omega arith, λ e. omega arith, λ e. omega arith, λ e. omega arith)
stop_apart TooLong s is = (λ e. omega arith, λ e. omega arith, λ e. omega arith, λ e. omega arith, λ e. omega arith)
stop_apart Memory s is = (λ e. omega arith, λ e. omega arith, λ e. omega arith, λ e. omega arith, λ e. omega arith)

module _ (run : Run) (status : ℕ) (sim : SimState) (p : Program) where
  both_framed : (rig : Option SimState) → ImportsRows (both sim p) run status rig → Framed Import (both sim p) run status rig
  both_framed None work =
      let by = opening_other work.refused.why work.refused.refusal status work.refused.status_is in
      let other = opening_apart status by in
      record {
        files = (refl, refl);
        no_stop = (other.0, other.1, other.2, other.3);
        read_fault = λ at. (refl, work.causes.read_fault at);
        network_fault = λ at. absurd (other.4 at);
        no_memory = λ at undisked. absurd (undisked refl);
        handed = λ reads out. elim by [ inl is ↦ inr (refl, is) | inr is ↦ inl is ];
        undisked = λ undisked reads out. cc;
      }
  both_framed (Some final) work =
      let other : (status ≢ 2) × (status ≢ 3) × (status ≢ 4) × (status ≢ 13) × (status ≢ 11) = elim work.opened [
        | inl none ↦ stop_apart none.stop status none.unanswered.status_is
        | inr all ↦ closing_other all.answered.ran.wrote.closing status all.answered.ran.wrote.status_is
      ] in
      record {
        files = (refl, refl);
        no_stop = (other.0, other.1, other.2, other.3);
        read_fault = λ at. (refl, work.causes.read_fault at);
        network_fault = λ at. absurd (other.4 at);
        no_memory = λ at undisked. absurd (undisked refl);
        handed = λ reads out. cc;
        undisked = λ undisked reads out. cc;
      }

pub import_framed : (given : Given) (run : Run) (status : ℕ) (rig : Option SimState) → ImportsRows given run status rig → Framed Import given run status rig
import_framed nothing run status rig work = absurd work
import_framed (simulator sim) run status rig work = absurd work
import_framed (both sim p) run status rig work = both_framed run status sim p rig work
