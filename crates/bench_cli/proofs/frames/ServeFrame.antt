-- The serving of connections, as the frame of a run sees it.
use Rattle.std.proofs.Common.{◌≡◌, ◌≢◌, ◌⊎◌, inl, inr, ℕ, Option, None, Some, refl, arith}
use Rattle.rig_sim.specs.SimRig.{SimState}
use Rattle.wirelist.specs.declared.program.Program.{Program}
use Rattle.words.specs.declared.command.Command.TheVariants.{Serve}
use Rattle.words.specs.declared.command.Service.{Service}
use Rattle.serving.specs.Lines.{Closing, write_fault, disk_fault, memory, not_at_zero, network_fault, status_of}
use Rattle.serving.proofs.OpeningLemmas.{serves-status}
use Rattle.bench_cli.specs.Run.{Run, Given, nothing, simulator, both}
use Rattle.bench_cli.specs.Serving.{ServesDoor}
use Rattle.bench_cli.proofs.frames.Framed.{Framed}
use Rattle.bench_cli.proofs.frames.StationFrames.{opening_apart, opening_other}

-- a serving has other statuses than words and files, and than a read of the input
served_apart : (s : ℕ) → (s ≡ 0) ⊎ ((closing : Closing) × (s ≡ status_of closing)) → (s ≢ 2) × (s ≢ 3) × (s ≢ 4) × (s ≢ 13) × (s ≢ 6)
served_apart s (inl is) = (λ e. omega arith, λ e. omega arith, λ e. omega arith, λ e. omega arith, λ e. omega arith)
served_apart s (inr (write_fault, is)) = (λ e. omega arith, λ e. omega arith, λ e. omega arith, λ e. omega arith, λ e. omega arith)
served_apart s (inr (disk_fault, is)) = (λ e. omega arith, λ e. omega arith, λ e. omega arith, λ e. omega arith, λ e. omega arith)
served_apart s (inr (memory, is)) = (λ e. omega arith, λ e. omega arith, λ e. omega arith, λ e. omega arith, λ e. omega arith)
served_apart s (inr (not_at_zero, is)) = (λ e. omega arith, λ e. omega arith, λ e. omega arith, λ e. omega arith, λ e. omega arith)
served_apart s (inr (network_fault, is)) = (λ e. omega arith, λ e. omega arith, λ e. omega arith, λ e. omega arith, λ e. omega arith)

module _ (service : Service) (run : Run) (status : ℕ) (sim : SimState) (p : Program) where
  both_framed : (rig : Option SimState) → ServesDoor service (both sim p) run status rig → Framed (Serve service) (both sim p) run status rig
  both_framed None work =
      let by = opening_other work.refused.why work.refused.refusal status work.refused.status_is in
      let other = opening_apart status by in
      record {
        files = (refl, refl);
        no_stop = (other.0, other.1, other.2, other.3);
        read_fault = λ at. absurd (other.5 at);
        network_fault = λ at. absurd (other.4 at);
        no_memory = λ at undisked. absurd (undisked refl);
        handed = λ reads out. elim by [ inl is ↦ inr (refl, is) | inr is ↦ inl is ];
        undisked = λ undisked reads out. cc;
      }
  both_framed (Some final) work =
      let other = served_apart status (serves-status _ _ _ _ work.opened.served) in
      record {
        files = (refl, refl);
        no_stop = (other.0, other.1, other.2, other.3);
        read_fault = λ at. absurd (other.4 at);
        network_fault = λ at. (refl, work.causes.network_fault at);
        no_memory = λ at undisked. absurd (undisked refl);
        handed = λ reads out. cc;
        undisked = λ undisked reads out. cc;
      }

pub serve_framed : (service : Service) (given : Given) (run : Run) (status : ℕ) (rig : Option SimState) → ServesDoor service given run status rig → Framed (Serve service) given run status rig
serve_framed service nothing run status rig work = absurd work
serve_framed service (simulator sim) run status rig work = absurd work
serve_framed service (both sim p) run status rig work = both_framed service run status sim p rig work
