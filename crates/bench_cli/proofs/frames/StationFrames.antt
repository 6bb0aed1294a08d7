-- The opening of a journal and the run of a script, as the frame of a run sees them.
use Rattle.std.proofs.Common.{◌≡◌, ◌≢◌, ◌⊎◌, inl, inr, ℕ, Option, None, Some, refl, arith}
use Rattle.rig_sim.specs.SimRig.{SimState}
use Rattle.wirelist.specs.declared.program.Program.{Program}
use Rattle.words.specs.declared.command.Command.TheVariants.{Run as RunScript}
use Rattle.ledger.specs.Opening.{Opening, found, no_journal, bad_record, failed, no_memory as opening_memory}
use Rattle.unopened.specs.Refused.{refused_status}
use Rattle.script.specs.Opened.{IsRefusal}
use Rattle.script.specs.Closing.{Closing, status_of, none, read_fault, write_fault, disk_fault, memory, not_at_zero as stuck_source, line_too_long}
use Rattle.bench_cli.specs.Run.{Run, both}
use Rattle.bench_cli.specs.Scripting.{RunsScript}
use Rattle.bench_cli.proofs.frames.Framed.{Framed}

-- a refused opening has other statuses than the files, and than a read of the input
pub opening_other : (why : Opening) → IsRefusal why → (s : ℕ) → s ≡ refused_status why → ((s ≡ 5) ⊎ (s ≡ 8)) ⊎ (s ≡ 9)
opening_other (found records) refusal s is = absurd refusal
opening_other (no_journal why) refusal s is = inl (inl is)
opening_other (bad_record number place) refusal s is = inl (inl is)
opening_other failed refusal s is = inl (inr is)
opening_other opening_memory refusal s is = inr is

pub opening_apart : (s : ℕ) → ((s ≡ 5) ⊎ (s ≡ 8)) ⊎ (s ≡ 9) → (s ≢ 2) × (s ≢ 3) × (s ≢ 4) × (s ≢ 13) × (s ≢ 11) × (s ≢ 6)
opening_apart s (inl (inl is)) = (λ e. omega arith, λ e. omega arith, λ e. omega arith, λ e. omega arith, λ e. omega arith, λ e. omega arith)
opening_apart s (inl (inr is)) = (λ e. omega arith, λ e. omega arith, λ e. omega arith, λ e. omega arith, λ e. omega arith, λ e. omega arith)
opening_apart s (inr is) = (λ e. omega arith, λ e. omega arith, λ e. omega arith, λ e. omega arith, λ e. omega arith, λ e. omega arith)

-- and so has a script
pub closing_other : (closing : Closing) (s : ℕ) → s ≡ status_of closing → (s ≢ 2) × (s ≢ 3) × (s ≢ 4) × (s ≢ 13) × (s ≢ 11)
closing_other none s is = (λ e. omega arith, λ e. omega arith, λ e. omega arith, λ e. omega arith, λ e. omega arith)
closing_other read_fault s is = (λ e. omega arith, λ e. omega arith, λ e. omega arith, λ e. omega arith, λ e. omega arith)
closing_other write_fault s is = (λ e. omega arith, λ e. omega arith, λ e. omega arith, λ e. omega arith, λ e. omega arith)
closing_other disk_fault s is = (λ e. omega arith, λ e. omega arith, λ e. omega arith, λ e. omega arith, λ e. omega arith)
closing_other memory s is = (λ e. omega arith, λ e. omega arith, λ e. omega arith, λ e. omega arith, λ e. omega arith)
closing_other stuck_source s is = (λ e. omega arith, λ e. omega arith, λ e. omega arith, λ e. omega arith, λ e. omega arith)
closing_other (line_too_long n) s is = (λ e. omega arith, λ e. omega arith, λ e. omega arith, λ e. omega arith, λ e. omega arith)

module _ (run : Run) (status : ℕ) (sim : SimState) (p : Program) where
  pub script_framed : (rig : Option SimState) → RunsScript (both sim p) run status rig → Framed RunScript (both sim p) run status rig
  script_framed None work =
      let by = opening_other work.refused.why work.refused.refusal status work.refused.status_is in
      let other = opening_apart status by in
      record {
        files = (refl, refl);
        no_stop = (other.0, other.1, other.2, other.3);
        read_fault = λ at. (refl, work.causes.read_fault at);
        network_fault = λ at. absurd (other.4 at);
        no_memory = λ at undisked. absurd (undisked refl);
        handed = λ reads out. elim by [ inl is ↦ inr (refl, is) | inr is ↦ inl is ];
        undisked = λ undisked reads out. cc;
      }
  script_framed (Some final) work =
      let other = closing_other work.opened.ran.wrote.closing status work.opened.ran.wrote.status_is in
      record {
        files = (refl, refl);
        no_stop = (other.0, other.1, other.2, other.3);
        read_fault = λ at. (refl, work.causes.read_fault at);
        network_fault = λ at. absurd (other.4 at);
        no_memory = λ at undisked. absurd (undisked refl);
        handed = λ reads out. cc;
        undisked = λ undisked reads out. cc;
      }
