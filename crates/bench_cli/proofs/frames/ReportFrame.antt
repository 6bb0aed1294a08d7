-- A report, as the frame of a run sees it.
use Rattle.std.proofs.Common.{◌≡◌, ◌≢◌, ◌⊎◌, inl, inr, ℕ, true, false, List, Option, sym, ◌∙◌, arith}
use Rattle.rig_sim.specs.SimRig.{SimState}
use Rattle.ledger.specs.Opening.{Opening, found, no_journal, bad_record, failed, no_memory}
use Rattle.words.specs.declared.command.Command.{Command}
use Rattle.reporting.specs.Reported.{Ends}
use Rattle.reporting.specs.declared.reporting.Report.{Report}
use Rattle.bench_cli.specs.Commands.{reads_harness, reads_wires, uses_disk}
use Rattle.bench_cli.specs.Reporting.{PrintsReport}
use Rattle.bench_cli.specs.Run.{Run, Given, nothing, simulator, both}
use Rattle.bench_cli.proofs.frames.Framed.{Framed}

-- the statuses of a report
abbrev IsReportStatus : ℕ → Type 0
IsReportStatus s = (s ≡ 0) ⊎ ((s ≡ 5) ⊎ ((s ≡ 7) ⊎ ((s ≡ 8) ⊎ (s ≡ 9))))

report_status : (asked : Report) (answer : Opening) (status : ℕ) (got got' : Option (List ℕ)) → Ends asked answer status got got' → IsReportStatus status
report_status asked (found R) status got got' (inl (is, wrote)) = inl is
report_status asked (found R) status got got' (inr (inl is, wrote)) = inr (inr (inl is))
report_status asked (found R) status got got' (inr (inr is, wrote)) = inr (inr (inr (inr is)))
report_status asked (no_journal why) status got got' (is, wrote) = inr (inl is)
report_status asked (bad_record number place) status got got' (is, wrote) = inr (inl is)
report_status asked failed status got got' (is, wrote) = inr (inr (inr (inl is)))
report_status asked no_memory status got got' (is, wrote) = inr (inr (inr (inr is)))

report_apart : (s : ℕ) → IsReportStatus s → (s ≢ 2) × (s ≢ 3) × (s ≢ 4) × (s ≢ 13) × (s ≢ 6) × (s ≢ 11)
report_apart s (inl is) = (λ e. omega arith, λ e. omega arith, λ e. omega arith, λ e. omega arith, λ e. omega arith, λ e. omega arith)
report_apart s (inr (inl is)) = (λ e. omega arith, λ e. omega arith, λ e. omega arith, λ e. omega arith, λ e. omega arith, λ e. omega arith)
report_apart s (inr (inr (inl is))) = (λ e. omega arith, λ e. omega arith, λ e. omega arith, λ e. omega arith, λ e. omega arith, λ e. omega arith)
report_apart s (inr (inr (inr (inl is)))) = (λ e. omega arith, λ e. omega arith, λ e. omega arith, λ e. omega arith, λ e. omega arith, λ e. omega arith)
report_apart s (inr (inr (inr (inr is)))) = (λ e. omega arith, λ e. omega arith, λ e. omega arith, λ e. omega arith, λ e. omega arith, λ e. omega arith)

-- the command reads no file, and uses the disk
abbrev pub ReadsDiskAlone : Command → Type 0
ReadsDiskAlone command = (reads_harness command ≡ false) × (reads_wires command ≡ false) × (uses_disk command ≡ true)

pub report_framed : (command : Command) (asked : Report) (given : Given) (run : Run) (status : ℕ) (rig : Option SimState) → ReadsDiskAlone command
    → PrintsReport asked given run status rig → Framed command given run status rig
report_framed command asked nothing run status rig alone work =
    let other = report_apart status (report_status asked work.reported.answer status run.sunk.got run.sunk.got_after work.reported.ends) in
    record {
      files = (alone.0, alone.1);
      no_stop = (other.0, other.1, other.2, other.3);
      read_fault = λ at. absurd (other.4 at);
      network_fault = λ at. absurd (other.5 at);
      no_memory = λ at undisked. absurd (undisked alone.2);
      handed = λ reads out. let never : true ≡ false = sym reads ∙ alone.0 in cc;
      undisked = λ undisked reads out. let never : true ≡ false = sym reads ∙ alone.0 in cc;
    }
report_framed command asked (simulator sim) run status rig alone work = absurd work
report_framed command asked (both sim p) run status rig alone work = absurd work
