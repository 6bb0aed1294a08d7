-- What a report promises.
use Rattle.std.proofs.Common.{◌≡◌, inl, inr, ℕ, true, false, List, Option, None, Some, refl, sym, ◌∙◌, ap, subst, arith}
use Rattle.base.specs.Causes.{Rose}
use Rattle.records.specs.declared.record.StationRecord.{StationRecord}
use Rattle.rig_sim.specs.SimRig.{SimState}
use Rattle.ledger.specs.Opening.{Opening, Opens, Says, found, no_journal, bad_record, failed, no_memory}
use Rattle.reporting.specs.Reported.{Ends as ReportEnds, report_text}
use Rattle.reporting.specs.declared.reporting.Report.{Report}
use Rattle.words.specs.declared.command.Command.{Command}
use Rattle.words.specs.Words.{Asks}
use Rattle.words.proofs.OneReading.{one_reading}
use Rattle.bench_cli.specs.Closing.{Wrote}
use Rattle.bench_cli.specs.Commands.{reads_harness}
use Rattle.bench_cli.specs.Ends.{Ends}
use Rattle.bench_cli.specs.Ends.Ends.{no_command, no_memory as words_memory, stopped, obeyed}
use Rattle.bench_cli.specs.Reporting.{Printed, PrintsReport, IsReporting, EndsUnasked}
use Rattle.bench_cli.specs.Run.{Run, Given, nothing, simulator, both}
use Rattle.bench_cli.specs.Told.{Is}
use Rattle.bench_cli.specs.Works.{Works}

module _ (asked : Report) (run : Run) (status : ℕ) (file : List ℕ) (R : List StationRecord) (reads : run.disk.reads_as ≡ Some file) (says : Says file (found R)) where
  -- where the file keeps records, these are the ones that were found
  whole_by : (answer : Opening) → Opens run.disk run.disk_after answer → ReportEnds asked answer status run.sunk.got run.sunk.got_after → status ≡ 0 → Wrote run.sunk (report_text asked R)
  whole_by (found kept) opens (inl (is, wrote)) zero =
      let same : found kept ≡ found R = opens.only tt file reads (found R) says in
      let also : kept ≡ R = cc in
      subst (λ (l : List StationRecord). Wrote run.sunk (report_text asked l)) also wrote
  whole_by (found kept) opens (inr (inl is, wrote)) zero = absurd (omega arith)
  whole_by (found kept) opens (inr (inr is, wrote)) zero = absurd (omega arith)
  whole_by (no_journal why) opens (is, wrote) zero = let five : status ≡ 5 = is in absurd (omega (arith, five, zero))
  whole_by (bad_record number place) opens (is, wrote) zero = let five : status ≡ 5 = is in absurd (omega (arith, five, zero))
  whole_by failed opens (is, wrote) zero = let eight : status ≡ 8 = is in absurd (omega (arith, eight, zero))
  whole_by no_memory opens (is, wrote) zero = let nine : status ≡ 9 = is in absurd (omega (arith, nine, zero))

  complete_by : (answer : Opening) → Opens run.disk run.disk_after answer → ReportEnds asked answer status run.sunk.got run.sunk.got_after → (status ≡ 7 → ⊥)
      → (Rose run.disk.faults run.disk_after.faults → ⊥) → Is 0 status
  complete_by (found kept) opens (inl (is, wrote)) written quiet = inl is
  complete_by (found kept) opens (inr (inl is, wrote)) written quiet = absurd (written is)
  complete_by (found kept) opens (inr (inr is, wrote)) written quiet = inr is
  complete_by (no_journal why) opens (is, wrote) written quiet = let same : no_journal why ≡ found R = opens.only tt file reads (found R) says in cc
  complete_by (bad_record number place) opens (is, wrote) written quiet = let same : bad_record number place ≡ found R = opens.only tt file reads (found R) says in cc
  complete_by failed opens (is, wrote) written quiet = absurd (quiet (opens.cause refl))
  complete_by no_memory opens (is, wrote) written quiet = inr is

module _ (asked : Report) (run : Run) where
  printed_promises : (status : ℕ) (rig : Option SimState) → Printed asked run.sunk run.disk run.disk_after status rig → IsReporting asked run status rig
  printed_promises status rig printed = record {
    came = inr printed;
    whole = λ zero file R reads says. whole_by asked run status file R reads says printed.reported.answer printed.reported.opens printed.reported.ends zero;
    write_fault = printed.cause.rose;
    disk_fault = printed.reported.disk_fault;
    complete = λ unfailed quiet file R reads says.
        complete_by asked run status file R reads says printed.reported.answer printed.reported.opens printed.reported.ends (λ seven. unfailed (printed.cause.rose seven)) quiet;
    kept_back = printed.no_rig;
  }

  unasked_promises : (status : ℕ) (rig : Option SimState) → EndsUnasked run status → rig ≡ None → IsReporting asked run status rig
  unasked_promises status rig ends none =
      let nine = ends.memory in
      record {
        came = inl ends;
        whole = λ zero. absurd (omega (arith, nine, zero));
        write_fault = λ at. absurd (omega (arith, nine, at));
        disk_fault = λ at. absurd (omega (arith, nine, at));
        complete = λ unfailed quiet file R reads says. inr nine;
        kept_back = none;
      }

  printed_given : (status : ℕ) (rig : Option SimState) (given : Given) → PrintsReport asked given run status rig → Printed asked run.sunk run.disk run.disk_after status rig
  printed_given status rig nothing work = work
  printed_given status rig (simulator sim) work = absurd work
  printed_given status rig (both sim p) work = absurd work

-- a command that reads no file, and whose work is this report
pub is_reporting : (mine : Command) (asked : Report) (run : Run) (status : ℕ) (rig : Option SimState) → reads_harness mine ≡ false
    → ((given : Given) → Works mine given run status rig → PrintsReport asked given run status rig) → Asks run.words mine → Ends run status rig → IsReporting asked run status rig
is_reporting mine asked run status rig alone works asks (no_command none unread unwired unused line) = absurd (none (mine, asks))
is_reporting mine asked run status rig alone works asks (words_memory unread unwired unused unasked) =
    unasked_promises asked run status rig (record { memory = refl; unused = unused; unwritten = unasked }) refl
is_reporting mine asked run status rig alone works asks (stopped command also reads unused stop) =
    let never : true ≡ false = sym reads ∙ ap reads_harness (one_reading run.words command mine also asks) ∙ alone in
    cc
is_reporting mine asked run status rig alone works asks (obeyed command also unused given takes work) =
    printed_promises asked run status rig
    (printed_given asked run status rig given (works given (subst (λ (c : Command). Works c given run status rig) (one_reading run.words command mine also asks) work)))
