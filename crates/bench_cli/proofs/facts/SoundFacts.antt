-- The images that a crash may leave stay sound, whatever the command.
use Rattle.std.proofs.Common.{◌≡◌, ◌⊎◌, inl, inr, ⊎_elim, ℕ, List, ◌∷◌, [], ◌++◌, Option, None, Some, IsTrue, is_some, refl, sym, ◌∙◌, ap, subst, arith}
use Rattle.disk_edge.specs.Disk.{DiskState, LeavesOnly, EachImage, now}
use Rattle.disk_edge.proofs.Moments.{stays, weaker, since_began, counts_now}
use Rattle.records.specs.declared.record.StationRecord.{StationRecord}
use Rattle.ledger.specs.Kept.{IsImageOf, Covers, Sound}
use Rattle.ledger.specs.Opening.{BeginsSound, MountLeaves}
use Rattle.script.specs.Growth.{KeepsBetween}
use Rattle.script.specs.Opened.{IsRunImage}
use Rattle.rig_sim.specs.SimRig.{SimState}
use Rattle.wirelist.specs.declared.program.Program.{Program}
use Rattle.words.specs.declared.command.Command.{Command}
use Rattle.words.specs.declared.command.Command.TheVariants.{Continuity, Learn, Run as RunScript, Import, Serve, Report, Unit, Export, Soak}
use Rattle.words.specs.declared.command.Service.{Service}
use Rattle.reporting.specs.declared.reporting.Report.{Report as Page}
use Rattle.reporting.specs.declared.reporting.Report.TheVariants as report
use Rattle.bench_cli.specs.Commands.{reads_input, uses_disk, uses_clock, uses_door}
use Rattle.bench_cli.specs.Run.{Run, Given, nothing, simulator, both, LeavesUnused, LeavesAll, StaysSound}
use Rattle.bench_cli.specs.Scripting.{RunsScript}
use Rattle.bench_cli.specs.Importing.{ImportsRows}
use Rattle.bench_cli.specs.Serving.{ServesDoor}
use Rattle.bench_cli.specs.Reporting.{PrintsReport}
use Rattle.bench_cli.specs.Works.{Works}
use Rattle.bench_cli.specs.Ends.{Ends}
use Rattle.bench_cli.specs.Ends.Ends.{no_command, no_memory as words_memory, stopped, obeyed}

-- the file as the run found it
module _ (file : List ℕ) (R0 : List StationRecord) where
  opening_sound : (image : List ℕ) → MountLeaves file R0 image → Sound image
  opening_sound image leaves = elim leaves [ inl is ↦ is.sound | inr (r, covers, is) ↦ is.sound ]

  run_sound : (later : List StationRecord) (image : List ℕ) → IsRunImage file R0 later image → Sound image
  run_sound later image leaves = elim leaves [ inl between ↦ between.keeps.sound | inr (r, covers, is) ↦ is.sound ]

  module _ (old new : DiskState) where
    opened_so : LeavesOnly old new (MountLeaves file R0) → LeavesOnly old new Sound
    opened_so leaves = weaker old new (MountLeaves file R0) Sound (λ honest tells image is. opening_sound image is) leaves

    run_so : (later : List StationRecord) → LeavesOnly old new (IsRunImage file R0 later) → LeavesOnly old new Sound
    run_so later leaves = weaker old new (IsRunImage file R0 later) Sound (λ honest tells image is. run_sound later image is) leaves

  module _ (run : Run) (begins : BeginsSound run.disk file R0) where
    abbrev Stays : Type 0
    Stays = LeavesOnly run.disk run.disk_after Sound

    script_so : (status : ℕ) (rig : Option SimState) (given : Given) → RunsScript given run status rig → Stays
    script_so status rig nothing work = absurd work
    script_so status rig (simulator sim) work = absurd work
    script_so status None (both sim p) work = opened_so run.disk run.disk_after (work.refused.opens.records file R0 begins)
    script_so status (Some final) (both sim p) work = let kept = work.opened.keeps file R0 begins in run_so run.disk run.disk_after kept.keeps.later kept.stopped

    import_so : (status : ℕ) (rig : Option SimState) (given : Given) → ImportsRows given run status rig → Stays
    import_so status rig nothing work = absurd work
    import_so status rig (simulator sim) work = absurd work
    import_so status None (both sim p) work = opened_so run.disk run.disk_after (work.refused.opens.records file R0 begins)
    import_so status (Some final) (both sim p) work = elim work.opened [
      | inl unanswered ↦ let kept = unanswered.begun.keeps file R0 begins in run_so run.disk run.disk_after kept.keeps.later kept.stopped
      | inr answered ↦ let kept = answered.begun.keeps file R0 begins in run_so run.disk run.disk_after kept.keeps.later kept.stopped
    ]

    serve_so : (status : ℕ) (service : Service) (rig : Option SimState) (given : Given) → ServesDoor service given run status rig → Stays
    serve_so status service rig nothing work = absurd work
    serve_so status service rig (simulator sim) work = absurd work
    serve_so status service None (both sim p) work = opened_so run.disk run.disk_after (work.refused.opens.records file R0 begins)
    serve_so status service (Some final) (both sim p) work = let kept = work.opened.keeps file R0 begins in run_so run.disk run.disk_after kept.keeps.later kept.stopped

    report_so : (status : ℕ) (page : Page) (rig : Option SimState) (given : Given) → PrintsReport page given run status rig → Stays
    report_so status page rig nothing work = opened_so run.disk run.disk_after (work.reported.opens.records file R0 begins)
    report_so status page rig (simulator sim) work = absurd work
    report_so status page rig (both sim p) work = absurd work

    untouched_so : run.disk_after ≡ run.disk → Stays
    untouched_so same = stays run.disk run.disk_after Sound (record {
      reads_as = ap (λ (d : DiskState). d.reads_as) same;
      present = ap (λ (d : DiskState). d.present) same;
      past = ap (λ (d : DiskState). d.past) same;
      honest = ap (λ (d : DiskState). d.honest) same;
    })

    works_so : (status : ℕ) (command : Command) (rig : Option SimState) (given : Given) → LeavesUnused (reads_input command) (uses_disk command) (uses_clock command) (uses_door command) run
        → Works command given run status rig → Stays
    works_so status (Continuity unit) rig given unused work = untouched_so (unused.disk refl)
    works_so status (Learn unit) rig given unused work = untouched_so (unused.disk refl)
    works_so status RunScript rig given unused work = script_so status rig given work
    works_so status Import rig given unused work = import_so status rig given work
    works_so status (Serve service) rig given unused work = serve_so status service rig given work
    works_so status Report rig given unused work = report_so status report.Lot rig given work
    works_so status (Unit serial) rig given unused work = report_so status (report.Unit serial) rig given work
    works_so status Export rig given unused work = report_so status report.Results rig given work
    works_so status (Soak points) rig given unused work = untouched_so (unused.disk refl)

    ends_so : (status : ℕ) (rig : Option SimState) → Ends run status rig → Stays
    ends_so status rig (words_memory unread alone unused unasked) = untouched_so (unused.disk refl)
    ends_so status rig (no_command none unread alone unused line) = untouched_so (unused.disk refl)
    ends_so status rig (stopped command asks reads unused stop) = untouched_so (unused.disk refl)
    ends_so status rig (obeyed command asks unused given takes work) = works_so status command rig given unused work

-- what is told is something
told_one : (told : Option (List ℕ)) → IsTrue (is_some told) → (file : List ℕ) × (told ≡ Some file)
told_one None tells = cc
told_one (Some file) tells = (file, refl)

-- where each image was sound, none is left that is not
at_exit : (old new : DiskState) → LeavesOnly old new Sound → EachImage old Sound → EachImage new Sound
at_exit old new leaves each honest file is image left =
    let honest_old : IsTrue old.honest = subst IsTrue leaves.honest honest in
    let tells_new : IsTrue (is_some new.reads_as) = subst (λ (o : Option (List ℕ)). IsTrue (is_some o)) (sym is) refl in
    let tells : IsTrue (is_some old.reads_as) = subst IsTrue leaves.tells tells_new in
    let had = told_one old.reads_as tells in
    ⊎_elim (λ before. each honest_old had.0 had.1 image before) (λ here. here)
    (since_began old new Sound leaves honest_old tells image (counts_now new (now old) image leaves.later left))

pub sound_fact : (run : Run) (status : ℕ) (rig : Option SimState) → Ends run status rig → (file : List ℕ) (R0 : List StationRecord) → BeginsSound run.disk file R0 → StaysSound run.disk run.disk_after
sound_fact run status rig ends file R0 begins =
    let leaves = ends_so file R0 run begins status rig ends in
    record { stopped = leaves; exit = at_exit run.disk run.disk_after leaves }
