-- An import from its opening on.
use Rattle.std.proofs.Common.{◌≡◌, inl, inr, ⊎_elim, ℕ, List, Option}
use Rattle.disk_edge.specs.Disk.{DiskState, LeavesOnly}
use Rattle.journal.specs.Journal.{KeepsLimit}
use Rattle.rig.specs.RigState.{RigState}
use Rattle.wirelist.specs.declared.program.Program.{Program}
use Rattle.records.specs.declared.record.StationRecord.{StationRecord}
use Rattle.ledger.specs.Ledger.{Tells}
use Rattle.ledger.specs.Opening.{BeginsSound, Opens, found}
use Rattle.station.specs.View.{StationState}
use Rattle.script.specs.Keeping.{ScriptKeeps}
use Rattle.script.specs.Opened.{RunBegins}
use Rattle.script.specs.Said.{Asked}
use Rattle.script.specs.Scene.{Scene}
use Rattle.script.proofs.disk.Growing.{prefix_grown}
use Rattle.script.proofs.disk.Openings.{run_found, run_images, run_keeps, run_limit, run_tells, scene_of_run}
use Rattle.importing.specs.Imported.{ImportBegun, ImportHeadline, ImportOpened}
use Rattle.importing.specs.Input.{Answered, TakesInput}

module _ (rig0 : RigState) (program : Program) (began : DiskState) (s : StationState) (rig_is : s.rig ≡ rig0) (program_is : s.program ≡ program) (opens : Opens began s.disk (found s.records))
    (status : ℕ) (ended : DiskState) (keeps : Tells s.disk → ScriptKeeps s status ended) (limit : LeavesOnly s.disk ended (KeepsLimit s.disk)) where
  begun : ImportBegun rig0 program began status ended
  begun = record {
    station = s;
    rig_is = rig_is;
    program_is = program_is;
    opens = opens;
    keeps = λ file R0 begins. run_keeps began file R0 begins s opens (run_found began file R0 begins s opens) status ended (keeps (run_tells began file R0 begins s opens));
    limit = run_limit began s opens ended limit;
  }

  headline_of : (rows : List Asked) (left left' got got' moments : Option (List ℕ)) (rig : RigState) → Answered s rows left left' got got' moments status rig ended
      → (file : List ℕ) (R0 : List StationRecord) → BeginsSound began file R0 → (scene : Scene) (input : List ℕ) → RunBegins rig0 program got moments left scene input
      → ImportHeadline began file R0 s scene rows status ended got'
  headline_of rows left left' got got' moments rig answered file R0 begins scene input told =
      let is = run_found began file R0 begins s opens in
      let headline = answered.headline scene (scene_of_run rig0 program got moments left scene input s told rig_is program_is (run_tells began file R0 begins s opens)) in
      let later = headline.progress.later in
      record {
        found = is;
        headline = headline;
        stopped = run_images began file R0 begins s opens later ended is (prefix_grown scene.findings s.records later headline.word.recorded) headline.word.stopped;
      }

  pub import_opened : (left left' got got' moments moments' : Option (List ℕ)) (rig : RigState) → TakesInput s left left' got got' moments moments' status rig ended
      → ImportOpened rig0 program began got moments left status rig ended got' moments' left'
  unfolding begun
  import_opened left left' got got' moments moments' rig takes = ⊎_elim
      (λ none. inl (record { begun = begun; stop = none.0; unanswered = none.1 }))
      (λ all. inr (record { begun = begun; rows = all.0; answered = all.1; headline = headline_of all.0 left left' got got' moments rig all.1 }))
      takes
