-- A run from its opening on.
use Rattle.std.proofs.Common.{◌≡◌, inl, inr, ⊎_elim, ℕ, ◌≤◌, is_some, List, length, Option, ◌∙◌, ap, subst, Some, refl}
use Rattle.std.specs.Option.{ForSome}
use Rattle.base.specs.Causes.{Rose}
use Rattle.disk_edge.specs.Disk.{DiskState, LeavesOnly}
use Rattle.disk_edge.proofs.Moments.{weaker, and_then, each_after}
use Rattle.rig.specs.RigState.{RigState}
use Rattle.wirelist.specs.declared.program.Program.{Program}
use Rattle.unit_outcome.specs.Found.{told_by}
use Rattle.records.specs.declared.record.StationRecord.{StationRecord}
use Rattle.journal.specs.Format.{IsSound}
use Rattle.journal.specs.Journal.{KeepsLimit}
use Rattle.journal.specs.declared.TheConstants.{LONGEST_FILE}
use Rattle.ledger.specs.Ledger.{Tells}
use Rattle.ledger.specs.Opening.{Opening, found, no_journal, bad_record, failed, no_memory, MountLeaves, Opens, BeginsSound, Says, refused}
use Rattle.ledger.specs.declared.stop.MountStop.{MountStop}
use Rattle.ledger.specs.declared.stop.MountStop.TheVariants as mount
use Rattle.station.specs.View.{StationState}
use Rattle.unopened.specs.Refused.{refused_status}
use Rattle.script.specs.Growth.{IsPrefix, KeepsBetween}
use Rattle.script.specs.Headline.{ScriptHeadline}
use Rattle.script.specs.Keeping.{ScriptKeeps}
use Rattle.script.specs.Opened.{RunBegins, IsRunImage, RunHeadline, RunKeeps, IsRefusal}
use Rattle.script.specs.Scene.{Scene, IsScene}
use Rattle.script.proofs.disk.Growing.{prefix_grown, prefix_and, prefix_self}

module _ (began : DiskState) (file : List ℕ) (R0 : List StationRecord) (begins : BeginsSound began file R0) (s : StationState) (opens : Opens began s.disk (found s.records)) where
  -- the disk tells what it told
  pub run_tells : Tells s.disk
  run_tells = opens.any_moment.tells ∙ ap is_some begins.reads

  -- the opening's images, and those of the script behind it
  pub run_images : (later : List StationRecord) (ended : DiskState) → s.records ≡ R0 → IsPrefix s.records later → LeavesOnly s.disk ended (KeepsBetween s.records later) → LeavesOnly began ended (IsRunImage file R0 later)
  run_images later ended is grows stopped =
      let more : IsPrefix R0 later = subst (λ (R : List StationRecord). IsPrefix R later) is grows in
      and_then began s.disk ended (IsRunImage file R0 later)
      (weaker began s.disk (MountLeaves file R0) (IsRunImage file R0 later)
      (λ honest tells image left. ⊎_elim (λ before. inl (record { R = R0; from = prefix_self R0; to = more; keeps = before })) (λ covered. inr covered) left) (opens.records file R0 begins))
      (weaker s.disk ended (KeepsBetween s.records later) (IsRunImage file R0 later)
      (λ honest tells image kept. inl (subst (λ (R : List StationRecord). KeepsBetween R later image) is kept)) stopped)

-- what is told to the script
pub scene_of_run : (rig : RigState) (program : Program) (got moments left : Option (List ℕ)) (scene : Scene) (script : List ℕ) (s : StationState) → RunBegins rig program got moments left scene script → s.rig ≡ rig → s.program ≡ program → Tells s.disk → IsScene s got moments scene
scene_of_run rig program got moments left scene script s begins same_rig same_program tells = record {
  station = record {
    disk = tells;
    findings_are = ap (λ (r : RigState). told_by s.program r) same_rig ∙ ap (λ (p : Program). told_by p rig) same_program ∙ begins.findings_are;
  };
  got_is = begins.got_is;
  moments_are = begins.moments_are;
}

pub run_headline : (began : DiskState) (file : List ℕ) (R0 : List StationRecord) (begins : BeginsSound began file R0) (s : StationState) (opens : Opens began s.disk (found s.records)) → s.records ≡ R0 → (scene : Scene) (script : List ℕ) (left : Option (List ℕ)) (status : ℕ) (ended : DiskState) (got : Option (List ℕ))
    → ScriptHeadline scene s script left status ended got → RunHeadline began file R0 s scene script left status ended got
run_headline began file R0 begins s opens is scene script left status ended got headline = record {
  found = is;
  headline = headline;
  stopped = run_images began file R0 begins s opens headline.progress.later ended is (prefix_grown scene.findings s.records headline.progress.later headline.word.recorded) headline.word.stopped;
}

pub run_keeps : (began : DiskState) (file : List ℕ) (R0 : List StationRecord) (begins : BeginsSound began file R0) (s : StationState) (opens : Opens began s.disk (found s.records)) → s.records ≡ R0 → (status : ℕ) (ended : DiskState) → ScriptKeeps s status ended → RunKeeps began file R0 s status ended
run_keeps began file R0 begins s opens is status ended keeps = record {
  found = is;
  keeps = keeps;
  stopped = run_images began file R0 begins s opens keeps.later ended is (prefix_and s.records keeps.records keeps.later keeps.from keeps.to) keeps.stopped;
}

-- the records found are those that the file keeps
pub run_found : (began : DiskState) (file : List ℕ) (R0 : List StationRecord) → BeginsSound began file R0 → (s : StationState) → Opens began s.disk (found s.records) → s.records ≡ R0
run_found began file R0 begins s opens =
    let says = opens.says tt file begins.reads in
    let same : found s.records ≡ found R0 = opens.only tt file begins.reads (found R0) (says.0, begins.keeps) in
    cc

-- no image is longer than a journal may be, where none was
pub run_limit : (began : DiskState) (s : StationState) → Opens began s.disk (found s.records) → (ended : DiskState) → LeavesOnly s.disk ended (KeepsLimit s.disk) → LeavesOnly began ended (λ image. ForSome began.reads_as IsSound → KeepsLimit began image)
run_limit began s opens ended limit =
    let P : List ℕ → Type 0 = λ image. ForSome began.reads_as IsSound → KeepsLimit began image in
    and_then began s.disk ended P opens.limit
    (weaker s.disk ended (KeepsLimit s.disk) P
    (λ honest tells image keeps sound within. keeps (λ yes file told i left. ⊎_elim (λ was. was) (λ k. k sound within) (each_after began s.disk P (λ x. length x ≤ LONGEST_FILE) opens.limit within yes file told i left))) limit)

-- a refusal, where the file keeps records and no count rose: memory ran out
pub refused_complete : (began ended : DiskState) (why : Opening) (status : ℕ) → Opens began ended why → status ≡ refused_status why → IsRefusal why → (file : List ℕ) (R0 : List StationRecord) → began.reads_as ≡ Some file → Says file (found R0) → (Rose began.faults ended.faults → ⊥) → status ≡ 9
refused_complete began ended (found R) status opens is refusal file R0 reads says quiet = absurd refusal
refused_complete began ended (no_journal w) status opens is refusal file R0 reads says quiet = let same : no_journal w ≡ found R0 = opens.only tt file reads (found R0) says in cc
refused_complete began ended (bad_record number place) status opens is refusal file R0 reads says quiet = let same : bad_record number place ≡ found R0 = opens.only tt file reads (found R0) says in cc
refused_complete began ended failed status opens is refusal file R0 reads says quiet = absurd (quiet (opens.cause refl))
refused_complete began ended no_memory status opens is refusal file R0 reads says quiet = is

pub is_refusal : {D : Type 0} (stop : MountStop D) → IsRefusal (refused stop)
is_refusal (mount.NotJournal disk first) = tt
is_refusal (mount.BadEntry disk number place) = tt
is_refusal (mount.TooLong disk len) = tt
is_refusal (mount.BadRecord disk number place) = tt
is_refusal (mount.Disk disk) = tt
is_refusal (mount.Memory disk) = tt
