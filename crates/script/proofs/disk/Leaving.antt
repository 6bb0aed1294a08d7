-- How a script leaves its call, by all that is so before.
use Rattle.std.proofs.Common.{◌≡◌, ℕ, List, [], ◌++◌, Option, Some, sym, ◌∙◌}
use Rattle.std.specs.Prelude.{map}
use Rattle.disk_edge.specs.Disk.{DiskState, LeavesOnly, EachImage}
use Rattle.journal.specs.Journal.{KeepsLimit}
use Rattle.rig.specs.RigState.{RigState}
use Rattle.ledger.specs.Kept.{IsImageOf}
use Rattle.station.specs.View.{StationState}
use Rattle.script_lines.specs.declared.reader.LineStop.{LineStop}
use Rattle.script_lines.specs.declared.reader.LineStop.TheVariants as stopping
use Rattle.script_lines.specs.Script.{asking}
use Rattle.script_lines.specs.Reading.{ReadsWhole, ReadsLast, ReadsNot}
use Rattle.script.specs.Closing.{none, status_of, closing_line, closing_for}
use Rattle.script.specs.Said.{asks}
use Rattle.script.specs.Saying.{WritesFront}
use Rattle.script.specs.Scene.{Scene, IsScene}
use Rattle.script.specs.Asking.{Passes, EndsAsking}
use Rattle.script.specs.Headline.{ScriptHeadline}
use Rattle.script.specs.Ran.{ScriptRan}
use Rattle.script.proofs.answers.Written.{writes_nothing}
use Rattle.script.proofs.answers.Running.{Running, passes, ends_at_end, ends_after_last, ends_in_whole, ends_in_last, ends_stopped}
use Rattle.script.proofs.on_rig.Exits.{ran_between, ran_within, ran_all}
use Rattle.script.proofs.disk.Limits.{limit_and, limit_same, limit_all, limit_ends}
use Rattle.script.proofs.disk.Images.{between_all, keeps_between, keeps_within}

-- All that is promised of a script, but the causes.
pub record Leaves (began : StationState) (got got' moments left left' : Option (List ℕ)) (status : ℕ) (rig : RigState) (disk : DiskState) : Type 0 where
  pub headline : (scene : Scene) (script : List ℕ) → IsScene began got moments scene → left ≡ Some script → ScriptHeadline scene began script left' status disk got'
  pub ran : ScriptRan began got got' status rig disk
  pub limit : LeavesOnly began.disk disk (KeepsLimit began.disk)

-- a status that a closing has, which is not that of three failed zero calls
quiet_stop : (stop : LineStop) (number status : ℕ) → status ≡ status_of (closing_for stop number) → status ≡ 10 → ⊥
quiet_stop stopping.Failed number status is ten = let never : 6 ≡ 10 = sym is ∙ ten in cc
quiet_stop stopping.TooLong number status is ten = let never : 12 ≡ 10 = sym is ∙ ten in cc
quiet_stop stopping.Memory number status is ten = let never : 9 ≡ 10 = sym is ∙ ten in cc

quiet_end : (status : ℕ) → status ≡ 0 → status ≡ 10 → ⊥
quiet_end status is ten = let never : 0 ≡ 10 = sym is ∙ ten in cc

module _ (began s : StationState) (number : ℕ) (pending : List ℕ) (got mid moments late left left' : Option (List ℕ)) (run : Running began s number pending got mid moments late left left') (standing : EachImage s.disk (IsImageOf s.records)) where
  -- in a line
  in_line : (left'' : Option (List ℕ)) (status : ℕ) (rig : RigState) (disk : DiskState) (got' moments' : Option (List ℕ)) → ((scene : Scene) (script : List ℕ) → IsScene began got moments scene → left ≡ Some script → ScriptHeadline scene began script left'' status disk got')
      → (line : List ℕ) (ends : EndsAsking (map asks (asking number line)) s status rig disk mid got' late moments') → Leaves began got got' moments left left'' status rig disk
  in_line left'' status rig disk got' moments' headline line ends = record {
    headline = headline;
    ran = ran_all began run.turns s got mid moments late run.so_far status rig disk got'
        (ran_within began run.turns s got mid moments late run.so_far ends.0 status rig disk got' moments' ends.2)
        (λ tells. keeps_within began s (between_all run.turns began s tells run.so_far.history) standing ends.0 status rig disk mid got' late moments' ends.2);
    limit = limit_and began.disk s.disk disk (limit_all run.turns began s run.so_far.history) (limit_ends s ends.0 status rig disk mid got' late moments' ends.2);
  }

  pub leaves_in_whole : (line pending' : List ℕ) (left'' : Option (List ℕ)) (status : ℕ) (rig : RigState) (disk : DiskState) (got' moments' : Option (List ℕ)) → ((behind : List ℕ) → left' ≡ Some behind → ReadsWhole (pending ++ behind) number line pending' left'')
      → EndsAsking (map asks (asking number line)) s status rig disk mid got' late moments' → Leaves began got got' moments left left'' status rig disk
  leaves_in_whole line pending' left'' status rig disk got' moments' reads ends =
      in_line left'' status rig disk got' moments' (λ scene script is_scene told. ends_in_whole scene script began s number pending got mid moments late left left' run is_scene told standing line pending' left'' status rig disk got' moments' reads ends) line ends

  pub leaves_in_last : (line : List ℕ) (left'' : Option (List ℕ)) (status : ℕ) (rig : RigState) (disk : DiskState) (got' moments' : Option (List ℕ)) → ((behind : List ℕ) → left' ≡ Some behind → ReadsLast (pending ++ behind) number line left'')
      → EndsAsking (map asks (asking number line)) s status rig disk mid got' late moments' → Leaves began got got' moments left left'' status rig disk
  leaves_in_last line left'' status rig disk got' moments' reads ends =
      in_line left'' status rig disk got' moments' (λ scene script is_scene told. ends_in_last scene script began s number pending got mid moments late left left' run is_scene told standing line left'' status rig disk got' moments' reads ends) line ends

  -- no line comes
  pub leaves_at_end : (left'' : Option (List ℕ)) (status : ℕ) → status ≡ 0 → (rig : RigState) → rig ≡ s.rig → (disk : DiskState) → disk ≡ s.disk → ((behind : List ℕ) → left' ≡ Some behind → (left'' ≡ Some []) × (pending ++ behind ≡ [])) → Leaves began got mid moments left left'' status rig disk
  leaves_at_end left'' status is rig same_rig disk same_disk reads = record {
    headline = λ scene script is_scene told. ends_at_end scene script began s number pending got mid moments late left left' run is_scene told standing left'' status is disk same_disk reads;
    ran = ran_all began run.turns s got mid moments late run.so_far status rig disk mid
        (ran_between began run.turns s got mid moments late run.so_far none status rig mid is (quiet_end status is) same_rig (writes_nothing [] mid))
        (λ tells. keeps_between began s (between_all run.turns began s tells run.so_far.history) standing status rig disk same_disk);
    limit = limit_and began.disk s.disk disk (limit_all run.turns began s run.so_far.history) (limit_same s.disk disk same_disk);
  }

  -- the last line was answered
  pub leaves_after_last : (line : List ℕ) (left'' : Option (List ℕ)) (new : StationState) (got' moments' : Option (List ℕ)) → EachImage new.disk (IsImageOf new.records)
      → ((behind : List ℕ) → left' ≡ Some behind → ReadsLast (pending ++ behind) number line left'') → Passes (map asks (asking number line)) s new mid got' late moments'
      → (status : ℕ) → status ≡ 0 → (rig : RigState) → rig ≡ new.rig → (disk : DiskState) → disk ≡ new.disk → Leaves began got got' moments left left'' status rig disk
  leaves_after_last line left'' new got' moments' new_standing reads passed status is rig same_rig disk same_disk =
      let more = passes began run.turns s new (map asks (asking number line)) got mid got' moments late moments' run.so_far passed in
      record {
        headline = λ scene script is_scene told. ends_after_last scene script began s number pending got mid moments late left left' run is_scene told standing line left'' new got' moments' new_standing reads passed status is disk same_disk;
        ran = ran_all began more.turns' new got got' moments moments' more.so_far status rig disk got'
            (ran_between began more.turns' new got got' moments moments' more.so_far none status rig got' is (quiet_end status is) same_rig (writes_nothing [] got'))
            (λ tells. keeps_between began new (between_all more.turns' began new tells more.so_far.history) new_standing status rig disk same_disk);
        limit = limit_and began.disk new.disk disk (limit_all more.turns' began new more.so_far.history) (limit_same new.disk disk same_disk);
      }

  -- there is no next line to read
  pub leaves_stopped : (stop : LineStop) (pending' : List ℕ) (left'' : Option (List ℕ)) → ((behind : List ℕ) → left' ≡ Some behind → ReadsNot (pending ++ behind) number stop pending' left'') → (status : ℕ) → status ≡ status_of (closing_for stop number) → (rig : RigState) → rig ≡ s.rig → (disk : DiskState) → disk ≡ s.disk
      → (got' : Option (List ℕ)) → WritesFront (closing_line (closing_for stop number)) mid got' → Leaves began got got' moments left left'' status rig disk
  leaves_stopped stop pending' left'' reads status is rig same_rig disk same_disk got' closed = record {
    headline = λ scene script is_scene told. ends_stopped scene script began s number pending got mid moments late left left' run is_scene told standing stop pending' left'' reads status is disk same_disk got' closed;
    ran = ran_all began run.turns s got mid moments late run.so_far status rig disk got'
        (ran_between began run.turns s got mid moments late run.so_far (closing_for stop number) status rig got' is (quiet_stop stop number status is) same_rig closed)
        (λ tells. keeps_between began s (between_all run.turns began s tells run.so_far.history) standing status rig disk same_disk);
    limit = limit_and began.disk s.disk disk (limit_all run.turns began s run.so_far.history) (limit_same s.disk disk same_disk);
  }
