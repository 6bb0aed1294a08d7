-- What a script leaves on the disk, whatever the rig tells.
use Rattle.std.proofs.Common.{◌≡◌, inl, inr, ⊎_elim, ℕ, IsTrue, List, [], ◌∷◌, Option, sym, ◌∙◌, subst, refl}
use Rattle.disk_edge.specs.Disk.{DiskState, LeavesOnly, EachImage}
use Rattle.disk_edge.proofs.Moments.{weaker, and_then, none_images}
use Rattle.rig.specs.RigState.{RigState}
use Rattle.records.specs.declared.record.StationRecord.{StationRecord}
use Rattle.ledger.specs.Kept.{IsImageOf, IsImageOfEither}
use Rattle.ledger.specs.Ledger.{Tells}
use Rattle.station.specs.View.{StationState}
use Rattle.script.specs.Closing.{Closing, status_of}
use Rattle.script.specs.Said.{Asked, Said}
use Rattle.script.specs.Growth.{IsPrefix, KeepsBetween}
use Rattle.script.specs.Turns.{Steps}
use Rattle.script.specs.Ends.{EndsIn}
use Rattle.script.specs.Headline.{is_at_rest}
use Rattle.script.specs.Keeping.{ScriptKeeps}
use Rattle.script.proofs.disk.Growing.{grown_answer, prefix_grown, prefix_and, prefix_self}
use Rattle.script.proofs.answers.History.{Turn, IsHistory}
use Rattle.script.proofs.answers.Told.{one_between}
use Rattle.script.proofs.answers.Closings.{leaves_more, either_after, busy_write, busy_disk}
use Rattle.script.proofs.on_rig.Shapes.{Under, under_turn, under_may}

-- a step's records begin with those before it
pub step_grows : (s : StationState) (a : Asked) (now : ℕ) (said : Said) (later : List StationRecord) (disk : DiskState) → Steps s a now said later disk → IsPrefix s.records later
step_grows s a now said later disk steps = prefix_grown steps.findings s.records later (grown_answer steps.findings s.program s.records a now said later steps.step)

-- what lines left, one after another
pub record Between (s t : StationState) : Type 0 where
  pub tells : Tells t.disk
  pub grows : IsPrefix s.records t.records
  pub images : LeavesOnly s.disk t.disk (KeepsBetween s.records t.records)

pub between_all : (turns : List Turn) (s t : StationState) → Tells s.disk → IsHistory s turns t → Between s t
between_all [] s t tells is = subst (λ (x : StationState). Between s x) (sym is) (record { tells = tells; grows = prefix_self s.records; images = none_images s.disk (KeepsBetween s.records s.records) })
between_all (turn ∷ turns) s t tells (one, history) =
    let steps = one.step tells in
    let more = between_all turns turn.after t (one.disk.limit.tells ∙ tells) history in
    let first = step_grows s turn.asked turn.now turn.said turn.after.records turn.after.disk steps in
    record {
      tells = more.tells;
      grows = prefix_and s.records turn.after.records t.records first more.grows;
      images = and_then s.disk turn.after.disk t.disk (KeepsBetween s.records t.records)
          (weaker s.disk turn.after.disk (IsImageOfEither s.records turn.after.records) (KeepsBetween s.records t.records) (λ honest told image kept. one_between s.records turn.after.records t.records first more.grows image kept) steps.images)
          (weaker turn.after.disk t.disk (KeepsBetween turn.after.records t.records) (KeepsBetween s.records t.records)
          (λ honest told image kept. record { R = kept.R; from = prefix_and s.records turn.after.records kept.R first kept.from; to = kept.to; keeps = kept.keeps }) more.images);
    }

-- what is left, by the records of the lines that were answered
pub record KeepsAt (began s : StationState) (status : ℕ) (rig : RigState) (disk : DiskState) : Type 0 where
  pub keeps : ScriptKeeps began status disk
  pub is : keeps.records ≡ s.records
  pub under : Under s rig keeps.later disk

module _ (began s : StationState) (between : Between began s) (standing : EachImage s.disk (IsImageOf s.records)) where
  -- between two lines
  pub keeps_between : (status : ℕ) (rig : RigState) (disk : DiskState) → disk ≡ s.disk → KeepsAt began s status rig disk
  keeps_between status rig disk same =
      let kept : EachImage disk (IsImageOf s.records) = subst (λ (d : DiskState). EachImage d (IsImageOf s.records)) (sym same) standing in
      record {
        keeps = record {
          records = s.records;
          later = s.records;
          from = between.grows;
          to = prefix_self s.records;
          stopped = subst (λ (d : DiskState). LeavesOnly began.disk d (KeepsBetween began.records s.records)) (sym same) between.images;
          kept = λ honest file tells image left. inl (kept honest file tells image left);
          at_rest = λ rests. kept;
        };
        is = refl;
        under = inr (inl refl);
      }

  -- a line whose records are these
  keeps_under : (a : Asked) (now status : ℕ) (said : Said) (later : List StationRecord) (rig : RigState) (disk : DiskState) → Steps s a now said later disk → Under s rig later disk
      → (IsTrue (is_at_rest status) → EachImage disk (IsImageOf s.records)) → KeepsAt began s status rig disk
  keeps_under a now status said later rig disk steps under rests =
      let grows = step_grows s a now said later disk steps in
      record {
        keeps = record {
          records = s.records;
          later = later;
          from = between.grows;
          to = grows;
          stopped = leaves_more began.disk s.disk disk began.records s.records later between.grows grows between.images steps.images;
          kept = either_after s.disk disk s.records later steps.images standing;
          at_rest = rests;
        };
        is = refl;
        under = under;
      }

  busy_status : (status : ℕ) (closing : Closing) (P : Type 0) → status ≡ status_of closing → (IsTrue (is_at_rest (status_of closing)) → P) → IsTrue (is_at_rest status) → P
  busy_status status closing P is never rests = never (subst (λ (n : ℕ). IsTrue (is_at_rest n)) is rests)

  -- in a line
  pub keeps_within : (a : Asked) (status : ℕ) (rig : RigState) (disk : DiskState) (got got' moments moments' : Option (List ℕ)) → EndsIn s a status rig disk got got' moments moments' → KeepsAt began s status rig disk
  keeps_within a status rig disk got got' moments moments' ends = ⊎_elim
      (λ unsaid. subst (λ (d : DiskState). KeepsAt began s status rig d) (sym unsaid.disk_is)
      (keeps_under a ends.now status unsaid.said unsaid.new.records rig unsaid.new.disk (unsaid.turn.step between.tells)
      (under_turn s unsaid.new a ends.now unsaid.said (unsaid.turn.step between.tells) unsaid.turn.did rig unsaid.rig_is unsaid.new.disk)
      (busy_status status ends.closing (EachImage unsaid.new.disk (IsImageOf s.records)) ends.status_is (λ rests. let busy = busy_write ends.closing unsaid.why in absurd (busy.other (busy.busy rests))))))
      (⊎_elim
      (λ lost. let may = lost.may between.tells in
      keeps_under a ends.now status may.said may.later rig disk may.step (under_may s a ends.now rig disk standing may)
      (busy_status status ends.closing (EachImage disk (IsImageOf s.records)) ends.status_is (λ rests. let busy = busy_disk ends.closing lost.why in absurd (busy.other (busy.busy rests)))))
      (λ stuck. keeps_under a ends.now status stuck.said s.records rig disk (stuck.step between.tells) (inr (inl refl)) (λ rests. stuck.kept)))
      ends.how
