-- Rows that are answered, one after another, and how the call ends.
use Rattle.std.proofs.Common.{◌≡◌, ⊎_elim, ℕ, ◌+◌, ◌<◌, ◌≤◌, List, [], ◌∷◌, ◌++◌, length, take, drop, get_or, Option, Some, refl, sym, ◌∙◌, ap, subst, append-nil, take-append-drop, arith}
use Rattle.std.proofs.lemmas.List.{take_all, take_more}
use Rattle.disk_edge.specs.Disk.{DiskState, LeavesOnly, EachImage}
use Rattle.journal.specs.Journal.{KeepsLimit}
use Rattle.rig.specs.RigState.{RigState}
use Rattle.ledger.specs.Kept.{IsImageOf}
use Rattle.station.specs.View.{StationState}
use Rattle.script.specs.Closing.{Closing, disk_fault, memory, none, not_at_zero, status_of, write_fault}
use Rattle.script.specs.Ends.{EndsIn}
use Rattle.script.specs.Growth.{IsPrefix}
use Rattle.script.specs.Ran.{ScriptRan}
use Rattle.script.specs.Said.{Asked}
use Rattle.script.specs.Scene.{Scene, IsScene}
use Rattle.script.specs.Turns.{IsAnswered}
use Rattle.script.proofs.answers.Closings.{between, ends_between, ends_in_line}
use Rattle.script.proofs.on_rig.Exits.{ran_all, ran_between, ran_within}
use Rattle.script.proofs.answers.History.{Turn, SoFar, all_written, asked-push, asked_of, goes_further, said_of, starts, turn_of}
use Rattle.script.proofs.disk.Images.{between_all, keeps_between, keeps_within}
use Rattle.script.proofs.disk.Limits.{limit_all, limit_and, limit_ends, limit_same}
use Rattle.script.proofs.answers.Told.{told_so_far}
use Rattle.script.proofs.answers.Written.{writes_nothing}
use Rattle.importing.specs.RowsAnswered.{RowsHeadline}

-- these rows are answered
pub record Answering (began s : StationState) (rows : List Asked) (got got' moments moments' : Option (List ℕ)) : Type 0 where
  pub turns : List Turn
  pub so_far : SoFar began turns s got got' moments moments'
  pub asked_is : asked_of turns ≡ rows

pub begins : (began : StationState) (got moments : Option (List ℕ)) → Answering began began [] got got moments moments
begins began got moments = record { turns = []; so_far = starts began got moments; asked_is = refl }

goes_on : (began s new : StationState) (rows : List Asked) (a : Asked) (got mid got' moments late moments' : Option (List ℕ))
    → Answering began s rows got mid moments late → IsAnswered s a new mid got' late moments' → Answering began new (rows ++ a ∷ []) got got' moments moments'
goes_on began s new rows a got mid got' moments late moments' run answered = record {
  turns = run.turns ++ turn_of answered ∷ [];
  so_far = goes_further began run.turns s new a got mid got' moments late moments' run.so_far answered;
  asked_is = asked-push run.turns (turn_of answered) ∙ ap (λ (l : List Asked). l ++ a ∷ []) run.asked_is;
}

-- ---- the rows up to a place

next_row : (rows : List Asked) (k : ℕ) (a : Asked) → k < length rows → a ≡ get_or rows k a → take (k + 1) rows ≡ take k rows ++ a ∷ []
next_row rows k a inside is = take_more rows k a inside ∙ ap (λ (x : Asked). take k rows ++ x ∷ []) (sym is)

parted_at : (rows : List Asked) (k : ℕ) (a : Asked) → k < length rows → a ≡ get_or rows k a → rows ≡ (take k rows ++ a ∷ []) ++ drop (k + 1) rows
parted_at rows k a inside is = sym (take-append-drop (k + 1) rows) ∙ ap (λ (l : List Asked). l ++ drop (k + 1) rows) (next_row rows k a inside is)

pub answers_next : (began s new : StationState) (rows : List Asked) (k : ℕ) (a : Asked) → k < length rows → a ≡ get_or rows k a → (got mid got' moments late moments' : Option (List ℕ))
    → Answering began s (take k rows) got mid moments late → IsAnswered s a new mid got' late moments' → Answering began new (take (k + 1) rows) got got' moments moments'
answers_next began s new rows k a inside is got mid got' moments late moments' run answered =
    subst (λ (l : List Asked). Answering began new l got got' moments moments') (sym (next_row rows k a inside is))
    (goes_on began s new (take k rows) a got mid got' moments late moments' run answered)

pub answers_all : (began s : StationState) (rows : List Asked) (k : ℕ) → length rows ≤ k → (got got' moments moments' : Option (List ℕ)) → Answering began s (take k rows) got got' moments moments' → Answering began s rows got got' moments moments'
answers_all began s rows k past got got' moments moments' run = subst (λ (l : List Asked). Answering began s l got got' moments moments') (take_all k rows past) run

-- All that is promised, but the causes.
pub record Leaves (began : StationState) (rows : List Asked) (got got' moments : Option (List ℕ)) (status : ℕ) (rig : RigState) (disk : DiskState) : Type 0 where
  pub headline : (scene : Scene) → IsScene began got moments scene → RowsHeadline scene began rows status disk got'
  pub ran : ScriptRan began got got' status rig disk
  pub limit : LeavesOnly began.disk disk (KeepsLimit began.disk)

-- ---- a row that ends the call has another status than 0

other_status : (closing other : Closing) (status : ℕ) → status ≡ status_of closing → closing ≡ other → (status_of other ≡ 0 → ⊥) → status ≡ 0 → ⊥
other_status closing other status is same not zero = not (sym (ap status_of same) ∙ sym is ∙ zero)

ends_not_done : (s : StationState) (a : Asked) (status : ℕ) (rig : RigState) (disk : DiskState) (got got' moments moments' : Option (List ℕ)) → EndsIn s a status rig disk got got' moments moments' → status ≡ 0 → ⊥
ends_not_done s a status rig disk got got' moments moments' ends zero =
    let not = λ (other : Closing) (same : ends.closing ≡ other) (never : status_of other ≡ 0 → ⊥). other_status ends.closing other status ends.status_is same never zero in
    ⊎_elim
    (λ unsaid. ⊎_elim (λ w. not write_fault w (λ e. cc)) (λ m. not memory m (λ e. cc)) unsaid.why)
    (⊎_elim
    (λ lost. ⊎_elim (λ d. not disk_fault d (λ e. cc)) (λ m. not memory m (λ e. cc)) lost.why)
    (λ stuck. not not_at_zero stuck.why (λ e. cc)))
    ends.how

not_ten : (status : ℕ) → status ≡ 0 → status ≡ 10 → ⊥
not_ten status is ten = let never : 0 ≡ 10 = sym is ∙ ten in absurd (omega (arith, never))

module _ (began s : StationState) (rows : List Asked) (got mid moments late : Option (List ℕ)) (run : Answering began s rows got mid moments late) (standing : EachImage s.disk (IsImageOf s.records)) where
  -- the next row ends the call
  leaves_in_row : (a : Asked) (more all : List Asked) → all ≡ (rows ++ a ∷ []) ++ more → (status : ℕ) (rig : RigState) (disk : DiskState) (got' moments' : Option (List ℕ))
      → EndsIn s a status rig disk mid got' late moments' → Leaves began all got got' moments status rig disk
  leaves_in_row a more all all_is status rig disk got' moments' ends = record {
    headline = λ scene is_scene.
        let told = told_so_far scene began run.turns s got mid moments late run.so_far is_scene in
        let lines : IsPrefix (asked_of run.turns ++ a ∷ []) all = record { behind = more; is = all_is ∙ ap (λ (l : List Asked). (l ++ a ∷ []) ++ more) (sym run.asked_is) } in
        let kept = ends_in_line scene began run.turns s late told.0 standing all a mid status rig disk got' moments' told.1 lines ends in
        record {
          progress = kept.progress;
          word = kept.word;
          done = λ zero. absurd (ends_not_done s a status rig disk mid got' late moments' ends zero);
          zero = kept.zero;
        };
    ran = ran_all began run.turns s got mid moments late run.so_far status rig disk got'
        (ran_within began run.turns s got mid moments late run.so_far a status rig disk got' moments' ends)
        (λ tells. keeps_within began s (between_all run.turns began s tells run.so_far.history) standing a status rig disk mid got' late moments' ends);
    limit = limit_and began.disk s.disk disk (limit_all run.turns began s run.so_far.history) (limit_ends s a status rig disk mid got' late moments' ends);
  }

  -- all rows are answered
  pub leaves_done : (status : ℕ) → status ≡ 0 → (rig : RigState) → rig ≡ s.rig → (disk : DiskState) → disk ≡ s.disk → Leaves began rows got mid moments status rig disk
  leaves_done status is rig same_rig disk same_disk = record {
    headline = λ scene is_scene.
        let told = told_so_far scene began run.turns s got mid moments late run.so_far is_scene in
        let lines : IsPrefix (asked_of run.turns) rows = record { behind = []; is = sym run.asked_is ∙ sym (append-nil (asked_of run.turns)) } in
        let got_is = told.1 ∙ ap (λ (l : List ℕ). Some l) (sym (append-nil (scene.got ++ all_written (said_of run.turns)))) in
        let word = ends_between scene began run.turns s late told.0 standing rows none status disk mid [] lines same_disk is (not_ten status is) got_is (record { behind = []; is = refl }) in
        record {
          progress = between scene began run.turns s late told.0 standing rows [] none;
          word = word.0;
          done = λ zero. (run.asked_is, refl);
          zero = word.1;
        };
    ran = ran_all began run.turns s got mid moments late run.so_far status rig disk mid
        (ran_between began run.turns s got mid moments late run.so_far none status rig mid is (not_ten status is) same_rig (writes_nothing [] mid))
        (λ tells. keeps_between began s (between_all run.turns began s tells run.so_far.history) standing status rig disk same_disk);
    limit = limit_and began.disk s.disk disk (limit_all run.turns began s run.so_far.history) (limit_same s.disk disk same_disk);
  }

-- the row at a place ends the call
pub leaves_at : (began s : StationState) (rows : List Asked) (k : ℕ) (a : Asked) → k < length rows → a ≡ get_or rows k a → (got mid moments late : Option (List ℕ)) → Answering began s (take k rows) got mid moments late
    → EachImage s.disk (IsImageOf s.records) → (status : ℕ) (rig : RigState) (disk : DiskState) (got' moments' : Option (List ℕ)) → EndsIn s a status rig disk mid got' late moments' → Leaves began rows got got' moments status rig disk
leaves_at began s rows k a inside is got mid moments late run standing status rig disk got' moments' ends =
    leaves_in_row began s (take k rows) got mid moments late run standing a (drop (k + 1) rows) rows (parted_at rows k a inside is) status rig disk got' moments' ends
