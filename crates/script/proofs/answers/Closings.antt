-- How a call ends, in a line or between two.
use Rattle.std.proofs.Common.{◌≡◌, ◌⊎◌, inl, inr, ⊎_elim, ℕ, Bool, true, false, IsTrue, List, [], ◌∷◌, ◌++◌, Option, Some, None, refl, sym, ◌∙◌, ap, subst, append_assoc, append-nil}
use Rattle.bench_edge.specs.Clocks.{first_moment, later_moments}
use Rattle.disk_edge.specs.Disk.{DiskState, LeavesOnly, EachImage}
use Rattle.disk_edge.proofs.Moments.{weaker, and_then, each_after}
use Rattle.rig.specs.RigState.{RigState}
use Rattle.wirelist.specs.declared.program.Program.{Program}
use Rattle.records.specs.declared.record.StationRecord.{StationRecord}
use Rattle.ledger.specs.Kept.{IsImageOf, IsImageOfEither}
use Rattle.unit_outcome.specs.Found.{Findings}
use Rattle.station.specs.View.{StationState, IsTold}
use Rattle.script.specs.Closing.{Closing, none, read_fault, write_fault, disk_fault, memory, not_at_zero, line_too_long, status_of, closing_line}
use Rattle.script.specs.Said.{Asked, Said, said_line, written, is_stuck}
use Rattle.script.specs.After.{Answers, After}
use Rattle.script.specs.Scene.{Scene}
use Rattle.script.specs.Growth.{IsPrefix, KeepsBetween}
use Rattle.script.specs.Saying.{WritesFront}
use Rattle.script.specs.Ends.{EndsUnsaid, EndsLost, EndsStuck, EndsIn}
use Rattle.script.specs.Headline.{Progress, KeepsItsWord, is_at_rest, NoneStuck, EndsAtZero}
use Rattle.script.proofs.disk.Growing.{grown_and, grown_answer, prefix_grown, prefix_and, prefix_self, all_push}
use Rattle.script.proofs.answers.Written.{appended, ticked, part_of}
use Rattle.script.proofs.answers.History.{Turn, asked_of, said_of, all_written, written-push}
use Rattle.script.proofs.answers.Told.{moments_behind, Told, step_of}

-- one line more
after_push : (findings : Findings) (p : Program) (asked : List Asked) (moments : List ℕ) (said : List Said) (R mid after : List StationRecord) (a : Asked) (s : Said)
    → After findings p R asked moments said mid → Answers findings p mid a (first_moment (moments_behind said moments)) s after → After findings p R (asked ++ a ∷ []) moments (said ++ s ∷ []) after
after_push findings p [] moments [] R mid after a s is answers = (after, subst (λ (S : List StationRecord). Answers findings p S a (first_moment moments) s after) is answers, refl)
after_push findings p (x ∷ asked) moments (y ∷ said) R mid after a s (first, answered, more) answers = (first, answered, after_push findings p asked (later_moments moments) said first mid after a s more answers)
after_push findings p [] moments (y ∷ said) R mid after a s is answers = absurd is
after_push findings p (x ∷ asked) moments [] R mid after a s is answers = absurd is

no_more : (findings : Findings) (p : Program) (asked : List Asked) (moments : List ℕ) (said : List Said) (R after : List StationRecord) → After findings p R asked moments said after → After findings p R (asked ++ []) moments (said ++ []) after
no_more findings p asked moments said R after holds =
    subst (λ (l : List Asked). After findings p R l moments (said ++ []) after) (sym (append-nil asked)) (subst (λ (l : List Said). After findings p R asked moments l after) (sym (append-nil said)) holds)

-- ---- the line that a call ends in

-- The line was not answered whole: what is said to it, the records behind it, and what was written of it or of the closing line.
record Under (findings : Findings) (p : Program) (R : List StationRecord) (asked : Asked) (now : ℕ) (got : List ℕ) (closing : Closing) (before disk : DiskState) (got' : Option (List ℕ)) : Type 0 where
  pub said : Said
  pub later : List StationRecord
  pub step : Answers findings p R asked now said later
  pub rest : List ℕ
  pub got_is : got' ≡ Some (got ++ rest)
  pub rest_is : IsPrefix rest (said_line said) ⊎ IsPrefix rest (closing_line closing)
  pub images : LeavesOnly before disk (IsImageOfEither R later)
  pub stuck : is_stuck said ≡ true → closing ≡ not_at_zero
  pub at_rest : closing ≡ not_at_zero → (is_stuck said ≡ true) × EachImage disk (IsImageOf R)
  pub busy : IsTrue (is_at_rest (status_of closing)) → closing ≡ not_at_zero

-- The answer was written whole: three zero calls failed. Behind it stands a front of the closing line.
record Over (findings : Findings) (p : Program) (R : List StationRecord) (asked : Asked) (now : ℕ) (got : List ℕ) (closing : Closing) (before disk : DiskState) (got' : Option (List ℕ)) : Type 0 where
  pub said : Said
  pub step : Answers findings p R asked now said R
  pub closing_is : closing ≡ not_at_zero
  pub stuck : is_stuck said ≡ true
  pub rest : List ℕ
  pub got_is : got' ≡ Some ((got ++ written said) ++ rest)
  pub rest_is : IsPrefix rest (closing_line closing)
  pub images : LeavesOnly before disk (IsImageOfEither R R)
  pub kept : EachImage disk (IsImageOf R)

no_rest_of_write : IsTrue (is_at_rest (status_of write_fault)) → write_fault ≡ not_at_zero
no_rest_of_write rests = cc

no_rest_of_disk : IsTrue (is_at_rest (status_of disk_fault)) → disk_fault ≡ not_at_zero
no_rest_of_disk rests = cc

no_rest_of_memory : IsTrue (is_at_rest (status_of memory)) → memory ≡ not_at_zero
no_rest_of_memory rests = cc

-- such a closing is none of three failed zero calls, and a command is under way
pub record IsBusy (closing : Closing) : Type 0 where
  pub other : closing ≡ not_at_zero → ⊥
  pub busy : IsTrue (is_at_rest (status_of closing)) → closing ≡ not_at_zero

pub busy_write : (closing : Closing) → (closing ≡ write_fault) ⊎ (closing ≡ memory) → IsBusy closing
busy_write closing why = ⊎_elim
    (λ is. subst (λ (x : Closing). IsBusy x) (sym is) (record { other = λ was. cc; busy = no_rest_of_write }))
    (λ is. subst (λ (x : Closing). IsBusy x) (sym is) (record { other = λ was. cc; busy = no_rest_of_memory }))
    why

pub busy_disk : (closing : Closing) → (closing ≡ disk_fault) ⊎ (closing ≡ memory) → IsBusy closing
busy_disk closing why = ⊎_elim
    (λ is. subst (λ (x : Closing). IsBusy x) (sym is) (record { other = λ was. cc; busy = no_rest_of_disk }))
    (λ is. subst (λ (x : Closing). IsBusy x) (sym is) (record { other = λ was. cc; busy = no_rest_of_memory }))
    why

never_both : (b : Bool) (P : Type 0) → b ≡ true → b ≡ false → P
never_both b P true_is false_is = cc

module _ (findings : Findings) (s : StationState) (asked : Asked) (now : ℕ) (closing : Closing) (rig : RigState) (disk : DiskState) (got : List ℕ) (mid got' : Option (List ℕ)) (got_is : mid ≡ Some got) (told : IsTold s findings) where
  unsaid : EndsUnsaid s asked now closing rig disk mid got' → Under findings s.program s.records asked now got closing s.disk disk got'
  unsaid ends =
      let part = part_of (said_line ends.said) got mid got' got_is ends.wrote in
      let busy = busy_write closing ends.why in
      record {
        said = ends.said;
        later = ends.new.records;
        step = step_of findings s asked now ends.said ends.new.records ends.new.disk told (ends.turn.step told.disk);
        rest = part.rest;
        got_is = part.got_is;
        rest_is = inl part.front;
        images = subst (λ (d : DiskState). LeavesOnly s.disk d (IsImageOfEither s.records ends.new.records)) (sym ends.disk_is) (ends.turn.step told.disk).images;
        stuck = λ says. never_both (is_stuck ends.said) (closing ≡ not_at_zero) says ends.turn.at_zero;
        at_rest = λ was. absurd (busy.other was);
        busy = busy.busy;
      }

  lost : EndsLost s asked now closing rig disk mid got' → Under findings s.program s.records asked now got closing s.disk disk got'
  lost ends =
      let may = ends.may told.disk in
      let part = part_of (closing_line closing) got mid got' got_is ends.wrote in
      let busy = busy_disk closing ends.why in
      record {
        said = may.said;
        later = may.later;
        step = step_of findings s asked now may.said may.later disk told may.step;
        rest = part.rest;
        got_is = part.got_is;
        rest_is = inr part.front;
        images = may.step.images;
        stuck = λ says. never_both (is_stuck may.said) (closing ≡ not_at_zero) says may.at_zero;
        at_rest = λ was. absurd (busy.other was);
        busy = busy.busy;
      }

  stuck_unsaid : (ends : EndsStuck s asked now closing rig disk mid got') → WritesFront (said_line ends.said) mid got' → Under findings s.program s.records asked now got closing s.disk disk got'
  stuck_unsaid ends wrote =
      let part = part_of (said_line ends.said) got mid got' got_is wrote in
      record {
        said = ends.said;
        later = s.records;
        step = step_of findings s asked now ends.said s.records disk told (ends.step told.disk);
        rest = part.rest;
        got_is = part.got_is;
        rest_is = inl part.front;
        images = (ends.step told.disk).images;
        stuck = λ says. ends.why;
        at_rest = λ was. (ends.is, ends.kept);
        busy = λ rests. ends.why;
      }

  stuck_said : (ends : EndsStuck s asked now closing rig disk mid got') (late : Option (List ℕ)) → late ≡ Some (got ++ written ends.said) → WritesFront (closing_line not_at_zero) late got' → Over findings s.program s.records asked now got closing s.disk disk got'
  stuck_said ends late late_is wrote =
      let part = part_of (closing_line not_at_zero) (got ++ written ends.said) late got' late_is wrote in
      record {
        said = ends.said;
        step = step_of findings s asked now ends.said s.records disk told (ends.step told.disk);
        closing_is = ends.why;
        stuck = ends.is;
        rest = part.rest;
        got_is = part.got_is;
        rest_is = subst (λ (x : Closing). IsPrefix part.rest (closing_line x)) (sym ends.why) part.front;
        images = (ends.step told.disk).images;
        kept = ends.kept;
      }

  stuck : EndsStuck s asked now closing rig disk mid got' → Under findings s.program s.records asked now got closing s.disk disk got' ⊎ Over findings s.program s.records asked now got closing s.disk disk got'
  stuck ends = ⊎_elim
      (λ whole. inr (stuck_said ends whole.0 (appended mid whole.0 got (written ends.said) got_is whole.1) whole.2))
      (λ part. inl (stuck_unsaid ends part))
      ends.wrote

  how_it_ends : EndsUnsaid s asked now closing rig disk mid got' ⊎ EndsLost s asked now closing rig disk mid got' ⊎ EndsStuck s asked now closing rig disk mid got'
      → Under findings s.program s.records asked now got closing s.disk disk got' ⊎ Over findings s.program s.records asked now got closing s.disk disk got'
  how_it_ends how = ⊎_elim (λ ends. inl (unsaid ends)) (⊎_elim (λ ends. inl (lost ends)) (λ ends. stuck ends)) how

-- ---- the whole call

-- the status 10 is that of three failed zero calls alone
is_ten : (closing : Closing) → status_of closing ≡ 10 → closing ≡ not_at_zero
is_ten none is = cc
is_ten read_fault is = cc
is_ten write_fault is = cc
is_ten disk_fault is = cc
is_ten memory is = cc
is_ten not_at_zero is = refl
is_ten (line_too_long n) is = cc

not_stuck : (b : Bool) → (b ≡ true → ⊥) → b ≡ false
not_stuck true never = absurd (never refl)
not_stuck false never = refl

-- the images of a call, and those of a command more
pub leaves_more : (a b c : DiskState) (first mid last : List StationRecord) → IsPrefix first mid → IsPrefix mid last → LeavesOnly a b (KeepsBetween first mid) → LeavesOnly b c (IsImageOfEither mid last) → LeavesOnly a c (KeepsBetween first last)
leaves_more a b c first mid last from more so_far one =
    and_then a b c (KeepsBetween first last)
    (weaker a b (KeepsBetween first mid) (KeepsBetween first last) (λ honest tells image kept. record { R = kept.R; from = kept.from; to = prefix_and kept.R mid last kept.to more; keeps = kept.keeps }) so_far)
    (weaker b c (IsImageOfEither mid last) (KeepsBetween first last)
    (λ honest tells image kept. ⊎_elim
    (λ before. record { R = mid; from = from; to = more; keeps = before })
    (λ after. record { R = last; from = prefix_and first mid last from more; to = prefix_self last; keeps = after })
    kept)
    one)

-- what a crash may leave behind a command
pub either_after : (old new : DiskState) (R later : List StationRecord) → LeavesOnly old new (IsImageOfEither R later) → EachImage old (IsImageOf R) → EachImage new (IsImageOfEither R later)
either_after old new R later leaves was honest file told image left =
    ⊎_elim (λ before. inl before) (λ either. either) (each_after old new (IsImageOfEither R later) (IsImageOf R) leaves was honest file told image left)

-- a call's word, and whether three zero calls failed in it
pub record Kept (scene : Scene) (began : StationState) (asked_all : List Asked) (status : ℕ) (disk : DiskState) (got' : Option (List ℕ)) : Type 0 where
  pub progress : Progress
  pub word : KeepsItsWord scene began asked_all progress status disk got'
  pub zero : EndsAtZero progress status

module _ (scene : Scene) (began : StationState) (turns : List Turn) (s : StationState) (moments' : Option (List ℕ)) (told : Told scene.findings began.program (asked_of turns) (said_of turns) began s scene.moments moments') (standing : EachImage s.disk (IsImageOf s.records)) (asked_all : List Asked) where
  -- a step of the station's program is one of the program at the beginning
  by_program : (a : Asked) (now : ℕ) (said : Said) (after : List StationRecord) → now ≡ first_moment (moments_behind (said_of turns) scene.moments) → Answers scene.findings s.program s.records a now said after
      → Answers scene.findings began.program s.records a (first_moment (moments_behind (said_of turns) scene.moments)) said after
  by_program a now said after is answers =
      subst (λ (n : ℕ). Answers scene.findings began.program s.records a n said after) is (subst (λ (p : Program). Answers scene.findings p s.records a now said after) told.program answers)

  module _ (a : Asked) (now : ℕ) (now_is : now ≡ first_moment (moments_behind (said_of turns) scene.moments)) (closing : Closing) (status : ℕ) (status_is : status ≡ status_of closing) (disk : DiskState) (got' : Option (List ℕ)) (lines : IsPrefix (asked_of turns ++ a ∷ []) asked_all) where
    -- the line was not answered whole
    ends_under : Under scene.findings s.program s.records a now (scene.got ++ all_written (said_of turns)) closing s.disk disk got' → Kept scene began asked_all status disk got'
    ends_under under =
        let step = by_program a now under.said under.later now_is under.step in
        let grown = grown_answer scene.findings began.program s.records a (first_moment (moments_behind (said_of turns) scene.moments)) under.said under.later step in
        record {
          progress = record { answered = asked_of turns; said = said_of turns; records = s.records; under_way = Some a; next = Some under.said; later = under.later; rest = under.rest; closing = closing };
          word = record {
            answers = record {
              lines = lines;
              said = told.after;
              next = after_push scene.findings began.program (asked_of turns) scene.moments (said_of turns) began.records s.records under.later a under.said told.after step;
              written = under.got_is;
              rest = ⊎_elim (λ line. inl (under.said, refl, line)) (λ closed. inr closed) under.rest_is;
              status_is = status_is;
            };
            stopped = leaves_more began.disk s.disk disk began.records s.records under.later (prefix_grown scene.findings began.records s.records told.grown) (prefix_grown scene.findings s.records under.later grown) told.images under.images;
            acknowledged = record {
              kept = either_after s.disk disk s.records under.later under.images standing;
              at_rest = λ rests. (under.at_rest (under.busy (subst (λ (n : ℕ). IsTrue (is_at_rest n)) status_is rests))).1;
            };
            recorded = grown_and scene.findings began.records s.records under.later told.grown grown;
          };
          zero = record {
            stuck = λ ten. record { before = said_of turns; last = under.said; are = refl; none_before = told.at_zero; stuck = (under.at_rest (is_ten closing (sym status_is ∙ ten))).0 };
            at_zero = λ not_ten. all_push (λ (x : Said). is_stuck x ≡ false) (said_of turns) under.said told.at_zero (not_stuck (is_stuck under.said) (λ says. not_ten (status_is ∙ ap status_of (under.stuck says))));
          };
        }

    -- it was, and three zero calls failed
    ends_over : Over scene.findings s.program s.records a now (scene.got ++ all_written (said_of turns)) closing s.disk disk got' → Kept scene began asked_all status disk got'
    ends_over over =
        let step = by_program a now over.said s.records now_is over.step in
        let more = after_push scene.findings began.program (asked_of turns) scene.moments (said_of turns) began.records s.records s.records a over.said told.after step in
        record {
          progress = record { answered = asked_of turns ++ a ∷ []; said = said_of turns ++ over.said ∷ []; records = s.records; under_way = None; next = None; later = s.records; rest = over.rest; closing = closing };
          word = record {
            answers = record {
              lines = subst (λ (l : List Asked). IsPrefix l asked_all) (sym (append-nil (asked_of turns ++ a ∷ []))) lines;
              said = more;
              next = no_more scene.findings began.program (asked_of turns ++ a ∷ []) scene.moments (said_of turns ++ over.said ∷ []) began.records s.records more;
              written = over.got_is ∙ ap (λ (l : List ℕ). Some (l ++ over.rest)) (append_assoc scene.got (all_written (said_of turns)) (written over.said) ∙ ap (λ (l : List ℕ). scene.got ++ l) (sym (written-push (said_of turns) over.said)));
              rest = inr over.rest_is;
              status_is = status_is;
            };
            stopped = leaves_more began.disk s.disk disk began.records s.records s.records (prefix_grown scene.findings began.records s.records told.grown) (prefix_self s.records) told.images over.images;
            acknowledged = record { kept = λ honest file tells image left. inl (over.kept honest file tells image left); at_rest = λ rests. over.kept };
            recorded = told.grown;
          };
          zero = record {
            stuck = λ ten. record { before = said_of turns; last = over.said; are = append-nil (said_of turns ++ over.said ∷ []); none_before = told.at_zero; stuck = over.stuck };
            at_zero = λ not_ten. absurd (not_ten (status_is ∙ ap status_of over.closing_is));
          };
        }

  -- the call ends in the next line
  pub ends_in_line : (a : Asked) (mid : Option (List ℕ)) (status : ℕ) (rig : RigState) (disk : DiskState) (got' late : Option (List ℕ)) → mid ≡ Some (scene.got ++ all_written (said_of turns)) → IsPrefix (asked_of turns ++ a ∷ []) asked_all
      → EndsIn s a status rig disk mid got' moments' late → Kept scene began asked_all status disk got'
  ends_in_line a mid status rig disk got' late got_is lines ends =
      let now_is = ticked moments' late ends.now (moments_behind (said_of turns) scene.moments) told.moments_are ends.ticks in
      ⊎_elim
      (λ under. ends_under a ends.now now_is.0 ends.closing status ends.status_is disk got' lines under)
      (λ over. ends_over a ends.now now_is.0 ends.closing status ends.status_is disk got' lines over)
      (how_it_ends scene.findings s a ends.now ends.closing rig disk (scene.got ++ all_written (said_of turns)) mid got' got_is told.told ends.how)

  -- how far a call came that ends between two lines
  abbrev pub between : List ℕ → Closing → Progress
  between rest closing = record { answered = asked_of turns; said = said_of turns; records = s.records; under_way = None; next = None; later = s.records; rest = rest; closing = closing }

  pub ends_between : (closing : Closing) (status : ℕ) (disk : DiskState) (got' : Option (List ℕ)) (rest : List ℕ)
      → IsPrefix (asked_of turns) asked_all → disk ≡ s.disk → status ≡ status_of closing → (status ≡ 10 → ⊥) → got' ≡ Some ((scene.got ++ all_written (said_of turns)) ++ rest) → IsPrefix rest (closing_line closing)
      → KeepsItsWord scene began asked_all (between rest closing) status disk got' × EndsAtZero (between rest closing) status
  ends_between closing status disk got' rest lines same status_is not_ten got_is front =
      let kept : EachImage disk (IsImageOf s.records) = subst (λ (d : DiskState). EachImage d (IsImageOf s.records)) (sym same) standing in (
        record {
          answers = record {
            lines = subst (λ (l : List Asked). IsPrefix l asked_all) (sym (append-nil (asked_of turns))) lines;
            said = told.after;
            next = no_more scene.findings began.program (asked_of turns) scene.moments (said_of turns) began.records s.records told.after;
            written = got_is;
            rest = inr front;
            status_is = status_is;
          };
          stopped = subst (λ (d : DiskState). LeavesOnly began.disk d (KeepsBetween began.records s.records)) (sym same) told.images;
          acknowledged = record { kept = λ honest file tells image left. inl (kept honest file tells image left); at_rest = λ rests. kept };
          recorded = told.grown;
        },
        record {
          stuck = λ ten. absurd (not_ten ten);
          at_zero = λ other. subst (λ (l : List Said). NoneStuck l) (sym (append-nil (said_of turns))) told.at_zero;
        },
      )
