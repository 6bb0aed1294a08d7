-- What a command that was applied makes of a line.
use Rattle.std.proofs.Common.{◌≡◌, ◌⊎◌, inl, inr, ⊎_elim, ℕ, ◌≤◌, List, [], ◌∷◌, ◌++◌, Option, Some, None, refl, sym, ap, subst, Result, Ok, Err, IfOk, IfErr, arith}
use Rattle.std.specs.Prelude.{IfSome}
use Rattle.std.specs.Io.KnownBytes.{Appends}
use Rattle.base.specs.Causes.{Rose}
use Rattle.base.specs.declared.memory.Memory.{Memory}
use Rattle.bench_edge.specs.Clocks.{Ticks}
use Rattle.disk_edge.specs.Disk.{DiskState, LeavesOnly}
use Rattle.disk_edge.proofs.Moments.{none_images}
use Rattle.journal.specs.Journal.{KeepsLimit}
use Rattle.rig.specs.RigState.{RigState}
use Rattle.unit_outcome.specs.Found.{Findings, told_by}
use Rattle.unit_outcome.specs.Tested.{IsNotAtZero}
use Rattle.records.specs.declared.record.StationRecord.{StationRecord}
use Rattle.ledger.specs.Kept.{IsImageOfEither}
use Rattle.ledger.specs.Ledger.{Tells}
use Rattle.serials.specs.declared.command.Command.{Command}
use Rattle.serials.specs.Commands.{id_of}
use Rattle.station.specs.declared.answer.Answer.{Answer}
use Rattle.station.specs.AnswerText.{answer_line}
use Rattle.station.specs.Ended.{End, replied, lost, stuck, Ends, EndsBy}
use Rattle.station.specs.RigAfter.{Bears, TestOf, AnsweredFor, GrowsTallies, StaysInOrder, StaysOrKeeps}
use Rattle.station.specs.Step.{Reply, answered, not_at_zero, decision_at, Step}
use Rattle.station.specs.View.{StationState, IsTold, Same}
use Rattle.script.specs.Closing.{Closing, write_fault, memory}
use Rattle.script.specs.Said.{Asked, Said, no_command, said_line, written, is_stuck}
use Rattle.script.specs.Said as said
use Rattle.script.specs.Saying.{Says, SaysPart, SaysNot, SaysLast, WritesFront}
use Rattle.script.specs.Turns.{Steps, IsTurn, IsAnswered}
use Rattle.script.specs.Ends.{EndsUnsaid, MayEnd, StuckSays, EndsIn}
use Rattle.script.proofs.on_rig.Rigs.{test_of}

-- what the rig tells of each unit, or something else
some_findings : (o : Option Findings) → (f : Findings) × IfSome o (λ told. f ≡ told)
some_findings None = ((λ serial attempt. None), tt)
some_findings (Some f) = (f, refl)

-- what is told, or else something that was found
ends_by : (s : StationState) (end : End) (Allowed : Findings → Reply → List StationRecord → Type 0) (o : Option Findings) → told_by s.program s.rig ≡ o → ((f : Findings) → told_by s.program s.rig ≡ Some f → Ends s end (Allowed f)) → (f : Findings) × Ends s end (Allowed f)
    → (f : Findings) × IfSome o (λ told. f ≡ told) × Ends s end (Allowed f)
ends_by s end Allowed None is told some = (some.0, tt, some.1)
ends_by s end Allowed (Some f) is told some = (f, refl, told f is)

pub by_both : (s : StationState) (end : End) (Allowed : Findings → Reply → List StationRecord → Type 0) → ((f : Findings) → IsTold s f → Ends s end (Allowed f)) → (Tells s.disk → (f : Findings) × Ends s end (Allowed f)) → Tells s.disk → EndsBy s end Allowed
by_both s end Allowed told some tells =
    let by = ends_by s end Allowed (told_by s.program s.rig) refl (λ f is. told f (record { disk = tells; findings_are = is })) (some tells) in
    record { findings = by.0; told = by.1; ends = by.2 }

-- what is no command leaves the station as it was
pub none_turn : (s : StationState) (number now : ℕ) → IsTurn s (number, None) now (no_command number) s
none_turn s number now = record {
  at_zero = refl;
  same = record { program = refl; told = refl };
  step = λ tells.
      let found = some_findings (told_by s.program s.rig) in
      record { findings = found.0; told = found.1; step = (refl, refl); images = none_images s.disk (IsImageOfEither s.records s.records) };
  disk = record { limit = none_images s.disk (KeepsLimit s.disk); later = omega arith };
  rig = record { kept = inl refl; tallies = inl refl };
  did = (refl, refl);
  order = inl refl;
}

module _ (s : StationState) (number : ℕ) (c : Command) (now : ℕ) where
  -- a command that was answered
  pub answered_turn : (t : StationState) (a : Answer) → (Tells s.disk → EndsBy s (replied (answered a) t) (λ f. Step f s.program s.records c now)) → Same s t → LeavesOnly s.disk t.disk (KeepsLimit s.disk) → s.disk.faults ≤ t.disk.faults
      → AnsweredFor (TestOf c (decision_at s.program s.records c now)) s t a → StaysOrKeeps s.rig t.rig → GrowsTallies (TestOf c (decision_at s.program s.records c now)) s.rig t.rig → StaysInOrder s.program s.rig t.rig
      → IsTurn s (number, Some c) now (said.replied (id_of c) (answered a)) t
  answered_turn t a step same limit later did kept tallies order = record {
    at_zero = refl;
    same = same;
    step = λ tells.
        let by = step tells in
        record {
          findings = by.findings;
          told = by.told;
          step = record {
            reply = answered a;
            said_is = refl;
            step = subst (λ (r : Reply). Step by.findings s.program s.records c now r t.records) by.ends.given.0
                (subst (λ (R : List StationRecord). Step by.findings s.program s.records c now by.ends.reply R) by.ends.given.1 by.ends.allowed);
          };
          images = subst (λ (R : List StationRecord). LeavesOnly s.disk t.disk (IsImageOfEither s.records R)) by.ends.given.1 by.ends.images;
        };
    disk = record { limit = limit; later = later };
    rig = record { kept = kept; tallies = tallies };
    did = (a, refl, did);
    order = order;
  }

  -- one that was not
  pub lost_may : (rig : RigState) (disk : DiskState) → EndsBy s (lost disk) (λ f reply later. Step f s.program s.records c now reply later × Bears s disk later rig) → MayEnd s (number, Some c) now rig disk
  lost_may rig disk by = record {
    said = said.replied (id_of c) by.ends.reply;
    later = by.ends.later;
    step = record {
      findings = by.findings;
      told = by.told;
      step = record { reply = by.ends.reply; said_is = refl; step = by.ends.allowed.0 };
      images = by.ends.images;
    };
    at_zero = ap (λ (r : Reply). is_stuck (said.replied (id_of c) r)) by.ends.given.1;
    bears = by.ends.allowed.1;
  }

  -- one whose three zero calls failed
  pub stuck_steps : (disk : DiskState) → EndsBy s (stuck disk) (λ f. Step f s.program s.records c now) → Steps s (number, Some c) now (said.replied (id_of c) not_at_zero) s.records disk
  stuck_steps disk by = record {
    findings = by.findings;
    told = by.told;
    step = record {
      reply = not_at_zero;
      said_is = refl;
      step = subst (λ (r : Reply). Step by.findings s.program s.records c now r s.records) by.ends.given.0
          (subst (λ (R : List StationRecord). Step by.findings s.program s.records c now by.ends.reply R) by.ends.given.1 by.ends.allowed);
    };
    images = subst (λ (R : List StationRecord). LeavesOnly s.disk disk (IsImageOfEither s.records R)) by.ends.given.1 by.ends.images;
  }

  pub rose_stuck : (rig : RigState) → TestOf c (decision_at s.program s.records c now) (λ serial attempt. IsNotAtZero s.program serial attempt s.rig rig) → Rose s.rig.faults rig.faults
  rose_stuck rig at = test_of c (decision_at s.program s.records c now) (λ serial attempt. IsNotAtZero s.program serial attempt s.rig rig) (Rose s.rig.faults rig.faults) (λ serial attempt stops. stops.rose) at

-- ---- what is said

-- the line of an answer
pub answer_said : (a : Answer) (id : List ℕ) (line : Result (List ℕ) Memory) → IfOk line (λ text. text ≡ answer_line a id) → IfOk line (λ text. text ≡ said_line (said.replied id (answered a)))
unfolding said_line
answer_said a id line is = is

says_written : (one : Said) (line : Result (List ℕ) Memory) (got got' : Option (List ℕ)) → IfOk line (λ text. text ≡ said_line one) → Says line got got' → Appends got got' (written one)
says_written one (Ok text) got got' is says = subst (λ (t : List ℕ). Appends got got' (t ++ 10 ∷ [])) is says
says_written one (Err e) got got' is says = absurd says

says_front : (one : Said) (line : Result (List ℕ) Memory) (got got' : Option (List ℕ)) → IfOk line (λ text. text ≡ said_line one) → SaysPart line got got' → WritesFront (said_line one) got got'
says_front one (Ok text) got got' is part = subst (λ (t : List ℕ). WritesFront t got got') is part
says_front one (Err e) got got' is wrote = record { count = 0; within = omega arith; wrote = wrote }

module _ (s t : StationState) (asked : Asked) (now : ℕ) (one : Said) (line : Result (List ℕ) Memory) (is : IfOk line (λ text. text ≡ said_line one)) (got got' moments moments' : Option (List ℕ)) (ticks : Ticks moments moments' now) (turn : IsTurn s asked now one t) where
  pub goes_on : (after : StationState) → after ≡ t → Says line got got' → IsAnswered s asked after got got' moments moments'
  goes_on after same says = subst (λ (x : StationState). IsAnswered s asked x got got' moments moments') (sym same) (record {
    now = now;
    said = one;
    ticks = ticks;
    turn = turn;
    wrote = says_written one line got got' is says;
  })

  pub goes_not_on : (status : ℕ) (rig : RigState) (disk : DiskState) → rig ≡ t.rig → disk ≡ t.disk → SaysNot line got got' status → EndsIn s asked status rig disk got got' moments moments'
  goes_not_on status rig disk rig_is disk_is (why, part) =
      let unsaid : (closing : Closing) → (closing ≡ write_fault) ⊎ (closing ≡ memory) → EndsUnsaid s asked now closing rig disk got got' = λ closing which. record {
        why = which;
        said = one;
        new = t;
        turn = turn;
        rig_is = rig_is;
        disk_is = disk_is;
        wrote = says_front one line got got' is part;
      } in
      ⊎_elim
      (λ seven. record { now = now; ticks = ticks; closing = write_fault; status_is = seven; how = inl (unsaid write_fault (inl refl)) })
      (λ nine. record { now = now; ticks = ticks; closing = memory; status_is = nine; how = inl (unsaid memory (inr refl)) })
      why

pub stuck_says : (one : Said) (line : Result (List ℕ) Memory) (got got' : Option (List ℕ)) → IfOk line (λ text. text ≡ said_line one) → SaysLast line got got' → StuckSays one got got'
stuck_says one line got got' is says = ⊎_elim
    (λ whole. inl (whole.0, says_written one line got whole.0 is whole.1, whole.2))
    (λ part. inr (says_front one line got got' is part))
    says

-- a result that says one thing says another
pub when_ok : {T E : Type 0} (r : Result T E) (P Q : T → Type 0) → ((x : T) → P x → Q x) → IfOk r P → IfOk r Q
when_ok (Ok x) P Q more holds = more x holds
when_ok (Err e) P Q more holds = tt

pub when_err : {T E : Type 0} (r : Result T E) (P Q : E → Type 0) → ((e : E) → P e → Q e) → IfErr r P → IfErr r Q
when_err (Ok x) P Q more holds = tt
when_err (Err e) P Q more holds = more e holds

pub both_err : {T E : Type 0} (r : Result T E) (P Q S U : E → Type 0) → ((e : E) → P e → Q e → S e → U e) → IfErr r P → IfErr r Q → IfErr r S → IfErr r U
both_err (Ok x) P Q S U more p q s = tt
both_err (Err e) P Q S U more p q s = more e p q s
