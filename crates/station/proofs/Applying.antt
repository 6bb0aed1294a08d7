-- A command, by what its parts say.
use Rattle.std.proofs.Common.{◌≡◌, ◌⊎◌, inl, inr, ⊎_elim, ℕ, ◌-◌, ◌≤◌, Bool, true, false, List, [], ◌∷◌, ◌++◌, length, Option, Some, None, refl, sym, ◌∙◌, ap, subst, arith, Result, Ok, Err, IfSome, length-append}
use Rattle.std.specs.Prelude.{if◌then◌else◌}
use Rattle.std.specs.List.{slice_get}
use Rattle.disk_edge.specs.Disk.{DiskState, LeavesOnly, EachImage}
use Rattle.journal.specs.Journal.{KeepsLimit}
use Rattle.rig.specs.RigState.{RigState}
use Rattle.wirelist.specs.declared.program.Program.{Program}
use Rattle.wirelist.specs.declared.outcome.Outcome.{Outcome}
use Rattle.wirelist.specs.declared.outcome.Outcome.TheVariants.{Pass}
use Rattle.unit_outcome.specs.Found.{Findings, HasOutcome, told_by}
use Rattle.unit_outcome.specs.Tested.{IsTested, IsCutOff, IsNotAtZero, Keeps}
use Rattle.unit_outcome.proofs.Told.{told_stays}
use Rattle.records.specs.declared.record.Body.TheVariants as body
use Rattle.records.specs.declared.record.Staff.{Staff}
use Rattle.records.specs.declared.record.StationRecord.{StationRecord}
use Rattle.serials.specs.declared.command.Command.{Command}
use Rattle.serials.specs.declared.command.Command.TheVariants as command
use Rattle.serials.specs.declared.decision.Decision.TheVariants as decision
use Rattle.serials.specs.Decided.{IsNoTest}
use Rattle.serials.proofs.IndexLemmas.{slice_get-push}
use Rattle.ledger.specs.Kept.{IsImageOf, IsImageOfEither, is_full}
use Rattle.ledger.specs.Ledger.{Tells}
use Rattle.station.specs.declared.answer.Answer.{Answer}
use Rattle.station.specs.declared.answer.Answer.TheVariants as answer
use Rattle.station.specs.declared.answer.Refused.{Refused}
use Rattle.station.specs.declared.answer.Refused.TheVariants as refused
use Rattle.station.specs.declared.station.StepDone.{StepDone}
use Rattle.station.specs.declared.stops.StepStop.{StepStop}
use Rattle.station.specs.declared.stops.StepStop.TheVariants.{Disk, NotZero, Memory}
use Rattle.station.specs.AnswerText.{HasDays, RefusedHasDays}
use Rattle.station.specs.Applied.{Applied, Storing}
use Rattle.station.specs.View.{StationState, IsStanding}
use Rattle.station.specs.Step.{Reply, answered, not_at_zero, body_of, record_of, keeps, refuses, stores, tested_unit, StepBy, Tests}
use Rattle.station.specs.Ended.{End, Ends, EndsBy, replied, disk_after, end_of, rig_after, Stores, StoredOr}
use Rattle.station.specs.RigAfter.{Bears, TestOf, Leaves, LeavesFor, LeftOrTested, AnsweredFor, StaysOrKeeps}
use Rattle.station.proofs.Ending.{Chosen, chosen, any_findings, unchanged, leaves_all, lost_all, stuck_all, allows_more, from_same, lost_or_not, says_keep, says_stored, says_test}

-- the last record is the one that was stored
pub last_stored : (R : List StationRecord) (r : StationRecord) → slice_get (R ++ r ∷ []) (length (R ++ r ∷ []) - 1) ≡ Some r
last_stored R r =
    let place : length (R ++ r ∷ []) - 1 ≡ length R = omega (arith, length-append R (r ∷ [])) in
    ap (slice_get (R ++ r ∷ [])) place ∙ slice_get-push R r

stored_leaves : (p : Program) (R records : List StationRecord) (r : StationRecord) (old new : RigState) → records ≡ R ++ r ∷ [] → Leaves p r.body old new → LeavesFor p records old new
stored_leaves p R records r old new are leaves =
    subst (λ (l : List StationRecord). LeavesFor p l old new) (sym are)
    (subst (λ (o : Option StationRecord). IfSome o (λ (x : StationRecord). Leaves p x.body old new)) (sym (last_stored R r)) leaves)

-- a record that was stored, or found no room, names no day
stored_days : (r : StationRecord) (old : StationState) (later : List StationRecord) (a : Answer) → StoredOr old r later a → HasDays a
stored_days r old later (answer.Stored number v) stored = tt
stored_days r old later (answer.Same number v) stored = tt
stored_days r old later (answer.No why) stored = subst RefusedHasDays (sym stored.0) tt

-- a command that is no test leaves the rig alone
leaves_kept : (c : Command) → IsNoTest c → (p q : Program) (attempt : ℕ) (outcome : Outcome) (old new : RigState) → new ≡ old → Leaves p (body_of q attempt outcome c) old new
leaves_kept (command.Adopt id) notest p q attempt outcome old new same = same
leaves_kept (command.Enrol id serial) notest p q attempt outcome old new same = same
leaves_kept (command.Calibrate id day) notest p q attempt outcome old new same = same
leaves_kept (command.Mark id) notest p q attempt outcome old new same = same
leaves_kept (command.Test id serial staff) notest p q attempt outcome old new same = absurd notest
leaves_kept (command.Rework id serial) notest p q attempt outcome old new same = same
leaves_kept (command.Release id serial) notest p q attempt outcome old new same = same
leaves_kept (command.Scrap id serial) notest p q attempt outcome old new same = same

-- without what the rig shows
unborne : (old : StationState) (end : End) (A B : Findings → Reply → List StationRecord → Type 0) → EndsBy old end (λ f reply later. A f reply later × B f reply later) → EndsBy old end A
unborne old end A B by = record {
  findings = by.findings;
  told = by.told;
  ends = allows_more old (λ reply later. A by.findings reply later × B by.findings reply later) end (A by.findings) (λ reply later both. both.0) by.ends;
}

-- a record that was to be stored is the last one, or there was no room
stores_bear : (old : StationState) (disk : DiskState) (new : RigState) (r : StationRecord) (full : Bool) (later : List StationRecord) → is_full old.records ≡ full → later ≡ (keeps old.records r).1 → Leaves old.program r.body old.rig new → Bears old disk later new
stores_bear old disk new r true later is kept leaves =
    inr (inl (kept ∙ ap (λ (b : Bool). (if b then refuses old.records refused.Full else stores old.records r).1) is))
stores_bear old disk new r false later is kept leaves =
    inr (inr (stored_leaves old.program old.records later r old.rig new (kept ∙ ap (λ (b : Bool). (if b then refuses old.records refused.Full else stores old.records r).1) is) leaves))

module _ (Of : (List ℕ → ℕ → Type 0) → Type 0) (old new : StationState) where
  answered_keep : (a : Answer) (c : Command) (moment : ℕ) → IsNoTest c → StoredOr old (record_of old.program moment 0 Pass c) new.records a → new.rig ≡ old.rig → AnsweredFor Of old new a
  answered_keep (answer.Stored number v) c moment notest stored same =
      (stored_leaves old.program old.records new.records (record_of old.program moment 0 Pass c) old.rig new.rig stored (leaves_kept c notest old.program old.program 0 Pass old.rig new.rig same), inl same)
  answered_keep (answer.Same number v) c moment notest stored same = absurd stored
  answered_keep (answer.No why) c moment notest stored same = subst (λ (w : Refused). AnsweredFor Of old new (answer.No w)) (sym stored.0) same

module _ {R D : Type 0} (rs : R → RigState) (ds : D → DiskState) (Of : (List ℕ → ℕ → Type 0) → Type 0) (Allowed : Findings → Reply → List StationRecord → Type 0) (old : StationState) where
  -- an answer that leaves disk and records, with the rig as it is then
  pub answers_with : (done : StepDone R D) (a : Answer) (rig : RigState) → HasDays a → done.answer ≡ a → done.station ≡ record old { rig = rig } → IsStanding done.station
      → (Tells old.disk → Chosen (told_by old.program old.rig) (λ f. Allowed f (answered a) old.records)) → AnsweredFor Of old (record old { rig = rig }) a
      → told_by old.program rig ≡ told_by old.program old.rig → StaysOrKeeps old.rig rig → Applied rs ds Of Allowed old (Ok done)
  answers_with done a rig days answer_is station_is standing ch says told kept =
      let Shown : Findings → Reply → List StationRecord → Type 0 = λ f reply later. Allowed f reply later × Bears old done.station.disk later done.station.rig in
      let bears : Tells old.disk → EndsBy old (replied (answered done.answer) done.station) Shown = λ tells.
      let made = ch tells in
      record {
        findings = made.findings;
        told = made.are_told;
        ends = subst (λ (x : Answer). Ends old (replied (answered x) done.station) (Shown made.findings)) (sym answer_is)
            (leaves_all old (Shown made.findings) done.station (answered a) (ap (λ (s : StationState). s.disk) station_is) (ap (λ (s : StationState). s.records) station_is) (made.holds, inr (inl refl)));
      } in
      record {
        step = λ tells. unborne old (replied (answered done.answer) done.station) Allowed (λ f reply later. Bears old done.station.disk later done.station.rig) (bears tells);
        bears = bears;
        days = subst HasDays (sym answer_is) days;
        standing = standing;
        same = record { program = ap (λ (s : StationState). s.program) station_is; told = ap (λ (s : StationState). told_by s.program s.rig) station_is ∙ told };
        stop = tt;
        limit = unchanged old.disk done.station.disk (KeepsLimit old.disk) (ap (λ (s : StationState). s.disk) station_is);
        disk_later = omega (arith, ap (λ (s : StationState). s.disk.faults) station_is);
        rig = subst (λ (x : Answer). AnsweredFor Of old done.station x) (sym answer_is) (subst (λ (s : StationState). AnsweredFor Of old s a) (sym station_is) says);
        rig_kept = subst (λ (s : StationState). StaysOrKeeps old.rig s.rig) (sym station_is) kept;
      }

  -- an answer that leaves all as it was
  pub answers_same : (done : StepDone R D) (a : Answer) → HasDays a → done.answer ≡ a → done.station ≡ old → IsStanding old → (Tells old.disk → (f : Findings) → Allowed f (answered a) old.records) → AnsweredFor Of old old a → Applied rs ds Of Allowed old (Ok done)
  answers_same done a days answer_is station_is standing allowed says =
      let any = any_findings (told_by old.program old.rig) in
      answers_with done a old.rig days answer_is station_is (subst IsStanding (sym station_is) standing)
      (λ tells. record { findings = any.findings; are_told = any.are_told; holds = allowed tells any.findings }) says refl (inl refl)

  -- memory ran out with the disk as it was
  pub runs_out : (rig : R) (disk : D) → ds disk ≡ old.disk → (rs rig).volts ≡ 0 → ((f : Findings) → (a : Answer) × (later : List StationRecord) × Allowed f (answered a) later)
      → (LeftOrTested Of old.program old.rig (rs rig) ⊎ Of (λ serial attempt. IsCutOff old.program serial attempt old.rig (rs rig))) → StaysOrKeeps old.rig (rs rig) → Applied rs ds Of Allowed old (Err (Memory rig disk))
  runs_out rig disk same at_zero allowed ends kept =
      let any = any_findings (told_by old.program old.rig) in
      let some = allowed any.findings in
      record {
        step = λ tells. record { findings = any.findings; told = any.are_told; ends = lost_all old (Allowed any.findings) (ds disk) some.0 some.1 same some.2 };
        bears = λ tells. record {
          findings = any.findings;
          told = any.are_told;
          ends = lost_all old (λ reply later. Allowed any.findings reply later × Bears old (ds disk) later (rs rig)) (ds disk) some.0 some.1 same (some.2, inl same);
        };
        days = tt;
        standing = tt;
        same = tt;
        stop = at_zero;
        limit = unchanged old.disk (ds disk) (KeepsLimit old.disk) same;
        disk_later = omega (arith, ap (λ (d : DiskState). d.faults) same);
        rig = ends;
        rig_kept = kept;
      }

  -- three zero calls failed
  pub sticks : (rig : R) (disk : D) → ds disk ≡ old.disk → EachImage (ds disk) (IsImageOf old.records) → Chosen (told_by old.program old.rig) (λ f. Allowed f not_at_zero old.records)
      → Of (λ serial attempt. IsNotAtZero old.program serial attempt old.rig (rs rig)) → Keeps old.rig (rs rig) → Applied rs ds Of Allowed old (Err (NotZero rig disk))
  sticks rig disk same images ch stuck keeps = record {
    step = λ tells. record { findings = ch.findings; told = ch.are_told; ends = stuck_all old (Allowed ch.findings) (ds disk) same ch.holds };
    bears = λ tells. record {
      findings = ch.findings;
      told = ch.are_told;
      ends = stuck_all old (λ reply later. Allowed ch.findings reply later × Bears old (ds disk) later (rs rig)) (ds disk) same (ch.holds, inl same);
    };
    days = tt;
    standing = tt;
    same = tt;
    stop = images;
    limit = unchanged old.disk (ds disk) (KeepsLimit old.disk) same;
    disk_later = omega (arith, ap (λ (d : DiskState). d.faults) same);
    rig = stuck;
    rig_kept = inr keeps;
  }

module _ {R D : Type 0} (rs : R → RigState) (ds : D → DiskState) where
  -- a command that is no test is kept
  module _ (old : StationState) (c : Command) (moment : ℕ) (notest : IsNoTest c) (at_zero : old.rig.volts ≡ 0) where
    keeps_step : (result : Result (StepDone R D) (StepStop R D)) → Storing rs ds (record_of old.program moment 0 Pass c) old result
        → Tells old.disk → EndsBy old (end_of ds result) (λ f. StepBy f old.program old.records c moment decision.Keep)
    keeps_step result storing tells =
        let any = any_findings (told_by old.program old.rig) in
        record {
          findings = any.findings;
          told = any.are_told;
          ends = allows_more old (Stores old.records (record_of old.program moment 0 Pass c)) (end_of ds result) (StepBy any.findings old.program old.records c moment decision.Keep)
              (λ reply later stored. says_keep any.findings old.program old.records c moment reply later stored) (storing.step tells);
        }

    keeps_bears : (result : Result (StepDone R D) (StepStop R D)) → Storing rs ds (record_of old.program moment 0 Pass c) old result
        → Tells old.disk → EndsBy old (end_of ds result) (λ f reply later. StepBy f old.program old.records c moment decision.Keep reply later × Bears old (disk_after (end_of ds result)) later (rig_after rs result))
    keeps_bears result storing tells =
        let any = any_findings (told_by old.program old.rig) in
        let r = record_of old.program moment 0 Pass c in
        let leaves = leaves_kept c notest old.program old.program 0 Pass old.rig (rig_after rs result) storing.rig in
        record {
          findings = any.findings;
          told = any.are_told;
          ends = allows_more old (Stores old.records r) (end_of ds result) (λ reply later. StepBy any.findings old.program old.records c moment decision.Keep reply later × Bears old (disk_after (end_of ds result)) later (rig_after rs result))
              (λ reply later stored. (says_keep any.findings old.program old.records c moment reply later stored, stores_bear old (disk_after (end_of ds result)) (rig_after rs result) r (is_full old.records) later refl stored.1 leaves))
              (storing.step tells);
        }

    pub keeps_applied : (result : Result (StepDone R D) (StepStop R D)) → Storing rs ds (record_of old.program moment 0 Pass c) old result
        → Applied rs ds (TestOf c decision.Keep) (λ f. StepBy f old.program old.records c moment decision.Keep) old result
    keeps_applied (Ok done) storing = record {
      step = keeps_step (Ok done) storing;
      bears = keeps_bears (Ok done) storing;
      days = stored_days (record_of old.program moment 0 Pass c) old done.station.records done.answer storing.answers;
      standing = storing.standing;
      same = record { program = storing.program; told = ap (λ (p : Program). told_by p done.station.rig) storing.program ∙ ap (told_by old.program) storing.rig };
      stop = tt;
      limit = storing.limit;
      disk_later = storing.disk_later;
      rig = answered_keep (TestOf c decision.Keep) old done.station done.answer c moment notest storing.answers storing.rig;
      rig_kept = inl storing.rig;
    }
    keeps_applied (Err (Disk rig disk)) storing = record {
      step = keeps_step (Err (Disk rig disk)) storing;
      bears = keeps_bears (Err (Disk rig disk)) storing;
      days = tt;
      standing = tt;
      same = tt;
      stop = (storing.stop, ap (λ (s : RigState). s.volts) storing.rig ∙ at_zero);
      limit = storing.limit;
      disk_later = storing.disk_later;
      rig = inl storing.rig;
      rig_kept = inl storing.rig;
    }
    keeps_applied (Err (NotZero rig disk)) storing = absurd storing.stop
    keeps_applied (Err (Memory rig disk)) storing = record {
      step = keeps_step (Err (Memory rig disk)) storing;
      bears = keeps_bears (Err (Memory rig disk)) storing;
      days = tt;
      standing = tt;
      same = tt;
      stop = ap (λ (s : RigState). s.volts) storing.rig ∙ at_zero;
      limit = storing.limit;
      disk_later = storing.disk_later;
      rig = inl (inl storing.rig);
      rig_kept = inl storing.rig;
    }

  -- the record of a test is stored
  module _ (old : StationState) (id serial : List ℕ) (staff : Option Staff) (attempt moment : ℕ) (outcome : Outcome) (rig : RigState)
      (room : old.full ≡ false) (told_room : Tells old.disk → is_full old.records ≡ false) (tested : IsTested old.program serial attempt old.rig rig outcome) where
    abbrev pub made : Outcome → StationRecord
    made found = record { id = id; moment = moment; body = body.Tested serial attempt staff found }

    abbrev pub mid : StationState
    mid = record old { rig = rig }

    tests_step : (result : Result (StepDone R D) (StepStop R D)) → Storing rs ds (made outcome) mid result → Tells old.disk → EndsBy old (end_of ds result) (λ f. Tests old.records made (f serial attempt))
    tests_step result storing tells =
        let ch = chosen (told_by old.program old.rig) serial attempt (λ unit. HasOutcome unit outcome) tested.told (Some (record { outcome = outcome; charged = None }))
        (record { found = record { outcome = outcome; charged = None }; there = refl; discharged = refl; outcome_is = refl }) in
        record {
          findings = ch.findings;
          told = ch.are_told;
          ends = from_same old mid (end_of ds result) (Tests old.records made (ch.findings serial attempt)) refl refl
              (allows_more mid (Stores old.records (made outcome)) (end_of ds result) (Tests old.records made (ch.findings serial attempt))
              (λ reply later stored. says_stored old.records made (ch.findings serial attempt) outcome (told_room tells) ch.holds reply later stored) (storing.step tells));
        }

    tests_bear : (result : Result (StepDone R D) (StepStop R D)) → Storing rs ds (made outcome) mid result
        → Tells old.disk → EndsBy old (end_of ds result) (λ f reply later. Tests old.records made (f serial attempt) reply later × Bears old (disk_after (end_of ds result)) later (rig_after rs result))
    tests_bear result storing tells =
        let ch = chosen (told_by old.program old.rig) serial attempt (λ unit. HasOutcome unit outcome) tested.told (Some (record { outcome = outcome; charged = None }))
        (record { found = record { outcome = outcome; charged = None }; there = refl; discharged = refl; outcome_is = refl }) in
        let Shown : Reply → List StationRecord → Type 0 = λ reply later. Tests old.records made (ch.findings serial attempt) reply later × Bears old (disk_after (end_of ds result)) later (rig_after rs result) in
        let leaves : IsTested old.program serial attempt old.rig (rig_after rs result) outcome = subst (λ (s : RigState). IsTested old.program serial attempt old.rig s outcome) (sym storing.rig) tested in
        record {
          findings = ch.findings;
          told = ch.are_told;
          ends = from_same old mid (end_of ds result) Shown refl refl
              (allows_more mid (Stores old.records (made outcome)) (end_of ds result) Shown
              (λ reply later stored. (
                says_stored old.records made (ch.findings serial attempt) outcome (told_room tells) ch.holds reply later stored,
                stores_bear old (disk_after (end_of ds result)) (rig_after rs result) (made outcome) (is_full old.records) later refl stored.1 leaves,
              ))
              (storing.step tells));
        }

    answered_test : (new : StationState) (a : Answer) → StoredOr mid (made outcome) new.records a → new.rig ≡ rig → AnsweredFor (λ P. P serial attempt) old new a
    answered_test new (answer.Stored number v) stored same =
        let here : IsTested old.program serial attempt old.rig new.rig outcome = subst (λ (s : RigState). IsTested old.program serial attempt old.rig s outcome) (sym same) tested in
        (stored_leaves old.program old.records new.records (made outcome) old.rig new.rig stored here, inr (outcome, here))
    answered_test new (answer.Same number v) stored same = absurd stored
    answered_test new (answer.No why) stored same = let never : true ≡ false = sym stored.1 ∙ room in absurd (cc)

    was_tested : (new : RigState) → new ≡ rig → LeftOrTested (λ P. P serial attempt) old.program old.rig new
    was_tested new same = inr (outcome, subst (λ (s : RigState). IsTested old.program serial attempt old.rig s outcome) (sym same) tested)

    still_keeps : (new : RigState) → new ≡ rig → StaysOrKeeps old.rig new
    still_keeps new same = inr (subst (Keeps old.rig) (sym same) tested.keeps)

    pub tests_applied : (result : Result (StepDone R D) (StepStop R D)) → Storing rs ds (made outcome) mid result → Applied rs ds (λ P. P serial attempt) (λ f. Tests old.records made (f serial attempt)) old result
    tests_applied (Ok done) storing = record {
      step = tests_step (Ok done) storing;
      bears = tests_bear (Ok done) storing;
      days = stored_days (made outcome) mid done.station.records done.answer storing.answers;
      standing = storing.standing;
      same = record {
        program = storing.program;
        told = ap (λ (p : Program). told_by p done.station.rig) storing.program ∙ ap (told_by old.program) storing.rig ∙ told_stays old.program tested.keeps;
      };
      stop = tt;
      limit = storing.limit;
      disk_later = storing.disk_later;
      rig = answered_test done.station done.answer storing.answers storing.rig;
      rig_kept = still_keeps done.station.rig storing.rig;
    }
    tests_applied (Err (Disk r disk)) storing = record {
      step = tests_step (Err (Disk r disk)) storing;
      bears = tests_bear (Err (Disk r disk)) storing;
      days = tt;
      standing = tt;
      same = tt;
      stop = (storing.stop, ap (λ (s : RigState). s.volts) storing.rig ∙ tested.at_zero);
      limit = storing.limit;
      disk_later = storing.disk_later;
      rig = was_tested (rs r) storing.rig;
      rig_kept = still_keeps (rs r) storing.rig;
    }
    tests_applied (Err (NotZero r disk)) storing = absurd storing.stop
    tests_applied (Err (Memory r disk)) storing = record {
      step = tests_step (Err (Memory r disk)) storing;
      bears = tests_bear (Err (Memory r disk)) storing;
      days = tt;
      standing = tt;
      same = tt;
      stop = ap (λ (s : RigState). s.volts) storing.rig ∙ tested.at_zero;
      limit = storing.limit;
      disk_later = storing.disk_later;
      rig = inl (was_tested (rs r) storing.rig);
      rig_kept = still_keeps (rs r) storing.rig;
    }

-- a test that was decided on is the test of the command
pub of_command : {R D : Type 0} (rs : R → RigState) (ds : D → DiskState) (old : StationState) (id serial : List ℕ) (staff : Option Staff) (attempt : ℕ) (c : Command) (A B : Findings → Reply → List StationRecord → Type 0) (result : Result (StepDone R D) (StepStop R D))
    → c ≡ command.Test id serial staff → ((f : Findings) (reply : Reply) (later : List StationRecord) → Tells old.disk → A f reply later → B f reply later)
    → Applied rs ds (λ P. P serial attempt) A old result → Applied rs ds (TestOf c (decision.Test attempt)) B old result
of_command rs ds old id serial staff attempt c A B result is more applied =
    let moved : Applied rs ds (TestOf (command.Test id serial staff) (decision.Test attempt)) A old result = applied in
    let here : Applied rs ds (TestOf c (decision.Test attempt)) A old result = subst (λ (x : Command). Applied rs ds (TestOf x (decision.Test attempt)) A old result) (sym is) moved in
    record {
      step = λ tells.
          let by = here.step tells in
          record { findings = by.findings; told = by.told; ends = allows_more old (A by.findings) (end_of ds result) (B by.findings) (λ reply later. more by.findings reply later tells) by.ends };
      bears = λ tells.
          let by = here.bears tells in
          let disk = disk_after (end_of ds result) in
          let rig = rig_after rs result in
          record {
            findings = by.findings;
            told = by.told;
            ends = allows_more old (λ reply later. A by.findings reply later × Bears old disk later rig) (end_of ds result) (λ reply later. B by.findings reply later × Bears old disk later rig)
                (λ reply later both. (more by.findings reply later tells both.0, both.1)) by.ends;
          };
      days = here.days;
      standing = here.standing;
      same = here.same;
      stop = here.stop;
      limit = here.limit;
      disk_later = here.disk_later;
      rig = here.rig;
      rig_kept = here.rig_kept;
    }

-- the record of the command's test
tests_command : (R : List StationRecord) (p : Program) (c : Command) (id serial : List ℕ) (staff : Option Staff) (attempt moment : ℕ) (f : Findings) (reply : Reply) (later : List StationRecord) → c ≡ command.Test id serial staff
    → Tests R (λ outcome. record { id = id; moment = moment; body = body.Tested serial attempt staff outcome }) (f serial attempt) reply later
    → Tests R (λ outcome. record_of p moment attempt outcome c) (tested_unit f c attempt) reply later
tests_command R p c id serial staff attempt moment f reply later is made =
    subst (λ (x : Command). Tests R (λ outcome. record_of p moment attempt outcome x) (tested_unit f x attempt) reply later) (sym is) made

pub command_applied : {R D : Type 0} (rs : R → RigState) (ds : D → DiskState) (old : StationState) (id serial : List ℕ) (staff : Option Staff) (attempt moment : ℕ) (c : Command) (result : Result (StepDone R D) (StepStop R D))
    → c ≡ command.Test id serial staff → (Tells old.disk → is_full old.records ≡ false)
    → Applied rs ds (λ P. P serial attempt) (λ f. Tests old.records (λ outcome. record { id = id; moment = moment; body = body.Tested serial attempt staff outcome }) (f serial attempt)) old result
    → Applied rs ds (TestOf c (decision.Test attempt)) (λ f. StepBy f old.program old.records c moment (decision.Test attempt)) old result
command_applied rs ds old id serial staff attempt moment c result is room applied =
    of_command rs ds old id serial staff attempt c _ (λ f. StepBy f old.program old.records c moment (decision.Test attempt)) result is
    (λ f reply later tells made. says_test f old.program old.records c moment attempt (room tells) reply later (tests_command old.records old.program c id serial staff attempt moment f reply later is made))
    applied

-- memory ran out before a record was made
pub storing_lost : {R D : Type 0} (rs : R → RigState) (ds : D → DiskState) (r : StationRecord) (old : StationState) (rig : R) (disk : D) → rs rig ≡ old.rig → ds disk ≡ old.disk → Storing rs ds r old (Err (Memory rig disk))
storing_lost rs ds r old rig disk same_rig same = record {
  step = λ tells. lost_all old (Stores old.records r) (ds disk) (keeps old.records r).0 (keeps old.records r).1 same (refl, refl);
  answers = tt;
  standing = tt;
  program = tt;
  stop = tt;
  limit = unchanged old.disk (ds disk) (KeepsLimit old.disk) same;
  disk_later = omega (arith, ap (λ (d : DiskState). d.faults) same);
  rig = same_rig;
}

-- or as it was added
pub storing_stopped : {R D : Type 0} (rs : R → RigState) (ds : D → DiskState) (r : StationRecord) (old : StationState) (rig : R) (disk : D) → rs rig ≡ old.rig
    → (ds disk ≡ old.disk) ⊎ ((old.full ≡ false) × (Tells old.disk → is_full old.records ≡ false))
    → LeavesOnly old.disk (ds disk) (IsImageOfEither old.records (old.records ++ r ∷ [])) → LeavesOnly old.disk (ds disk) (KeepsLimit old.disk) → old.disk.faults ≤ (ds disk).faults → Storing rs ds r old (Err (Memory rig disk))
storing_stopped rs ds r old rig disk same_rig same_or_room images limit later = record {
  step = λ tells. lost_or_not old (ds disk) r (⊎_elim (λ same. inl same) (λ room. inr (room.1 tells)) same_or_room) images;
  answers = tt;
  standing = tt;
  program = tt;
  stop = tt;
  limit = limit;
  disk_later = later;
  rig = same_rig;
}
