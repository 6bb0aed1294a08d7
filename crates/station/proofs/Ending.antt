-- How a command ends, by what its parts say.
use Rattle.std.proofs.Common.{◌≡◌, ◌⊎◌, inl, inr, ⊎_elim, ℕ, Bool, true, false, List, [], ◌∷◌, ◌++◌, Option, Some, None, refl, sym, ◌∙◌, ap, subst, IfSome}
use Rattle.std.specs.Prelude.{if◌then◌else◌}
use Rattle.disk_edge.specs.Disk.{DiskState, LeavesOnly}
use Rattle.disk_edge.proofs.Moments.{stays}
use Rattle.wirelist.specs.declared.program.Program.{Program}
use Rattle.wirelist.specs.declared.outcome.Outcome.{Outcome}
use Rattle.wirelist.specs.declared.outcome.Outcome.TheVariants.{Pass}
use Rattle.wirelist.specs.declared.outcome.Verdict.{Verdict}
use Rattle.unit_outcome.specs.Found.{Found, Findings, IsThere, HasOutcome}
use Rattle.records.specs.declared.record.StationRecord.{StationRecord}
use Rattle.serials.specs.declared.command.Command.{Command}
use Rattle.serials.specs.declared.decision.Rule.{Rule}
use Rattle.serials.specs.declared.decision.Decision.TheVariants as decision
use Rattle.ledger.specs.Kept.{IsImageOfEither, is_full}
use Rattle.station.specs.declared.answer.Answer.{Answer}
use Rattle.station.specs.declared.answer.Answer.TheVariants as answer
use Rattle.station.specs.declared.answer.Refused.TheVariants as refused
use Rattle.station.specs.View.{StationState}
use Rattle.station.specs.Step.{Reply, answered, not_at_zero, record_of, verdict_at, refuses, stores, keeps, tested_unit, tests, tests_unit, done, StepBy, Tests, MayFail}
use Rattle.station.specs.Ended.{End, replied, stuck, lost, disk_after, Gives, Ends, Stores}

-- nothing was written
pub unchanged : (old new : DiskState) (P : List ℕ → Type 0) → new ≡ old → LeavesOnly old new P
unchanged old new P same = stays old new P (record {
  reads_as = ap (λ (d : DiskState). d.reads_as) same;
  present = ap (λ (d : DiskState). d.present) same;
  past = ap (λ (d : DiskState). d.past) same;
  honest = ap (λ (d : DiskState). d.honest) same;
})

module _ (old : StationState) (A : Reply → List StationRecord → Type 0) where
  pub leaves_all : (new : StationState) (reply : Reply) → new.disk ≡ old.disk → new.records ≡ old.records → A reply old.records → Ends old (replied reply new) A
  leaves_all new reply disk records allowed =
      record { reply = reply; later = old.records; allowed = allowed; given = (refl, sym records); images = unchanged old.disk new.disk (IsImageOfEither old.records old.records) disk }

  pub lost_all : (new : DiskState) (a : Answer) (later : List StationRecord) → new ≡ old.disk → A (answered a) later → Ends old (lost new) A
  lost_all new a later disk allowed = record { reply = answered a; later = later; allowed = allowed; given = (a, refl); images = unchanged old.disk new (IsImageOfEither old.records later) disk }

  pub stuck_all : (new : DiskState) → new ≡ old.disk → A not_at_zero old.records → Ends old (stuck new) A
  stuck_all new disk allowed = record { reply = not_at_zero; later = old.records; allowed = allowed; given = (refl, refl); images = unchanged old.disk new (IsImageOfEither old.records old.records) disk }

  pub allows_more : (end : End) (B : Reply → List StationRecord → Type 0) → ((reply : Reply) (later : List StationRecord) → A reply later → B reply later) → Ends old end A → Ends old end B
  allows_more end B more ends = record { reply = ends.reply; later = ends.later; allowed = more ends.reply ends.later ends.allowed; given = ends.given; images = ends.images }

-- the same from a station of the same disk and records
pub from_same : (old mid : StationState) (end : End) (A : Reply → List StationRecord → Type 0) → mid.disk ≡ old.disk → mid.records ≡ old.records → Ends mid end A → Ends old end A
from_same old mid end A disk records ends =
    let moved : LeavesOnly old.disk (disk_after end) (IsImageOfEither mid.records ends.later) = subst (λ (d : DiskState). LeavesOnly d (disk_after end) (IsImageOfEither mid.records ends.later)) disk ends.images in
    record {
      reply = ends.reply;
      later = ends.later;
      allowed = ends.allowed;
      given = subst (λ (R : List StationRecord). Gives R end ends.reply ends.later) records ends.given;
      images = subst (λ (R : List StationRecord). LeavesOnly old.disk (disk_after end) (IsImageOfEither R ends.later)) records moved;
    }

-- a disk that failed or had no memory as a record was added
pub lost_adding : (old : StationState) (new : DiskState) (r : StationRecord) → is_full old.records ≡ false → LeavesOnly old.disk new (IsImageOfEither old.records (old.records ++ r ∷ [])) → Ends old (lost new) (Stores old.records r)
lost_adding old new r room images =
    let stored : keeps old.records r ≡ stores old.records r = ap (λ (full : Bool). if full then refuses old.records refused.Full else stores old.records r) room in
    record {
      reply = answered (keeps old.records r).0;
      later = (keeps old.records r).1;
      allowed = (refl, refl);
      given = ((keeps old.records r).0, refl);
      images = subst (λ (S : List StationRecord). LeavesOnly old.disk new (IsImageOfEither old.records S)) (sym (ap (λ (x : Answer × List StationRecord). x.1) stored)) images;
    }

pub lost_or_not : (old : StationState) (new : DiskState) (r : StationRecord) → (new ≡ old.disk) ⊎ (is_full old.records ≡ false) → LeavesOnly old.disk new (IsImageOfEither old.records (old.records ++ r ∷ [])) → Ends old (lost new) (Stores old.records r)
lost_or_not old new r (inl same) images = lost_all old (Stores old.records r) new (keeps old.records r).0 (keeps old.records r).1 same (refl, refl)
lost_or_not old new r (inr room) images = lost_adding old new r room images

-- a record that was stored, and one for which there was no room
pub ends_stored : (old new : StationState) (r : StationRecord) (number : ℕ) (v : Option Verdict) → is_full old.records ≡ false → new.records ≡ old.records ++ r ∷ [] → answer.Stored number v ≡ (stores old.records r).0
    → LeavesOnly old.disk new.disk (IsImageOfEither old.records (old.records ++ r ∷ [])) → Ends old (replied (answered (answer.Stored number v)) new) (Stores old.records r)
ends_stored old new r number v room records says images =
    let stored : keeps old.records r ≡ stores old.records r = ap (λ (full : Bool). if full then refuses old.records refused.Full else stores old.records r) room in
    record {
      reply = answered (answer.Stored number v);
      later = new.records;
      allowed = (ap answered (says ∙ sym (ap (λ (x : Answer × List StationRecord). x.0) stored)), records ∙ sym (ap (λ (x : Answer × List StationRecord). x.1) stored));
      given = (refl, refl);
      images = subst (λ (S : List StationRecord). LeavesOnly old.disk new.disk (IsImageOfEither old.records S)) (sym records) images;
    }

pub ends_full : (old new : StationState) (r : StationRecord) → is_full old.records ≡ true → new.disk ≡ old.disk → new.records ≡ old.records → Ends old (replied (answered (answer.No refused.Full)) new) (Stores old.records r)
ends_full old new r full disk records =
    let refused_is : keeps old.records r ≡ refuses old.records refused.Full = ap (λ (b : Bool). if b then refuses old.records refused.Full else stores old.records r) full in
    leaves_all old (Stores old.records r) new (answered (answer.No refused.Full)) disk records
    (ap answered (sym (ap (λ (x : Answer × List StationRecord). x.0) refused_is)), sym (ap (λ (x : Answer × List StationRecord). x.1) refused_is))

-- ---- steps

module _ (findings : Findings) (p : Program) (R : List StationRecord) (c : Command) (moment : ℕ) where
  pub says_same : (k : ℕ) (v : Option Verdict) → v ≡ verdict_at R k → StepBy findings p R c moment (decision.Same k) (answered (answer.Same k v)) R
  unfolding StepBy
  says_same k v verdict = inl (ap (λ (x : Option Verdict). answered (answer.Same k x)) verdict, refl)

  pub says_no : (r : Rule) → StepBy findings p R c moment (decision.No r) (answered (answer.No (refused.Rule r))) R
  unfolding StepBy
  says_no r = inl (refl, refl)

  pub says_keep : (reply : Reply) (later : List StationRecord) → Stores R (record_of p moment 0 Pass c) reply later → StepBy findings p R c moment decision.Keep reply later
  unfolding StepBy
  says_keep reply later stored = inl stored

  pub says_full : (attempt : ℕ) → is_full R ≡ true → StepBy findings p R c moment (decision.Test attempt) (answered (answer.No refused.Full)) R
  unfolding StepBy
  says_full attempt full =
      let e : done findings p R c moment (decision.Test attempt) ≡ refuses R refused.Full =
      ap (λ (b : Bool). if b then refuses R refused.Full else tests R (λ found. record_of p moment attempt found c) (tested_unit findings c attempt)) full in
      inl (ap (λ (x : Answer × List StationRecord). answered x.0) (sym e), ap (λ (x : Answer × List StationRecord). x.1) (sym e))

  pub says_test : (attempt : ℕ) → is_full R ≡ false → (reply : Reply) (later : List StationRecord)
      → Tests R (λ found. record_of p moment attempt found c) (tested_unit findings c attempt) reply later → StepBy findings p R c moment (decision.Test attempt) reply later
  unfolding StepBy
  says_test attempt room reply later made =
      let e : done findings p R c moment (decision.Test attempt) ≡ tests R (λ found. record_of p moment attempt found c) (tested_unit findings c attempt) =
      ap (λ (b : Bool). if b then refuses R refused.Full else tests R (λ found. record_of p moment attempt found c) (tested_unit findings c attempt)) room in
      ⊎_elim
      (λ kept. inl (kept.0 ∙ ap (λ (x : Answer × List StationRecord). answered x.0) (sym e), kept.1 ∙ ap (λ (x : Answer × List StationRecord). x.1) (sym e)))
      (λ failed. inr (room, failed.0, failed.1))
      made

-- ---- tests

module _ (R : List StationRecord) (made : Outcome → StationRecord) where
  pub says_empty : (unit : Option Found) → unit ≡ None → Tests R made unit (answered (answer.No refused.Empty)) R
  says_empty unit is = subst (λ (u : Option Found). Tests R made u (answered (answer.No refused.Empty)) R) (sym is) (inl (refl, refl))

  pub says_charged : (unit : Option Found) (volts : ℕ) → (found : Found) × (unit ≡ Some found) × (found.charged ≡ Some volts) → Tests R made unit (answered (answer.No (refused.Charged volts))) R
  says_charged unit volts (found, is, charged) =
      let e : tests R made unit ≡ refuses R (refused.Charged volts) = ap (λ (u : Option Found). tests R made u) is ∙ ap (λ (v : Option ℕ). tests_unit R (made found.outcome) v) charged in
      inl (ap (λ (x : Answer × List StationRecord). answered x.0) (sym e), ap (λ (x : Answer × List StationRecord). x.1) (sym e))

  may_fail : (unit : Option Found) (reply : Reply) → ((found : Found) → MayFail (Some found) reply) → IsThere unit → Tests R made unit reply R
  may_fail unit reply fails (found, is) = inr (subst (λ (u : Option Found). MayFail u reply) (sym is) (fails found), refl)

  pub says_door : (unit : Option Found) → IsThere unit → Tests R made unit (answered (answer.No refused.Door)) R
  says_door unit there = may_fail unit (answered (answer.No refused.Door)) (λ found. inr (inl refl)) there

  pub says_not_at_zero : (unit : Option Found) → IsThere unit → Tests R made unit not_at_zero R
  says_not_at_zero unit there = may_fail unit not_at_zero (λ found. inr (inr refl)) there

  pub says_rig_fault : (unit : Option Found) → Tests R made unit (answered (answer.No refused.RigFault)) R
  says_rig_fault None = inr (refl, refl)
  says_rig_fault (Some found) = inr (inl refl, refl)

  pub says_any : (unit : Option Found) → Tests R made unit (answered (tests R made unit).0) (tests R made unit).1
  says_any unit = inl (refl, refl)

  pub says_stored : (unit : Option Found) (outcome : Outcome) → is_full R ≡ false → HasOutcome unit outcome → (reply : Reply) (later : List StationRecord) → Stores R (made outcome) reply later → Tests R made unit reply later
  says_stored unit outcome room has reply later stored =
      let kept : keeps R (made outcome) ≡ stores R (made outcome) = ap (λ (full : Bool). if full then refuses R refused.Full else stores R (made outcome)) room in
      let e : tests R made unit ≡ keeps R (made outcome) =
      ap (λ (u : Option Found). tests R made u) has.there
      ∙ ap (λ (v : Option ℕ). tests_unit R (made has.found.outcome) v) has.discharged
      ∙ ap (λ (o : Outcome). stores R (made o)) (sym has.outcome_is)
      ∙ sym kept in
      inl (stored.0 ∙ ap (λ (x : Answer × List StationRecord). answered x.0) (sym e), stored.1 ∙ ap (λ (x : Answer × List StationRecord). x.1) (sym e))

-- findings that are those told, of which P holds
pub record Chosen (told : Option Findings) (P : Findings → Type 0) : Type 0 where
  pub findings : Findings
  pub are_told : IfSome told (λ f. findings ≡ f)
  pub holds : P findings

-- findings that are told have P, or some unit has it
pub chosen : (told : Option Findings) (serial : List ℕ) (attempt : ℕ) (P : Option Found → Type 0) → IfSome told (λ f. P (f serial attempt)) → (example : Option Found) → P example → Chosen told (λ f. P (f serial attempt))
chosen None serial attempt P has example holds = record { findings = λ s a. example; are_told = tt; holds = holds }
chosen (Some f) serial attempt P has example holds = record { findings = f; are_told = refl; holds = has }

-- whatever the findings are
pub any_findings : (told : Option Findings) → Chosen told (λ f. Unit {0})
any_findings None = record { findings = λ s a. None; are_told = tt; holds = tt }
any_findings (Some f) = record { findings = f; are_told = refl; holds = tt }
