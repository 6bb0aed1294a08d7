-- A disk that is opened.
use Rattle.std.proofs.Common.{◌≡◌, ℕ, ◌≤◌, List, length, IsTrue, is_some, Option, None, Some, sym, ◌∙◌, ap, subst, arith, refl}
use Rattle.std.specs.Prelude.{IsSomeAnd}
use Rattle.std.specs.Option.{ForSome}
use Rattle.base.specs.Causes.{Rose}
use Rattle.disk_edge.specs.Disk.{Content, IsImage, DiskState, LeavesOnly, EachImage, IsAsBefore}
use Rattle.disk_edge.proofs.Moments.{and_then, stays}
use Rattle.journal.specs.Format.{Holds, AtRest, IsSound}
use Rattle.journal.specs.Journal.{HasEntries, TellsEntries, KeepsLimit}
use Rattle.journal.specs.Opening.{MayOpen, IsJournal}
use Rattle.journal.specs.Mount as journal
use Rattle.journal.specs.Refusal.{IsOfTheFile, IsRefused, IsUntouched}
use Rattle.journal.specs.declared.refusal.OpenStop.{OpenStop}
use Rattle.journal.specs.declared.refusal.OpenStop.TheVariants.{NotJournal, BadEntry, TooLong, Disk, Memory}
use Rattle.records.specs.declared.record.StationRecord.{StationRecord}
use Rattle.ledger.specs.Kept.{AreRecords, spellings}
use Rattle.ledger.specs.Ledger.{IsBooked}
use Rattle.ledger.specs.Opening as opening
use Rattle.ledger.specs.Opening.{Opening, found, no_journal, bad_record, failed, no_memory, Says, Opens, WasClosed, WasNoJournal, IsClosed, HasNoRecord, mount_stop_of, disk_of_stop, refused}
use Rattle.ledger.specs.Reading.{IsWrongEntry}
use Rattle.ledger.specs.declared.loading.ReadStop.TheVariants as read
use Rattle.ledger.proofs.Entries.{end_within}
use Rattle.ledger.proofs.OneOpening.{one_way}
use Rattle.ledger.proofs.Mounting.{leaves_records}

some_of : {A : Type 0} (o : Option A) → IsTrue (is_some o) → (x : A) × (o ≡ Some x)
some_of None is = cc
some_of (Some x) is = (x, refl)

abbrev KeepsLimitOf : DiskState → List ℕ → Type 0
KeepsLimitOf old image = ForSome old.reads_as IsSound → KeepsLimit old image

-- the record of an opening, by what is not said twice
made : (old new : DiskState) (answer : Opening) → (opening.IsOfTheFile answer → ForSome old.reads_as (λ file. Says file answer)) → (answer ≡ failed → Rose old.faults new.faults) → old.faults ≤ new.faults
    → LeavesOnly old new (MayOpen old) → LeavesOnly old new (KeepsLimitOf old)
    → (WasClosed answer → ForSome old.reads_as (λ file. (bodies : List (List ℕ)) → Holds file bodies → IsClosed new bodies)) → (WasNoJournal answer → IsUntouched old new) → Opens old new answer
made old new answer says cause later any_moment limit closes untouched = record {
  says = says;
  only = λ spoken file told other gives. one_way file answer other (says spoken file told) gives;
  cause = cause;
  later = later;
  any_moment = any_moment;
  records = λ file R begins. leaves_records old new file R any_moment begins;
  limit = limit;
  closes = closes;
  untouched = untouched;
}

-- a journal that is refused
pub refused_opens : {D : Type 0} (state : D → DiskState) (old : DiskState) (stop : OpenStop D) → IsRefused old (state (journal.disk_of_stop stop)) (journal.why_of stop) → old.faults ≤ (state (journal.disk_of_stop stop)).faults
    → LeavesOnly old (state (journal.disk_of_stop stop)) (MayOpen old) → LeavesOnly old (state (journal.disk_of_stop stop)) (KeepsLimitOf old) → (IsOfTheFile (journal.why_of stop) → IsUntouched old (state (journal.disk_of_stop stop)))
    → Opens old (state (disk_of_stop (mount_stop_of stop))) (refused (mount_stop_of stop))
refused_opens state old (NotJournal disk first) wrong later any limit untouched = made old (state disk) _ (λ spoken. wrong) (λ never. cc) later any limit (λ never. absurd never) (λ spoken. untouched tt)
refused_opens state old (BadEntry disk number place) wrong later any limit untouched = made old (state disk) _ (λ spoken. wrong) (λ never. cc) later any limit (λ never. absurd never) (λ spoken. untouched tt)
refused_opens state old (TooLong disk len) wrong later any limit untouched = made old (state disk) _ (λ spoken. wrong) (λ never. cc) later any limit (λ never. absurd never) (λ spoken. untouched tt)
refused_opens state old (Disk disk) rose later any limit untouched = made old (state disk) failed (λ never. absurd never) (λ same. rose) later any limit (λ never. absurd never) (λ never. absurd never)
refused_opens state old (Memory disk) free later any limit untouched = made old (state disk) no_memory (λ never. absurd never) (λ never. cc) later any limit (λ never. absurd never) (λ never. absurd never)

module _ (first opened now : DiskState)
    (is_journal : ForSome first.reads_as IsJournal) (entries : ForSome first.reads_as (λ file. (bodies : List (List ℕ)) → Holds file bodies → HasEntries opened bodies))
    (each : (bodies : List (List ℕ)) → HasEntries opened bodies → EachImage opened (λ image. AtRest image bodies))
    (any_moment : LeavesOnly first opened (MayOpen first)) (limit : LeavesOnly first opened (KeepsLimitOf first)) (before : first.faults ≤ opened.faults)
    (same : IsAsBefore opened now) (later : opened.faults ≤ now.faults) where
  telling : (bodies : List (List ℕ)) (file : List ℕ) → first.reads_as ≡ Some file → HasEntries opened bodies → TellsEntries opened bodies
  telling bodies file told has =
      let after = some_of opened.reads_as (any_moment.tells ∙ ap is_some told) in
      subst (λ (o : Option (List ℕ)). IsSomeAnd o (λ f. AtRest f bodies)) (sym after.1) (has after.0 after.1)

  still_at_rest : (bodies : List (List ℕ)) → HasEntries opened bodies → IsClosed now bodies
  still_at_rest bodies has = record {
    entries = λ file told. has file (sym same.reads_as ∙ told);
    images = λ honest file told image left. each bodies has (sym same.honest ∙ honest) file (sym same.reads_as ∙ told) image (subst (λ (c : Content). IsImage c image) same.present left);
  }

  opens : (answer : Opening) → (opening.IsOfTheFile answer → ForSome first.reads_as (λ file. Says file answer)) → (answer ≡ failed → Rose first.faults now.faults) → (WasNoJournal answer → IsUntouched first now) → Opens first now answer
  opens answer says cause untouched =
      made first now answer says cause (omega (arith, before, later))
      (and_then first opened now (MayOpen first) any_moment (stays opened now (MayOpen first) same))
      (and_then first opened now (KeepsLimitOf first) limit (stays opened now (KeepsLimitOf first) same))
      (λ closed file told bodies holds. still_at_rest bodies (entries file told bodies holds))
      untouched

  module _ (R : List StationRecord) (spelled : (bodies : List (List ℕ)) → TellsEntries opened bodies → spellings R ≡ bodies) (in_range : AreRecords R) where
    pub opens_found : Opens first now (found R)
    opens_found = opens (found R)
        (λ spoken file told.
        let journal = is_journal file told in
        (journal.0, record { in_range = in_range; holds = subst (λ (l : List (List ℕ)). Holds file l) (sym (spelled journal.1.0 (telling journal.1.0 file told (entries file told journal.1.0 journal.1.1)))) journal.1.1 }))
        (λ never. cc) (λ never. absurd never)

    opened_entries : HasEntries opened (spellings R)
    opened_entries file told =
        let before = some_of first.reads_as (sym any_moment.tells ∙ ap is_some told) in
        let journal = is_journal before.0 before.1 in
        let has = entries before.0 before.1 journal.1.0 journal.1.1 in
        subst (λ (l : List (List ℕ)). AtRest file l) (sym (spelled journal.1.0 (telling journal.1.0 before.0 before.1 has))) (has file told)

    pub booked_first : (count count' : ℕ) → length R ≡ count → count' ≡ count → IsBooked now count' R
    booked_first count count' counted still =
        let rests = still_at_rest (spellings R) opened_entries in
        record { in_range = in_range; counted = counted ∙ sym still; entries = rests.entries; images = rests.images }

  pub opens_wrong : (number place : ℕ) → ((bodies : List (List ℕ)) → TellsEntries opened bodies → IsWrongEntry bodies (read.NoRecord number place)) → Opens first now (bad_record number place)
  opens_wrong number place wrong = opens (bad_record number place)
      (λ spoken file told.
      let journal = is_journal file told in
      record {
        within = journal.0;
        bodies = journal.1.0;
        holds = journal.1.1;
        first = wrong journal.1.0 (telling journal.1.0 file told (entries file told journal.1.0 journal.1.1)) (end_within file journal.1.0 journal.1.1 journal.0);
      })
      (λ never. cc) (λ never. absurd never)

  pub opens_failed : Rose opened.faults now.faults → Opens first now failed
  opens_failed rose = opens failed (λ never. absurd never) (λ same. omega (arith, before, rose)) (λ never. absurd never)

  pub opens_no_memory : Opens first now no_memory
  opens_no_memory = opens no_memory (λ never. absurd never) (λ never. cc) (λ never. absurd never)

-- memory ran out behind an opening
pub then_no_memory : (old new : DiskState) (answer : Opening) → Opens old new answer → Opens old new no_memory
then_no_memory old new answer opens =
    made old new no_memory (λ never. absurd never) (λ never. cc) opens.later opens.any_moment opens.limit (λ never. absurd never) (λ never. absurd never)
