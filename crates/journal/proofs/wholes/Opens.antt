-- A whole opening.
use Rattle.std.proofs.Common.{◌≡◌, inl, inr, ⊎_elim, ℕ, ◌<◌, ◌≤◌, IsTrue, is_some, List, [], ◌∷◌, length, refl, sym, ◌∙◌, ap, subst, arith}
use Rattle.std.specs.Option.{ForSome}
use Rattle.disk_edge.specs.Disk.{DiskState, LeavesOnly, IsDurable, IsAsBefore, may_leave, settled}
use Rattle.disk_edge.proofs.Moments.{weaker, and_then, stays, nothing_new}
use Rattle.journal.specs.Format.{written, Holds}
use Rattle.journal.specs.Gates.{last_gate, IsKept}
use Rattle.journal.specs.Journal.{HasEntries}
use Rattle.journal.specs.declared.TheConstants.{LONGEST_FILE}
use Rattle.journal.specs.Opening.{AreRead, IsJournal, MayOpen, MayClose, EndsAt}
use Rattle.journal.specs.Refusal.{IsRefused, IsOfTheFile, IsUntouched, refusal_of}
use Rattle.disk_edge.specs.declared.disk.DiskStop.{DiskStop}
use Rattle.disk_edge.specs.declared.disk.DiskStop.TheVariants as stop
use Rattle.journal.specs.declared.refusal.Refusal.{Refusal}
use Rattle.journal.specs.declared.refusal.Refusal.TheVariants.{NotJournal, BadEntry, TooLong, Failed, Memory}
use Rattle.journal.proofs.Bytes.{written_unique}
use Rattle.journal.proofs.writing.Places.{is_at, last_gate-places}
use Rattle.journal.proofs.wholes.Opened.{StaysShort}
use Rattle.journal.proofs.writing.Entries.{told_by}

-- a refusal behind calls that change nothing
pub refused_later : (old mid new : DiskState) (why : Refusal) → mid.reads_as ≡ old.reads_as → old.faults ≤ mid.faults → IsRefused mid new why → IsRefused old new why
refused_later old mid new (NotJournal first) same later refused = λ file told. refused file (same ∙ told)
refused_later old mid new (BadEntry number place) same later refused = λ file told. refused file (same ∙ told)
refused_later old mid new (TooLong len) same later refused = λ file told. refused file (same ∙ told)
refused_later old mid new Failed same later refused = omega (arith, later, refused)
refused_later old mid new Memory same later refused = tt

-- the state at the call, after the sync, after the survey and after the writes
module _ (old synced found new : DiskState) (crash : LeavesOnly old synced (may_leave old)) (reads : synced.reads_as ≡ old.reads_as) (same : IsAsBefore synced found) where
  pub surveyed : LeavesOnly old found (MayOpen old)
  surveyed = and_then old synced found (MayOpen old) (nothing_new old synced (may_leave old) (MayOpen old) (λ _ left. left) crash) (stays synced found (MayOpen old) same)

  found_reads : found.reads_as ≡ old.reads_as
  found_reads = same.reads_as ∙ reads

  pub created_leaves : IsDurable found → ForSome found.reads_as (λ file. length file ≤ 9) → LeavesOnly found new (StaysShort found) → LeavesOnly old new (MayOpen old)
  created_leaves durable short stays_short = and_then old found new (MayOpen old) surveyed (weaker found new (StaysShort found) (MayOpen old)
      (λ _ _ image left file told sound. inl (short file (found_reads ∙ told), left durable file (found_reads ∙ told))) stays_short)

  pub closed_leaves : (end : ℕ) (gates : List ℕ) → IsDurable found → ForSome found.reads_as (λ file. AreRead file gates) → end ≡ last_gate gates → LeavesOnly found new (MayClose found end) → LeavesOnly old new (MayOpen old)
  closed_leaves end gates durable are is may_close = and_then old found new (MayOpen old) surveyed (weaker found new (MayClose found end) (MayOpen old)
      (λ _ _ image left file told sound.
      let read = are file (found_reads ∙ told) in
      left durable file (found_reads ∙ told) read.bodies read.read (is ∙ ap last_gate read.are ∙ last_gate-places read.bodies) sound) may_close)

-- what was synced stays so
pub durable_found : (old synced found : DiskState) → synced.reads_as ≡ old.reads_as → synced.honest ≡ old.honest → IsAsBefore synced found → ForSome old.reads_as (λ all. IsTrue old.honest → synced.present ≡ settled all) → IsDurable found
durable_found old synced found reads honest same content is_honest file told =
    same.present ∙ content file (sym reads ∙ sym same.reads_as ∙ told) (sym honest ∙ sym same.honest ∙ is_honest)

pub kept_created : (new : DiskState) (gates : List ℕ) → gates ≡ 8 ∷ [] → HasEntries new [] → IsDurable new → IsKept new gates
kept_created new gates is has durable = record { reads = λ file told. is_at file gates [] (has file told) is; durable = durable }

pub kept_closed : (found new : DiskState) (end : ℕ) (gates : List ℕ) → is_some new.reads_as ≡ is_some found.reads_as → ForSome found.reads_as (λ file. AreRead file gates) → end ≡ last_gate gates → ForSome found.reads_as (λ file. EndsAt file end (HasEntries new)) → IsDurable new → IsKept new gates
kept_closed found new end gates tells are is entries durable = record {
  reads = λ file told.
      let known = told_by found.reads_as (sym tells ∙ ap is_some told) in
      let read = are known.0 known.1 in
      let has = entries known.0 known.1 read.bodies read.read (is ∙ ap last_gate read.are ∙ last_gate-places read.bodies) in
      is_at file gates read.bodies (has file told) read.are;
  durable = durable;
}

pub holds_created : (found new : DiskState) → ForSome found.reads_as (λ file. length file ≤ 9) → HasEntries new [] → ForSome found.reads_as (λ file. (bodies : List (List ℕ)) → Holds file bodies → HasEntries new bodies)
holds_created found new short has file told bodies holds = ⊎_elim
    (λ none. subst (HasEntries new) (sym none.1) has)
    (λ long. absurd (omega (arith, long.0, short file told)))
    holds

pub holds_closed : (found new : DiskState) (end len : ℕ) (gates : List ℕ) → 9 < len → ForSome found.reads_as (λ file. len ≡ length file) → ForSome found.reads_as (λ file. AreRead file gates) → end ≡ last_gate gates → ForSome found.reads_as (λ file. EndsAt file end (HasEntries new)) → ForSome found.reads_as (λ file. (bodies : List (List ℕ)) → Holds file bodies → HasEntries new bodies)
holds_closed found new end len gates long size are is entries file told bodies holds = ⊎_elim
    (λ none. absurd (omega (arith, long, size file told, none.0)))
    (λ here.
    let read = are file told in
    let same = written_unique bodies read.bodies here.1.rest read.read.rest here.1.fit read.read.fit here.1.closed read.read.closed (sym here.1.bytes ∙ read.read.bytes) in
    let ends : end ≡ length (written bodies) = is ∙ ap last_gate read.are ∙ last_gate-places read.bodies ∙ ap (λ (b : List (List ℕ)). length (written b)) (sym same.0) in
    entries file told bodies here.1 ends)
    holds

pub found_short : (old found : DiskState) → found.reads_as ≡ old.reads_as → ForSome found.reads_as (λ file. length file ≤ 9) → ForSome old.reads_as IsJournal
found_short old found same short file told =
    let few = short file (same ∙ told) in
    (omega (arith, few), ([], inl (few, refl)))

pub found_entries : (old found : DiskState) (len : ℕ) (gates : List ℕ) → found.reads_as ≡ old.reads_as → 9 < len → len ≤ LONGEST_FILE → ForSome found.reads_as (λ file. len ≡ length file) → ForSome found.reads_as (λ file. AreRead file gates) → ForSome old.reads_as IsJournal
found_entries old found len gates same long limit size are file told =
    let is = size file (same ∙ told) in
    let read = are file (same ∙ told) in
    (omega (arith, is, limit), (read.bodies, inr (omega (arith, is, long), read.read)))

-- a refusal that speaks of the file comes of no call of the disk
pub not_of_the_disk : (why : DiskStop) → IsOfTheFile (refusal_of why) → ⊥
not_of_the_disk stop.Failed spoken = spoken
not_of_the_disk stop.Memory spoken = spoken

-- a survey leaves a file as it was
pub untouched : (old synced found : DiskState) → LeavesOnly old synced (may_leave old) → synced.reads_as ≡ old.reads_as → IsAsBefore synced found → IsUntouched old found
untouched old synced found crash reads same = record {
  reads_as = same.reads_as ∙ reads;
  images = and_then old synced found (λ (image : List ℕ). ⊥) (nothing_new old synced (may_leave old) (λ (image : List ℕ). ⊥) (λ _ left. left) crash) (stays synced found (λ (image : List ℕ). ⊥) same);
}
