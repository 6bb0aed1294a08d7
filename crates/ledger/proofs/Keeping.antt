-- What the images of a journal keep, in records.
use Rattle.std.proofs.Common.{◌≡◌, inl, inr, ⊎_elim, ℕ, ◌+◌, List, [], ◌∷◌, ◌++◌, refl, sym, ◌∙◌, ap, subst, arith, length-append, IsTrue, is_some, Bool, Option, None, Some}
use Rattle.std.specs.Prelude.{◌↔◌, IsSomeAnd}
use Rattle.std.proofs.lemmas.Bool.{ltb_from_iff}
use Rattle.std.proofs.lemmas.List.Elements.{All-push}
use Rattle.disk_edge.specs.Disk.{DiskState, LeavesOnly, EachImage}
use Rattle.disk_edge.proofs.Moments.{weaker}
use Rattle.journal.specs.Format as journal
use Rattle.journal.specs.Format.{AtRest, IsBeforeOrAfter, IsFull, end_after}
use Rattle.journal.specs.Journal.{HasEntries, TellsEntries}
use Rattle.journal.proofs.writing.Keeping.{at_rest_holds, covers_holds}
use Rattle.records.specs.declared.record.StationRecord.{StationRecord}
use Rattle.records.specs.RecordBytes.{record_bytes}
use Rattle.records.specs.RecordRanges.{IsRecord}
use Rattle.ledger.specs.Kept.{AreRecords, IsImageOf, IsImageOfEither, spellings, is_full}
use Rattle.ledger.specs.Ledger.{IsBooked, Tells, is_full_at}

pub spellings-push : (R : List StationRecord) (r : StationRecord) → spellings (R ++ r ∷ []) ≡ spellings R ++ record_bytes r ∷ []
spellings-push [] r = refl
spellings-push (first ∷ R) r = ap (λ (bodies : List (List ℕ)). record_bytes first ∷ bodies) (spellings-push R r)

-- records at rest
pub at_rest : (R : List StationRecord) (image : List ℕ) → AreRecords R → AtRest image (spellings R) → IsImageOf R image
at_rest R image in_range rest = record {
  keeps = record { in_range = in_range; holds = at_rest_holds image (spellings R) rest };
  sound = inr (inl (R, record { in_range = in_range; at_rest = rest }));
}

half_open : (R : List StationRecord) (r : StationRecord) (image : List ℕ) → AreRecords R → IsRecord r → journal.Covers image (spellings R) (record_bytes r) → IsImageOf R image
half_open R r image in_range one covered = record {
  keeps = record { in_range = in_range; holds = covers_holds image (spellings R) (record_bytes r) covered };
  sound = inr (inr (R, r, record { in_range = in_range; one = one; covered = covered }));
}

pub are_pushed : (R : List StationRecord) (r : StationRecord) → AreRecords R → IsRecord r → AreRecords (R ++ r ∷ [])
are_pushed R r in_range one = All-push IsRecord R r in_range one

-- what an append may leave
pub before_or_after : (R : List StationRecord) (r : StationRecord) (image : List ℕ) → AreRecords R → IsRecord r → IsBeforeOrAfter (spellings R) (record_bytes r) image → IsImageOfEither R (R ++ r ∷ []) image
before_or_after R r image in_range one left = ⊎_elim
    (λ before. inl (at_rest R image in_range before))
    (⊎_elim
    (λ covered. inl (half_open R r image in_range one covered))
    (λ after. inr (at_rest (R ++ r ∷ []) image (are_pushed R r in_range one) (subst (λ (bodies : List (List ℕ)). AtRest image bodies) (sym (spellings-push R r)) after))))
    left

pub either_leaves : (old new : DiskState) (count : ℕ) (R : List StationRecord) (r : StationRecord) (body : List ℕ) → body ≡ record_bytes r → IsBooked old count R → IsRecord r
    → ((bodies : List (List ℕ)) → HasEntries old bodies → LeavesOnly old new (IsBeforeOrAfter bodies body))
    → LeavesOnly old new (IsImageOfEither R (R ++ r ∷ []))
either_leaves old new count R r body spelled booked one leaves =
    weaker old new (IsBeforeOrAfter (spellings R) body) (IsImageOfEither R (R ++ r ∷ []))
    (λ honest tells image left. before_or_after R r image booked.in_range one (subst (λ (b : List ℕ). IsBeforeOrAfter (spellings R) b image) spelled left))
    (leaves (spellings R) booked.entries)

-- one record more
pub booked_more : (old new : DiskState) (count : ℕ) (R : List StationRecord) (r : StationRecord) (body : List ℕ) → body ≡ record_bytes r → IsBooked old count R → IsRecord r
    → ((bodies : List (List ℕ)) → HasEntries old bodies → HasEntries new (bodies ++ body ∷ []))
    → ((bodies : List (List ℕ)) → HasEntries old bodies → EachImage new (λ image. AtRest image (bodies ++ body ∷ [])))
    → IsBooked new (count + 1) (R ++ r ∷ [])
booked_more old new count R r body spelled booked one entries images =
    let same : spellings R ++ body ∷ [] ≡ spellings (R ++ r ∷ []) = ap (λ (b : List ℕ). spellings R ++ b ∷ []) spelled ∙ sym (spellings-push R r) in
    record {
      in_range = are_pushed R r booked.in_range one;
      counted = omega (arith, booked.counted, length-append R (r ∷ []));
      entries = subst (λ (bodies : List (List ℕ)). HasEntries new bodies) same (entries (spellings R) booked.entries);
      images = subst (λ (bodies : List (List ℕ)). EachImage new (λ image. AtRest image bodies)) same (images (spellings R) booked.entries);
    }

-- each image of a ledger's disk keeps just its records
pub stored_images : (disk : DiskState) (count : ℕ) (R : List StationRecord) → IsBooked disk count R → EachImage disk (IsImageOf R)
stored_images disk count R booked = λ honest file told image left. at_rest R image booked.in_range (booked.images honest file told image left)

some_of : {A : Type 0} (o : Option A) → IsTrue (is_some o) → (x : A) × (o ≡ Some x)
some_of None is = cc
some_of (Some x) is = (x, refl)

-- a journal with no room is full
pub full_is : (end : ℕ) (full : Bool) → (IsTrue full ↔ IsFull end) → full ≡ is_full_at end
full_is end full same = ltb_from_iff same

-- where its disk tells, the records say so
pub told_full : (disk : DiskState) (count : ℕ) (R : List StationRecord) (full : Bool) → IsBooked disk count R → ((bodies : List (List ℕ)) → TellsEntries disk bodies → IsTrue full ↔ IsFull (end_after bodies))
    → Tells disk → full ≡ is_full R
told_full disk count R full booked asked tells =
    let told = some_of disk.reads_as tells in
    full_is (end_after (spellings R)) full (asked (spellings R) (subst (λ (o : Option (List ℕ)). IsSomeAnd o (λ f. AtRest f (spellings R))) (sym told.1) (booked.entries told.0 told.1)))

-- what an append says of the room
pub had_room : (disk : DiskState) (count end : ℕ) (R : List StationRecord) (full : Bool) → IsBooked disk count R
    → (IsTrue full ↔ IsFull end) → ((bodies : List (List ℕ)) → TellsEntries disk bodies → IsTrue full ↔ IsFull (end_after bodies))
    → (full ≡ is_full_at end) × (Tells disk → full ≡ is_full R)
had_room disk count end R full booked at asked = (full_is end full at, told_full disk count R full booked asked)
