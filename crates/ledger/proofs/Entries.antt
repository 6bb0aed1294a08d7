-- How records are read from entries.
use Rattle.std.proofs.Common.{◌≡◌, ⊎_elim, ℕ, ◌+◌, ◌-◌, ◌<◌, ◌≤◌, ◌^◌, List, [], ◌∷◌, ◌++◌, length, take, drop, Option, Some, sym, ◌∙◌, ap, subst, arith, length-append}
use Rattle.std.specs.Prelude.{IsSomeAnd, min}
use Rattle.std.specs.List.{slice_get, sum_by}
use Rattle.std.proofs.lemmas.Option.{get_or_from_slice_get, slice_get_within}
use Rattle.std.proofs.Math.Seq.{take-length}
use Rattle.std.proofs.lemmas.List.{take_more, drop_more, take-append-drop}
use Rattle.std.proofs.lemmas.List.Sums.{sum_by-append, sum_by-take-le}
use Rattle.disk_edge.specs.Disk.{DiskState, IsAsBefore}
use Rattle.journal.specs.Format.{AtRest, Holds, end_after, written}
use Rattle.journal.specs.Journal.{TellsEntries}
use Rattle.journal.specs.declared.TheConstants.{LONGEST_FILE}
use Rattle.journal.proofs.Bytes.{length-written}
use Rattle.records.specs.declared.record.StationRecord.{StationRecord}
use Rattle.records.specs.RecordBytes.{record_bytes}
use Rattle.records.specs.RecordRanges.{Spells}
use Rattle.ledger.specs.Kept.{AreRecords, spellings}
use Rattle.ledger.specs.Reading.{IsFirstWrong}
use Rattle.ledger.proofs.Keeping.{spellings-push}

pub still_tells : (old new : DiskState) (bodies : List (List ℕ)) → IsAsBefore old new → TellsEntries old bodies → TellsEntries new bodies
still_tells old new bodies same tells = subst (λ (o : Option (List ℕ)). IsSomeAnd o (λ file. AtRest file bodies)) (sym same.reads_as) tells

take_one : (xs : List (List ℕ)) (i : ℕ) (x : List ℕ) → slice_get xs i ≡ Some x → take (i + 1) xs ≡ take i xs ++ x ∷ []
take_one xs i x is = take_more xs i x (slice_get_within xs i x is) ∙ ap (λ (y : List ℕ). take i xs ++ y ∷ []) (get_or_from_slice_get xs i x x is)

parted : (xs : List (List ℕ)) (i : ℕ) (x : List ℕ) → slice_get xs i ≡ Some x → xs ≡ take i xs ++ x ∷ drop (i + 1) xs
parted xs i x is =
    sym (take-append-drop i xs)
    ∙ ap (λ (l : List (List ℕ)). take i xs ++ l) (drop_more xs i x (slice_get_within xs i x is) ∙ ap (λ (y : List ℕ). y ∷ drop (i + 1) xs) (get_or_from_slice_get xs i x x is))

module _ (bodies : List (List ℕ)) (R : List StationRecord) (index : ℕ) (body : List ℕ) (so_far : spellings R ≡ take index bodies) (there : slice_get bodies (index + 1 - 1) ≡ Some body) where
  here : slice_get bodies index ≡ Some body
  here = let place : index + 1 - 1 ≡ index = omega arith in ap (slice_get bodies) (sym place) ∙ there

  pub spelled_more : (r : StationRecord) → body ≡ record_bytes r → spellings (R ++ r ∷ []) ≡ take (index + 1) bodies
  spelled_more r spelled =
      spellings-push R r ∙ ap (λ (l : List (List ℕ)). l ++ record_bytes r ∷ []) so_far ∙ ap (λ (b : List ℕ). take index bodies ++ b ∷ []) (sym spelled) ∙ sym (take_one bodies index body here)

  -- the place of the next gate, which no entry in range takes past the last number of 64 bits
  pub place_more : (r : StationRecord) (place behind long next : ℕ) → body ≡ record_bytes r → end_after bodies < 2 ^ 64 → place ≡ end_after (spellings R)
      → behind ≡ min (place + 5) (2 ^ 64 - 1) → long ≡ length body → next ≡ min (behind + long) (2 ^ 64 - 1) → next ≡ end_after (spellings (R ++ r ∷ []))
  place_more r place behind long next spelled short at five size_is is =
      let size : List ℕ → ℕ = λ (b : List ℕ). 5 + length b in
      let more = ap (λ (l : List (List ℕ)). sum_by size l) (spellings-push R r) ∙ sum_by-append size (spellings R) (record_bytes r ∷ []) in
      let within = sum_by-take-le size bodies (index + 1) in
      let same = ap (λ (l : List (List ℕ)). sum_by size l) (spelled_more r spelled) in
      let spelling_long = ap length spelled in
      omega (arith, more, within, same, spelling_long, short, at, five, size_is, is)

  pub first_wrong : (place : ℕ) → AreRecords R → length R ≡ index → ((r : StationRecord) → Spells body r → ⊥) → place ≡ end_after (spellings R) → IsFirstWrong bodies (index + 1) place
  first_wrong place in_range counted never at = record {
    R = R;
    body = body;
    more = drop (index + 1) bodies;
    in_range = in_range;
    bodies_are = parted bodies index body here ∙ ap (λ (l : List (List ℕ)). l ++ body ∷ drop (index + 1) bodies) (sym so_far);
    no_record = never;
    counts = omega (arith, counted);
    stands = at;
  }

pub spelled_all : (bodies : List (List ℕ)) (R : List StationRecord) (count index : ℕ) → spellings R ≡ take index bodies → count ≡ length bodies → count ≤ index → index ≤ count → spellings R ≡ bodies
spelled_all bodies R count index so_far long low high =
    let all : index ≡ length bodies = omega arith in
    so_far ∙ ap (λ (n : ℕ). take n bodies) all ∙ take-length bodies

-- the entries of a journal end within it
pub end_within : (file : List ℕ) (bodies : List (List ℕ)) → Holds file bodies → length file ≤ LONGEST_FILE → end_after bodies < 2 ^ 64
end_within file bodies holds within = ⊎_elim
    (λ short. subst (λ (l : List (List ℕ)). end_after l < 2 ^ 64) (sym short.1) (omega arith))
    (λ read. omega (arith, within, ap length read.1.bytes, length-append (written bodies) read.1.rest, length-written bodies))
    holds
