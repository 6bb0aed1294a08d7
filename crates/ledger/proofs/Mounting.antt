-- What a stop within an opening may leave, in records.
use Rattle.std.proofs.Common.{◌≡◌, inl, inr, ⊎_elim, ℕ, ◌<◌, ◌≤◌, List, [], ◌∷◌, ◌++◌, length, sym, ◌∙◌, ap, subst, arith, append_assoc, length-append, refl}
use Rattle.std.specs.List.{flat_map}
use Rattle.std.proofs.lemmas.List.Elements.{All-nil}
use Rattle.disk_edge.specs.Disk.{DiskState, LeavesOnly}
use Rattle.disk_edge.proofs.Moments.{weaker}
use Rattle.journal.specs.Format as journal
use Rattle.journal.specs.Format.{IsSound, IsBeforeOrAfter, sized, written, magic, entry}
use Rattle.journal.specs.Opening.{MayMake, MayOpen}
use Rattle.journal.proofs.Bytes.{length-sized}
use Rattle.journal.proofs.LawLemmas.{held_before, rest_or_covers, one_covered}
use Rattle.records.specs.declared.record.StationRecord.{StationRecord}
use Rattle.records.specs.RecordBytes.{record_bytes}
use Rattle.records.specs.RecordRanges.{IsRecord}
use Rattle.ledger.specs.Kept.{Keeps, Sound, IsImageOf, IsImageOfEither, spellings}
use Rattle.ledger.specs.Opening.{MountLeaves, BeginsSound}
use Rattle.ledger.proofs.Keeping.{before_or_after}
use Rattle.ledger.proofs.OneOpening.{one_list}

-- a covered entry needs more than nine bytes
covers_long : (file : List ℕ) (bodies : List (List ℕ)) (body : List ℕ) → journal.Covers file bodies body → 9 < length file
covers_long file bodies body c =
    let long = ap length (c.bytes ∙ append_assoc (written bodies) (c.gate ∷ sized body) (0 ∷ c.rest)) in
    omega (arith, long, length-append (written bodies) (c.gate ∷ (sized body ++ 0 ∷ c.rest)), length-append (sized body) (0 ∷ c.rest), length-sized body, length-append magic (flat_map entry bodies))

no_records : (R : List StationRecord) → spellings R ≡ [] → R ≡ []
no_records [] none = refl
no_records (r ∷ R) none = cc

none_image : (image : List ℕ) → length image ≤ 9 → IsImageOf [] image
none_image image short = record { keeps = record { in_range = All-nil IsRecord; holds = inl (short, refl) }; sound = inl short }

journal_sound : (file : List ℕ) → Sound file → IsSound file
journal_sound file sound = ⊎_elim (λ short. inl short) (⊎_elim (λ rests. inr (inl (spellings rests.0, rests.1.at_rest))) (λ covers. inr (inr (spellings covers.0, record_bytes covers.1, covers.2.covered)))) sound

module _ (file : List ℕ) (R : List StationRecord) (keeps : Keeps file R) (sound : Sound file) (image : List ℕ) where
  short_leaves : length file ≤ 9 → length image ≤ 9 → MountLeaves file R image
  short_leaves short image_short =
      let none : R ≡ [] = ⊎_elim (λ held. no_records R held.1) (λ read. absurd (omega (arith, short, read.0))) keeps.holds in
      inl (subst (λ (S : List StationRecord). IsImageOf S image) (sym none) (none_image image image_short))

  covered_leaves : (bodies : List (List ℕ)) (body : List ℕ) → journal.Covers file bodies body → IsBeforeOrAfter bodies body image → MountLeaves file R image
  covered_leaves bodies body covers left = ⊎_elim
      (λ short. let long = covers_long file bodies body covers in absurd (omega (arith, short, long)))
      (⊎_elim
      (λ rests. absurd (rest_or_covers file (spellings rests.0) bodies body rests.1.at_rest covers))
      (λ found.
      let S = found.0 in
      let r = found.1 in
      let one = one_covered file bodies (spellings S) body (record_bytes r) covers found.2.covered in
      let same : R ≡ S = one_list R S keeps.in_range found.2.in_range (held_before file (spellings R) bodies body keeps.holds covers ∙ one.0) in
      let left' : IsBeforeOrAfter (spellings S) (record_bytes r) image = subst (λ (l : List (List ℕ)). IsBeforeOrAfter l (record_bytes r) image) one.0 (subst (λ (b : List ℕ). IsBeforeOrAfter bodies b image) one.1 left) in
      let either : IsImageOfEither S (S ++ r ∷ []) image = before_or_after S r image found.2.in_range found.2.one left' in
      subst (λ (T : List StationRecord). MountLeaves file T image) (sym same) (⊎_elim (λ before. inl before) (λ after. inr (r, found.2, after)) either)))
      sound

  pub opening_leaves : MayMake file image → MountLeaves file R image
  opening_leaves made = ⊎_elim (λ short. short_leaves short.0 short.1) (λ covered. covered_leaves covered.0 covered.1 covered.2 covered.3) made

-- of a sound file that keeps records
pub leaves_records : (old new : DiskState) (file : List ℕ) (R : List StationRecord) → LeavesOnly old new (MayOpen old) → BeginsSound old file R → LeavesOnly old new (MountLeaves file R)
leaves_records old new file R leaves begins =
    weaker old new (MayOpen old) (MountLeaves file R) (λ honest tells image made. opening_leaves file R begins.keeps begins.sound image (made file begins.reads (journal_sound file begins.sound))) leaves
