-- The end of the entries, and how it is closed.
use Rattle.std.proofs.Common.{◌≡◌, inr, ⊎_elim, ℕ, ◌+◌, ◌-◌, ◌<◌, ◌≤◌, is_some, Result, Ok, Err, OnOk, List, [], ◌∷◌, ◌++◌, length, take, drop, get_or, slice_index, take-append-drop, lit≤, Some, refl, sym, ◌∙◌, ap, subst, arith, append_assoc, length-append}
use Rattle.std.proofs.lemmas.List.{take_all, drop_at, drop_all, get_or_at, get_or_push, append-nil}
use Rattle.std.proofs.lemmas.Option.{same_Some}
use Rattle.std.specs.Option.{ForSome}
use Rattle.std.proofs.lemmas.List.Elements.{All-push}
use Rattle.disk_edge.specs.Disk.{DiskState, LeavesOnly, IsDurable, IsTorn, IsAsBefore, overwritten}
use Rattle.disk_edge.proofs.Moments.{weaker, and_then, stays}
use Rattle.journal.specs.declared.TheConstants.{LONGEST_BODY, LONGEST_FILE}
use Rattle.journal.specs.Format.{sized, entry, Fits, written, magic, IsClosed, IsRead, AtRest, Covers, IsSound, IsBeforeOrAfter}
use Rattle.journal.specs.Gates.{places, last_gate, AreInOrder}
use Rattle.journal.specs.Journal.{IsTornFrom, HasEntries}
use Rattle.journal.specs.Opening.{IsCut, IsWhole, IsReadTo, AreRead, IsBad, MayMake, IsShut, EndsAt, MayClose}
use Rattle.journal.proofs.Bytes.{written_unique, written-push, length-written-push}
use Rattle.journal.proofs.writing.Stages.{torn_gate, overwritten_gate, any_gate}
use Rattle.journal.proofs.writing.Places.{gates_push, places-push, length-places}

module _ (file : List ℕ) (end : ℕ) (bodies : List (List ℕ)) (is : end ≡ length (written bodies)) where
  rest_shut : (rest : List ℕ) → file ≡ written bodies ++ rest → IsShut file end → (back : List ℕ) × (rest ≡ 0 ∷ back)
  rest_shut [] whole shut = absurd (omega (arith, ap length whole, length-append (written bodies) [], shut.0, is))
  rest_shut (gate ∷ back) whole shut =
      let here : gate ≡ 0 = sym (get_or_at (written bodies) gate back 0 (length (written bodies)) refl) ∙ ap (λ (f : List ℕ). slice_index f (length (written bodies))) (sym whole) ∙ ap (slice_index file) (sym is) ∙ shut.1 in
      (back, ap (λ (g : ℕ). g ∷ back) here)

  -- a gate of 0 at the end
  pub shut_rest : IsRead file bodies → IsShut file end → AtRest file bodies
  shut_rest read shut =
      let parts = rest_shut read.rest read.bytes shut in
      record { rest = parts.0; bytes = read.bytes ∙ ap (λ (l : List ℕ). written bodies ++ l) parts.1; fit = read.fit }

  put_shut : (rest : List ℕ) → file ≡ written bodies ++ rest → (back : List ℕ) × (overwritten file end (0 ∷ []) ≡ written bodies ++ 0 ∷ back)
  put_shut [] whole =
      let file_is : file ≡ written bodies = whole ∙ append-nil (written bodies) in (
        [],
        ap (λ (e : ℕ). overwritten file e (0 ∷ [])) is
            ∙ ap (λ (f : List ℕ). overwritten f (length (written bodies)) (0 ∷ [])) file_is
            ∙ ap (λ (l : List ℕ). (l ++ 0 ∷ []) ++ drop (length (written bodies) + 1) (written bodies)) (take_all (length (written bodies)) (written bodies) (omega arith))
            ∙ ap (λ (l : List ℕ). (written bodies ++ 0 ∷ []) ++ l) (drop_all (length (written bodies) + 1) (written bodies) (omega arith))
            ∙ append-nil (written bodies ++ 0 ∷ []),
      )
  put_shut (gate ∷ back) whole =
      (back, ap (λ (e : ℕ). overwritten file e (0 ∷ [])) is ∙ ap (λ (f : List ℕ). overwritten f (length (written bodies)) (0 ∷ [])) whole ∙ overwritten_gate (written bodies) gate back 0)

  -- one that is written there
  pub put_rest : IsRead file bodies → AtRest (overwritten file end (0 ∷ [])) bodies
  put_rest read = let parts = put_shut read.rest read.bytes in record { rest = parts.0; bytes = parts.1; fit = read.fit }

  not_shut_entries : (others : List (List ℕ)) → IsRead file bodies → AtRest file others → IsShut file end
  not_shut_entries others read rest =
      let same = written_unique bodies others read.rest (0 ∷ rest.rest) read.fit rest.fit read.closed (λ one. absurd (cc)) (sym read.bytes ∙ rest.bytes) in
      let whole : file ≡ written bodies ++ 0 ∷ rest.rest = read.bytes ∙ ap (λ (l : List ℕ). written bodies ++ l) same.1 in (
        omega (arith, ap length whole, length-append (written bodies) (0 ∷ rest.rest), is),
        ap (slice_index file) is ∙ ap (λ (f : List ℕ). slice_index f (length (written bodies))) whole ∙ get_or_at (written bodies) 0 rest.rest 0 (length (written bodies)) refl,
      )

  covered : (others : List (List ℕ)) (body image : List ℕ) → IsRead file bodies → IsTorn end 1 file image → Covers file others body → MayMake file image
  covered others body image read torn covers =
      let tail = sized body ++ 0 ∷ covers.rest in
      let whole : file ≡ written others ++ covers.gate ∷ tail = covers.bytes ∙ append_assoc (written others) (covers.gate ∷ sized body) (0 ∷ covers.rest) in
      let same = written_unique bodies others read.rest (covers.gate ∷ tail) read.fit covers.fit read.closed covers.not_open (sym read.bytes ∙ whole) in
      let here : end ≡ length (written others) = is ∙ ap (λ (b : List (List ℕ)). length (written b)) same.0 in
      let at_file = subst (λ (f : List ℕ). IsTorn end 1 f image) whole torn in
      let at_end = subst (λ (e : ℕ). IsTorn e 1 (written others ++ covers.gate ∷ tail) image) here at_file in
      let long : length image ≡ length file = omega (arith, torn.no_shorter, torn.no_longer, is, here, ap length whole, length-append (written others) (covers.gate ∷ tail)) in
      inr (others, body, covers, subst (IsBeforeOrAfter others body) (sym (torn_gate (written others) covers.gate tail image at_end)) (any_gate others body (get_or image (length (written others)) 0) covers.rest covers.fit covers.fits), long)

  -- a closing that is cut short
  pub closing : (image : List ℕ) → 9 < length file → (IsShut file end → ⊥) → IsRead file bodies → IsTorn end 1 file image → IsSound file → MayMake file image
  closing image long open_end read torn sound = ⊎_elim
      (λ short. absurd (omega (arith, short)))
      (⊎_elim
      (λ rest. absurd (open_end (not_shut_entries rest.0 read rest.1)))
      (λ covers. covered covers.0 covers.1 image read torn covers.2))
      sound

-- the state at the call, after the gate is read, and after it is written
module _ (old mid new : DiskState) (end len : ℕ) (same : IsAsBefore old mid) (sizes : ForSome old.reads_as (λ file. len ≡ length file)) (long : 9 < len) where
  durable_mid : IsDurable old → IsDurable mid
  durable_mid durable honest file told = same.present ∙ durable (sym same.honest ∙ honest) file (sym same.reads_as ∙ told)

  pub closing_leaves : ForSome old.reads_as (λ file. IsShut file end → ⊥) → LeavesOnly mid new (IsTornFrom mid end 1) → LeavesOnly old new (MayClose old end)
  closing_leaves open_end torn = and_then old mid new (MayClose old end) (stays old mid (MayClose old end) same) (weaker mid new (IsTornFrom mid end 1) (MayClose old end)
      (λ _ _ image left durable file told bodies read is sound.
      closing file end bodies is image (omega (arith, sizes file told)) (open_end file told) read (left (durable_mid durable) file (same.reads_as ∙ told)) sound) torn)

pub closed_entries : {T E : Type 0} (r : Result T E) (old mid new : DiskState) (end : ℕ) → IsAsBefore old mid → is_some new.reads_as ≡ is_some mid.reads_as → OnOk r (ForSome mid.reads_as (λ file. new.reads_as ≡ Some (overwritten file end (0 ∷ [])))) → OnOk r (ForSome old.reads_as (λ file. EndsAt file end (HasEntries new)))
closed_entries (Ok x) old mid new end same tells put = λ file told bodies read is file' told'.
    let now : file' ≡ overwritten file end (0 ∷ []) = same_Some file' (overwritten file end (0 ∷ [])) (sym told' ∙ put file (same.reads_as ∙ told)) in
    subst (λ (f : List ℕ). AtRest f bodies) (sym now) (put_rest file end bodies is read)
closed_entries (Err e) old mid new end same tells put = tt

-- The gates that are read.
first_in_order : AreInOrder (8 ∷ [])
first_in_order = record { some = omega arith; steps = λ k lt. absurd (omega (arith, lt)); few = lit≤ tt; within = lit≤ tt }

pub begins_in_order : (gates : List ℕ) → gates ≡ [] → AreInOrder (gates ++ 8 ∷ [])
begins_in_order gates none = subst (λ (l : List ℕ). AreInOrder (l ++ 8 ∷ [])) (sym none) first_in_order

pub begins_read : (file gates : List ℕ) → gates ≡ [] → take 8 file ≡ magic → IsReadTo file gates 8
begins_read file gates none first = record {
  bodies = [];
  bytes = sym (take-append-drop 8 file) ∙ ap (λ (l : List ℕ). l ++ drop 8 file) first;
  fit = λ k d lt. absurd (omega (arith, lt));
  are = ap (λ (l : List ℕ). l ++ 8 ∷ []) none;
  end = refl;
}

pub last_is : (gates : List ℕ) (gate : ℕ) → last_gate (gates ++ gate ∷ []) ≡ gate
last_is gates gate = get_or_push gates gate 0 (length (gates ++ gate ∷ []) - 1) (omega (arith, length-append gates (gate ∷ [])))

pub goes_on_read : (file gates more : List ℕ) (gate next : ℕ) → more ≡ gates ++ gate ∷ [] → IsReadTo file gates gate → IsWhole (drop gate file) gate next → IsReadTo file more next
goes_on_read file gates more gate next pushed read whole =
    let bodies = read.bodies ++ whole.body ∷ [] in
    let parts : file ≡ written bodies ++ whole.after = read.bytes ∙ ap (λ (l : List ℕ). written read.bodies ++ l) whole.bytes ∙ sym (append_assoc (written read.bodies) (entry whole.body) whole.after) ∙ ap (λ (l : List ℕ). l ++ whole.after) (sym (written-push read.bodies whole.body)) in
    let ends : next ≡ length (written bodies) = omega (arith, whole.place, read.end, length-written-push read.bodies whole.body) in
    let behind : drop next file ≡ whole.after = ap (drop next) parts ∙ drop_at (written bodies) whole.after next (sym ends) in
    let place : length (written read.bodies) + 5 + length whole.body ≡ next = omega (arith, whole.place, read.end) in
    record {
      bodies = bodies;
      bytes = parts ∙ ap (λ (l : List ℕ). written bodies ++ l) (sym behind);
      fit = All-push Fits read.bodies whole.body read.fit whole.fits;
      are = ap (λ (l : List ℕ). l ++ next ∷ []) (pushed ∙ read.are) ∙ ap (λ (n : ℕ). places 8 read.bodies ++ n ∷ []) (sym place) ∙ sym (places-push read.bodies whole.body);
      end = ends;
    }

pub goes_on_in_order : (gates more : List ℕ) (gate next len : ℕ) → more ≡ gates ++ gate ∷ [] → AreInOrder (gates ++ gate ∷ []) → gate + 5 ≤ next → next ≤ gate + 5 + LONGEST_BODY → next ≤ len → len ≤ LONGEST_FILE → AreInOrder (more ++ next ∷ [])
goes_on_in_order gates more gate next len pushed order least most within limit =
    subst (λ (l : List ℕ). AreInOrder (l ++ next ∷ [])) (sym pushed) (gates_push (gates ++ gate ∷ []) next (next - gate - 5) order (omega (arith, last_is gates gate)) (omega arith) (omega arith))

pub all_read : (file gates more : List ℕ) (gate : ℕ) → more ≡ gates ++ gate ∷ [] → IsReadTo file gates gate → IsClosed (drop gate file) → AreRead file more
all_read file gates more gate pushed read closed = record {
  bodies = read.bodies;
  read = record { rest = drop gate file; bytes = read.bytes; fit = read.fit; closed = closed };
  are = pushed ∙ read.are;
}

pub bad_read : (file gates more : List ℕ) (gate number : ℕ) → 9 < length file → length file ≤ LONGEST_FILE → more ≡ gates ++ gate ∷ [] → IsReadTo file gates gate → IsCut (drop gate file) → number ≡ length more → IsBad file number gate
bad_read file gates more gate number long within pushed read cut is = record {
  long = long;
  within = within;
  bodies = read.bodies;
  rest = drop gate file;
  bytes = read.bytes;
  fit = read.fit;
  cut = cut;
  counts = omega (arith, is, ap length (pushed ∙ read.are), length-places 8 read.bodies);
  stands = read.end;
}

pub still_at_rest : (old mid : DiskState) (end : ℕ) → IsAsBefore old mid → ForSome old.reads_as (λ file. IsShut file end) → ForSome old.reads_as (λ file. EndsAt file end (HasEntries mid))
still_at_rest old mid end same shut file told bodies read is file' told' =
    let now : file ≡ file' = same_Some file file' (sym told ∙ sym same.reads_as ∙ told') in
    subst (λ (f : List ℕ). AtRest f bodies) now (shut_rest file end bodies is read (shut file told))
