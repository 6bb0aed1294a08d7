-- What an opening reads, and what it makes of an empty file.
use Rattle.std.proofs.Common.{◌≡◌, ◌≢◌, ◌⊎◌, ⊎_elim, ℕ, ◌+◌, ◌-◌, ◌^◌, ◌<◌, ◌≤◌, List, ◌∷◌, ◌++◌, length, take, drop, get_or, slice_index, slice_range, Some, refl, sym, ◌∙◌, ap, subst, arith, append_assoc, length-append, length-drop, take-append-drop}
use Rattle.std.proofs.lemmas.List.{take_at, drop_more, drop_all, length-take-le}
use Rattle.std.proofs.lemmas.Nat.{be_bytes_4, from_be_bytes-to_be_bytes_4}
use Rattle.std.proofs.lemmas.Bool.{cases_lt}
use Rattle.std.specs.Int.{w32, to_be_bytes, from_be_bytes}
use Rattle.std.specs.Option.{ForSome}
use Rattle.disk_edge.specs.Disk.{DiskState, LeavesOnly, IsDurable, overwritten}
use Rattle.disk_edge.specs.MemDiskLaws.{length-overwritten}
use Rattle.disk_edge.proofs.Moments.{weaker, and_then}
use Rattle.journal.specs.declared.TheConstants.{LONGEST_BODY}
use Rattle.journal.specs.Format.{sized, IsClosed}
use Rattle.journal.specs.Journal.{IsTornFrom}
use Rattle.journal.specs.Limits.{IsSize}
use Rattle.journal.specs.Opening.{IsCut, IsWhole}
use Rattle.journal.proofs.Bytes.{length-sized}

pub size_is : (field : List ℕ) (size : ℕ) → length field ≡ 4 → ((i : ℕ) → get_or field i 0 < 256) → size ≡ from_be_bytes w32 field → size < 2 ^ 32 → IsSize size field
size_is field size long bytes is fits = record { reads = sym is; spells = be_bytes_4 field size long bytes is; fits = fits }

pub size_there : (file field : List ℕ) (at size : ℕ) → field ≡ slice_range file at (at + 4) → IsSize size field → IsSize size (take 4 (drop at file))
size_there file field at size filled is =
    let count : (at + 4) - at ≡ 4 = omega arith in
    subst (IsSize size) (filled ∙ ap (λ (n : ℕ). take n (drop at file)) count) is

module _ (file : List ℕ) (gate : ℕ) where
  pub closed_past : length file ≤ gate → IsClosed (drop gate file)
  closed_past past = subst IsClosed (sym (drop_all gate file past)) tt

  at_gate : gate < length file → drop gate file ≡ slice_index file gate ∷ drop (gate + 1) file
  at_gate within = drop_more file gate 0 within

  pub closed_byte : gate < length file → slice_index file gate ≢ 1 → IsClosed (drop gate file)
  closed_byte within shut = subst IsClosed (sym (at_gate within)) shut

  -- no open gate
  pub closed_at : ((gate < length file) × (slice_index file gate ≡ 1) → ⊥) → IsClosed (drop gate file)
  closed_at shut = ⊎_elim
      (λ within. closed_byte within (λ one. shut (within, one)))
      (λ past. closed_past past)
      (cases_lt gate (length file))

  open_at : gate < length file → slice_index file gate ≡ 1 → drop gate file ≡ 1 ∷ drop (gate + 1) file
  open_at within is_open = at_gate within ∙ ap (λ (g : ℕ). g ∷ drop (gate + 1) file) is_open

  -- no room for a length
  pub cut_short : gate < length file → slice_index file gate ≡ 1 → length file - gate < 5 → IsCut (drop gate file)
  cut_short within is_open short = record {
    tail = drop (gate + 1) file;
    open_gate = open_at within is_open;
    no_entry = λ body after fits same. omega (arith, ap length same, length-append (sized body) after, length-sized body, length-drop (gate + 1) file);
  }

  -- a length of which no body is, or that passes the end
  pub cut_long : (size : ℕ) → gate < length file → slice_index file gate ≡ 1 → 5 ≤ length file - gate → IsSize size (take 4 (drop (gate + 1) file)) → (LONGEST_BODY < size) ⊎ (length file - gate - 5 < size) → IsCut (drop gate file)
  unfolding sized
  cut_long size within is_open room is too_long = record {
    tail = drop (gate + 1) file;
    open_gate = open_at within is_open;
    no_entry = λ body after fits same.
        let field : take 4 (drop (gate + 1) file) ≡ to_be_bytes w32 (length body) = ap (take 4) (same ∙ append_assoc (to_be_bytes w32 (length body)) body after) ∙ take_at (to_be_bytes w32 (length body)) (body ++ after) 4 refl in
        let long : size ≡ length body = sym is.reads ∙ ap (from_be_bytes w32) field ∙ from_be_bytes-to_be_bytes_4 (length body) (omega arith) in
        ⊎_elim (λ over. omega (arith, over, long, fits)) (λ past. omega (arith, past, long, ap length same, length-append (sized body) after, length-sized body, length-drop (gate + 1) file)) too_long;
  }

  pub whole : (size : ℕ) → gate < length file → slice_index file gate ≡ 1 → IsSize size (take 4 (drop (gate + 1) file)) → size ≤ LONGEST_BODY → size ≤ length file - gate - 5 → 5 ≤ length file - gate → IsWhole (drop gate file) gate (gate + 5 + size)
  unfolding sized
  whole size within is_open is fits room five =
      let tail = drop (gate + 1) file in
      let behind = drop 4 tail in
      let body = take size behind in
      let long : length body ≡ size = length-take-le size behind (omega (arith, length-drop 4 tail, length-drop (gate + 1) file)) in
      let parts : tail ≡ to_be_bytes w32 (length body) ++ (body ++ drop size behind) =
      sym (take-append-drop 4 tail)
      ∙ ap (λ (l : List ℕ). l ++ behind) (sym is.spells ∙ ap (to_be_bytes w32) (sym long))
      ∙ ap (λ (l : List ℕ). to_be_bytes w32 (length body) ++ l) (sym (take-append-drop size behind)) in
      record {
        body = body;
        after = drop size behind;
        bytes = open_at within is_open ∙ ap (λ (l : List ℕ). 1 ∷ l) (parts ∙ sym (append_assoc (to_be_bytes w32 (length body)) body (drop size behind)));
        fits = omega (arith, long, fits);
        place = omega (arith, long);
      }

-- A file of at most 9 bytes stays one.
abbrev pub StaysShort : DiskState → List ℕ → Type 0
StaysShort old image = IsDurable old → ForSome old.reads_as (λ _. length image ≤ 9)

module _ (old mid new : DiskState) (short : ForSome old.reads_as (λ file. length file ≤ 9)) where
  pub zeroed : LeavesOnly old mid (IsTornFrom old 0 9) → LeavesOnly old mid (StaysShort old)
  zeroed torn = weaker old mid (IsTornFrom old 0 9) (StaysShort old) (λ _ _ image left durable file told. omega (arith, (left durable file told).no_longer, short file told)) torn

  pub created : (bytes : List ℕ) → length bytes ≡ 9 → LeavesOnly old mid (IsTornFrom old 0 9) → ForSome old.reads_as (λ file. mid.reads_as ≡ Some (overwritten file 0 bytes)) → IsDurable mid → LeavesOnly mid new (IsTornFrom mid 0 8) → LeavesOnly old new (StaysShort old)
  created bytes nine torn put mid_durable torn_magic = and_then old mid new (StaysShort old) (zeroed torn) (weaker mid new (IsTornFrom mid 0 8) (StaysShort old) (λ _ _ image left durable file told.
      let after = left mid_durable (overwritten file 0 bytes) (put file told) in
      omega (arith, nine, after.no_longer, short file told, (length-overwritten file 0 bytes).1)) torn_magic)
