-- The two puts of an entry.
use Rattle.std.proofs.Common.{◌≡◌, inl, ℕ, ◌+◌, ◌<◌, ◌≤◌, true, Option, Some, None, is_some, Result, Ok, Err, OnOk, List, [], ◌∷◌, ◌++◌, length, take, drop, get_or, refl, sym, ◌∙◌, ap, subst, arith, append_assoc}
use Rattle.std.specs.Option.{ForSome}
use Rattle.std.proofs.lemmas.Option.{same_Some}
use Rattle.disk_edge.specs.Disk.{DiskState, LeavesOnly, IsDurable, IsTorn, overwritten}
use Rattle.disk_edge.proofs.Moments.{weaker, and_then}
use Rattle.disk_edge.specs.MemDiskLaws.{length-overwritten}
use Rattle.journal.specs.Format.{sized, written, AtRest, IsBeforeOrAfter}
use Rattle.journal.specs.Journal.{HasEntries, IsNext, IsTornFrom}
use Rattle.journal.proofs.writing.Stages.{torn_behind, overwritten_behind, torn_gate, overwritten_gate, staged, opened, any_gate}

pub told_by : {X : Type 0} (o : Option X) → is_some o ≡ true → (x : X) × (o ≡ Some x)
told_by None none = absurd (cc)
told_by (Some x) told = (x, refl)

-- The old state, the state after the entry is put behind the closed gate, and the state after the gate is opened.
module _ (old mid new : DiskState) (end : ℕ) (whole gate bytes : List ℕ) (bodies : List (List ℕ)) (body : List ℕ) (front : gate ≡ take 1 whole) (behind_front : bytes ≡ drop 1 whole) (next : IsNext old end whole bodies body) where
  open_gate : gate ≡ 1 ∷ []
  open_gate = front ∙ ap (take 1) next.spelled

  spelled : bytes ≡ sized body ++ 0 ∷ []
  spelled = behind_front ∙ ap (drop 1) next.spelled

  -- the end of the file, behind the entry
  behind : List ℕ → List ℕ
  behind file = drop (length (written bodies) + 1 + length bytes) file

  stage : (file : List ℕ) → old.reads_as ≡ Some file → overwritten file (end + 1) bytes ≡ staged bodies body 0 (behind file)
  unfolding behind
  stage file told =
      let at_rest = next.entries file told in
      let all = written bodies ++ 0 ∷ at_rest.rest in
      let after = drop (length (written bodies) + 1 + length bytes) all in
      ap (λ (f : List ℕ). overwritten f (end + 1) bytes) at_rest.bytes
      ∙ ap (λ (e : ℕ). overwritten all (e + 1) bytes) (next.place file told)
      ∙ overwritten_behind (written bodies) 0 at_rest.rest bytes
      ∙ ap (λ (b : List ℕ). written bodies ++ (0 ∷ b) ++ after) spelled
      ∙ append_assoc (written bodies) (0 ∷ (sized body ++ 0 ∷ [])) after
      ∙ ap (λ (l : List ℕ). written bodies ++ 0 ∷ l) (append_assoc (sized body) (0 ∷ []) after)
      ∙ ap (λ (f : List ℕ). staged bodies body 0 (drop (length (written bodies) + 1 + length bytes) f)) (sym at_rest.bytes)

  pub first_leaves : LeavesOnly old mid (IsTornFrom old (end + 1) (length bytes)) → LeavesOnly old mid (IsBeforeOrAfter bodies body)
  first_leaves torn = weaker old mid (IsTornFrom old (end + 1) (length bytes)) (IsBeforeOrAfter bodies body) (λ honest tells image left.
      let known = told_by old.reads_as tells in
      let at_rest = next.entries known.0 known.1 in
      let at_file = subst (λ (f : List ℕ). IsTorn (end + 1) (length bytes) f image) at_rest.bytes (left next.durable known.0 known.1) in
      let at_end = subst (λ (e : ℕ). IsTorn (e + 1) (length bytes) (written bodies ++ 0 ∷ at_rest.rest) image) (next.place known.0 known.1) at_file in
      inl (record { rest = drop (length (written bodies) + 1) image; bytes = torn_behind (written bodies) 0 at_rest.rest (length bytes) image at_end; fit = at_rest.fit })) torn

  -- what was read behind the first put, where the old state was told
  mid_reads : ForSome old.reads_as (λ file. mid.reads_as ≡ Some (overwritten file (end + 1) bytes)) → (file : List ℕ) → old.reads_as ≡ Some file → mid.reads_as ≡ Some (staged bodies body 0 (behind file))
  mid_reads put file told = put file told ∙ ap Some (stage file told)

  pub both_leave : IsDurable mid → LeavesOnly old mid (IsTornFrom old (end + 1) (length bytes)) → ForSome old.reads_as (λ file. mid.reads_as ≡ Some (overwritten file (end + 1) bytes)) → LeavesOnly mid new (IsTornFrom mid end (length gate)) → LeavesOnly old new (IsBeforeOrAfter bodies body)
  both_leave mid_durable torn put torn_open = and_then old mid new (IsBeforeOrAfter bodies body) (first_leaves torn) (weaker mid new (IsTornFrom mid end 1) (IsBeforeOrAfter bodies body) (λ honest tells image left.
      let known = told_by old.reads_as (sym torn.tells ∙ tells) in
      let at_rest = next.entries known.0 known.1 in
      let at_file = left mid_durable (staged bodies body 0 (behind known.0)) (mid_reads put known.0 known.1) in
      let at_end = subst (λ (e : ℕ). IsTorn e 1 (staged bodies body 0 (behind known.0)) image) (next.place known.0 known.1) at_file in
      let image_is = torn_gate (written bodies) 0 (sized body ++ 0 ∷ behind known.0) image at_end in
      subst (IsBeforeOrAfter bodies body) (sym image_is) (any_gate bodies body (get_or image (length (written bodies)) 0) (behind known.0) at_rest.fit next.fits))
      (subst (λ (g : List ℕ). LeavesOnly mid new (IsTornFrom mid end (length g))) open_gate torn_open))

  pub has_entry : is_some mid.reads_as ≡ is_some old.reads_as → is_some new.reads_as ≡ is_some mid.reads_as → ForSome old.reads_as (λ file. mid.reads_as ≡ Some (overwritten file (end + 1) bytes)) → ForSome mid.reads_as (λ file. new.reads_as ≡ Some (overwritten file end gate)) → HasEntries new (bodies ++ body ∷ [])
  has_entry mid_tells new_tells put put_open file told =
      let known = told_by old.reads_as (sym mid_tells ∙ sym new_tells ∙ ap is_some told) in
      let at_rest = next.entries known.0 known.1 in
      let before = staged bodies body 0 (behind known.0) in
      let after = staged bodies body 1 (behind known.0) in
      let open_is : overwritten before end gate ≡ after = ap (overwritten before end) open_gate ∙ ap (λ (e : ℕ). overwritten before e (1 ∷ [])) (next.place known.0 known.1) ∙ overwritten_gate (written bodies) 0 (sized body ++ 0 ∷ behind known.0) 1 in
      let file_is : file ≡ after = same_Some file after (sym told ∙ put_open before (mid_reads put known.0 known.1) ∙ ap Some open_is) in
      subst (λ (f : List ℕ). AtRest f (bodies ++ body ∷ [])) (sym file_is) (opened bodies body (behind known.0) at_rest.fit next.fits)

-- the gate still lies within the file
pub room : (old mid : DiskState) (end : ℕ) (bytes : List ℕ) → is_some mid.reads_as ≡ is_some old.reads_as → ForSome old.reads_as (λ file. end < length file) → ForSome old.reads_as (λ file. mid.reads_as ≡ Some (overwritten file (end + 1) bytes)) → ForSome mid.reads_as (λ file. end ≤ length file)
room old mid end bytes tells within put file told =
    let known = told_by old.reads_as (sym tells ∙ ap is_some told) in
    let same : overwritten known.0 (end + 1) bytes ≡ file = same_Some (overwritten known.0 (end + 1) bytes) file (sym (put known.0 known.1) ∙ told) in
    omega (arith, ap length same, within known.0 known.1, (length-overwritten known.0 (end + 1) bytes).0)

pub if_ok : {T E : Type 0} {P Q : Type 0} (r : Result T E) → OnOk r P → (P → Q) → OnOk r Q
if_ok (Ok x) has implies = implies has
if_ok (Err e) has implies = tt
