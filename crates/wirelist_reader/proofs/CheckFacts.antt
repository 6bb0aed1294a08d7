-- What the checks of a row find.
use Rattle.std.proofs.Common.{◌≡◌, ℕ, ◌+◌, ◌<◌, true, false, List, [], ◌∷◌, ◌++◌, length, take, Option, None, Some, Result, Ok, Err, slice_get, refl, sym, ◌∙◌, ap, arith, inr, subst, append_assoc}
use Rattle.std.specs.Prelude.{◌&&◌, ◌==◌, map}
use Rattle.std.specs.List.{flat_map, list_all, list_any}
use Rattle.std.proofs.lemmas.Bool.{ne_eqb}
use Rattle.lines.specs.Numbers.{IsNumberWord}
use Rattle.partition.specs.Classes.{points_below}
use Rattle.partition.proofs.tables.ClaimLemmas.{first_below}
use Rattle.wirelist.specs.declared.refusal.WireRefusal.{WireRefusal}
use Rattle.wirelist.specs.declared.refusal.WireRefusal.TheVariants as wire
use Rattle.wirelist_reader.specs.Kinds.{bad_fields, kind_of}
use Rattle.wirelist_reader.specs.Reading.{IsFit, alone_faults}
use Rattle.wirelist_reader.specs.Rows.{field_at, is_kind, row_at}
use Rattle.wirelist_reader.specs.Refusals.{Finds, FindsOrMemory, bad_field, field_faults, is_single, is_text, kind_faults, late_faults, row_faults, single_faults, text_faults, all_row_faults}
use Rattle.wirelist_reader.specs.declared.kind.Kind.{Kind}
use Rattle.wirelist_reader.specs.declared.kind.Kind.TheVariants.{Points}
use Rattle.wirelist_reader.proofs.Firsts.{first_in_left}
use Rattle.wirelist_reader.proofs.KindFacts.{is_kind_of}
use Rattle.wirelist_reader.proofs.Numbers.{word_is_number, word_number}

-- too many points are told as such
pub too_many_points : (row : List (List ℕ)) (n place points : ℕ) → place ≡ 1 → is_kind Points row ≡ true → IsNumberWord (field_at row 1) 4097 4294967295 points
    → wire.TooManyPoints points ≡ bad_field row n place
too_many_points row n place points first kind word =
    rw (first, kind, word_is_number (field_at row 1) 4097 4294967295 points (omega arith) word, word_number (field_at row 1) 4097 4294967295 points (omega arith) word) refl

-- the first of some places, told
first_told : (row : List (List ℕ)) (n place : ℕ) (places : List ℕ) → Some place ≡ slice_get places 0 → slice_get (map (bad_field row n) places) 0 ≡ Some (bad_field row n place)
first_told row n place [] e = cc
first_told row n place (p ∷ ps) e = let same : place ≡ p = cc in rw same refl

pub no_place : (places : List ℕ) → None ≡ slice_get places 0 → places ≡ []
no_place [] e = refl
no_place (p ∷ ps) e = cc

module _ (before : List (List (List ℕ))) (row : List (List ℕ)) (n : ℕ) (kind : Kind) (text : list_all is_text row ≡ true) (is : kind_of (field_at row 0) ≡ Some kind) where
  alone_is : alone_faults before row n ≡ single_faults kind before n ++ field_faults kind row n
  alone_is = rw (text, is) refl

  -- the first bad field is the first fault of a row that is no second one
  pub alone_bad : (place : ℕ) → (is_single kind && list_any (is_kind kind) before) ≡ false → Some place ≡ slice_get (bad_fields kind row) 0 → slice_get (alone_faults before row n) 0 ≡ Some (bad_field row n place)
  alone_bad place one bad =
      ap (λ (faults : List WireRefusal). slice_get faults 0) (alone_is ∙ rw one refl) ∙ first_told row n place (bad_fields kind row) bad

  pub alone_none : (is_single kind && list_any (is_kind kind) before) ≡ false → None ≡ slice_get (bad_fields kind row) 0 → alone_faults before row n ≡ []
  alone_none one none = alone_is ∙ rw (one, no_place (bad_fields kind row) none) refl

  -- a row without a bad field is fit
  pub fit_row : None ≡ slice_get (bad_fields kind row) 0 → IsFit row
  fit_row none other same =
      let kinds : ◌≡◌ {A = Option Kind} (Some other) (Some kind) = sym (is_kind_of row other same) ∙ is in
      let one : other ≡ kind = cc in
      rw one (no_place (bad_fields kind row) none)

-- the faults of a row are those that it has alone, and then those of names and counts
module _ (rows : List (List (List ℕ))) (i : ℕ) (some : 0 < length (row_at rows i)) where
  not_blank : (length (row_at rows i) == 0) ≡ false
  not_blank = ne_eqb (length (row_at rows i)) 0 (λ e. omega arith)

  row_faults_are : row_faults rows i ≡ text_faults (row_at rows i) (i + 1) ++ kind_faults (kind_of (field_at (row_at rows i) 0)) (take i rows) (row_at rows i) (i + 1)
  row_faults_are = rw not_blank refl

  unknown_are : kind_of (field_at (row_at rows i) 0) ≡ None → row_faults rows i ≡ alone_faults (take i rows) (row_at rows i) (i + 1)
  unknown_are is = row_faults_are ∙ rw is refl

  known_are : (kind : Kind) → kind_of (field_at (row_at rows i) 0) ≡ Some kind → row_faults rows i ≡ alone_faults (take i rows) (row_at rows i) (i + 1) ++ late_faults (take i rows) (row_at rows i) (i + 1)
  known_are kind is =
      let row = row_at rows i in
      row_faults_are ∙ rw is (
      ap (λ (faults : List WireRefusal). text_faults row (i + 1) ++ faults) (sym (append_assoc (single_faults kind (take i rows) (i + 1)) (field_faults kind row (i + 1)) (late_faults (take i rows) row (i + 1))))
      ∙ sym (append_assoc (text_faults row (i + 1)) (single_faults kind (take i rows) (i + 1) ++ field_faults kind row (i + 1)) (late_faults (take i rows) row (i + 1)))
      )

  -- the first fault that it has alone is its first
  pub alone_first : (e : WireRefusal) → slice_get (alone_faults (take i rows) (row_at rows i) (i + 1)) 0 ≡ Some e → slice_get (row_faults rows i) 0 ≡ Some e
  alone_first e first = go (kind_of (field_at (row_at rows i) 0)) refl
    where
      go : (o : Option Kind) → kind_of (field_at (row_at rows i) 0) ≡ o → slice_get (row_faults rows i) 0 ≡ Some e
      go None is = ap (λ (faults : List WireRefusal). slice_get faults 0) (unknown_are is) ∙ first
      go (Some kind) is = ap (λ (faults : List WireRefusal). slice_get faults 0) (known_are kind is) ∙ first_in_left _ _ e first

  -- without one, the rest are its faults
  pub late_are : alone_faults (take i rows) (row_at rows i) (i + 1) ≡ [] → row_faults rows i ≡ late_faults (take i rows) (row_at rows i) (i + 1)
  late_are none = go (kind_of (field_at (row_at rows i) 0)) refl
    where
      some_unknown : (xs : List WireRefusal) (x : WireRefusal) → xs ++ x ∷ [] ≡ [] → ⊥
      some_unknown [] x e = cc
      some_unknown (y ∷ ys) x e = cc

      go : (o : Option Kind) → kind_of (field_at (row_at rows i) 0) ≡ o → row_faults rows i ≡ late_faults (take i rows) (row_at rows i) (i + 1)
      go None is = absurd (some_unknown (text_faults (row_at rows i) (i + 1)) (wire.UnknownKind (i + 1)) (rw is at none))
      go (Some kind) is = known_are kind is ∙ ap (λ (faults : List WireRefusal). faults ++ late_faults (take i rows) (row_at rows i) (i + 1)) none

-- a row without fields has no fault
pub blank_has_none : (rows : List (List (List ℕ))) (i : ℕ) → row_at rows i ≡ [] → row_faults rows i ≡ []
blank_has_none rows i blank = rw blank refl

-- the first row with a fault
pub first_row_fault : (rows : List (List (List ℕ))) (i : ℕ) (e : WireRefusal) → i < length rows → flat_map (row_faults rows) (points_below i) ≡ [] → slice_get (row_faults rows i) 0 ≡ Some e → slice_get (all_row_faults rows) 0 ≡ Some e
first_row_fault rows i e inside none found = from (row_faults rows i) refl found
  where
    from : (faults : List WireRefusal) → row_faults rows i ≡ faults → slice_get faults 0 ≡ Some e → slice_get (all_row_faults rows) 0 ≡ Some e
    from [] at got = cc
    from (x ∷ xs) at got = first_below (row_faults rows) i (length rows) x xs none inside at ∙ got

-- a row that is there has fields, unless it is empty
some_field : (row : List (List ℕ)) → (row ≡ [] → ⊥) → 0 < length row
some_field [] not_empty = absurd (not_empty refl)
some_field (x ∷ xs) not_empty = omega arith

-- what the check of a row finds, where it has no fault alone
pub late_finds : (rows : List (List (List ℕ))) (i : ℕ) (row : List (List ℕ)) (result : Result (Unit {0}) WireRefusal) → row ≡ row_at rows i → (row ≡ [] → ⊥)
    → alone_faults (take i rows) row (i + 1) ≡ [] → FindsOrMemory (late_faults (take i rows) row (i + 1)) result → FindsOrMemory (row_faults rows i) result
late_finds rows i row result at not_empty none finds =
    let some : 0 < length (row_at rows i) = subst (λ (r : List (List ℕ)). 0 < length r) at (some_field row not_empty) in
    let alone : alone_faults (take i rows) (row_at rows i) (i + 1) ≡ [] = subst (λ (r : List (List ℕ)). alone_faults (take i rows) r (i + 1) ≡ []) at none in
    let late : FindsOrMemory (late_faults (take i rows) (row_at rows i) (i + 1)) result = subst (λ (r : List (List ℕ)). FindsOrMemory (late_faults (take i rows) r (i + 1)) result) at finds in
    subst (λ (faults : List WireRefusal). FindsOrMemory faults result) (sym (late_are rows i some alone)) late

-- and where it has one
pub alone_finds : (rows : List (List (List ℕ))) (i : ℕ) (row : List (List ℕ)) (result : Result (Unit {0}) WireRefusal) → row ≡ row_at rows i → (row ≡ [] → ⊥)
    → ((x : Unit {0}) → result ≡ Ok x → ⊥) → Finds (alone_faults (take i rows) row (i + 1)) result → FindsOrMemory (row_faults rows i) result
alone_finds rows i row (Ok x) at not_empty refused finds = absurd (refused x refl)
alone_finds rows i row (Err e) at not_empty refused finds =
    let some : 0 < length (row_at rows i) = subst (λ (r : List (List ℕ)). 0 < length r) at (some_field row not_empty) in
    inr (alone_first rows i some e (subst (λ (r : List (List ℕ)). slice_get (alone_faults (take i rows) r (i + 1)) 0 ≡ Some e) at finds))
