-- The places of bad fields, one after another.
use Rattle.std.proofs.Common.{◌≡◌, ℕ, ◌+◌, ◌<◌, Bool, true, false, List, [], length, take, get_or, Some, slice_get, sym, ◌∙◌, ap, arith}
use Rattle.std.specs.Prelude.{filter, not}
use Rattle.std.specs.List.{range_with_len}
use Rattle.std.proofs.lemmas.List.FromFn.{get_or-range_with_len, length-range_with_len}
use Rattle.wirelist_reader.specs.Kinds.{bad_fields, fits, shape_at}
use Rattle.wirelist_reader.specs.declared.kind.Kind.{Kind}
use Rattle.wirelist_reader.proofs.Firsts.{none_more, first_is, none_of_all}

-- the field at a place is bad
abbrev pub misfits : Kind → List (List ℕ) → ℕ → Bool
misfits kind row place = not (fits (shape_at kind place) (slice_get row place))

-- the places of a row's fields after the first, and of its end
abbrev pub places : List (List ℕ) → List ℕ
places row = range_with_len 1 (length row)

-- none of the first i places is bad
abbrev pub NoneBad : Kind → List (List ℕ) → ℕ → Type 0
NoneBad kind row i = filter (misfits kind row) (take i (places row)) ≡ []

place_at : (row : List (List ℕ)) (i : ℕ) → i < length row → get_or (places row) i 0 ≡ i + 1
place_at row i lt = get_or-range_with_len 1 (length row) i 0 lt ∙ omega arith

inside : (row : List (List ℕ)) (i : ℕ) → i < length row → i < length (places row)
inside row i lt = let size = length-range_with_len 1 (length row) in omega arith

pub none_bad_more : (kind : Kind) (row : List (List ℕ)) (i : ℕ) → i < length row → NoneBad kind row i → fits (shape_at kind (i + 1)) (slice_get row (i + 1)) ≡ true → NoneBad kind row (i + 1)
none_bad_more kind row i lt none good =
    none_more (misfits kind row) (places row) i 0 (inside row i lt) none (ap (misfits kind row) (place_at row i lt) ∙ ap not good)

pub first_bad : (kind : Kind) (row : List (List ℕ)) (i : ℕ) → i < length row → NoneBad kind row i → fits (shape_at kind (i + 1)) (slice_get row (i + 1)) ≡ false → Some (i + 1) ≡ slice_get (bad_fields kind row) 0
first_bad kind row i lt none bad =
    ap Some (sym (place_at row i lt)) ∙ sym (first_is (misfits kind row) (places row) i 0 (inside row i lt) none (ap (misfits kind row) (place_at row i lt) ∙ ap not bad))

pub none_bad_of_all : (kind : Kind) (row : List (List ℕ)) → NoneBad kind row (length row) → bad_fields kind row ≡ []
none_bad_of_all kind row none = let size = length-range_with_len 1 (length row) in none_of_all (misfits kind row) (places row) (length row) (omega arith) none
