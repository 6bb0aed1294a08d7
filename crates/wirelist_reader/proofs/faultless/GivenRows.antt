-- What is known of each row where no row has a fault.
use Rattle.std.proofs.Common.{◌≡◌, ℕ, ◌+◌, ◌<◌, ◌&&◌, Bool, true, false, List, [], ◌++◌, length, Option, Some, refl, subst, arith, eqb, take, filter, All}
use Rattle.std.specs.Prelude.{nat_le, nat_lt, bytes_eq}
use Rattle.std.specs.List.{list_any}
use Rattle.std.proofs.lemmas.Bool.{ne_eqb}
use Rattle.std.proofs.lemmas.List.Elements.{All-from_get_or, All-get_or}
use Rattle.wirelist.specs.Numbers.{IsWithin}
use Rattle.wirelist.specs.Ranges.{most_parts}
use Rattle.wirelist.specs.declared.refusal.WireRefusal.{WireRefusal}
use Rattle.wirelist_reader.specs.Kinds.{kind_of, bad_fields, number, is_number}
use Rattle.wirelist_reader.specs.Rows.{row_at, field_at, is_kind, is_named, is_component, number_at, rows_of_kind}
use Rattle.wirelist_reader.specs.Refusals.{fault_if, is_single, names_in, bad_field, text_faults, field_faults, single_faults, name_faults, window_faults, count_faults, late_faults, kind_faults, row_faults, all_row_faults}
use Rattle.wirelist_reader.specs.Reading.{IsFit}
use Rattle.wirelist_reader.specs.declared.kind.Kind.{Kind}
use Rattle.wirelist_reader.proofs.KindFacts.{is_kind_of}
use Rattle.wirelist_reader.proofs.Numbers.{number_is_word}
use Rattle.wirelist_reader.proofs.faultless.BuildFacts.{kind_not_empty}
use Rattle.wirelist_reader.proofs.faultless.GivenLists.{append_none, map_none, flat_none, second_none, All-kept}

-- ---- numbers

pub within : (low most : ℕ) (field : List ℕ) → is_number low most field ≡ true → IsWithin low most (number field)
within low most field is = let word = number_is_word field low most is in (word.not_below, word.not_above)

-- ---- a row without a fault

pub no_fault : (condition : Bool) (fault : WireRefusal) → fault_if condition fault ≡ [] → condition ≡ false
no_fault true fault h = cc
no_fault false fault h = refl

-- what the row has, below the rows before it, where it has no fault
pub record IsClean (kind : Kind) (before : List (List (List ℕ))) (row : List (List ℕ)) : Type 0 where
  pub single : (is_single kind && list_any (is_kind kind) before) ≡ false
  pub fields : bad_fields kind row ≡ []
  pub name : (is_named row && list_any (bytes_eq (field_at row 1)) (names_in before)) ≡ false
  pub window : (is_component row && nat_lt (number_at row 5) (number_at row 4)) ≡ false
  pub count : (is_component row && nat_le most_parts (length (filter is_component before))) ≡ false

clean : (kind : Kind) (before : List (List (List ℕ))) (row : List (List ℕ)) (n : ℕ) → kind_faults (Some kind) before row n ≡ [] → IsClean kind before row
clean kind before row n none =
    let one = append_none (single_faults kind before n) (field_faults kind row n ++ late_faults before row n) none in
    let two = append_none (field_faults kind row n) (late_faults before row n) one.1 in
    let three = append_none (name_faults before row n) (window_faults row n ++ count_faults before row n) two.1 in
    let four = append_none (window_faults row n) (count_faults before row n) three.1 in
    record {
      single = no_fault _ _ one.0;
      fields = map_none (bad_field row n) (bad_fields kind row) two.0;
      name = no_fault _ _ three.0;
      window = no_fault _ _ four.0;
      count = no_fault _ _ four.1;
    }

module _ (rows : List (List (List ℕ))) (none : all_row_faults rows ≡ []) where
  pub clean_row : (kind : Kind) (i : ℕ) → i < length rows → is_kind kind (row_at rows i) ≡ true → IsClean kind (take i rows) (row_at rows i)
  clean_row kind i l is =
      let row = row_at rows i in
      let before = take i rows in
      let here : row_faults rows i ≡ [] = flat_none (row_faults rows) (length rows) i none l in
      let size = kind_not_empty kind row is in
      let some : eqb (length row) 0 ≡ false = ne_eqb (length row) 0 (λ e. omega arith) in
      let faults : kind_faults (kind_of (field_at row 0)) before row (i + 1) ≡ [] = second_none (eqb (length row) 0) (text_faults row (i + 1)) (kind_faults (kind_of (field_at row 0)) before row (i + 1)) some here in
      clean kind before row (i + 1) (subst (λ (k : Option Kind). kind_faults k before row (i + 1) ≡ []) (is_kind_of row kind is) faults)

  -- each row is fit
  pub fit_of_faultless : All IsFit rows
  fit_of_faultless = All-from_get_or IsFit rows [] (λ i l kind is. let known = clean_row kind i l is in known.fields)

  -- what follows for the rows of a kind
  pub rows_clean : (kind : Kind) (P : List (List ℕ) → Type 0) → ((before : List (List (List ℕ))) (row : List (List ℕ)) → IsFit row → is_kind kind row ≡ true → IsClean kind before row → P row) → All P (rows_of_kind kind rows)
  rows_clean kind P f = All-kept (is_kind kind) P rows [] (λ i l is. f (take i rows) (row_at rows i) (All-get_or IsFit rows i [] l fit_of_faultless) is (clean_row kind i l is))
