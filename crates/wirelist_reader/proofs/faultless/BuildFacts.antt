-- The fields of a row without a fault.
--     place_fits     each place holds what may stand there
--     field_fits     each field that a row of its kind has to have is there, and is what it may be
use Rattle.std.proofs.Common.{◌≡◌, inl, inr, ℕ, zero, suc, ◌+◌, ◌-◌, ◌<◌, ◌≤◌, Bool, true, false, not, List, [], ◌∷◌, Option, None, Some, length, get_or, refl, sym, ◌∙◌, ap, subst, arith}
use Rattle.std.specs.Prelude.{◌&&◌, ◌==◌, ◌%◌, IsTrue, filter, slice_get}
use Rattle.std.specs.List.{list_all, range_with_len}
use Rattle.std.proofs.lemmas.List.FromFn.{length-range_with_len, get_or-range_with_len}
use Rattle.std.proofs.lemmas.Option.{slice_get-get_or, slice_get_past}
use Rattle.std.proofs.lemmas.Bool.{cases_lt}
use Rattle.std.proofs.lemmas.List.{get_or_past}
use Rattle.wirelist_reader.specs.Kinds.{bad_fields, fits, is_number, kind_word, number, shape_after, shape_at, shapes_of}
use Rattle.partition.specs.Names.{IsName}
use Rattle.wirelist_reader.specs.Reading.{ArePoints, IsFit}
use Rattle.wirelist_reader.specs.Rows.{field_at, is_kind}
use Rattle.wirelist_reader.specs.declared.kind.Kind.{Kind}
use Rattle.wirelist_reader.specs.declared.kind.Kind.TheVariants.{Part, Points, Net, Ignore, Resistor, Diode, Insulation, Withstand, Attempts}
use Rattle.wirelist_reader.specs.declared.kind.Shape.{Shape}
use Rattle.wirelist_reader.specs.declared.kind.Shape.TheVariants.{Name, Number, Volts, MorePoints, End}
use Rattle.wirelist_reader.proofs.Numbers.{bytes_equal, and_left, and_right}

-- ---- a list of which nothing passes

module _ {X : Type 0} (p : X → Bool) where
  none_of_more : (x : X) (xs : List X) (b : Bool) → p x ≡ b → filter p (x ∷ xs) ≡ [] → (p x ≡ false) × (filter p xs ≡ [])
  none_of_more x xs true e none = absurd (let more : filter p (x ∷ xs) ≡ x ∷ filter p xs = rw e refl in let same : x ∷ filter p xs ≡ [] = sym more ∙ none in cc)
  none_of_more x xs false e none = let more : filter p (x ∷ xs) ≡ filter p xs = rw e refl in (e, sym more ∙ none)

  pub none_passes : (xs : List X) (i : ℕ) (d : X) → filter p xs ≡ [] → i < length xs → p (get_or xs i d) ≡ false
  none_passes [] i d none inside = absurd (omega arith)
  none_passes (x ∷ xs) zero d none inside = (none_of_more x xs (p x) refl none).0
  none_passes (x ∷ xs) (suc i) d none inside = none_passes xs i d (none_of_more x xs (p x) refl none).1 (omega arith)

  -- what all pass, each passes
  pub all_pass : (xs : List X) (i : ℕ) (d : X) → list_all p xs ≡ true → i < length xs → p (get_or xs i d) ≡ true
  all_pass [] i d all inside = absurd (omega arith)
  all_pass (x ∷ xs) zero d all inside = and_left (p x) (list_all p xs) all
  all_pass (x ∷ xs) (suc i) d all inside = all_pass xs i d (and_right (p x) (list_all p xs) all) (omega arith)

not_false : (b : Bool) → not b ≡ false → b ≡ true
not_false true e = refl
not_false false e = cc

-- ---- places

-- each place of a row without bad fields holds what may stand there
pub place_fits : (kind : Kind) (row : List (List ℕ)) → bad_fields kind row ≡ [] → (place : ℕ) → 1 ≤ place → place ≤ length row →
    fits (shape_at kind place) (slice_get row place) ≡ true
place_fits kind row none place low high =
    let places : List ℕ = range_with_len 1 (length row) in
    let size = length-range_with_len 1 (length row) in
    let at : get_or places (place - 1) 0 ≡ 1 + (place - 1) = get_or-range_with_len 1 (length row) (place - 1) 0 (omega arith) in
    let same : get_or places (place - 1) 0 ≡ place = omega arith in
    let kept = none_passes (λ (q : ℕ). not (fits (shape_at kind q) (slice_get row q))) places (place - 1) 0 none (omega arith) in
    not_false (fits (shape_at kind place) (slice_get row place)) (subst (λ (q : ℕ). not (fits (shape_at kind q) (slice_get row q)) ≡ false) same kept)

-- a field has to stand there
abbrev needs_field : Shape → Bool
needs_field Name = true
needs_field (Number range) = true
needs_field (Volts range) = true
needs_field MorePoints = false
needs_field End = false

missing : (shape : Shape) → needs_field shape ≡ true → fits shape None ≡ false
missing Name e = refl
missing (Number range) e = refl
missing (Volts range) e = refl
missing MorePoints e = cc
missing End e = cc

all_needed : (kind : Kind) → list_all needs_field (shapes_of kind) ≡ true
all_needed Part = refl
all_needed Points = refl
all_needed Net = refl
all_needed Ignore = refl
all_needed Resistor = refl
all_needed Diode = refl
all_needed Insulation = refl
all_needed Withstand = refl
all_needed Attempts = refl

-- a row of a kind has a first field
word_length : (kind : Kind) → 1 ≤ length (kind_word kind)
word_length Part = omega arith
word_length Points = omega arith
word_length Net = omega arith
word_length Ignore = omega arith
word_length Resistor = omega arith
word_length Diode = omega arith
word_length Insulation = omega arith
word_length Withstand = omega arith
word_length Attempts = omega arith

pub kind_not_empty : (kind : Kind) (row : List (List ℕ)) → IsTrue (is_kind kind row) → 1 ≤ length row
kind_not_empty kind [] is = absurd (omega (arith, word_length kind, ap length (bytes_equal [] (kind_word kind) is)))
kind_not_empty kind (x ∷ xs) is = omega arith

-- a place that needs a field has one
field_there : (shape : Shape) (row : List (List ℕ)) (place : ℕ) → needs_field shape ≡ true → fits shape (slice_get row place) ≡ true →
    (place < length row) × (fits shape (Some (field_at row place)) ≡ true)
field_there shape row place needed fit =
    elim (cases_lt place (length row)) [
      | inl inside ↦ (inside, subst (λ (f : Option (List ℕ)). fits shape f ≡ true) (slice_get-get_or row place [] inside) fit)
      | inr past ↦
          absurd (
          let none : fits shape None ≡ true = subst (λ (f : Option (List ℕ)). fits shape f ≡ true) (slice_get_past row place past) fit in
          let not_none = missing shape needed in
          cc
          )
    ]

module _ (kind : Kind) (row : List (List ℕ)) (is : IsTrue (is_kind kind row)) (none : bad_fields kind row ≡ []) where
  needed_at : (place : ℕ) → 1 ≤ place → place ≤ length (shapes_of kind) → needs_field (shape_at kind place) ≡ true
  needed_at place low high = all_pass needs_field (shapes_of kind) (place - 1) (shape_after kind) (all_needed kind) (omega arith)

  there_after : (place : ℕ) → 1 ≤ place → place ≤ length (shapes_of kind) → place ≤ length row →
      (place < length row) × (fits (shape_at kind place) (Some (field_at row place)) ≡ true)
  there_after place low high long = field_there (shape_at kind place) row place (needed_at place low high) (place_fits kind row none place low long)

  pub fields_there : (place : ℕ) → 1 ≤ place → place ≤ length (shapes_of kind) →
      (place < length row) × (fits (shape_at kind place) (Some (field_at row place)) ≡ true)
  fields_there zero low high = absurd (omega arith)
  fields_there (suc zero) low high = there_after 1 low high (kind_not_empty kind row is)
  fields_there (suc (suc k)) low high =
      let before = (fields_there (suc k) (omega arith) (omega arith)).0 in
      there_after (suc (suc k)) low high (omega arith)

-- ---- rows that are fit

-- a row of its kind has the field of each place of the kind, and the field is what it may be
pub field_fits : (kind : Kind) (row : List (List ℕ)) → IsFit row → IsTrue (is_kind kind row) → (place : ℕ) → 1 ≤ place → place ≤ length (shapes_of kind) →
    fits (shape_at kind place) (Some (field_at row place)) ≡ true
field_fits kind row fit is place low high = (fields_there kind row is (fit kind is) place low high).1

-- a row of a kind that goes on with points has points behind the places of its kind
more_points : (kind : Kind) → shape_after kind ≡ MorePoints → (row : List (List ℕ)) → IsFit row → IsTrue (is_kind kind row) →
    (place : ℕ) → length (shapes_of kind) < place → place < length row → is_number 0 65535 (field_at row place) ≡ true
more_points kind goes_on row fit is place low high =
    let here = place_fits kind row (fit kind is) place (omega arith) (omega arith) in
    let past : shape_at kind place ≡ MorePoints = get_or_past (shapes_of kind) (place - 1) (shape_after kind) (omega arith) ∙ goes_on in
    let there : fits (shape_at kind place) (Some (field_at row place)) ≡ true =
    subst (λ (f : Option (List ℕ)). fits (shape_at kind place) f ≡ true) (slice_get-get_or row place [] high) here in
    subst (λ (s : Shape). fits s (Some (field_at row place)) ≡ true) past there

-- a net has points from its third field on, the row of ignored points from its second
pub net_points : (row : List (List ℕ)) → IsFit row → IsTrue (is_kind Net row) → ArePoints 2 row
net_points row fit is place low high = more_points Net refl row fit is place (omega arith) high

pub ignored_points : (row : List (List ℕ)) → IsFit row → IsTrue (is_kind Ignore row) → ArePoints 1 row
ignored_points row fit is place low high =
    elim (cases_lt 1 place) as (λ _. is_number 0 65535 (field_at row place) ≡ true) [
      | inl later ↦ more_points Ignore refl row fit is place (omega arith) high
      | inr first ↦
          let one : 1 ≡ place = omega arith in
          subst (λ (k : ℕ). is_number 0 65535 (field_at row k) ≡ true) one (field_fits Ignore row fit is 1 (omega arith) (omega arith))
    ]

-- ---- numbers and names of rows that are fit

module _ (row : List (List ℕ)) (fit : IsFit row) where
  pub part_name : IsTrue (is_kind Part row) → IsName (field_at row 1)
  part_name is = field_fits Part row fit is 1 (omega arith) (omega arith)

  pub part_revision : IsTrue (is_kind Part row) → is_number 1 999999 (field_at row 2) ≡ true
  part_revision is = field_fits Part row fit is 2 (omega arith) (omega arith)

  pub points_number : IsTrue (is_kind Points row) → is_number 1 4096 (field_at row 1) ≡ true
  points_number is = field_fits Points row fit is 1 (omega arith) (omega arith)

  pub net_name : IsTrue (is_kind Net row) → IsName (field_at row 1)
  net_name is = field_fits Net row fit is 1 (omega arith) (omega arith)

  pub resistor_name : IsTrue (is_kind Resistor row) → IsName (field_at row 1)
  resistor_name is = field_fits Resistor row fit is 1 (omega arith) (omega arith)

  pub resistor_point : IsTrue (is_kind Resistor row) → (is_number 0 65535 (field_at row 2) ≡ true) × (is_number 0 65535 (field_at row 3) ≡ true)
  resistor_point is = (field_fits Resistor row fit is 2 (omega arith) (omega arith), field_fits Resistor row fit is 3 (omega arith) (omega arith))

  pub resistor_window : IsTrue (is_kind Resistor row) → (is_number 10001 1000000000000 (field_at row 4) ≡ true) × (is_number 10001 1000000000000 (field_at row 5) ≡ true)
  resistor_window is = (field_fits Resistor row fit is 4 (omega arith) (omega arith), field_fits Resistor row fit is 5 (omega arith) (omega arith))

  pub diode_name : IsTrue (is_kind Diode row) → IsName (field_at row 1)
  diode_name is = field_fits Diode row fit is 1 (omega arith) (omega arith)

  pub diode_point : IsTrue (is_kind Diode row) → (is_number 0 65535 (field_at row 2) ≡ true) × (is_number 0 65535 (field_at row 3) ≡ true)
  diode_point is = (field_fits Diode row fit is 2 (omega arith) (omega arith), field_fits Diode row fit is 3 (omega arith) (omega arith))

  pub diode_window : IsTrue (is_kind Diode row) → (is_number 1 5000 (field_at row 4) ≡ true) × (is_number 1 5000 (field_at row 5) ≡ true)
  diode_window is = (field_fits Diode row fit is 4 (omega arith) (omega arith), field_fits Diode row fit is 5 (omega arith) (omega arith))

  pub insulation_volts : IsTrue (is_kind Insulation row) → (is_number 50 1000 (field_at row 1) && (number (field_at row 1) % 50 == 0)) ≡ true
  insulation_volts is = field_fits Insulation row fit is 1 (omega arith) (omega arith)

  pub insulation_numbers : IsTrue (is_kind Insulation row) →
      (is_number 50 1000 (field_at row 1) ≡ true) × (is_number 1 1200 (field_at row 2) ≡ true) × (is_number 1 100000 (field_at row 3) ≡ true)
  insulation_numbers is = (and_left _ _ (insulation_volts is), field_fits Insulation row fit is 2 (omega arith) (omega arith), field_fits Insulation row fit is 3 (omega arith) (omega arith))

  pub withstand_volts : IsTrue (is_kind Withstand row) → (is_number 50 2000 (field_at row 1) && (number (field_at row 1) % 50 == 0)) ≡ true
  withstand_volts is = field_fits Withstand row fit is 1 (omega arith) (omega arith)

  pub withstand_numbers : IsTrue (is_kind Withstand row) →
      (is_number 50 2000 (field_at row 1) ≡ true) × (is_number 1 600 (field_at row 2) ≡ true) × (is_number 1 10000000 (field_at row 3) ≡ true)
  withstand_numbers is = (and_left _ _ (withstand_volts is), field_fits Withstand row fit is 2 (omega arith) (omega arith), field_fits Withstand row fit is 3 (omega arith) (omega arith))

  pub attempts_number : IsTrue (is_kind Attempts row) → is_number 1 9 (field_at row 1) ≡ true
  attempts_number is = field_fits Attempts row fit is 1 (omega arith) (omega arith)
