-- The names of nets and components are apart, where no row has a fault.
use Rattle.std.proofs.Common.{◌≡◌, ◌≢◌, inl, inr, ℕ, ◌<◌, true, false, List, [], ◌++◌, length, get_or, refl, sym, ◌∙◌, ap, subst, arith, take, map, filter, AllPairs}
use Rattle.std.specs.Prelude.{bytes_eq}
use Rattle.std.specs.List.{list_any}
use Rattle.std.proofs.lemmas.Bool.{or_cases, both_ways}
use Rattle.std.proofs.lemmas.List.{map-append, get_or_default}
use Rattle.std.proofs.lemmas.List.Elements.{filter_passes}
use Rattle.std.proofs.lemmas.List.Kept.{AllPairs-filter}
use Rattle.partition.proofs.Members.{In, In-append_cases, In-map, In-filter, In-filter_cases}
use Rattle.wirelist.specs.Programs.{all_names}
use Rattle.wirelist.specs.declared.parts.Resistor.{Resistor as Res}
use Rattle.wirelist.specs.declared.parts.Diode.{Diode as Dio}
use Rattle.wirelist_reader.specs.Kinds.{kind_word}
use Rattle.wirelist_reader.specs.Rows.{row_at, field_at, is_kind, is_named, is_component, rows_of_kind, resistor_of, diode_of, program_of}
use Rattle.wirelist_reader.specs.Refusals.{names_in, all_row_faults}
use Rattle.wirelist_reader.specs.declared.kind.Kind.{Kind}
use Rattle.wirelist_reader.specs.declared.kind.Kind.TheVariants.{Net, Resistor, Diode}
use Rattle.wirelist_reader.proofs.faultless.GivenLists.{conjunct}
use Rattle.wirelist_reader.proofs.faultless.GivenPairs.{take-In, any-In, AllPairs-append, AllPairs-map, pair-In, map-map}
use Rattle.wirelist_reader.proofs.faultless.GivenRows.{clean_row}
use Rattle.wirelist_reader.proofs.KindFacts.{named_of_kind}
use Rattle.wirelist_reader.proofs.Numbers.{bytes_same, bytes_equal}

abbrev pub name_of : List (List ℕ) → List ℕ
name_of row = field_at row 1

-- two rows do not give the same name
abbrev pub NamesApart : List (List ℕ) → List (List ℕ) → Type 0
NamesApart x y = is_named x ≡ true → is_named y ≡ true → name_of x ≡ name_of y → ⊥

-- a row that gives a name is of some kind
kind_of_named : (row : List (List ℕ)) → is_named row ≡ true → (kind : Kind) × (is_kind kind row ≡ true)
kind_of_named row named =
    elim (or_cases (is_kind Net row) (is_component row) named) [
      | inl net ↦ (Net, net)
      | inr part ↦ elim (or_cases (is_kind Resistor row) (is_kind Diode row) part) [ inl r ↦ (Resistor, r) | inr d ↦ (Diode, d) ]
    ]

-- a row of one kind is of no other
pub only_kind : (kind other : Kind) (row : List (List ℕ)) → bytes_eq (kind_word kind) (kind_word other) ≡ false → is_kind kind row ≡ true → is_kind other row ≡ false
only_kind kind other row differ is = ap (λ (word : List ℕ). bytes_eq word (kind_word other)) (bytes_equal (field_at row 0) (kind_word kind) is) ∙ differ

module _ (rows : List (List (List ℕ))) (none : all_row_faults rows ≡ []) where
  apart_at : (i j : ℕ) → i < j → j < length rows → NamesApart (row_at rows i) (row_at rows j)
  apart_at i j before l named_x named_y same =
      let x = row_at rows i in
      let y = row_at rows j in
      let kind = kind_of_named y named_y in
      let known = clean_row rows none kind.0 j l kind.1 in
      let fresh : list_any (bytes_eq (name_of y)) (names_in (take j rows)) ≡ false = conjunct (is_named y) _ known.name named_y in
      let there : In (name_of x) (names_in (take j rows)) = In-map name_of x (filter is_named (take j rows)) (In-filter is_named x (take j rows) (take-In i j [] rows before (omega arith)) named_x) in
      both_ways _ fresh (any-In (bytes_eq (name_of y)) (name_of x) (names_in (take j rows)) there (bytes_same (name_of y) (name_of x) (sym same)))

  rows_apart : AllPairs NamesApart rows
  rows_apart i j d before l =
      subst (λ (x : List (List ℕ)). NamesApart x (get_or rows j d)) (get_or_default rows i [] d (omega arith))
      (subst (λ (y : List (List ℕ)). NamesApart (row_at rows i) y) (get_or_default rows j [] d l) (apart_at i j before l))

  abbrev DifferentNames : List (List ℕ) → List (List ℕ) → Type 0
  DifferentNames x y = name_of x ≢ name_of y

  -- the rows of a kind that gives names
  kind_apart : (kind : Kind) → ((row : List (List ℕ)) → is_kind kind row ≡ true → is_named row ≡ true) → AllPairs DifferentNames (rows_of_kind kind rows)
  kind_apart kind names i j d before l =
      AllPairs-filter NamesApart (is_kind kind) rows rows_apart i j d before l
      (names (get_or (rows_of_kind kind rows) i d) (filter_passes (is_kind kind) rows i d (omega arith)))
      (names (get_or (rows_of_kind kind rows) j d) (filter_passes (is_kind kind) rows j d l))

  -- those of two kinds
  kinds_apart : (kind other : Kind) (x y : List (List ℕ)) → ((row : List (List ℕ)) → is_kind kind row ≡ true → is_named row ≡ true) → ((row : List (List ℕ)) → is_kind other row ≡ true → is_named row ≡ true) →
      bytes_eq (kind_word other) (kind_word kind) ≡ false → In x (rows_of_kind kind rows) → In y (rows_of_kind other rows) → DifferentNames x y
  kinds_apart kind other x y names other_names differ i j =
      let first = In-filter_cases (is_kind kind) x rows i in
      let second = In-filter_cases (is_kind other) y rows j in
      pair-In NamesApart (is_kind kind) x y rows (λ a b r named_b named_a same. r named_a named_b (sym same)) rows_apart first.0 second.0 first.1 (only_kind other kind y differ second.1)
      (names x first.1) (other_names y second.1)

  abbrev nets : List (List (List ℕ))
  nets = rows_of_kind Net rows

  abbrev resistors : List (List (List ℕ))
  resistors = rows_of_kind Resistor rows

  abbrev diodes : List (List (List ℕ))
  diodes = rows_of_kind Diode rows

  net_named : (row : List (List ℕ)) → is_kind Net row ≡ true → is_named row ≡ true
  net_named row is = named_of_kind row Net is

  resistor_named : (row : List (List ℕ)) → is_kind Resistor row ≡ true → is_named row ≡ true
  resistor_named row is = named_of_kind row Resistor is

  diode_named : (row : List (List ℕ)) → is_kind Diode row ≡ true → is_named row ≡ true
  diode_named row is = named_of_kind row Diode is

  all_apart : AllPairs DifferentNames (nets ++ (resistors ++ diodes))
  all_apart =
      AllPairs-append DifferentNames nets (resistors ++ diodes) (kind_apart Net net_named)
      (AllPairs-append DifferentNames resistors diodes (kind_apart Resistor resistor_named) (kind_apart Diode diode_named)
      (λ x y i j. kinds_apart Resistor Diode x y resistor_named diode_named refl i j))
      (λ x y i j. elim (In-append_cases y resistors diodes j) [
        | inl r ↦ kinds_apart Net Resistor x y net_named resistor_named refl i r
        | inr d ↦ kinds_apart Net Diode x y net_named diode_named refl i d
      ])

  names_are : all_names (program_of rows) ≡ map name_of (nets ++ (resistors ++ diodes))
  names_are =
      ap (λ (xs : List (List ℕ)). map name_of nets ++ (xs ++ map (λ (d : Dio). d.name) (map diode_of diodes))) (map-map (λ (r : Res). r.name) resistor_of resistors)
      ∙ ap (λ (xs : List (List ℕ)). map name_of nets ++ (map name_of resistors ++ xs)) (map-map (λ (d : Dio). d.name) diode_of diodes)
      ∙ ap (λ (xs : List (List ℕ)). map name_of nets ++ xs) (sym (map-append name_of resistors diodes))
      ∙ sym (map-append name_of nets (resistors ++ diodes))

  pub names_distinct : AllPairs ◌≢◌ (all_names (program_of rows))
  names_distinct = subst (AllPairs ◌≢◌) (sym names_are) (AllPairs-map ◌≢◌ name_of (nets ++ (resistors ++ diodes)) all_apart)
