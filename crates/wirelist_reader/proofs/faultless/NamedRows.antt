-- The fields of rows of nets and components.
use Rattle.std.proofs.Common.{◌≡◌, ◌⊎◌, ℕ, ◌<◌, ◌≤◌, ◌^◌, Bool, true, false, List, refl, arith, inl, inr}
use Rattle.std.specs.Prelude.{◌||◌}
use Rattle.partition.specs.Names.{IsName}
use Rattle.wirelist_reader.specs.Kinds.{number, is_number}
use Rattle.wirelist_reader.specs.Reading.{IsFit}
use Rattle.wirelist_reader.specs.Rows.{field_at, is_component, is_kind, is_named}
use Rattle.wirelist_reader.specs.declared.kind.Kind.TheVariants.{Net, Resistor, Diode}
use Rattle.wirelist_reader.proofs.Numbers.{number_is_word, word_is_number}
use Rattle.wirelist_reader.proofs.faultless.BuildFacts.{net_name, resistor_name, resistor_window, diode_name, diode_window}

-- one of two holds
pub one_of : (a b : Bool) → (a || b) ≡ true → (a ≡ true) ⊎ (b ≡ true)
one_of true b e = inl refl
one_of false b e = inr e

-- a number of a range is one of a wider range
pub number_wider : (field : List ℕ) (low most less more : ℕ) → is_number low most field ≡ true → less ≤ low → most ≤ more → more < 2 ^ 64 → is_number less more field ≡ true
number_wider field low most less more e below above small =
    let word = number_is_word field low most e in
    let from = word.not_below in
    let to = word.not_above in
    word_is_number field less more (number field) small (record { printed = word.printed; not_below = omega arith; not_above = omega arith })

module _ (row : List (List ℕ)) (fit : IsFit row) where
  component_name : is_component row ≡ true → IsName (field_at row 1)
  component_name part = elim (one_of (is_kind Resistor row) (is_kind Diode row) part) [
    | inl is ↦ resistor_name row fit is
    | inr is ↦ diode_name row fit is
  ]

  -- a row that gives a name has one
  pub named_name : is_named row ≡ true → IsName (field_at row 1)
  named_name named = elim (one_of (is_kind Net row) (is_component row) named) [
    | inl is ↦ net_name row fit is
    | inr part ↦ component_name part
  ]

  -- both ends of a component's window are numbers
  window_number : (place low most : ℕ) → 1 ≤ low → most ≤ 1000000000000
      → (is_number low most (field_at row 4) ≡ true) × (is_number low most (field_at row 5) ≡ true) → (place ≡ 4) ⊎ (place ≡ 5) → is_number 1 1000000000000 (field_at row place) ≡ true
  window_number place low most above below both (inl four) = rw four (number_wider (field_at row 4) low most 1 1000000000000 both.0 above below (omega arith))
  window_number place low most above below both (inr five) = rw five (number_wider (field_at row 5) low most 1 1000000000000 both.1 above below (omega arith))

  pub window_end_number : is_component row ≡ true → (place : ℕ) → (place ≡ 4) ⊎ (place ≡ 5) → is_number 1 1000000000000 (field_at row place) ≡ true
  window_end_number part place which = elim (one_of (is_kind Resistor row) (is_kind Diode row) part) [
    | inl is ↦ window_number place 10001 1000000000000 (omega arith) (omega arith) (resistor_window row fit is) which
    | inr is ↦ window_number place 1 5000 (omega arith) (omega arith) (diode_window row fit is) which
  ]
