-- Where a row may stand, and what it may name, with regard to the rows above it.
use Rattle.std.specs.Prelude.{ℕ, ◌==◌, ◌&&◌, Bool, true, false, not, nat_lt, List, [], ◌∷◌, ◌++◌, Option, Some, None, fold, IsTrue, bytes_eq}
use Rattle.std.specs.List.{list_any}
use Rattle.rig.specs.declared.unit.Row.{Row}
use Rattle.rig.specs.declared.unit.Row.TheVariants.{Wire, Resistor, Diode, Leak, Arc, Charge}
use Rattle.harness.specs.declared.row.HarnessRow.{HarnessRow}
use Rattle.harness.specs.declared.row.HarnessRow.TheVariants.{Points, Fault, Door, NewUnit, Element, End}
use Rattle.harness.specs.Rows.{InRange}

abbrev pub is_first : List HarnessRow → Bool
is_first [] = true
is_first (row ∷ rows) = false

abbrev pub is_unit_row : HarnessRow → Bool
is_unit_row (Points n) = false
is_unit_row (Fault k) = false
is_unit_row (Door k) = false
is_unit_row (NewUnit serial attempt) = true
is_unit_row (Element row) = false
is_unit_row End = false

abbrev pub has_unit : List HarnessRow → Bool
has_unit rows = list_any is_unit_row rows

abbrev pub is_end : HarnessRow → Bool
is_end (Points n) = false
is_end (Fault k) = false
is_end (Door k) = false
is_end (NewUnit serial attempt) = false
is_end (Element row) = false
is_end End = true

abbrev pub has_end : List HarnessRow → Bool
has_end rows = list_any is_end rows

abbrev pub is_charge : Row → Bool
is_charge (Charge volts ticks) = true
is_charge (Wire a b) = false
is_charge (Resistor a b milliohms) = false
is_charge (Diode from to millivolts) = false
is_charge (Leak a b picosiemens) = false
is_charge (Arc a b volts) = false

-- whether the last unit has a charge, after one more row
abbrev pub charge_after : Bool → HarnessRow → Bool
charge_after charged (Points n) = charged
charge_after charged (Fault k) = charged
charge_after charged (Door k) = charged
charge_after charged (NewUnit serial attempt) = false
charge_after true (Element row) = true
charge_after false (Element row) = is_charge row
charge_after charged End = charged

-- whether the last unit of the rows has a charge
abbrev pub has_charge : List HarnessRow → Bool
has_charge rows = fold charge_after false rows

-- the first row is there, and the last is not
abbrev pub is_open : List HarnessRow → Bool
is_open above = not (is_first above) && not (has_end above)

-- `points` is the first row; faults and doors stand before the first unit, the rows of a unit below it, one charge among them at most;
-- nothing stands below `end`
abbrev pub is_in_place : List HarnessRow → HarnessRow → Bool
is_in_place above (Points n) = is_first above
is_in_place above (Fault k) = is_open above && not (has_unit above)
is_in_place above (Door k) = is_open above && not (has_unit above)
is_in_place above (NewUnit serial attempt) = is_open above
is_in_place above (Element row) = is_open above && (has_unit above && not (is_charge row && has_charge above))
is_in_place above End = is_open above

-- the number of points, which the first row gives
abbrev pub points_of_row : HarnessRow → ℕ
points_of_row (Points n) = n
points_of_row (Fault k) = 0
points_of_row (Door k) = 0
points_of_row (NewUnit serial attempt) = 0
points_of_row (Element row) = 0
points_of_row End = 0

abbrev pub points_in : List HarnessRow → ℕ
points_in [] = 0
points_in (row ∷ rows) = points_of_row row

-- the points that a row of a unit lies between
abbrev pub ends_of : Row → Option (ℕ × ℕ)
ends_of (Wire a b) = Some (a, b)
ends_of (Resistor a b milliohms) = Some (a, b)
ends_of (Diode from to millivolts) = Some (from, to)
ends_of (Leak a b picosiemens) = Some (a, b)
ends_of (Arc a b volts) = Some (a, b)
ends_of (Charge volts ticks) = None

-- whether the ends, if there are any, are two different points of n
abbrev pub are_ends : ℕ → Option (ℕ × ℕ) → Bool
are_ends n None = true
are_ends n (Some ends) = nat_lt ends.0 n && (nat_lt ends.1 n && not (ends.0 == ends.1))

-- a row of a unit lies between two different points of the harness
abbrev pub is_on_points : List HarnessRow → HarnessRow → Bool
is_on_points above (Points n) = true
is_on_points above (Fault k) = true
is_on_points above (Door k) = true
is_on_points above (NewUnit serial attempt) = true
is_on_points above (Element row) = are_ends (points_in above) (ends_of row)
is_on_points above End = true

-- a unit with this serial and attempt
abbrev pub is_unit_of : List ℕ → ℕ → HarnessRow → Bool
is_unit_of serial attempt (Points n) = false
is_unit_of serial attempt (Fault k) = false
is_unit_of serial attempt (Door k) = false
is_unit_of serial attempt (NewUnit other number) = bytes_eq other serial && number == attempt
is_unit_of serial attempt (Element row) = false
is_unit_of serial attempt End = false

-- no unit above has the same serial and attempt
abbrev pub is_new : List HarnessRow → HarnessRow → Bool
is_new above (Points n) = true
is_new above (Fault k) = true
is_new above (Door k) = true
is_new above (NewUnit serial attempt) = not (list_any (is_unit_of serial attempt) above)
is_new above (Element row) = true
is_new above End = true

-- a row that may stand there
pub record Stands (above : List HarnessRow) (row : HarnessRow) : Type 0 where
  pub in_range : InRange row
  pub in_place : IsTrue (is_in_place above row)
  pub on_points : IsTrue (is_on_points above row)
  pub unit_is_new : IsTrue (is_new above row)

-- each of the rows may stand where it does, below `above` and the rows before it
abbrev pub StandBelow : List HarnessRow → List HarnessRow → Type 0
StandBelow above [] = Unit {0}
StandBelow above (row ∷ rows) = Stands above row × StandBelow (above ++ (row ∷ [])) rows
