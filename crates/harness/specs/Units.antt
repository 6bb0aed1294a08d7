-- What the rows of a harness file say of its units.
--     elements_of rows           the rows of a unit that stand first
--     units_of rows              the units, each with the rows below it
--     AreFaults, AreDoors        the numbers of the `fault` and `door` rows
--     is_second classes rows j   an earlier element of the unit lies between the same two classes as the j-th
--     IsSecond rows u j          the same of the unit at place u of the harness
use Rattle.std.specs.Prelude.{◌≡◌, ◌↔◌, ◌≤◌, ◌+◌, ◌&&◌, ℕ, Bool, false, not, nat_lt, List, [], ◌∷◌, Option, Some, None, slice_get, take, drop}
use Rattle.std.specs.Prelude.{Contains, IsTrue, if◌then◌else◌}
use Rattle.std.specs.List.{list_any}
use Rattle.std.specs.List.Sorted.{IsStrictlyIncreasing}
use Rattle.rig.specs.declared.unit.Row.{Row}
use Rattle.rig.specs.declared.unit.Row.TheVariants.{Wire, Resistor, Diode, Leak, Arc, Charge}
use Rattle.rig.specs.declared.unit.Unit.{Unit as HarnessUnit}
use Rattle.rig.specs.Joins.{joined_classes, most_join}
use Rattle.rig.specs.Values.{same_class, is_element_at}
use Rattle.harness.specs.declared.row.HarnessRow.{HarnessRow}
use Rattle.harness.specs.declared.row.HarnessRow.TheVariants.{Points, Fault, Door, NewUnit, Element, End}
use Rattle.harness.specs.declared.refusal.HarnessRefusal.{HarnessRefusal}
use Rattle.harness.specs.declared.refusal.HarnessRefusal.TheVariants.{BadLine, PointRange, SecondElement, SameUnit, NoEnd, TooMany, TooLong, Memory}
use Rattle.harness.specs.Places.{points_in}

-- the rows of a unit that stand first
abbrev pub elements_of : List HarnessRow → List Row
elements_of [] = []
elements_of (Points n ∷ rows) = []
elements_of (Fault k ∷ rows) = []
elements_of (Door k ∷ rows) = []
elements_of (NewUnit serial attempt ∷ rows) = []
elements_of (Element row ∷ rows) = row ∷ elements_of rows
elements_of (End ∷ rows) = []

-- the units in order, each with the rows below it
abbrev pub units_of : List HarnessRow → List HarnessUnit
units_of [] = []
units_of (Points n ∷ rows) = units_of rows
units_of (Fault k ∷ rows) = units_of rows
units_of (Door k ∷ rows) = units_of rows
units_of (NewUnit serial attempt ∷ rows) = record { serial = serial; attempt = attempt; rows = elements_of rows } ∷ units_of rows
units_of (Element row ∷ rows) = units_of rows
units_of (End ∷ rows) = units_of rows

-- the numbers of the rows of a kind, each once, in ascending order
pub record AreNumbers (kind : ℕ → HarnessRow) (rows : List HarnessRow) (numbers : List ℕ) : Type 0 where
  pub ascending : IsStrictlyIncreasing numbers
  pub listed : (k : ℕ) → Contains numbers k ↔ Contains rows (kind k)

abbrev pub AreFaults : List HarnessRow → List ℕ → Type 0
AreFaults rows numbers = AreNumbers Fault rows numbers

abbrev pub AreDoors : List HarnessRow → List ℕ → Type 0
AreDoors rows numbers = AreNumbers Door rows numbers

-- the ends of a row that is a diode, or a resistor that is no join
abbrev pub element_ends : Row → Option (ℕ × ℕ)
element_ends (Resistor a b milliohms) = if nat_lt most_join milliohms then Some (a, b) else None
element_ends (Diode from to millivolts) = Some (from, to)
element_ends (Wire a b) = None
element_ends (Leak a b picosiemens) = None
element_ends (Arc a b volts) = None
element_ends (Charge volts ticks) = None

-- whether the ends lie in two classes that one of these elements lies between
abbrev pub is_repeated : List ℕ → List Row → Option (ℕ × ℕ) → Bool
is_repeated classes elements None = false
is_repeated classes elements (Some ends) = not (same_class classes ends.0 ends.1) && list_any (is_element_at classes ends.0 ends.1) elements

-- the j-th row of a unit is an element between two different classes that an earlier one lies between too
pub record IsRepeat (classes : List ℕ) (rows : List Row) (j : ℕ) : Type 0 where
  pub row : Row
  pub stands : slice_get rows j ≡ Some row
  pub repeated : IsTrue (is_repeated classes (take j rows) (element_ends row))

-- the rows of the unit at a place of the harness
abbrev pub elements_at : List HarnessRow → ℕ → List Row
elements_at rows u = elements_of (drop (u + 1) rows)

-- The row at place u is a unit. Its j-th row is an element between two different classes of the unit that an earlier one lies between too.
pub record IsSecond (rows : List HarnessRow) (u j : ℕ) : Type 0 where
  pub serial : List ℕ
  pub attempt : ℕ
  pub unit : slice_get rows u ≡ Some (NewUnit serial attempt)
  pub repeat : IsRepeat (joined_classes (elements_at rows u) (points_in rows)) (elements_at rows u) j

-- the same of the least place
pub record IsLeastSecond (rows : List HarnessRow) (u j : ℕ) : Type 0 where
  pub second : IsSecond rows u j
  pub least : (v k : ℕ) → IsSecond rows v k → u + 1 + j ≤ v + 1 + k

-- the units are refused for the line of a second element, where the lines of the rows have these numbers; want of memory has no cause in the rows
abbrev pub RefusesSecond : List HarnessRow → List ℕ → HarnessRefusal → Type 0
RefusesSecond rows numbers (SecondElement number) = (u j : ℕ) × IsLeastSecond rows u j × (slice_get numbers (u + 1 + j) ≡ Some number)
RefusesSecond rows numbers Memory = Unit {0}
RefusesSecond rows numbers (BadLine number) = ⊥
RefusesSecond rows numbers (PointRange number) = ⊥
RefusesSecond rows numbers (SameUnit number) = ⊥
RefusesSecond rows numbers (TooMany number) = ⊥
RefusesSecond rows numbers NoEnd = ⊥
RefusesSecond rows numbers TooLong = ⊥
