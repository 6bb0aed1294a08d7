-- The rows of a harness file, as text.
use Rattle.std.specs.Prelude.{◌≡◌, ℕ, ◌≤◌, ◌^◌, List, [], ◌∷◌, codes}
use Rattle.std.specs.Fmt.{decimal}
use Rattle.lines.specs.Words.{words_of}
use Rattle.partition.specs.Names.{IsName}
use Rattle.rig.specs.declared.unit.Row.{Row}
use Rattle.rig.specs.declared.unit.Row.TheVariants.{Wire, Resistor, Diode, Leak, Arc, Charge}
use Rattle.harness.specs.declared.row.HarnessRow.{HarnessRow}
use Rattle.harness.specs.declared.row.HarnessRow.TheVariants.{Points, Fault, Door, NewUnit, Element, End}

-- the words of a row of a unit: its kind, then its values, numbers as they are printed
abbrev pub element_words : Row → List (List ℕ)
element_words (Wire a b) = codes "wire" ∷ decimal a ∷ decimal b ∷ []
element_words (Resistor a b milliohms) = codes "resistor" ∷ decimal a ∷ decimal b ∷ decimal milliohms ∷ []
element_words (Diode from to millivolts) = codes "diode" ∷ decimal from ∷ decimal to ∷ decimal millivolts ∷ []
element_words (Leak a b picosiemens) = codes "leak" ∷ decimal a ∷ decimal b ∷ decimal picosiemens ∷ []
element_words (Arc a b volts) = codes "arc" ∷ decimal a ∷ decimal b ∷ decimal volts ∷ []
element_words (Charge volts ticks) = codes "charge" ∷ decimal volts ∷ decimal ticks ∷ []

-- the words of a row
abbrev pub row_words : HarnessRow → List (List ℕ)
row_words (Points n) = codes "points" ∷ decimal n ∷ []
row_words (Fault k) = codes "fault" ∷ decimal k ∷ []
row_words (Door k) = codes "door" ∷ decimal k ∷ []
row_words (NewUnit serial attempt) = codes "unit" ∷ serial ∷ decimal attempt ∷ []
row_words (Element row) = element_words row
row_words End = codes "end" ∷ []

-- a number of a point as a word may give it
abbrev pub most_point : ℕ
most_point = 65535

-- the greatest milliohms and picosiemens
abbrev pub most_value : ℕ
most_value = 10 ^ 12

-- the greatest number of a call
abbrev pub most_call : ℕ
most_call = 1000000000

-- the ranges of the values of a row of a unit
abbrev pub ElementInRange : Row → Type 0
ElementInRange (Wire a b) = (a ≤ most_point) × (b ≤ most_point)
ElementInRange (Resistor a b milliohms) = (a ≤ most_point) × (b ≤ most_point) × (1 ≤ milliohms) × (milliohms ≤ most_value)
ElementInRange (Diode from to millivolts) = (from ≤ most_point) × (to ≤ most_point) × (1 ≤ millivolts) × (millivolts ≤ 5000)
ElementInRange (Leak a b picosiemens) = (a ≤ most_point) × (b ≤ most_point) × (1 ≤ picosiemens) × (picosiemens ≤ most_value)
ElementInRange (Arc a b volts) = (a ≤ most_point) × (b ≤ most_point) × (1 ≤ volts) × (volts ≤ 2000)
ElementInRange (Charge volts ticks) = (volts ≤ 2000) × (ticks ≤ 1000)

-- the ranges of the values of a row
abbrev pub InRange : HarnessRow → Type 0
InRange (Points n) = (1 ≤ n) × (n ≤ 4096)
InRange (Fault k) = (1 ≤ k) × (k ≤ most_call)
InRange (Door k) = (1 ≤ k) × (k ≤ most_call)
InRange (NewUnit serial attempt) = IsName serial × (1 ≤ attempt) × (attempt ≤ 9)
InRange (Element row) = ElementInRange row
InRange End = Unit {0}

-- the words are those of the row of a unit
pub record AreElement (words : List (List ℕ)) (row : Row) : Type 0 where
  pub printed : words ≡ element_words row
  pub in_range : ElementInRange row

-- the words are those of the row
pub record AreRow (words : List (List ℕ)) (row : HarnessRow) : Type 0 where
  pub printed : words ≡ row_words row
  pub in_range : InRange row

abbrev pub IsRow : List ℕ → HarnessRow → Type 0
IsRow line row = AreRow (words_of line) row
