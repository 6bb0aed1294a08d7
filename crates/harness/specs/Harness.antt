-- The harness file: what it says, and when it is refused.
--     IsHarness bytes rows       the file is in form, and these are its rows
--     IsRefused bytes refusal    the file is refused so
use Rattle.std.specs.Prelude.{◌≡◌, ◌⊎◌, ℕ, ◌+◌, ◌≤◌, ◌<◌, not, List, [], ◌∷◌, ◌++◌, Some, All, length, map, filter, slice_get, if◌then◌else◌, IsTrue, IsFalse}
use Rattle.rig.specs.Joins.{IsRowBelow}
use Rattle.rig.specs.declared.unit.Unit.{Unit as HarnessUnit}
use Rattle.lines.specs.Lines.{lines_of}
use Rattle.lines.specs.Words.{words_of, is_passed_over}
use Rattle.harness.specs.declared.row.HarnessRow.{HarnessRow}
use Rattle.harness.specs.declared.refusal.HarnessRefusal.{HarnessRefusal}
use Rattle.harness.specs.declared.refusal.HarnessRefusal.TheVariants.{BadLine, PointRange, SecondElement, SameUnit, NoEnd, TooMany, TooLong, Memory}
use Rattle.harness.specs.Rows.{row_words, most_call, ElementInRange, IsRow}
use Rattle.harness.specs.Places.{has_end, points_in, is_in_place, is_on_points, is_new, StandBelow}
use Rattle.harness.specs.Units.{units_of, AreFaults, AreDoors, IsSecond}
use Rattle.harness.specs.declared.file.Harness.{Harness}

-- the greatest number of bytes, and of lines
abbrev pub most_bytes : ℕ
most_bytes = 8388608

abbrev pub most_lines : ℕ
most_lines = 200000

-- the lines that are rows
abbrev pub row_lines : List (List ℕ) → List (List ℕ)
row_lines lines = filter (λ line. not (is_passed_over line)) lines

-- the lines are no more than may be, and those that are rows are these, each where it may stand
pub record AreRows (lines : List (List ℕ)) (rows : List HarnessRow) : Type 0 where
  pub few : length lines ≤ most_lines
  pub words : map words_of (row_lines lines) ≡ map row_words rows
  pub stand : StandBelow [] rows

-- The file is in form: its lines are rows, the last of them is `end`, and no unit has a second element between two classes.
pub record IsHarness (bytes : List ℕ) (rows : List HarnessRow) : Type 0 where
  pub short : length bytes ≤ most_bytes
  pub rows_are : AreRows (lines_of bytes) rows
  pub ends : IsTrue (has_end rows)
  pub single : (u j : ℕ) → IsSecond rows u j → ⊥

-- the numbers of the lines that are rows, where the first line has this number
abbrev pub row_numbers : ℕ → List (List ℕ) → List ℕ
row_numbers number [] = []
row_numbers number (line ∷ lines) = if is_passed_over line then row_numbers (number + 1) lines else number ∷ row_numbers (number + 1) lines

-- no row that may stand there
pub record IsBad (above : List HarnessRow) (line : List ℕ) : Type 0 where
  pub to_read : IsFalse (is_passed_over line)
  pub no_row : (row : HarnessRow) → IsRow line row → IsFalse (is_in_place above row)

-- a row of a unit that does not lie between two points of the harness
pub record IsOffPoints (above : List HarnessRow) (line : List ℕ) : Type 0 where
  pub to_read : IsFalse (is_passed_over line)
  pub row : HarnessRow
  pub is_row : IsRow line row
  pub in_place : IsTrue (is_in_place above row)
  pub off_points : IsFalse (is_on_points above row)

-- a unit that is there already
pub record IsRepeated (above : List HarnessRow) (line : List ℕ) : Type 0 where
  pub to_read : IsFalse (is_passed_over line)
  pub row : HarnessRow
  pub is_row : IsRow line row
  pub in_place : IsTrue (is_in_place above row)
  pub on_points : IsTrue (is_on_points above row)
  pub repeated : IsFalse (is_new above row)

-- The line with this number is the first that is refused: those before it are rows, and it is refused below them.
pub record FirstRefused (Refused : List HarnessRow → List ℕ → Type 0) (lines : List (List ℕ)) (number : ℕ) : Type 0 where
  pub before : List (List ℕ)
  pub line : List ℕ
  pub after : List (List ℕ)
  pub above : List HarnessRow
  pub split : lines ≡ before ++ (line ∷ after)
  pub place : number ≡ length before + 1
  pub rows_are : AreRows before above
  pub refused : Refused above line

-- all lines are rows, and none is `end`
pub record HasNoEnd (lines : List (List ℕ)) : Type 0 where
  pub rows : List HarnessRow
  pub rows_are : AreRows lines rows
  pub none : IsFalse (has_end rows)

-- the line with this number is a second element between two classes of its unit
pub record IsSecondLine (lines : List (List ℕ)) (rows : List HarnessRow) (number : ℕ) : Type 0 where
  pub unit : ℕ
  pub place : ℕ
  pub second : IsSecond rows unit place
  pub line : slice_get (row_numbers 1 lines) (unit + 1 + place) ≡ Some number

-- all lines are rows, the last of them is `end`, and the line is the least that is a second element
pub record LeastSecond (lines : List (List ℕ)) (number : ℕ) : Type 0 where
  pub rows : List HarnessRow
  pub rows_are : AreRows lines rows
  pub ends : IsTrue (has_end rows)
  pub second : IsSecondLine lines rows number
  pub least : (other : ℕ) → IsSecondLine lines rows other → number ≤ other

-- why the lines are refused; a line that is one too many is refused for that alone
abbrev pub AreRefused : List (List ℕ) → HarnessRefusal → Type 0
AreRefused lines (TooMany number) = (most_lines < number) × FirstRefused (λ above line. Unit {0}) lines number
AreRefused lines (BadLine number) = (number ≤ most_lines) × FirstRefused IsBad lines number
AreRefused lines (PointRange number) = (number ≤ most_lines) × FirstRefused IsOffPoints lines number
AreRefused lines (SameUnit number) = (number ≤ most_lines) × FirstRefused IsRepeated lines number
AreRefused lines (SecondElement number) = LeastSecond lines number
AreRefused lines NoEnd = HasNoEnd lines
AreRefused lines TooLong = ⊥
AreRefused lines Memory = ⊥

-- why the file is refused: for its length, or else for its lines; want of memory has no cause in the file
abbrev pub IsRefused : List ℕ → HarnessRefusal → Type 0
IsRefused bytes refusal =
    ((refusal ≡ TooLong) × (most_bytes < length bytes)) ⊎ ((length bytes ≤ most_bytes) × AreRefused (lines_of bytes) refusal)

-- what a harness has of its rows
pub record IsOfRows (rows : List HarnessRow) (harness : Harness) : Type 0 where
  pub points : harness.points ≡ points_in rows
  pub faults : AreFaults rows harness.faults
  pub doors : AreDoors rows harness.doors
  pub units : harness.units ≡ units_of rows

-- The rows of a unit lie between the points, their values are in range, and they are no more than a file has lines.
pub record IsUnitOf (points : ℕ) (unit : HarnessUnit) : Type 0 where
  pub below : All (IsRowBelow points) unit.rows
  pub in_range : All ElementInRange unit.rows
  pub few : length unit.rows ≤ most_lines

-- What holds of every harness.
pub record IsSound (harness : Harness) : Type 0 where
  pub some_points : 1 ≤ harness.points
  pub few_points : harness.points ≤ 4096
  pub faults : All (λ k. k ≤ most_call) harness.faults
  pub doors : All (λ k. k ≤ most_call) harness.doors
  pub units : All (IsUnitOf harness.points) harness.units
