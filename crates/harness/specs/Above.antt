-- What is kept of the rows that were read, and what one more line does to them.
use Rattle.std.specs.Prelude.{◌≡◌, ℕ, ◌+◌, ◌≤◌, ◌<◌, Bool, List, [], ◌∷◌, ◌++◌, String, length, MatchBool, IsFalse}
use Rattle.std.specs.List.{list_any}
use Rattle.std.specs.BTreeSet.{BTreeSet, contains_text}
use Rattle.std.specs.declared.alloc.Global.{Global}
use Rattle.lines.specs.Words.{is_passed_over}
use Rattle.harness.specs.declared.row.HarnessRow.{HarnessRow}
use Rattle.harness.specs.declared.refusal.HarnessRefusal.{HarnessRefusal}
use Rattle.harness.specs.declared.refusal.HarnessRefusal.TheVariants.{BadLine, PointRange, SecondElement, SameUnit, NoEnd, TooMany, TooLong, Memory}
use Rattle.harness.specs.Rows.{IsRow}
use Rattle.harness.specs.Places.{is_unit_of, is_new, has_unit, has_charge, has_end, points_in, Stands, StandBelow}
use Rattle.harness.specs.Harness.{most_lines, IsBad, IsOffPoints, IsRepeated}

-- a serial and an attempt, as one text
abbrev pub unit_key : List ℕ → ℕ → List ℕ
unit_key serial attempt = serial ++ ((48 + attempt) ∷ [])

-- the rows that were read, and the numbers of their lines
pub record ReadRows : Type 0 where
  pub rows : List HarnessRow
  pub numbers : List ℕ

-- the rows are well placed, each has a number, and the rest is what they say
pub record IsSummary (rows : List HarnessRow) (numbers : List ℕ) (points : ℕ) (unit charge end : Bool) (units : BTreeSet (String Global)) : Type 0 where
  pub stand : StandBelow [] rows
  pub numbered : length numbers ≡ length rows
  pub points_are : points ≡ points_in rows
  pub unit_is : unit ≡ has_unit rows
  pub charge_is : charge ≡ has_charge rows
  pub end_is : end ≡ has_end rows
  pub units_are : (serial : List ℕ) (attempt : ℕ) → contains_text units (unit_key serial attempt) ≡ list_any (is_unit_of serial attempt) rows

-- the rows with one more
abbrev pub with_row : ReadRows → HarnessRow → ℕ → ReadRows
with_row above row number = record { rows = above.rows ++ (row ∷ []); numbers = above.numbers ++ (number ∷ []) }

-- the line adds nothing where it is passed over, and else its row and its number
abbrev pub ReadsLine : ReadRows → ℕ → List ℕ → ReadRows → Type 0
ReadsLine above number line new =
    MatchBool (is_passed_over line) (new ≡ above)
    ((row : HarnessRow) × IsRow line row × Stands above.rows row × (new ≡ with_row above row number))

-- why the line is refused below the rows above it
abbrev pub RefusesLine : List HarnessRow → ℕ → List ℕ → HarnessRefusal → Type 0
RefusesLine above number line (TooMany n) = (n ≡ number) × (most_lines < number)
RefusesLine above number line (BadLine n) = (n ≡ number) × (number ≤ most_lines) × IsBad above line
RefusesLine above number line (PointRange n) = (n ≡ number) × (number ≤ most_lines) × IsOffPoints above line
RefusesLine above number line (SameUnit n) = (n ≡ number) × (number ≤ most_lines) × IsRepeated above line
RefusesLine above number line (SecondElement n) = ⊥
RefusesLine above number line NoEnd = ⊥
RefusesLine above number line TooLong = ⊥
RefusesLine above number line Memory = Unit {0}

-- a row is refused where it is a unit that is there already
abbrev pub RefusesUnit : List HarnessRow → HarnessRow → ℕ → HarnessRefusal → Type 0
RefusesUnit above row number (TooMany n) = ⊥
RefusesUnit above row number (BadLine n) = ⊥
RefusesUnit above row number (PointRange n) = ⊥
RefusesUnit above row number (SameUnit n) = (n ≡ number) × IsFalse (is_new above row)
RefusesUnit above row number (SecondElement n) = ⊥
RefusesUnit above row number NoEnd = ⊥
RefusesUnit above row number TooLong = ⊥
RefusesUnit above row number Memory = Unit {0}
