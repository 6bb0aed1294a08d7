-- What the row of a test is written from.
use Rattle.std.specs.Prelude.{ℕ, Bool, List, [], ◌∷◌, ◌++◌}
use Rattle.report.specs.declared.rows.Cells.{Cells}
use Rattle.report.specs.ResultText.{fixture_of, operator_of, staff_fields}
use Rattle.report.specs.Writing.{IsPlain}

-- its fields
abbrev pub cell_fields : Bool → Cells → List ℕ → List (List ℕ)
cell_fields with_staff cells verdict =
    (cells.number ∷ cells.date ∷ cells.serial ∷ cells.attempt ∷ verdict ∷ cells.counts.opens ∷ cells.counts.shorts ∷ cells.counts.miswires ∷ [])
    ++ staff_fields with_staff cells.staff

-- none of them calls for quotes
pub record ArePlain (cells : Cells) (word : List ℕ) : Type 0 where
  pub number : IsPlain cells.number
  pub date : IsPlain cells.date
  pub serial : IsPlain cells.serial
  pub attempt : IsPlain cells.attempt
  pub verdict : IsPlain word
  pub opens : IsPlain cells.counts.opens
  pub shorts : IsPlain cells.counts.shorts
  pub miswires : IsPlain cells.counts.miswires
  pub operator : IsPlain (operator_of cells.staff)
  pub fixture : IsPlain (fixture_of cells.staff)
