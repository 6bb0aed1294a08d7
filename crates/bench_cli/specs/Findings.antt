-- What is found of a seated unit by its readings, with the text of it.
--     ComparesAll compared seated new text    all of these points were compared
--     StopsAmong compared seated new          a reading of one of these points failed, and no call was made after it
--     LearnsAll seated new text               the unit's classes were learned
--     StopsLearning seated new                a reading failed
use Rattle.std.specs.Prelude.{◌≡◌, ◌≤◌, ◌+◌, ◌++◌, ℕ, List, None, length, ⊤}
use Rattle.partition.specs.Heads.{heads}
use Rattle.rig.specs.RigState.{RigState}
use Rattle.rig.specs.Readings.{Reads}
use Rattle.learn.specs.Learned.{IsLearned, IsLearnedOfAll, most_readings}
use Rattle.continuity_check.specs.Compared.{Compared, result_line}
use Rattle.continuity_check.specs.Trials.{SheetView, Compares, StopsAt, empty_sheet}
use Rattle.learned_program.specs.LearnedProgram.{learned_text}

abbrev pub sheet_text : SheetView → List ℕ
sheet_text sheet = sheet.lines ++ result_line sheet.opens

-- all of these points were compared, and none of the readings was refused
pub record ComparesAll (compared : List Compared) (seated new : RigState) (text : List ℕ) : Type 0 where
  pub sheet : SheetView
  pub reads : Reads seated new None
  pub compares : Compares seated new empty_sheet sheet compared
  pub text_is : text ≡ sheet_text sheet

-- a reading of one of these points failed: the trail has the readings of those before it
abbrev pub StopsAmong : List Compared → RigState → RigState → Type 0
StopsAmong compared seated new = StopsAt seated new empty_sheet compared

-- a reading failed, of which no more is said
abbrev pub StopsLearning : RigState → RigState → Type 0
StopsLearning seated new = ⊤

-- the unit's classes were learned, none of the readings was refused, and they are within the bounds
pub record LearnsAll (seated new : RigState) (text : List ℕ) : Type 0 where
  pub classes : List ℕ
  pub reads : Reads seated new None
  pub learned : IsLearned new classes
  pub of_all : IsLearnedOfAll new classes
  pub at_least : seated.spent + length classes ≤ new.spent + length (heads classes)
  pub at_most : new.spent ≤ seated.spent + most_readings (length classes) (length (heads classes))
  pub text_is : text ≡ learned_text classes
