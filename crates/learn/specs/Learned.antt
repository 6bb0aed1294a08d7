-- What learning a unit gives.
use Rattle.std.specs.Prelude.{◌≡◌, ◌≤◌, ◌+◌, ◌-◌, ◌*◌, ℕ, List, All, IsTrue, IsSome, IfSome}
use Rattle.partition.specs.Digits.{digits_of}
use Rattle.partition.specs.Classes.{judged_in}
use Rattle.partition.specs.Partitions.{IsPartitionOfAll}
use Rattle.rig.specs.Joins.{joined_classes, truth_of}
use Rattle.rig.specs.RigState.{RigState}
use Rattle.rig.specs.States.{IsProven}
use Rattle.rig.specs.Trail.{ReadsAmong}

-- The readings determine this partition. Where an honest rig tells the unit and its trail, and only points that count were read, its classes are the
-- joined points of the unit, cut down to the points that count.
pub record IsLearned (state : RigState) (classes : List ℕ) : Type 0 where
  pub proven : IsProven state classes
  pub truth : IsTrue state.honest → IsSome state.trail → IfSome state.trail (All (ReadsAmong classes))
      → IfSome state.truth (λ rows. classes ≡ truth_of rows (judged_in classes) state.points)

-- The same of all points: the classes are the joined points of the unit.
pub record IsLearnedOfAll (state : RigState) (classes : List ℕ) : Type 0 where
  pub all : IsPartitionOfAll classes
  pub truth_of_all : IsTrue state.honest → IsSome state.trail → IfSome state.truth (λ rows. classes ≡ joined_classes rows state.points)

-- the most readings that n points in t classes take: one for each point after the first, and for each point that is no head the search of its head
abbrev pub most_readings : ℕ → ℕ → ℕ
most_readings n t = (n - 1) + (n - t) * digits_of (t - 1)

-- no more readings were made than some number of classes takes
pub record IsWithinMost (old new : RigState) : Type 0 where
  pub classes : ℕ
  pub some : 1 ≤ classes
  pub few : classes ≤ old.points
  pub at_most : new.spent ≤ old.spent + most_readings old.points classes
