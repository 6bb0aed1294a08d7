-- Which points count, and how many.
--     judged_to classes n            how many of the points below n count
--     ReadsJudged classes old new    only points that count were read
use Rattle.std.specs.Prelude.{ℕ, ◌==◌, not, List, filter, length}
use Rattle.partition.specs.Classes.{points_below, class_at, no_class}
use Rattle.rig.specs.RigState.{RigState}
use Rattle.rig.specs.Trail.{Extends, ReadsAmong}

-- those below n
abbrev pub judged_to : List ℕ → ℕ → ℕ
judged_to classes n = length (filter (λ p. not (class_at classes p == no_class)) (points_below n))

-- each reading that was made is of points that count
abbrev pub ReadsJudged : List ℕ → RigState → RigState → Type 0
ReadsJudged classes old new = Extends (ReadsAmong classes) old.trail new.trail
