-- The laws of the definitions.
use Rattle.std.specs.Prelude.{◌≡◌, All, IsTrue, IfSome, IsSome, List, ℕ}
use Rattle.partition.specs.Classes.{judged_in}
use Rattle.rig.specs.Joins.{truth_of}
use Rattle.rig.specs.RigState.{RigState}
use Rattle.rig.specs.Seating.{IsSeated}
use Rattle.rig.specs.States.{IsOfRig}
use Rattle.rig.specs.Trail.{Determines, ReadsAmong}

-- where an honest rig tells the unit and its trail, and all groups that were read count, the partition that the readings determine
-- has as classes the joined points of the unit
abbrev pub TruthLaw : RigState → List ℕ → Type 0
TruthLaw state classes =
    IsSeated state → IsOfRig state classes → Determines state classes →
    IsTrue state.honest → IsSome state.trail → IfSome state.trail (All (ReadsAmong classes)) →
    IfSome state.truth (λ rows. classes ≡ truth_of rows (judged_in classes) state.points)
