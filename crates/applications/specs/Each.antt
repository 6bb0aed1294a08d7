-- What one application for each pair of groups leaves.
--     AreSides points bonds pair     two groups, with no class of the bonds in both
--     MeasuresAll ..                 among the events one application of each pair, in order, with these leaks
--     MeasuresEach ..                these applications were made
--     StandsAll ..                   among the events one application of each pair that stood, in order
--     StandsEach ..                  these applications were made, up to the first breakdown
use Rattle.std.specs.Prelude.{◌≡◌, ◌+◌, ◌*◌, ◌/◌, ◌<◌, ℕ, List, [], ◌∷◌, ◌++◌, map, length, take, get_or, All, Option, Some, None, IsTrue, IfSome, ⊤}
use Rattle.partition.specs.Partitions.{Meets}
use Rattle.rig.specs.declared.event.Event.{Event}
use Rattle.rig.specs.declared.event.Leak.{Leak}
use Rattle.rig.specs.declared.unit.Row.{Row}
use Rattle.rig.specs.RigState.{RigState}
use Rattle.rig.specs.Calls.{AreGroups}
use Rattle.rig.specs.Values.{leak_of}
use Rattle.applications.specs.declared.endurance.Endurance.{Endurance}
use Rattle.applications.specs.declared.sides.Sides.{Sides}
use Rattle.applications.specs.declared.standing_each.PairBreakdown.{PairBreakdown}
use Rattle.applications.specs.Charge.{HasLasting}
use Rattle.applications.specs.Counting.{Gains, TalliesMore}
use Rattle.applications.specs.Enduring.{HoldsBelow}
use Rattle.applications.specs.Measuring.{IsMeasuring, Runs}
use Rattle.applications.specs.Standing.{EndsBroken, IsBreakdown, IsStanding, TellsBetween}

-- two groups of points, with no class of the bonds in both
pub record AreSides (points : ℕ) (bonds : List ℕ) (pair : Sides) : Type 0 where
  pub groups : AreGroups points pair.left pair.right
  pub apart : Meets bonds pair.left pair.right → ⊥

-- ---- with one leak each

-- the leak of a unit between the groups of a pair
abbrev pub leak_between : List Row → ℕ → ℕ → Sides → Leak
leak_between rows n v pair = leak_of rows n pair.left pair.right v

-- one application of each pair at v volts for t ticks, in order, with these leaks
abbrev pub MeasuresAll : ℕ → ℕ → List Sides → List Leak → List Event → Type 0
MeasuresAll v t [] [] events = ⊤
MeasuresAll v t [] (leak ∷ leaks) events = ⊥
MeasuresAll v t (pair ∷ pairs) [] events = ⊥
MeasuresAll v t (pair ∷ pairs) (leak ∷ leaks) events =
    (before run after : List Event) × (events ≡ before ++ run ++ after) × IsMeasuring pair.left pair.right v t leak run × MeasuresAll v t pairs leaks after

-- Each pair was measured once, in order, with these leaks. An honest rig read those of the unit.
pub record MeasuresEach (bonds : List ℕ) (old new : RigState) (pairs : List Sides) (v t : ℕ) (leaks : List Leak) : Type 0 where
  pub events : List Event
  pub runs : Runs bonds old new events None
  pub measured : MeasuresAll v t pairs leaks events
  pub counts : Gains 0 0 (length pairs) (length pairs * (v / 50)) (length pairs * t) (length pairs) events
  pub truth : IsTrue old.honest → IfSome old.truth (λ rows. leaks ≡ map (leak_between rows old.points v) pairs)
  pub discharged : 0 < length pairs → HasLasting old None

-- ---- up to a breakdown

-- one application of each pair that stood, in order
abbrev pub StandsAll : ℕ → ℕ → ℕ → List Sides → List Event → Type 0
StandsAll v t nanoamps [] events = ⊤
StandsAll v t nanoamps (pair ∷ pairs) events =
    (before run after : List Event) × (events ≡ before ++ run ++ after) × IsStanding pair.left pair.right v t nanoamps run × StandsAll v t nanoamps pairs after

-- no step up to the voltage of the test breaks down between the groups of any pair
abbrev pub AllHold : List Row → ℕ → Endurance → List Sides → Type 0
AllHold rows n test pairs = All (λ (pair : Sides). HoldsBelow (leak_of rows n pair.left pair.right) test.nanoamps (test.volts + 50)) pairs

-- Each pair stood, in order. Of an honest rig, no step of any of them breaks down.
pub record StoodAll (bonds : List ℕ) (old new : RigState) (pairs : List Sides) (test : Endurance) : Type 0 where
  pub events : List Event
  pub runs : Runs bonds old new events None
  pub standing : StandsAll test.volts test.ticks test.nanoamps pairs events
  pub counts : Gains 0 0 (length pairs) (length pairs * (test.volts / 50)) (length pairs * test.ticks) (length pairs * test.ticks) events
  pub truth : IsTrue old.honest → IfSome old.truth (λ rows. AllHold rows old.points test pairs)
  pub discharged : 0 < length pairs → HasLasting old None

-- The pairs before this one stood, and this one broke down. Of an honest rig, this is the first pair and in it the first step
-- that breaks down.
pub record FailedAt (bonds : List ℕ) (old new : RigState) (pairs : List Sides) (test : Endurance) (failed : PairBreakdown) : Type 0 where
  pub pair : Sides
  pub here : failed.pair < length pairs
  pub which : pair ≡ get_or pairs failed.pair pair
  pub events : List Event
  pub runs : Runs bonds old new events None
  pub standing : StandsAll test.volts test.ticks test.nanoamps (take failed.pair pairs) events
  pub last : EndsBroken pair.left pair.right failed.broken.volts failed.broken.leak events
  pub is : IsBreakdown test failed.broken.volts failed.broken.leak
  pub counts : let k = failed.pair in
      Gains 0 0 (k + 1) (k * (test.volts / 50) + failed.broken.volts / 50) (k * test.ticks) (k * test.ticks + 1) events
  pub truth : IsTrue old.honest → IfSome old.truth (λ rows. AllHold rows old.points test (take failed.pair pairs))
  pub broke : TellsBetween old pair.left pair.right (λ leak_at.
      HoldsBelow leak_at test.nanoamps failed.broken.volts × (failed.broken.leak ≡ leak_at failed.broken.volts))
  pub discharged : HasLasting old None

abbrev pub StandsEach : List ℕ → RigState → RigState → List Sides → Endurance → Option PairBreakdown → Type 0
StandsEach bonds old new pairs test None = StoodAll bonds old new pairs test
StandsEach bonds old new pairs test (Some failed) = FailedAt bonds old new pairs test failed

-- the last tally counts at least this more, where n pairs were to stand
abbrev pub HasStoodTallies : RigState → RigState → ℕ → Endurance → Option PairBreakdown → Type 0
HasStoodTallies old new n test None = TalliesMore n (n * (test.volts / 50)) (n * test.ticks) (n * test.ticks) old new
HasStoodTallies old new n test (Some failed) =
    TalliesMore (failed.pair + 1) (failed.pair * (test.volts / 50) + failed.broken.volts / 50) (failed.pair * test.ticks) (failed.pair * test.ticks + 1) old new
