-- What an application that two groups are to withstand leaves.
--     IsStanding a b v t nanoamps run     an application of two groups at v volts for t ticks, with a leak before each tick, none of which breaks down
--     EndsBroken a b v leak events        the last leak, under the route of the two groups at v volts
--     Stands ..                           one application was made: the groups stood, or broke down
use Rattle.std.specs.Prelude.{◌≡◌, ◌+◌, ◌/◌, ◌%◌, ◌<◌, ◌≤◌, ℕ, Bool, true, false, List, [], ◌∷◌, ◌++◌, All, Option, None, Some, IsTrue, IfSome}
use Rattle.rig.specs.declared.event.Event.{Event}
use Rattle.rig.specs.declared.event.Event.TheVariants.{Route, Raise, Leak, Zero}
use Rattle.rig.specs.declared.event.Leak.{Leak as LeakReading}
use Rattle.rig.specs.RigState.{RigState}
use Rattle.rig.specs.Happened.{volts_all}
use Rattle.rig.specs.Values.{leak_of}
use Rattle.applications.specs.declared.endurance.Breakdown.{Breakdown}
use Rattle.applications.specs.declared.endurance.Endurance.{Endurance}
use Rattle.applications.specs.Charge.{HasLasting}
use Rattle.applications.specs.Counting.{Gains}
use Rattle.applications.specs.Enduring.{AllWithin, HoldsBelow, IsNoLeak, IsNoZero, LeaksBetween, breaks_down}
use Rattle.applications.specs.Measuring.{IsNoRoute, Runs, tick_count}

-- ---- applications

-- From the Route of the two groups to the next Zero: before any other Route a Raise to v volts that was done, then at least t
-- Ticks, with a Leak before each. No leak breaks down.
pub record IsStanding (a b : List ℕ) (v t nanoamps : ℕ) (run : List Event) : Type 0 where
  pub climb : List Event
  pub dwell : List Event
  pub zeroed : Bool
  pub events : run ≡ Route a b ∷ climb ++ Raise v true ∷ dwell ++ Zero zeroed ∷ []
  pub no_route : All IsNoRoute climb
  pub no_zero : All IsNoZero dwell
  pub ticks : t ≤ tick_count dwell
  pub read : LeaksBetween false dwell
  pub within : AllWithin nanoamps 0 run

-- The last Leak stands under the Route of the two groups, at v volts.
pub record EndsBroken (a b : List ℕ) (v : ℕ) (leak : LeakReading) (events : List Event) : Type 0 where
  pub before : List Event
  pub climb : List Event
  pub after : List Event
  pub events_are : events ≡ before ++ Route a b ∷ climb ++ Leak leak ∷ after
  pub no_route : All IsNoRoute climb
  pub volts : volts_all 0 climb ≡ v
  pub no_leak : All IsNoLeak after

-- the volts of a breakdown, and its leak
pub record IsBreakdown (test : Endurance) (v : ℕ) (leak : LeakReading) : Type 0 where
  pub some : 0 < v
  pub by_fifty : v % 50 ≡ 0
  pub at_most : v ≤ test.volts
  pub above : IsTrue (breaks_down test.nanoamps v leak)

-- ---- one

-- what an honest rig tells of the leak between two groups, as a function of the volts
abbrev pub TellsBetween : RigState → List ℕ → List ℕ → ((ℕ → LeakReading) → Type 0) → Type 0
TellsBetween s a b P = IsTrue s.honest → IfSome s.truth (λ rows. P (leak_of rows s.points a b))

-- One application was made, and the unit stood.
pub record StandsOnce (bonds : List ℕ) (old new : RigState) (a b : List ℕ) (test : Endurance) : Type 0 where
  pub run : List Event
  pub rest : List Event
  pub runs : Runs bonds old new (run ++ rest) None
  pub standing : IsStanding a b test.volts test.ticks test.nanoamps run
  pub counts : Gains 0 0 1 (test.volts / 50) test.ticks test.ticks (run ++ rest)
  pub truth : TellsBetween old a b (λ leak. HoldsBelow leak test.nanoamps (test.volts + 50))
  pub discharged : HasLasting old None

-- One application was made, up to a breakdown.
pub record BreaksOnce (bonds : List ℕ) (old new : RigState) (a b : List ℕ) (test : Endurance) (broken : Breakdown) : Type 0 where
  pub events : List Event
  pub runs : Runs bonds old new events None
  pub last : EndsBroken a b broken.volts broken.leak events
  pub is : IsBreakdown test broken.volts broken.leak
  pub counts : Gains 0 0 1 (broken.volts / 50) 0 1 events
  pub truth : TellsBetween old a b (λ leak. HoldsBelow leak test.nanoamps broken.volts × (broken.leak ≡ leak broken.volts))
  pub discharged : HasLasting old None

abbrev pub Stands : List ℕ → RigState → RigState → List ℕ → List ℕ → Endurance → Option Breakdown → Type 0
Stands bonds old new a b test None = StandsOnce bonds old new a b test
Stands bonds old new a b test (Some broken) = BreaksOnce bonds old new a b test broken
