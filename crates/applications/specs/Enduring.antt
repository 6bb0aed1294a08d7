-- What raising and holding a voltage leaves, with a reading of the leak before each tick, up to a breakdown.
--     breaks_down nanoamps v leak     a leak at v volts is an arc or above the limit
--     HoldsBelow leak nanoamps v      no leak at a step below v volts is
--     Part ..                         events while a voltage stands, in which no leak is
--     Endures old new test broken     the voltage was held to the end, or up to this breakdown
use Rattle.std.specs.Prelude.{◌≡◌, ◌+◌, ◌*◌, ◌/◌, ◌%◌, ◌<◌, ◌≤◌, ℕ, Bool, true, false, nat_lt}
use Rattle.std.specs.Prelude.{List, [], ◌∷◌, ◌++◌, All, Option, None, Some, IsTrue, IsFalse, IfSome, ⊤}
use Rattle.rig.specs.declared.event.Event.{Event}
use Rattle.rig.specs.declared.event.Event.TheVariants.{Door, Raise, Leak, Zero, Tick}
use Rattle.rig.specs.declared.event.Leak.{Leak as LeakReading}
use Rattle.rig.specs.declared.event.Leak.TheVariants.{Arc, PicoSiemens}
use Rattle.rig.specs.RigState.{RigState}
use Rattle.rig.specs.Happened.{Happens, volts_after}
use Rattle.rig.specs.Values.{leak_of}
use Rattle.applications.specs.declared.endurance.Breakdown.{Breakdown}
use Rattle.applications.specs.declared.endurance.Endurance.{Endurance}
use Rattle.applications.specs.Counting.{Gains}
use Rattle.applications.specs.Holding.{IsCalm, Leads}
use Rattle.applications.specs.Measuring.{IsNoRoute, tick_count}

-- the ranges of a test
pub record IsEndurance (test : Endurance) : Type 0 where
  pub some : 0 < test.volts
  pub by_fifty : test.volts % 50 ≡ 0
  pub at_most : test.volts ≤ 2000

-- a leak at v volts is an arc, or a current above so many nanoamps
abbrev pub breaks_down : ℕ → ℕ → LeakReading → Bool
breaks_down nanoamps v Arc = true
breaks_down nanoamps v (PicoSiemens g) = nat_lt (nanoamps * 1000) (g * v)

-- where the leak is a function of the volts: none breaks down at a step of 50 below v volts
abbrev pub HoldsBelow : (ℕ → LeakReading) → ℕ → ℕ → Type 0
HoldsBelow leak nanoamps v = (w : ℕ) → 0 < w → w % 50 ≡ 0 → w < v → IsFalse (breaks_down nanoamps w (leak w))

-- what an honest rig tells of the leak between the groups of its route, as a function of the volts
abbrev pub TellsLeaks : RigState → ((ℕ → LeakReading) → Type 0) → Type 0
TellsLeaks s P = IsTrue s.honest → IfSome s.truth (λ rows. IfSome s.route (λ groups. P (leak_of rows s.points groups.left groups.right)))

-- ---- events

abbrev pub IsNoZero : Event → Type 0
IsNoZero (Zero done) = ⊥
IsNoZero _ = ⊤

abbrev pub IsNoLeak : Event → Type 0
IsNoLeak (Leak g) = ⊥
IsNoLeak _ = ⊤

-- a leak at v volts does not break down
abbrev pub IsWithin : ℕ → ℕ → Event → Type 0
IsWithin nanoamps v (Leak g) = IsFalse (breaks_down nanoamps v g)
IsWithin nanoamps v _ = ⊤

-- no leak breaks down at the volts at which it is read, from v volts on
abbrev pub AllWithin : ℕ → ℕ → List Event → Type 0
AllWithin nanoamps v [] = ⊤
AllWithin nanoamps v (e ∷ es) = IsWithin nanoamps v e × AllWithin nanoamps (volts_after v e) es

-- a Leak stands between each Tick and the Raise or Tick before it; `read` says whether one stands already before the first
abbrev pub LeaksBetween : Bool → List Event → Type 0
LeaksBetween read [] = ⊤
LeaksBetween read (Tick ∷ es) = IsTrue read × LeaksBetween false es
LeaksBetween read (Raise v done ∷ es) = LeaksBetween false es
LeaksBetween read (Leak g ∷ es) = LeaksBetween true es
LeaksBetween read (_ ∷ es) = LeaksBetween read es

-- events while a voltage stands, from v volts to w, with at least so many raises, ticks and leaks, in which no leak breaks down
pub record Part (nanoamps v w raises ticks leaks : ℕ) (events : List Event) : Type 0 where
  pub leads : Leads v w events
  pub calm : All IsCalm events
  pub no_route : All IsNoRoute events
  pub no_zero : All IsNoZero events
  pub gains : Gains v w 0 raises ticks leaks events
  pub within : AllWithin nanoamps v events

-- ---- the rise

abbrev pub rise_to : ℕ → LeakReading → List Event
rise_to v g = Door true ∷ Raise v true ∷ Leak g ∷ Tick ∷ []

-- the last step of a rise
pub record LastStep (v : ℕ) (events : List Event) : Type 0 where
  pub before : List Event
  pub leak : LeakReading
  pub events_are : events ≡ before ++ rise_to v leak
  pub no_route : All IsNoRoute before

-- so many steps of 50 volts were done, with no breakdown
pub record Risen (old new : RigState) (steps nanoamps : ℕ) : Type 0 where
  pub events : List Event
  pub happens : Happens old new events None
  pub part : Part nanoamps 0 (50 * steps) steps 0 0 events
  pub last : 0 < steps → LastStep (50 * steps) events
  pub truth : TellsLeaks old (λ leak. HoldsBelow leak nanoamps (50 * steps + 50))

-- From zero, the voltage was raised, and perhaps held, up to a breakdown at no more than some volts.
pub record Breaks (old new : RigState) (most nanoamps : ℕ) (broken : Breakdown) : Type 0 where
  pub climb : List Event
  pub happens : Happens old new (climb ++ Leak broken.leak ∷ []) None
  pub part : Part nanoamps 0 broken.volts (broken.volts / 50) 0 0 climb
  pub some : 0 < broken.volts
  pub by_fifty : broken.volts % 50 ≡ 0
  pub at_most : broken.volts ≤ most
  pub above : IsTrue (breaks_down nanoamps broken.volts broken.leak)
  pub truth : TellsLeaks old (λ leak. HoldsBelow leak nanoamps broken.volts × (broken.leak ≡ leak broken.volts))

abbrev pub Rises : RigState → RigState → ℕ → ℕ → Option Breakdown → Type 0
Rises old new steps nanoamps None = Risen old new steps nanoamps
Rises old new steps nanoamps (Some broken) = Breaks old new (50 * steps) nanoamps broken

-- ---- the dwell

abbrev pub stay_turn : LeakReading → List Event
stay_turn g = Door true ∷ Leak g ∷ Tick ∷ []

-- so many ticks, with a leak before each, whatever follows
abbrev pub CountTicks : ℕ → List Event → Type 0
CountTicks n events = (more : List Event) → n + tick_count more ≤ tick_count (events ++ more)

abbrev pub ReadLeaks : List Event → Type 0
ReadLeaks events = (more : List Event) → LeaksBetween false more → LeaksBetween false (events ++ more)

-- at v volts so many ticks passed, with no breakdown
pub record Stayed (old new : RigState) (v ticks nanoamps : ℕ) : Type 0 where
  pub events : List Event
  pub happens : Happens old new events None
  pub part : Part nanoamps v v 0 ticks ticks events
  pub count : CountTicks ticks events
  pub read : ReadLeaks events

-- at v volts some ticks passed, up to a breakdown
pub record StayBreaks (old new : RigState) (v nanoamps : ℕ) (broken : Breakdown) : Type 0 where
  pub climb : List Event
  pub happens : Happens old new (climb ++ Leak broken.leak ∷ []) None
  pub part : Part nanoamps v v 0 0 0 climb
  pub at : broken.volts ≡ v
  pub above : IsTrue (breaks_down nanoamps v broken.leak)
  pub truth : TellsLeaks old (λ leak. broken.leak ≡ leak v)

abbrev pub Stays : RigState → RigState → ℕ → ℕ → ℕ → Option Breakdown → Type 0
Stays old new v ticks nanoamps None = Stayed old new v ticks nanoamps
Stays old new v ticks nanoamps (Some broken) = StayBreaks old new v nanoamps broken

-- ---- both

-- From zero, the voltage was raised to that of the test and held for its ticks, with no breakdown.
pub record Held (old new : RigState) (test : Endurance) : Type 0 where
  pub climb : List Event
  pub dwell : List Event
  pub happens : Happens old new (climb ++ Raise test.volts true ∷ dwell) None
  pub part : Part test.nanoamps 0 test.volts (test.volts / 50) test.ticks test.ticks (climb ++ Raise test.volts true ∷ dwell)
  pub no_route : All IsNoRoute climb
  pub no_zero : All IsNoZero dwell
  pub count : CountTicks test.ticks dwell
  pub read : ReadLeaks dwell
  pub truth : TellsLeaks old (λ leak. HoldsBelow leak test.nanoamps (test.volts + 50))

abbrev pub Endures : RigState → RigState → Endurance → Option Breakdown → Type 0
Endures old new test None = Held old new test
Endures old new test (Some broken) = Breaks old new test.volts test.nanoamps broken
