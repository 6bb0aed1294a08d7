-- What one application leaves.
--     Rests s                        no voltage stands, and no stop is due
--     StaysAtRest bonds events       events that the order allows at rest, and after which the source rests
--     IsMeasuring a b v t leak run   an application of two groups at v volts for t ticks, with one leak read
--     Measures ..                    one was made
--     HvStopped ..                   why none was made, and how the rig was left
--     KeepsPartition classes stop    what a stop hands back has this partition
use Rattle.std.specs.Prelude.{◌≡◌, ◌+◌, ◌/◌, ◌<◌, ◌≤◌, ◌⊎◌, ℕ, Bool, true, false, List, []}
use Rattle.std.specs.Prelude.{◌∷◌, ◌++◌, All, Option, Some, None, Result, Ok, Err, IsTrue, IsFalse, IfSome, ⊤}
use Rattle.base.specs.Causes.{Rose}
use Rattle.rig.specs.declared.event.Event.{Event}
use Rattle.rig.specs.declared.event.Event.TheVariants.{Door, Route, Raise, Leak, Zero, Residual, Tick}
use Rattle.rig.specs.declared.event.Leak.{Leak as LeakReading}
use Rattle.rig.specs.declared.rig.RigStop.{RigStop}
use Rattle.rig.specs.declared.rig.RigStop.TheVariants.{Failed, Memory as NoMemory}
use Rattle.rig.specs.declared.powered.RaiseStop.{RaiseStop}
use Rattle.rig.specs.declared.powered.RaiseStop.TheVariants.{DoorOpen, Rig as RigFailed, Memory as MemoryRanOut}
use Rattle.rig.specs.RigState.{RigState}
use Rattle.rig.specs.Discharge.{Waits, discharged_volts, most_waits}
use Rattle.rig.specs.Happened.{Happens}
use Rattle.rig.specs.HvOrder.{MayFollowAll}
use Rattle.rig.specs.Source.{Source, source_from}
use Rattle.rig.specs.Trail.{IsOfSource}
use Rattle.rig.specs.Values.{leak_of}
use Rattle.applications.specs.Charge.{HasLasting}
use Rattle.applications.specs.Counting.{Gains}
use Rattle.applications.specs.declared.stop.HvStop.{HvStop}
use Rattle.applications.specs.declared.stop.HvStop.TheVariants.{InterlockOpen, NotDischarged, RigWhileSafe, RigBefore, NotZero, Memory}

-- no voltage stands, the last Raise or Zero was a Zero that was done, and no stop is due
pub record Rests (s : Source) : Type 0 where
  pub volts : s.volts ≡ 0
  pub ended : IsTrue s.ended
  pub no_stop : IsFalse s.stop_due

-- the source is allowed these events and rests after them
pub record ComesToRest (bonds : List ℕ) (s : Source) (events : List Event) : Type 0 where
  pub allowed : MayFollowAll bonds s events
  pub rests : Rests (source_from s events)

abbrev pub StaysAtRest : List ℕ → List Event → Type 0
StaysAtRest bonds events = (s : Source) → Rests s → ComesToRest bonds s events

-- the source is allowed these events, of which the last three Raises and Zeros are Zeros that failed
pub record GetsStuck (bonds : List ℕ) (s : Source) (events : List Event) : Type 0 where
  pub allowed : MayFollowAll bonds s events
  pub stuck : 3 ≤ (source_from s events).failed_zeros

-- ---- an application

-- how many Ticks there are
abbrev pub tick_count : List Event → ℕ
tick_count [] = 0
tick_count (Tick ∷ es) = tick_count es + 1
tick_count (_ ∷ es) = tick_count es

abbrev pub IsNoRoute : Event → Type 0
IsNoRoute (Route a b) = ⊥
IsNoRoute _ = ⊤

abbrev pub IsNoDoor : Event → Type 0
IsNoDoor (Door closed) = ⊥
IsNoDoor _ = ⊤

-- neither a Zero nor a Leak
abbrev pub IsOfDwell : Event → Type 0
IsOfDwell (Zero done) = ⊥
IsOfDwell (Leak g) = ⊥
IsOfDwell _ = ⊤

-- From the Route of the two groups to the next Zero: before any other Route a Raise to v volts that was done, then at least t
-- Ticks, then the one Leak.
pub record IsMeasuring (a b : List ℕ) (v t : ℕ) (leak : LeakReading) (run : List Event) : Type 0 where
  pub climb : List Event
  pub dwell : List Event
  pub zeroed : Bool
  pub events : run ≡ Route a b ∷ climb ++ Raise v true ∷ dwell ++ Leak leak ∷ Zero zeroed ∷ []
  pub no_route : All IsNoRoute climb
  pub of_dwell : All IsOfDwell dwell
  pub ticks : t ≤ tick_count dwell

-- ---- what happened

abbrev pub IsNoFailedZero : Event → Type 0
IsNoFailedZero (Zero false) = ⊥
IsNoFailedZero _ = ⊤

-- where the last event is a residual above 30 volts, fewer than 100 Ticks stand since the last Zero that was done
abbrev pub IsNotCharged : List Event → Type 0
IsNotCharged events =
    (before : List Event) (v : ℕ) → events ≡ before ++ Residual v ∷ [] → discharged_volts < v → (s : Source) → (source_from s before).ticks < most_waits

-- Events of the source happened, in the order, and left it at rest. Where no failure was the stop and no zero call failed, no
-- fault was counted. The unit is not known to be charged.
pub record Runs (bonds : List ℕ) (old new : RigState) (events : List Event) (stop : Option RigStop) : Type 0 where
  pub happens : Happens old new events stop
  pub of_source : All IsOfSource events
  pub rest : StaysAtRest bonds events
  pub no_fault : (stop ≡ Some Failed → ⊥) → All IsNoFailedZero events → new.faults ≡ old.faults
  pub not_charged : IsNotCharged events

-- One application was made; an honest rig read the leak of the unit between the groups, and no charge lasts on the unit.
pub record Measures (bonds : List ℕ) (old new : RigState) (a b : List ℕ) (v t : ℕ) (leak : LeakReading) : Type 0 where
  pub run : List Event
  pub rest : List Event
  pub runs : Runs bonds old new (run ++ rest) None
  pub measuring : IsMeasuring a b v t leak run
  pub counts : Gains 0 0 1 (v / 50) t 1 (run ++ rest)
  pub truth : IsTrue old.honest → IfSome old.truth (λ rows. leak ≡ leak_of rows old.points a b v)
  pub discharged : HasLasting old None

-- the last Door is open
pub record EndsOpen (events : List Event) : Type 0 where
  pub before : List Event
  pub after : List Event
  pub events_are : events ≡ before ++ Door false ∷ after
  pub no_door : All IsNoDoor after

-- the last event is a residual of v volts, above 30, after at least 100 Ticks since the last Zero that was done
pub record EndsCharged (events : List Event) (v : ℕ) : Type 0 where
  pub before : List Event
  pub events_are : events ≡ before ++ Residual v ∷ []
  pub above : discharged_volts < v
  pub waited : (s : Source) → most_waits ≤ (source_from s before).ticks

-- a stop with the source at rest
pub record StopsAtRest (bonds : List ℕ) (old new : RigState) (stop : Option RigStop) : Type 0 where
  pub events : List Event
  pub runs : Runs bonds old new events stop

pub record StopsOpen (bonds : List ℕ) (old new : RigState) : Type 0 where
  pub events : List Event
  pub runs : Runs bonds old new events None
  pub door : EndsOpen events
  pub opens : Rose old.opens new.opens

-- the same, with the unit charged to v volts: of an honest rig's unit these last
pub record StopsCharged (bonds : List ℕ) (old new : RigState) (v : ℕ) : Type 0 where
  pub events : List Event
  pub happens : Happens old new events None
  pub of_source : All IsOfSource events
  pub rest : StaysAtRest bonds events
  pub no_fault : All IsNoFailedZero events → new.faults ≡ old.faults
  pub charged : EndsCharged events v
  pub lasts : HasLasting old (Some v)

pub record StopsStuck (bonds : List ℕ) (old new : RigState) : Type 0 where
  pub events : List Event
  pub happens : Happens old new events (Some Failed)
  pub of_source : All IsOfSource events
  pub stuck : (s : Source) → Rests s → GetsStuck bonds s events
  pub not_charged : IsNotCharged events

-- how each stop left the rig
abbrev pub HvStopped : {R : Type 0} → (R → RigState) → List ℕ → RigState → HvStop R → Type 0
HvStopped state bonds old (InterlockOpen safe) = StopsOpen bonds old (state safe.rig)
HvStopped state bonds old (NotDischarged safe v) = StopsCharged bonds old (state safe.rig) v
HvStopped state bonds old (RigWhileSafe safe) = StopsAtRest bonds old (state safe.rig) (Some Failed)
HvStopped state bonds old (RigBefore proven) = StopsAtRest bonds old (state proven.rig) (Some Failed)
HvStopped state bonds old (NotZero stuck) = StopsStuck bonds old (state stuck)
HvStopped state bonds old (Memory rig) = StopsAtRest bonds old (state rig) None

-- the proven or safe unit that a stop hands back has this partition
abbrev pub KeepsPartition : {R : Type 0} → List ℕ → HvStop R → Type 0
KeepsPartition classes (InterlockOpen safe) = safe.partition ≡ classes
KeepsPartition classes (NotDischarged safe v) = safe.partition ≡ classes
KeepsPartition classes (RigWhileSafe safe) = safe.partition ≡ classes
KeepsPartition classes (RigBefore proven) = proven.partition ≡ classes
KeepsPartition classes (NotZero stuck) = ⊤
KeepsPartition classes (Memory rig) = ⊤

-- ---- the parts of an application

-- the route was made
pub record Starts (old new : RigState) (a b : List ℕ) : Type 0 where
  pub happens : Happens old new (Route a b ∷ []) None
  pub zero : new.volts ≡ 0

-- the voltage was held, and the unit is discharged
pub record Finishes {H : Type 0} (old new : RigState) (held : Result H RaiseStop) (what : H) : Type 0 where
  pub held_so : held ≡ Ok what
  pub waits : Waits old new (Ok None)

-- the voltage was not held, or the unit is not discharged
abbrev pub FinishStops : {R H : Type 0} → (R → RigState) → RigState → Result H RaiseStop → HvStop R → Type 0
FinishStops {R} {H} state old held (InterlockOpen safe) = (held ≡ Err DoorOpen) × (state safe.rig ≡ old)
FinishStops {R} {H} state old held (NotDischarged safe v) = (what : H) × (held ≡ Ok what) × Waits old (state safe.rig) (Ok (Some v))
FinishStops {R} {H} state old held (RigWhileSafe safe) =
    ((held ≡ Err RigFailed) × (state safe.rig ≡ old)) ⊎ ((what : H) × (held ≡ Ok what) × Waits old (state safe.rig) (Err Failed))
FinishStops {R} {H} state old held (RigBefore proven) = ⊥
FinishStops {R} {H} state old held (NotZero stuck) = ⊥
FinishStops {R} {H} state old held (Memory rig) =
    ((held ≡ Err MemoryRanOut) × (state rig ≡ old)) ⊎ ((what : H) × (held ≡ Ok what) × Waits old (state rig) (Err NoMemory))
