-- What applying a voltage leaves.
use Rattle.std.specs.Prelude.{◌≡◌, ◌/◌, ℕ, false, List, [], ◌∷◌, ◌++◌, All, None, IsTrue, IsFalse, IfSome}
use Rattle.rig.specs.declared.event.Event.{Event}
use Rattle.rig.specs.declared.event.Event.TheVariants.{Door, Leak}
use Rattle.rig.specs.declared.event.Leak.{Leak as LeakReading}
use Rattle.rig.specs.declared.powered.RaiseStop.{RaiseStop}
use Rattle.rig.specs.declared.powered.RaiseStop.TheVariants.{DoorOpen, Rig}
use Rattle.rig.specs.RigState.{RigState}
use Rattle.rig.specs.Happened.{Happens, IsDone}
use Rattle.rig.specs.HvOrder.{MayFollowAll}
use Rattle.rig.specs.Powered.{stop_cause}
use Rattle.rig.specs.Source.{Source, source_from}
use Rattle.rig.specs.Trail.{IsOfSource}
use Rattle.rig.specs.Values.{leak_of}
use Rattle.applications.specs.Steps.{ramp, dwelling}

-- a route stands, the source stands at v volts, and no stop is due
pub record StandsAt (s : Source) (v : ℕ) : Type 0 where
  pub routed : IsTrue s.routed
  pub volts : s.volts ≡ v
  pub no_stop : IsFalse s.stop_due

-- events that the order allows wherever the source stands at v volts
abbrev pub MayFollowAt : ℕ → List Event → Type 0
MayFollowAt v events = (bonds : List ℕ) (s : Source) → StandsAt s v → MayFollowAll bonds s events

-- events that the order allows where the source stands at v volts, and after which it stands at w
pub record Leads (v w : ℕ) (events : List Event) : Type 0 where
  pub allowed : MayFollowAt v events
  pub then : (s : Source) → StandsAt s v → StandsAt (source_from s events) w

-- an event of the source of a call that did not fail
abbrev pub IsCalm : Event → Type 0
IsCalm e = IsOfSource e × IsDone e

-- Some events of the source happened, which the order allows, up to a stop. The last event is an open interlock, where this was
-- the stop, and no call failed, where the rig's failure was not the stop.
pub record BreaksOff (old new : RigState) (stop : RaiseStop) : Type 0 where
  pub events : List Event
  pub happens : Happens old new events (stop_cause stop)
  pub of_source : All IsOfSource events
  pub allowed : MayFollowAt old.volts events
  pub door : stop ≡ DoorOpen → (before : List Event) × (events ≡ before ++ Door false ∷ [])
  pub done : (stop ≡ Rig → ⊥) → All IsDone events

-- The voltage was raised, held for the ticks, and the leak read; an honest rig reads that of the unit at this voltage.
pub record Holds (old new : RigState) (volts ticks : ℕ) (leak : LeakReading) : Type 0 where
  pub happens : Happens old new (ramp (volts / 50) ++ dwelling ticks ++ Leak leak ∷ []) None
  pub truth : IsTrue old.honest → IfSome old.truth (λ rows. IfSome old.route (λ groups. leak ≡ leak_of rows old.points groups.left groups.right volts))
