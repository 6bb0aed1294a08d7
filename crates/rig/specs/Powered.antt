-- The states of one seating with a route to the high-voltage source.
use Rattle.std.specs.Prelude.{◌≡◌, ◌+◌, ◌%◌, ◌≤◌, ◌⊎◌, ◌++◌, ℕ, true, false, List, [], ◌∷◌, replicate, Option, Some, None, Result, Ok, Err, IsSomeAnd}
use Rattle.rig.specs.declared.event.Event.{Event}
use Rattle.rig.specs.declared.event.Event.TheVariants.{Door, Raise, Zero}
use Rattle.rig.specs.declared.rig.RigStop.{RigStop}
use Rattle.rig.specs.declared.rig.RigStop.TheVariants.{Failed, Memory as NoMemory}
use Rattle.rig.specs.declared.powered.RaiseStop.{RaiseStop}
use Rattle.rig.specs.declared.powered.RaiseStop.TheVariants.{DoorOpen, Rig, Memory}
use Rattle.rig.specs.RigState.{RigState}
use Rattle.rig.specs.Happened.{Happens}
use Rattle.rig.specs.Calls.{Permission, Permits}
use Rattle.rig.specs.Seating.{IsSeated}
use Rattle.rig.specs.States.{IsProven}

-- a rig with a route, the partition that was tested, and the permit that the route was made with
pub record Powered (R : Type 0) : Type 0 where
  pub rig : R
  pub partition : List ℕ
  pub permit : Permission

-- A unit is seated, proven, and routed as the permit allows. There is room for three zero calls.
pub record IsLive (state : RigState) (classes : List ℕ) (permit : Permission) : Type 0 where
  pub unit : IsSeated state
  pub proven : IsProven state classes
  pub permitted : IsSomeAnd state.route (Permits state permit)
  pub by_fifty : state.volts % 50 ≡ 0
  pub at_most : state.volts ≤ 2000
  pub room : 3 ≤ state.spare

-- what a raise by 50 to v volts adds to the trail, with each answer
abbrev pub StepEvents : ℕ → Result Unit RaiseStop → List Event → Type 0
StepEvents v (Ok done) events = events ≡ Door true ∷ Raise v true ∷ []
StepEvents v (Err DoorOpen) events = events ≡ Door false ∷ []
StepEvents v (Err Rig) events = (events ≡ []) ⊎ (events ≡ Door true ∷ Raise v false ∷ [])
StepEvents v (Err Memory) events = (events ≡ []) ⊎ (events ≡ Door true ∷ [])

-- the refusal of a raise that a refusal of the rig is
abbrev pub raise_stop_of : RigStop → RaiseStop
raise_stop_of Failed = Rig
raise_stop_of NoMemory = Memory

-- which refusal of the rig is behind it
abbrev pub stop_cause : RaiseStop → Option RigStop
stop_cause DoorOpen = None
stop_cause Rig = Some Failed
stop_cause Memory = Some NoMemory

abbrev pub raise_cause : Result Unit RaiseStop → Option RigStop
raise_cause (Ok done) = None
raise_cause (Err stop) = stop_cause stop

-- The interlock is read and, where it is closed, the source is raised by 50 volts.
pub record Steps (old new : RigState) (result : Result Unit RaiseStop) : Type 0 where
  pub events : List Event
  pub which : StepEvents (old.volts + 50) result events
  pub happens : Happens old new events (raise_cause result)

-- The source went to zero, after at most two zero calls that failed.
pub record GoesDown (old new : RigState) : Type 0 where
  pub failed : ℕ
  pub few : failed ≤ 2
  pub happens : Happens old new (replicate failed (Zero false) ++ Zero true ∷ []) None

-- Three zero calls failed.
pub record IsStuck (old new : RigState) : Type 0 where
  pub happens : Happens old new (replicate 3 (Zero false)) (Some Failed)
