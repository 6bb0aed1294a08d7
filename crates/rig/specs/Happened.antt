-- What an event does to a rig.
--     happened event state        the rig after the event
--     happened_all events state   after all of them, one after the other
--     Happens old new events stop    these events happened and nothing else, up to a refusal, if there was one
use Rattle.std.specs.Prelude.{◌≡◌, ℕ, ◌+◌, ◌-◌, ◌^◌, ◌<◌, ◌≤◌, min, Bool, true, false, nat_lt, List, [], ◌∷◌, ◌++◌, length, All, Option, Some}
use Rattle.std.specs.Prelude.{option_map, IsSome, IfSome, if◌then◌else◌, ⊤}
use Rattle.base.specs.Causes.{HasCause}
use Rattle.rig.specs.declared.event.Event.{Event}
use Rattle.rig.specs.declared.event.Event.TheVariants.{Reading, Ohms, Junction, Door, Route, Raise, Leak, Zero, Residual, Tick}
use Rattle.rig.specs.declared.event.Tally.{Tally}
use Rattle.rig.specs.declared.rig.RigStop.{RigStop}
use Rattle.rig.specs.declared.rig.RigStop.TheVariants.{Failed, Memory}
use Rattle.rig.specs.RigState.{RigState, Groups}

-- the trail with one more event
abbrev pub recorded : Event → Option (List Event) → Option (List Event)
recorded event trail = option_map (λ events. events ++ event ∷ []) trail

-- the tallies with the last one changed
abbrev pub with_last : (Tally → Tally) → List Tally → List Tally
with_last f [] = []
with_last f (tally ∷ []) = f tally ∷ []
with_last f (tally ∷ next ∷ more) = tally ∷ with_last f (next ∷ more)

-- a tally after an event at so many volts: readings, probes, routes, raises that were done, ticks at a voltage, and leaks are counted
abbrev pub tally_after : ℕ → Event → Tally → Tally
tally_after v (Reading a b met) y = record y { readings = y.readings + 1 }
tally_after v (Ohms a b r) y = record y { probes = y.probes + 1 }
tally_after v (Junction a b d) y = record y { probes = y.probes + 1 }
tally_after v (Door closed) y = y
tally_after v (Route a b) y = record y { routes = y.routes + 1 }
tally_after v (Raise w true) y = record y { raises = y.raises + 1 }
tally_after v (Raise w false) y = y
tally_after v (Leak g) y = record y { leaks = y.leaks + 1 }
tally_after v (Zero done) y = y
tally_after v (Residual w) y = y
tally_after v Tick y = if nat_lt 0 v then record y { ticks = y.ticks + 1 } else y

abbrev pub tallied : ℕ → Event → Option (List Tally) → Option (List Tally)
tallied v event tallies = option_map (with_last (tally_after v event)) tallies

-- a count that can still rise
abbrev pub IsBelowLast : ℕ → Type 0
IsBelowLast count = count < 2 ^ 64 - 1

-- each count of a tally can still rise
pub record CanCount (tally : Tally) : Type 0 where
  pub readings : IsBelowLast tally.readings
  pub probes : IsBelowLast tally.probes
  pub routes : IsBelowLast tally.routes
  pub raises : IsBelowLast tally.raises
  pub ticks : IsBelowLast tally.ticks
  pub leaks : IsBelowLast tally.leaks

-- each count of the last tally can
abbrev pub LastCanCount : List Tally → Type 0
LastCanCount [] = ⊤
LastCanCount (tally ∷ []) = CanCount tally
LastCanCount (tally ∷ next ∷ more) = LastCanCount (next ∷ more)

-- the commanded volts after an event
abbrev pub volts_after : ℕ → Event → ℕ
volts_after v (Reading a b met) = v
volts_after v (Ohms a b r) = v
volts_after v (Junction a b d) = v
volts_after v (Door closed) = v
volts_after v (Route a b) = v
volts_after v (Raise w done) = w
volts_after v (Leak g) = v
volts_after v (Zero true) = 0
volts_after v (Zero false) = v
volts_after v (Residual w) = v
volts_after v Tick = v

-- the commanded volts after some events
abbrev pub volts_all : ℕ → List Event → ℕ
volts_all v [] = v
volts_all v (event ∷ events) = volts_all (volts_after v event) events

-- a tally after some events, from so many volts on
abbrev pub tally_all : ℕ → List Event → Tally → Tally
tally_all v [] y = y
tally_all v (event ∷ events) y = tally_all (volts_after v event) events (tally_after v event y)

-- whether the interlock was read closed, with no tick since
abbrev pub closed_after : Bool → Event → Bool
closed_after c (Door closed) = closed
closed_after c Tick = false
closed_after c (Reading a b met) = c
closed_after c (Ohms a b r) = c
closed_after c (Junction a b d) = c
closed_after c (Route a b) = c
closed_after c (Raise w done) = c
closed_after c (Leak g) = c
closed_after c (Zero done) = c
closed_after c (Residual w) = c

-- the route that stands
abbrev pub route_after : Option Groups → Event → Option Groups
route_after r (Route a b) = Some (record { left = a; right = b })
route_after r (Reading a b met) = r
route_after r (Ohms a b x) = r
route_after r (Junction a b d) = r
route_after r (Door closed) = r
route_after r (Raise w done) = r
route_after r (Leak g) = r
route_after r (Zero done) = r
route_after r (Residual w) = r
route_after r Tick = r

-- how many interlock readings were open
abbrev pub opens_after : ℕ → Event → ℕ
opens_after n (Door false) = min (n + 1) (2 ^ 64 - 1)
opens_after n (Door true) = n
opens_after n (Reading a b met) = n
opens_after n (Ohms a b x) = n
opens_after n (Junction a b d) = n
opens_after n (Route a b) = n
opens_after n (Raise w done) = n
opens_after n (Leak g) = n
opens_after n (Zero done) = n
opens_after n (Residual w) = n
opens_after n Tick = n

-- how many group readings were made
abbrev pub spent_after : ℕ → Event → ℕ
spent_after n (Reading a b met) = n + 1
spent_after n (Ohms a b x) = n
spent_after n (Junction a b d) = n
spent_after n (Door closed) = n
spent_after n (Route a b) = n
spent_after n (Raise w done) = n
spent_after n (Leak g) = n
spent_after n (Zero done) = n
spent_after n (Residual w) = n
spent_after n Tick = n

-- the rig after an event
abbrev pub happened : Event → RigState → RigState
happened event s = record s {
  spent = spent_after s.spent event;
  opens = opens_after s.opens event;
  volts = volts_after s.volts event;
  route = route_after s.route event;
  closed_now = closed_after s.closed_now event;
  trail = recorded event s.trail;
  tallies = tallied s.volts event s.tallies;
}

abbrev pub happened_all : List Event → RigState → RigState
happened_all [] s = s
happened_all (event ∷ events) s = happened_all events (happened event s)

-- What every call of a rig leaves.
pub record IsTold (state : RigState) : Type 0 where
  -- the faults are no more than the rig tells, while its counts of readings and seats can still rise
  pub faults : IfSome state.most_faults (λ most. IsBelowLast state.spent → IsBelowLast state.seats → state.faults ≤ most)
  pub opens : IfSome state.most_opens (λ most. state.opens ≤ most)
  -- where the trail is told, the tallies are told too
  pub tallies : IsSome state.trail → IsSome state.tallies
  -- where the states are told, those to come are told too, as many as are left
  pub coming : IsSome state.states → IsSome state.coming
  pub left : IfSome state.coming (λ list. state.states_left ≡ length list)
  pub few : state.states_left < 2 ^ 32 - 1

-- A call's causes, and what it leaves.
pub record Called (old new : RigState) (stop : Option RigStop) : Type 0 where
  pub cause : HasCause old.faults new.faults stop Failed
  -- no other call than one that failed counts a fault
  pub no_fault : (stop ≡ Some Failed → ⊥) → new.faults ≡ old.faults
  -- want of memory does nothing to the device: no count rises, and nothing is recorded; only a seat leaves the fixture empty
  pub memory : stop ≡ Some Memory → new ≡ record old { spare = new.spare; seated = new.seated }
  pub told : IsTold new

-- A call that was answered is one event. Beside it, only the count of faults and the room for zero calls may change.
abbrev pub Records : RigState → RigState → Event → Type 0
Records old new event = new ≡ record (happened event old) { faults = new.faults; spare = new.spare }

-- a call that was refused changes these two alone
abbrev pub Refuses : RigState → RigState → Type 0
Refuses old new = new ≡ record old { faults = new.faults; spare = new.spare }

-- an event of a call that did not fail: any but a raise or a zero that failed
abbrev pub IsDone : Event → Type 0
IsDone (Raise v true) = ⊤
IsDone (Raise v false) = ⊥
IsDone (Zero true) = ⊤
IsDone (Zero false) = ⊥
IsDone (Reading a b met) = ⊤
IsDone (Ohms a b r) = ⊤
IsDone (Junction a b d) = ⊤
IsDone (Door closed) = ⊤
IsDone (Route a b) = ⊤
IsDone (Leak g) = ⊤
IsDone (Residual v) = ⊤
IsDone Tick = ⊤

-- Any number of events, up to the call that was refused, if one was.
pub record Happens (old new : RigState) (events : List Event) (stop : Option RigStop) : Type 0 where
  pub frame : new ≡ record (happened_all events old) { faults = new.faults; spare = new.spare }
  pub cause : HasCause old.faults new.faults stop Failed
  -- where no call failed, no fault was counted: so none is behind want of memory
  pub no_fault : (stop ≡ Some Failed → ⊥) → All IsDone events → new.faults ≡ old.faults
  pub told : IsTold old → IsTold new
