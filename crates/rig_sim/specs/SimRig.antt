-- A simulator as contracts see it.
use Rattle.std.specs.Prelude.{◌≡◌, ◌↔◌, ◌⊎◌, ◌+◌, ◌-◌, ◌^◌, ◌<◌, min, ℕ, Bool, true, false, List, []}
use Rattle.std.specs.Prelude.{Option, Some, None, Result, length, slice_get, option_map, option_and_then, if◌then◌else◌, IfOk, OnErr, ⊤}
use Rattle.rig.specs.declared.unit.Row.{Row}
use Rattle.rig.specs.declared.unit.Unit.{Unit as HarnessUnit}
use Rattle.rig.specs.declared.rig.RigStop.{RigStop}
use Rattle.rig.specs.declared.rig.RigStop.TheVariants.{Failed, Memory}
use Rattle.rig.specs.declared.event.Event.{Event}
use Rattle.rig.specs.declared.event.Event.TheVariants.{Reading, Ohms, Junction, Door, Route, Raise, Leak, Zero, Residual, Tick}
use Rattle.rig.specs.Happened.{happened}
use Rattle.rig.specs.RigState.{RigState}
use Rattle.rig.specs.Values.{conductance}
use Rattle.harness.specs.declared.row.HarnessRow.{HarnessRow}
use Rattle.harness.specs.Places.{points_in}
use Rattle.harness.specs.Units.{units_of, AreFaults, AreDoors}
use Rattle.rig_sim.specs.Counters.{Counted, IsNext, next_count}
use Rattle.rig_sim.specs.Fixture.{states_alone}

-- the state of a rig, the calls that fail by their number, and the interlock readings that are open by theirs
pub record SimState : Type 0 where
  pub state : RigState
  pub calls : Counted
  pub doors : Counted

-- A simulator that no call was asked: it is honest, tells all, and has the points, the units, the faults and the doors of the rows. Its units do not move.
pub record IsNew (rows : List HarnessRow) (sim : SimState) : Type 0 where
  pub state : sim.state ≡ record {
    points = points_in rows;
    honest = true;
    faults = 0;
    opens = 0;
    spent = 0;
    seats = 0;
    volts = 0;
    seated = false;
    route = None;
    closed_now = false;
    spare = 0;
    states_left = 0;
    most_faults = Some (length sim.calls.listed);
    most_opens = Some (length sim.doors.listed);
    units = Some (units_of rows);
    truth = None;
    trail = Some [];
    tallies = Some [];
    measured = Some [];
    states = Some (states_alone (units_of rows));
    coming = Some [];
  }
  pub faults : AreFaults rows sim.calls.listed
  pub doors : AreDoors rows sim.doors.listed
  pub calls : sim.calls.count ≡ 0
  pub readings : sim.doors.count ≡ 0

-- A call that was not refused for memory was counted. It failed exactly where it has a `fault` row, or found its count at the last value.
pub record Counts (old new : SimState) (full : Type 0) (stop : Option RigStop) : Type 0 where
  pub counted : (stop ≡ Some Memory → ⊥) → new.calls ≡ next_count old.calls
  pub memory : stop ≡ Some Memory → new.calls ≡ old.calls
  pub failed : (stop ≡ Some Memory → ⊥) → (stop ≡ Some Failed) ↔ (IsNext old.calls ⊎ full)

-- An interlock reading that was answered was counted. It was open exactly where it has a `door` row.
pub record CountsDoor (old new : SimState) (result : Result Bool RigStop) : Type 0 where
  pub answered : IfOk result (λ closed. (new.doors ≡ next_count old.doors) × ((closed ≡ false) ↔ IsNext old.doors))
  pub refused : OnErr result (new.doors ≡ old.doors)

-- one more fault, up to the last value of its counter
abbrev pub more_faults : ℕ → ℕ
more_faults faults = min (faults + 1) (2 ^ 64 - 1)

-- a call that failed and is no event
abbrev pub failed_once : SimState → SimState
failed_once s = record s { state = record s.state { faults = more_faults s.state.faults }; calls = next_count s.calls }

-- a call that is an event, with the room that is then set aside
abbrev pub with_call : Event → ℕ → SimState → SimState
with_call event spare s = record s { state = record (happened event s.state) { spare = spare }; calls = next_count s.calls }

-- a command to the source, done or failed
abbrev pub with_command : Event → ℕ → Bool → SimState → SimState
with_command event spare done s = record s {
  state = record (happened event s.state) { spare = spare; faults = (if done then s.state.faults else more_faults s.state.faults) };
  calls = next_count s.calls;
}

-- a reading, or a tick: it changes neither the route nor the count of open readings, and is no command to the source
abbrev pub IsPlainEvent : Event → Type 0
IsPlainEvent (Reading a b met) = ⊤
IsPlainEvent (Ohms a b r) = ⊤
IsPlainEvent (Junction a b d) = ⊤
IsPlainEvent (Leak g) = ⊤
IsPlainEvent (Residual v) = ⊤
IsPlainEvent Tick = ⊤
IsPlainEvent (Door closed) = ⊥
IsPlainEvent (Route a b) = ⊥
IsPlainEvent (Raise v done) = ⊥
IsPlainEvent (Zero done) = ⊥

-- no unit is in the fixture
abbrev pub unseated : SimState → SimState
unseated s = record s { state = record s.state { seated = false } }

-- Every conductance of the unit fits 64 bits, so its product with a number of 64 bits is below 2^128.
abbrev pub HasSmallConductance : ℕ → HarnessUnit → Type 0
HasSmallConductance points unit = (a b : List ℕ) → conductance unit.rows points a b < 2 ^ 64

-- the rows of the unit at a place
abbrev pub rows_at : List HarnessUnit → ℕ → Option (List Row)
rows_at units i = option_map (λ (u : HarnessUnit). u.rows) (slice_get units i)

-- the rows of the unit at the place, if there is one
abbrev pub rows_of : List HarnessUnit → Option ℕ → Option (List Row)
rows_of units place = option_and_then (rows_at units) place
