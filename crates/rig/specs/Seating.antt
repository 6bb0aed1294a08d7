-- A unit is seated.
use Rattle.std.specs.Prelude.{◌≡◌, ◌↔◌, ◌+◌, ◌-◌, ◌^◌, min, ℕ, true, false, List, [], ◌∷◌, ◌++◌, Option, Some, None, All, Result, Ok, Err, IsTrue}
use Rattle.std.specs.Prelude.{IfSome, OnOk, OnErr, option_map, slice_index_or, drop, ⊤}
use Rattle.std.specs.Result.{result_err}
use Rattle.std.specs.List.{position_or_len}
use Rattle.rig.specs.declared.event.Event.{Event}
use Rattle.rig.specs.declared.event.Event.TheVariants.{Reading, Ohms, Junction, Door, Route, Raise, Leak, Zero, Residual, Tick}
use Rattle.rig.specs.declared.event.Tally.{Tally}
use Rattle.rig.specs.declared.rig.RigStop.{RigStop}
use Rattle.rig.specs.declared.rig.RigStop.TheVariants.{Memory}
use Rattle.rig.specs.declared.rig.SeatAnswer.{SeatAnswer}
use Rattle.rig.specs.declared.rig.SeatAnswer.TheVariants.{Present, Absent}
use Rattle.rig.specs.declared.unit.Row.{Row}
use Rattle.rig.specs.declared.unit.Unit.{Unit}
use Rattle.rig.specs.Joins.{IsRowBelow, is_unit, unit_rows}
use Rattle.rig.specs.RigState.{RigState}
use Rattle.rig.specs.Happened.{Called, IsBelowLast}
use Rattle.rig.specs.Calls.{AreGroups, AreJoined}

-- a tally that has counted nothing
abbrev pub empty_tally : List ℕ → ℕ → Tally
empty_tally serial attempt = record { serial = serial; attempt = attempt; readings = 0; probes = 0; routes = 0; raises = 0; ticks = 0; leaks = 0 }

abbrev pub with_tally : List ℕ → ℕ → Option (List Tally) → Option (List Tally)
with_tally serial attempt tallies = option_map (λ list. list ++ empty_tally serial attempt ∷ []) tallies

-- an empty list, where one was told
abbrev pub emptied : {X : Type 0} → Option (List X) → Option (List X)
emptied list = option_map (λ _. []) list

-- the states of the first unit with this serial and attempt, after the unit itself
abbrev pub later_states : List Unit → List (List (List Row)) → List ℕ → ℕ → List (List Row)
later_states units states serial attempt = drop 1 (slice_index_or states (position_or_len (is_unit serial attempt) units) [])

-- A unit is put into the fixture, or there is none. With an answer the trail is empty, no route stands, and the interlock was not read.
-- A call that was not refused for memory is counted; where the count stands at its last value a seat fails, and leaves it.
pub record Seats (old new : RigState) (serial : List ℕ) (attempt : ℕ) (result : Result SeatAnswer RigStop) : Type 0 where
  pub called : Called old new (result_err result)
  pub seats : (result ≡ Err Memory → ⊥) → new.seats ≡ min (old.seats + 1) (2 ^ 64 - 1)
  pub room : OnOk result (IsBelowLast old.seats)
  pub present : result ≡ Ok Present → new ≡ record old {
    faults = new.faults;
    spare = new.spare;
    seats = new.seats;
    seated = true;
    route = None;
    closed_now = false;
    states_left = new.states_left;
    truth = new.truth;
    trail = emptied old.trail;
    tallies = with_tally serial attempt old.tallies;
    measured = emptied old.measured;
    coming = new.coming;
  }
  -- the seated unit is the first of the list with this serial and attempt
  pub unit : result ≡ Ok Present → IfSome old.units (λ units. (rows : List Row) × (unit_rows units serial attempt ≡ Some rows) × (new.truth ≡ Some rows))
  -- and its later states are to come
  pub coming : result ≡ Ok Present → IfSome old.units (λ units. IfSome old.states (λ states. new.coming ≡ Some (later_states units states serial attempt)))
  -- its rows lie between points of the rig
  pub in_range : result ≡ Ok Present → IfSome new.truth (All (IsRowBelow old.points))
  pub absent : result ≡ Ok Absent → new ≡ record old {
    faults = new.faults;
    spare = new.spare;
    seats = new.seats;
    seated = false;
    route = None;
    closed_now = false;
    trail = emptied old.trail;
    measured = emptied old.measured;
  }
  pub no_unit : result ≡ Ok Absent → IfSome old.units (λ units. unit_rows units serial attempt ≡ None)
  pub err : OnErr result (new ≡ record old { faults = new.faults; spare = new.spare; seats = new.seats; seated = false })

-- a reading of two groups of points answers whether they are joined
abbrev pub IsTrueOf : List Row → ℕ → Event → Type 0
IsTrueOf rows points (Reading a b met) = AreGroups points a b × (IsTrue met ↔ AreJoined rows a b)
IsTrueOf rows points (Ohms a b r) = ⊤
IsTrueOf rows points (Junction a b d) = ⊤
IsTrueOf rows points (Door closed) = ⊤
IsTrueOf rows points (Route a b) = ⊤
IsTrueOf rows points (Raise v done) = ⊤
IsTrueOf rows points (Leak g) = ⊤
IsTrueOf rows points (Zero done) = ⊤
IsTrueOf rows points (Residual v) = ⊤
IsTrueOf rows points Tick = ⊤

-- the readings of an honest rig are those of the unit
abbrev pub IsFaithful : RigState → Type 0
IsFaithful state = IsTrue state.honest → IfSome state.truth (λ rows. IfSome state.trail (All (IsTrueOf rows state.points)))

-- A unit is seated; its rows lie between points of the rig, and the readings so far are true where the rig is honest.
pub record IsSeated (state : RigState) : Type 0 where
  pub seated : IsTrue state.seated
  pub in_range : IfSome state.truth (All (IsRowBelow state.points))
  pub faithful : IsFaithful state

-- And no voltage stands.
pub record IsSeating (state : RigState) : Type 0 where
  pub unit : IsSeated state
  pub unpowered : state.volts ≡ 0
