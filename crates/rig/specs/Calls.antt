-- What the calls of a rig ask, answer and change.
use Rattle.std.specs.Prelude.{◌≡◌, ◌↔◌, ◌+◌, ◌-◌, ◌%◌, ◌^◌, ◌<◌, ◌≤◌, min, ℕ, Bool, true, false, List, length, Option, All, Contains, Result, Err}
use Rattle.std.specs.Prelude.{IsTrue, IfSome, IsSomeAnd, IfOk, OnOk, OnErr, option_map}
use Rattle.std.specs.Result.{result_err}
use Rattle.std.specs.List.Sorted.{IsStrictlyIncreasing}
use Rattle.partition.specs.Partitions.{Meets}
use Rattle.rig.specs.declared.event.Event.TheVariants.{Reading, Ohms, Junction, Door, Route, Raise, Leak, Zero, Residual, Tick}
use Rattle.rig.specs.declared.event.Leak.{Leak as LeakReading}
use Rattle.rig.specs.declared.event.Tally.{Tally}
use Rattle.rig.specs.declared.rig.RigStop.{RigStop}
use Rattle.rig.specs.declared.rig.RigStop.TheVariants.{Failed, Memory}
use Rattle.rig.specs.declared.unit.Row.{Row}
use Rattle.rig.specs.Joins.{Joined}
use Rattle.rig.specs.Values.{ohms_of, junction_of, leak_of, charge_of}
use Rattle.rig.specs.RigState.{RigState, Groups}
use Rattle.rig.specs.Trail.{Determines}
use Rattle.rig.specs.Source.{source_of, residual_of}
use Rattle.rig.specs.Happened.{Called, IsBelowLast, Records, Refuses, with_last}

-- points in ascending order, at least one
pub record IsGroup (points : ℕ) (group : List ℕ) : Type 0 where
  pub some : 0 < length group
  pub ascending : IsStrictlyIncreasing group
  pub in_range : All (λ p. p < points) group

-- two groups without a common point
pub record AreGroups (points : ℕ) (a b : List ℕ) : Type 0 where
  pub left : IsGroup points a
  pub right : IsGroup points b
  pub apart : (p : ℕ) → Contains a p → Contains b p → ⊥

-- a unit is seated, and no voltage stands
pub record IsReady (state : RigState) : Type 0 where
  pub seated : IsTrue state.seated
  pub unpowered : state.volts ≡ 0

-- a unit is seated, and a voltage stands
pub record IsPowered (state : RigState) : Type 0 where
  pub seated : IsTrue state.seated
  pub powered : 0 < state.volts

-- the last tally with some more readings
abbrev pub with_readings : ℕ → List Tally → List Tally
with_readings n tallies = with_last (λ tally. record tally { readings = tally.readings + n }) tallies

abbrev pub counted : ℕ → Option (List Tally) → Option (List Tally)
counted n tallies = option_map (with_readings n) tallies

-- some point of the one group is joined with some point of the other
abbrev pub AreJoined : List Row → List ℕ → List ℕ → Type 0
AreJoined rows a b = (p q : ℕ) × Contains a p × Contains b q × Joined rows p q

-- A group reading. One that is answered counts one reading and stands in the trail and the last tally.
-- One that is refused counts at most one reading, none past the last value of the count, and changes nothing else.
-- Where the count stands at its last value a reading fails.
pub record Conducts (old new : RigState) (a b : List ℕ) (result : Result Bool RigStop) : Type 0 where
  pub called : Called old new (result_err result)
  pub ok : IfOk result (λ met. Records old new (Reading a b met))
  pub room : OnOk result (IsBelowLast old.spent)
  -- an honest rig answers whether some point of the one group is joined with some point of the other
  pub truth : IfOk result (λ met. IsTrue old.honest → IfSome old.truth (λ rows. IsTrue met ↔ AreJoined rows a b))
  pub err : OnErr result (new ≡ record old { faults = new.faults; spare = new.spare; spent = new.spent })
  pub spent : OnErr result ((old.spent ≤ new.spent) × (new.spent ≤ min (old.spent + 1) (2 ^ 64 - 1)))

-- A reading of the resistor between two points.
pub record ReadsOhms (old new : RigState) (a b : ℕ) (result : Result (Option ℕ) RigStop) : Type 0 where
  pub called : Called old new (result_err result)
  pub ok : IfOk result (λ ohms. Records old new (Ohms a b ohms))
  -- an honest rig answers 0 for joined points, else the resistor between their classes, else none
  pub truth : IfOk result (λ ohms. IsTrue old.honest → IfSome old.truth (λ rows. ohms ≡ ohms_of rows old.points a b))
  pub err : OnErr result (Refuses old new)

-- A reading of the diode from one point to another.
pub record ReadsJunction (old new : RigState) (from to : ℕ) (result : Result (Option ℕ) RigStop) : Type 0 where
  pub called : Called old new (result_err result)
  pub ok : IfOk result (λ drop. Records old new (Junction from to drop))
  -- an honest rig answers 0 for joined points, else the drop of the diode from the first class to the second, else none
  pub truth : IfOk result (λ drop. IsTrue old.honest → IfSome old.truth (λ rows. drop ≡ junction_of rows old.points from to))
  pub err : OnErr result (Refuses old new)

-- A reading of the interlock: true is closed.
pub record ReadsInterlock (old new : RigState) (result : Result Bool RigStop) : Type 0 where
  pub called : Called old new (result_err result)
  pub ok : IfOk result (λ closed. Records old new (Door closed))
  pub err : OnErr result (Refuses old new)
  pub spare : old.spare ≤ new.spare

-- Two groups are connected to the source. There is room for three zero calls then.
pub record Routes (old new : RigState) (a b : List ℕ) (result : Result Unit RigStop) : Type 0 where
  pub called : Called old new (result_err result)
  pub ok : OnOk result (Records old new (Route a b))
  pub room : OnOk result (3 ≤ new.spare)
  pub err : OnErr result (Refuses old new)

-- What a permit says: the seating that it was made in, the partition that was proven, and the partition whose classes may not stand on both sides.
pub record Permission : Type 0 where
  pub seat : ℕ
  pub partition : List ℕ
  pub bonds : List ℕ

-- the permit is good for these groups now
pub record Permits (state : RigState) (permit : Permission) (groups : Groups) : Type 0 where
  -- it was made in this seating
  pub seat : permit.seat ≡ state.seats
  -- no class of its bonds meets both groups
  pub apart : Meets permit.bonds groups.left groups.right → ⊥
  -- and the readings determine its partition
  pub determined : Determines state permit.partition

-- the condition of a raise to some volts
pub record CanRaise (state : RigState) (permit : Permission) (volts : ℕ) : Type 0 where
  pub seated : IsTrue state.seated
  pub routed : IsSomeAnd state.route (Permits state permit)
  pub closed : IsTrue state.closed_now
  pub by_fifty : volts % 50 ≡ 0
  pub at_most : volts ≤ 2000
  pub step : volts ≤ state.volts + 50

-- The source is commanded to some volts. A raise that failed counts as commanded.
pub record Raises (old new : RigState) (volts : ℕ) (result : Result Unit RigStop) : Type 0 where
  pub called : Called old new (result_err result)
  pub ok : OnOk result (Records old new (Raise volts true))
  pub failed : result ≡ Err Failed → Records old new (Raise volts false)
  pub memory : result ≡ Err Memory → Refuses old new
  pub room : (result ≡ Err Memory → ⊥) → 3 ≤ new.spare
  pub spare : old.spare ≤ new.spare

-- A reading of the leak between the groups of the route.
pub record ReadsLeak (old new : RigState) (result : Result LeakReading RigStop) : Type 0 where
  pub called : Called old new (result_err result)
  pub ok : IfOk result (λ leak. Records old new (Leak leak))
  -- an honest rig answers an arc where the groups arc at the volts, else their conductance
  pub truth : IfOk result (λ leak. IsTrue old.honest → IfSome old.truth (λ rows. IfSome old.route (λ groups.
      leak ≡ leak_of rows old.points groups.left groups.right old.volts)))
  pub err : OnErr result (Refuses old new)
  pub spare : old.spare ≤ new.spare

-- The source is commanded to zero. This takes no memory.
pub record Zeroes (old new : RigState) (result : Result Unit RigStop) : Type 0 where
  pub called : Called old new (result_err result)
  pub ok : OnOk result (Records old new (Zero true))
  pub err : OnErr result (Records old new (Zero false))
  pub no_memory : result ≡ Err Memory → ⊥
  pub spare : old.spare ≤ new.spare + 1

-- A reading of the volts that are still on the unit.
pub record ReadsResidual (old new : RigState) (result : Result ℕ RigStop) : Type 0 where
  pub called : Called old new (result_err result)
  pub ok : IfOk result (λ volts. Records old new (Residual volts))
  -- an honest rig answers what the unit's charge leaves
  pub truth : IfOk result (λ volts. IsTrue old.honest → IfSome old.truth (λ rows. IfSome old.trail (λ trail.
      volts ≡ residual_of (charge_of rows) (source_of trail))))
  pub err : OnErr result (Refuses old new)

-- A tick passes.
pub record Ticks (old new : RigState) (result : Result Unit RigStop) : Type 0 where
  pub called : Called old new (result_err result)
  pub ok : OnOk result (Records old new Tick)
  pub err : OnErr result (Refuses old new)
  pub spare : old.spare ≤ new.spare
