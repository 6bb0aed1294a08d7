-- What the stages after the wiring leave.
--     Goes p old new stop              events of components and of high voltage, after which the source is at zero
--     Adds probes voltage y z          a tally z counts at least so much more than y
--     FindsBreakdown, FindsVoltage, FindsProven    what the tests of withstand, of high voltage, and of a proven unit found
--     StopsLate state p due old stop   a stop after the wiring was proven; a unit that stays charged is due so many volts
use Rattle.std.specs.Prelude.{◌≡◌, ◌≤◌, ℕ, ◌+◌, List, All, Option, Some, None, IfSome, IsSome, option_map, ⊤}
use Rattle.base.specs.Causes.{Rose}
use Rattle.partition.specs.NetTable.{programmed_of}
use Rattle.rig.specs.Happened.{Happens, with_last}
use Rattle.rig.specs.RigState.{RigState}
use Rattle.rig.specs.Trail.{IsOfSource}
use Rattle.rig.specs.declared.event.Event.{Event}
use Rattle.rig.specs.declared.event.Event.TheVariants.{Reading}
use Rattle.rig.specs.declared.event.Tally.{Tally}
use Rattle.rig.specs.declared.rig.RigStop.{RigStop}
use Rattle.rig.specs.declared.unit.Row.{Row}
use Rattle.wirelist.specs.Clusters.{cluster_classes}
use Rattle.wirelist.specs.Ranges.{OutcomeInRange}
use Rattle.wirelist.specs.declared.outcome.Outcome.{Outcome}
use Rattle.wirelist.specs.declared.outcome.Outcome.TheVariants.{Pass, Wiring, Parts, Insulation, Withstand}
use Rattle.wirelist.specs.declared.program.Program.{Program}
use Rattle.applications.specs.Measuring.{EndsCharged, EndsOpen, IsNotCharged}
use Rattle.applications.specs.Ordered.{IsStuckInOrder}
use Rattle.hv.specs.Routes.{tested_bits}
use Rattle.hv.specs.declared.withstanding.WithstandFault.{WithstandFault}
use Rattle.wirelist.specs.Clusters.{cluster_count}
use Rattle.unit_outcome.specs.Defined.{proven_charge, proven_outcome, voltage_charge, voltage_outcome, withstand_found, withstand_or_pass}
use Rattle.unit_outcome.specs.Enough.{Voltage, all_probes, both, breaking, voltage_for, withstand_counts}
use Rattle.unit_outcome.specs.Shown.{MeasuredShown, Shows, StoodShown}
use Rattle.unit_outcome.specs.Spent.{OfRows}
use Rattle.unit_outcome.specs.Tested.{IsInOrderOf}
use Rattle.unit_outcome.specs.declared.run.UnitStop.{UnitStop}
use Rattle.unit_outcome.specs.declared.run.UnitStop.TheVariants.{Empty, InterlockOpen, NotDischarged, RigFault, NotZero, Memory}

-- ---- events

-- no group reading
abbrev pub IsNoReading : Event → Type 0
IsNoReading (Reading a b met) = ⊥
IsNoReading _ = ⊤

-- Events without a group reading, up to a refusal, if there was one, after which the source is at zero.
pub record Goes (p : Program) (old new : RigState) (stop : Option RigStop) : Type 0 where
  pub events : List Event
  pub happens : Happens old new events stop
  pub no_reading : All IsNoReading events
  pub not_charged : IsNotCharged events
  pub order : IsInOrderOf p old → IsInOrderOf p new
  pub at_zero : new.volts ≡ 0

-- ---- tallies

-- at least so many more probes, and so much more at high voltage; the rest is the same
pub record Adds (probes : ℕ) (voltage : Voltage) (y z : Tally) : Type 0 where
  pub serial : z.serial ≡ y.serial
  pub attempt : z.attempt ≡ y.attempt
  pub readings : z.readings ≡ y.readings
  pub more_probes : y.probes + probes ≤ z.probes
  pub more_routes : y.routes + voltage.route_count ≤ z.routes
  pub more_raises : y.raises + voltage.raise_count ≤ z.raises
  pub more_ticks : y.ticks + voltage.tick_count ≤ z.ticks
  pub more_leaks : y.leaks + voltage.leak_count ≤ z.leaks

-- the last tally alone changes, and so
pub record Grows (P : Tally → Tally → Type 0) (old new : RigState) : Type 0 where
  pub change : Tally → Tally
  pub tallies : new.tallies ≡ option_map (with_last change) old.tallies
  pub so : (y : Tally) → P y (change y)

-- ---- the test of withstand

-- what it counts: each bit, or those before the breakdown, and this one
abbrev pub breakdown_counts : Program → Option WithstandFault → Voltage
breakdown_counts p None = withstand_counts (tested_bits (cluster_count p)) p.withstand
breakdown_counts p (Some fault) = both (withstand_counts fault.bit p.withstand) (breaking fault.volts)

-- the first breakdown, if the program has the test
pub record FindsBreakdown (p : Program) (old new : RigState) (outcome : Outcome) : Type 0 where
  pub failed : Option WithstandFault
  pub outcome_is : outcome ≡ withstand_or_pass failed
  pub goes : Goes p old new None
  pub of_source : All IsOfSource goes.events
  pub in_range : OutcomeInRange outcome
  pub counts : Grows (Adds 0 (breakdown_counts p failed)) old new
  pub shown : IfSome new.trail (StoodShown p outcome)
  pub truth : OfRows old (λ rows. (failed ≡ withstand_found p rows) × (IsSome p.withstand → voltage_charge p rows ≡ None))

-- ---- high voltage

-- neither a wiring fault nor faulty components
abbrev pub IsOfVoltage : Outcome → Type 0
IsOfVoltage Pass = ⊤
IsOfVoltage (Wiring d) = ⊥
IsOfVoltage (Parts faults) = ⊥
IsOfVoltage (Insulation faults) = ⊤
IsOfVoltage (Withstand bit volts leak) = ⊤

pub record FindsVoltage (p : Program) (old new : RigState) (outcome : Outcome) : Type 0 where
  pub goes : Goes p old new None
  pub of_source : All IsOfSource goes.events
  pub of_voltage : IsOfVoltage outcome
  pub in_range : OutcomeInRange outcome
  pub counts : Grows (Adds 0 (voltage_for p outcome)) old new
  pub shown : IfSome new.trail (λ trail. MeasuredShown p outcome trail × StoodShown p outcome trail)
  pub truth : OfRows old (λ rows. (outcome ≡ voltage_outcome p rows) × (voltage_charge p rows ≡ None))

-- ---- components and high voltage

-- no wiring fault
abbrev pub IsOfProven : Outcome → Type 0
IsOfProven Pass = ⊤
IsOfProven (Wiring d) = ⊥
IsOfProven (Parts faults) = ⊤
IsOfProven (Insulation faults) = ⊤
IsOfProven (Withstand bit volts leak) = ⊤

pub record FindsProven (p : Program) (old new : RigState) (outcome : Outcome) : Type 0 where
  pub goes : Goes p old new None
  pub of_proven : IsOfProven outcome
  pub in_range : OutcomeInRange outcome
  pub counts : Grows (Adds (all_probes p) (voltage_for p outcome)) old new
  pub shown : IfSome new.trail (Shows p outcome)
  pub truth : OfRows old (λ rows. (outcome ≡ proven_outcome p rows) × (proven_charge p rows ≡ None))

-- ---- stops

pub record LateOpen (p : Program) (old new : RigState) : Type 0 where
  pub goes : Goes p old new None
  pub door : EndsOpen goes.events
  pub opens : Rose old.opens new.opens

pub record LateCharged (p : Program) (due : List Row → Option ℕ) (old new : RigState) (volts : ℕ) : Type 0 where
  pub events : List Event
  pub happens : Happens old new events None
  pub no_reading : All IsNoReading events
  pub order : IsInOrderOf p old → IsInOrderOf p new
  pub at_zero : new.volts ≡ 0
  pub ends : EndsCharged events volts
  pub truth : OfRows old (λ rows. due rows ≡ Some volts)

pub record LateStuck (p : Program) (old new : RigState) : Type 0 where
  pub events : List Event
  pub stop : Option RigStop
  pub happens : Happens old new events stop
  pub no_reading : All IsNoReading events
  pub not_charged : IsNotCharged events
  pub order : IsInOrderOf p old → IsStuckInOrder (programmed_of p.nets) (cluster_classes p) new
  pub rose : Rose old.faults new.faults

-- a refusal
pub record LateCut (p : Program) (old new : RigState) : Type 0 where
  pub stop : Option RigStop
  pub goes : Goes p old new stop

abbrev pub StopsLate : {R : Type 0} → (R → RigState) → Program → (List Row → Option ℕ) → RigState → UnitStop R → Type 0
StopsLate state p due old (Empty rig) = ⊥
StopsLate state p due old (InterlockOpen rig) = LateOpen p old (state rig)
StopsLate state p due old (NotDischarged rig volts) = LateCharged p due old (state rig) volts
StopsLate state p due old (RigFault rig) = LateCut p old (state rig) × Rose old.faults (state rig).faults
StopsLate state p due old (NotZero stuck) = LateStuck p old (state stuck)
StopsLate state p due old (Memory rig) = LateCut p old (state rig)
