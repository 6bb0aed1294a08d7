-- The test of dielectric withstand.
--     IsFirstBreakdown p rows test failed   what a unit's test gives: the first bit and in it the first step that arcs or leaks too much
--     Stood p test events                   among the events one application for each bit that stood, in order
--     Withstands ..                         the test was made, up to this fault
use Rattle.std.specs.Prelude.{◌≡◌, ◌+◌, ◌*◌, ◌/◌, ◌%◌, ◌<◌, ◌≤◌, ℕ, true, false, List, take, Option, Some, None, IsTrue, IfSome}
use Rattle.rig.specs.declared.event.Event.{Event}
use Rattle.rig.specs.declared.event.Leak.{Leak}
use Rattle.rig.specs.declared.unit.Row.{Row}
use Rattle.rig.specs.RigState.{RigState}
use Rattle.rig.specs.Values.{leak_of}
use Rattle.wirelist.specs.declared.program.Program.{Program}
use Rattle.wirelist.specs.declared.program.Withstand.{Withstand}
use Rattle.wirelist.specs.Clusters.{cluster_classes, cluster_count, side}
use Rattle.wirelist.specs.Ranges.{IsReading, IsTestVoltage, most_bits}
use Rattle.applications.specs.declared.endurance.Endurance.{Endurance}
use Rattle.applications.specs.declared.standing_each.PairBreakdown.{PairBreakdown}
use Rattle.applications.specs.Charge.{HasLasting}
use Rattle.applications.specs.Counting.{Gains, TalliesMore}
use Rattle.applications.specs.Each.{StandsAll}
use Rattle.applications.specs.Enduring.{HoldsBelow, breaks_down}
use Rattle.applications.specs.Measuring.{Runs}
use Rattle.applications.specs.Standing.{EndsBroken}
use Rattle.hv.specs.declared.withstanding.WithstandFault.{WithstandFault}
use Rattle.hv.specs.Routes.{bit_pairs, tested_bits}
use Rattle.hv.specs.Stated.{stated_leak}

-- ---- what a unit withstands

-- the leak of a unit between the two sides of bit j, at v volts
abbrev pub side_leak : Program → List Row → ℕ → ℕ → Leak
side_leak p rows j v = leak_of rows p.nets.points (side p j false) (side p j true) v

-- no step of 50 volts below v breaks down at bit j
abbrev pub BitHolds : Program → List Row → Withstand → ℕ → ℕ → Type 0
BitHolds p rows test v j = HoldsBelow (side_leak p rows j) test.nanoamps v

-- a step of the test
pub record IsStep (test : Withstand) (v : ℕ) : Type 0 where
  pub some : 0 < v
  pub by_fifty : v % 50 ≡ 0
  pub at_most : v ≤ test.volts

-- the fault is at the first bit and in it the first step that breaks down, and states its leak
pub record BreaksFirst (p : Program) (rows : List Row) (test : Withstand) (fault : WithstandFault) : Type 0 where
  pub bit : fault.bit < tested_bits (cluster_count p)
  pub step : IsStep test fault.volts
  pub breaks : IsTrue (breaks_down test.nanoamps fault.volts (side_leak p rows fault.bit fault.volts))
  pub stated : fault.leak ≡ stated_leak (side_leak p rows fault.bit fault.volts)
  pub earlier_steps : BitHolds p rows test fault.volts fault.bit
  pub earlier_bits : (j : ℕ) → j < fault.bit → BitHolds p rows test (test.volts + 50) j

abbrev pub IsFirstBreakdown : Program → List Row → Withstand → Option WithstandFault → Type 0
IsFirstBreakdown p rows test None = (j : ℕ) → j < tested_bits (cluster_count p) → BitHolds p rows test (test.volts + 50) j
IsFirstBreakdown p rows test (Some fault) = BreaksFirst p rows test fault

-- ---- the test

-- for each bit in order an application of its two sides at the volts of the test for its ticks, with a leak before each tick,
-- none of which is an arc or above the limit
abbrev pub Stood : Program → Withstand → List Event → Type 0
Stood p test events = StandsAll test.volts test.ticks test.nanoamps (bit_pairs p) events

-- Each bit stood.
pub record StandsWhole (p : Program) (test : Withstand) (old new : RigState) : Type 0 where
  pub events : List Event
  pub runs : Runs (cluster_classes p) old new events None
  pub stood : Stood p test events
  pub on_trail : IfSome new.trail (Stood p test)
  pub counts : let w = tested_bits (cluster_count p) in Gains 0 0 w (w * (test.volts / 50)) (w * test.ticks) (w * test.ticks) events
  -- with two clusters or more, no charge lasts on the unit
  pub discharged : 2 ≤ cluster_count p → HasLasting old None

-- the last Leak of the events, under the Route of the fault's bit at its volts, is the one that the fault states
abbrev pub EndsFailed : Program → WithstandFault → List Event → Type 0
EndsFailed p fault events =
    (leak : Leak) × (fault.leak ≡ stated_leak leak) × EndsBroken (side p fault.bit false) (side p fault.bit true) fault.volts leak events

-- The bits before that of the fault stood, and this one broke down.
pub record Fails (p : Program) (test : Withstand) (old new : RigState) (fault : WithstandFault) : Type 0 where
  pub bit : fault.bit < tested_bits (cluster_count p)
  pub step : IsStep test fault.volts
  pub events : List Event
  pub runs : Runs (cluster_classes p) old new events None
  pub stood : StandsAll test.volts test.ticks test.nanoamps (take fault.bit (bit_pairs p)) events
  pub last : EndsFailed p fault events
  pub on_trail : IfSome new.trail (EndsFailed p fault)
  pub counts : let j = fault.bit in Gains 0 0 (j + 1) (j * (test.volts / 50) + fault.volts / 50) (j * test.ticks) (j * test.ticks + 1) events
  pub discharged : HasLasting old None

abbrev pub WithstandsSo : Program → Withstand → RigState → RigState → Option WithstandFault → Type 0
WithstandsSo p test old new None = StandsWhole p test old new
WithstandsSo p test old new (Some fault) = Fails p test old new fault

-- The test was made, up to this fault. Of an honest rig it is the unit's first breakdown.
pub record Withstands (p : Program) (test : Withstand) (old new : RigState) (failed : Option WithstandFault) : Type 0 where
  pub so : WithstandsSo p test old new failed
  pub truth : IsTrue old.honest → IfSome old.truth (λ rows. IsFirstBreakdown p rows test failed)

-- the last tally counts at least this more
abbrev pub WithstandTallies : Program → Withstand → RigState → RigState → Option WithstandFault → Type 0
WithstandTallies p test old new None = let w = tested_bits (cluster_count p) in TalliesMore w (w * (test.volts / 50)) (w * test.ticks) (w * test.ticks) old new
WithstandTallies p test old new (Some fault) =
    TalliesMore (fault.bit + 1) (fault.bit * (test.volts / 50) + fault.volts / 50) (fault.bit * test.ticks) (fault.bit * test.ticks + 1) old new

-- ---- a fault

-- the test as what a pair of groups is to withstand
abbrev pub endurance_of : Withstand → Endurance
endurance_of test = record { volts = test.volts; ticks = test.ticks; nanoamps = test.nanoamps }

-- the fault that a breakdown is
abbrev pub fault_of : PairBreakdown → WithstandFault
fault_of failed = record { bit = failed.pair; volts = failed.broken.volts; leak = stated_leak failed.broken.leak }

-- its reading is a number of 64 bits
abbrev pub StatesReading : WithstandFault → Type 0
StatesReading fault = IfSome fault.leak IsReading

-- the ranges in which records keep a fault
abbrev pub FaultInRange : WithstandFault → Type 0
FaultInRange fault = (fault.bit < most_bits) × IsTestVoltage fault.volts × IfSome fault.leak IsReading
