-- What the test of a unit leaves. `run_unit` promises it of every rig, also of one that lies or fails.
--
-- How to use it: the contract of `run_unit` is the one relation
--     RunsUnit state p serial attempt old result
-- over the rig's state before the call (`old`), what the rig's state is (`state`, R.state) and the result. At `Ok run` it is the record
-- `IsTested`, at `Err stop` the record `IsStopped`; each field is one fact. A caller who keeps the harness file's units as plain data
-- takes `told` of either record: `told_by p old` is None, or what the file and the program say of each serial and attempt
-- (specs/Found.antt), and `keeps` shows by `told_stays` that `told_by p` is the same of the rig that is handed back.
use Rattle.std.specs.Prelude.{◌≡◌, ◌⊎◌, ◌≤◌, ◌^◌, ◌-◌, ℕ, min, List, [], ◌∷◌, ◌++◌, All, false, Some, None, is_some, IfSome, MatchOption, Result, Ok, Err}
use Rattle.base.specs.Causes.{Rose}
use Rattle.partition.specs.NetTable.{programmed_of}
use Rattle.rig.specs.Happened.{IsTold}
use Rattle.rig.specs.Joins.{unit_rows}
use Rattle.rig.specs.RigState.{RigState}
use Rattle.rig.specs.Seating.{Seats}
use Rattle.rig.specs.Trail.{Determines, ReadsAmong}
use Rattle.rig.specs.declared.event.Tally.{Tally}
use Rattle.rig.specs.declared.rig.SeatAnswer.TheVariants.{Absent}
use Rattle.rig.specs.declared.unit.Row.{Row}
use Rattle.wirelist.specs.Clusters.{cluster_classes}
use Rattle.wirelist.specs.Ranges.{OutcomeInRange}
use Rattle.wirelist.specs.declared.outcome.Outcome.{Outcome}
use Rattle.wirelist.specs.declared.program.Program.{Program}
use Rattle.applications.specs.Measuring.{EndsCharged, EndsOpen, IsNotCharged}
use Rattle.applications.specs.Ordered.{IsInOrder, IsStuckInOrder}
use Rattle.unit_outcome.specs.Defined.{charged_of, outcome_of}
use Rattle.unit_outcome.specs.Enough.{Enough, stated_classes}
use Rattle.unit_outcome.specs.Found.{HasOutcome, StopsSo, told_by}
use Rattle.unit_outcome.specs.Shown.{Shows}
use Rattle.unit_outcome.specs.Spent.{OfRows, Spends}
use Rattle.unit_outcome.specs.declared.run.UnitRun.{UnitRun}
use Rattle.unit_outcome.specs.declared.run.UnitStop.{UnitStop}
use Rattle.unit_outcome.specs.declared.run.UnitStop.TheVariants.{Empty, InterlockOpen, NotDischarged, RigFault, NotZero, Memory}

-- ---- at every exit

-- a count that stops at the last value of its counter has not fallen
abbrev pub HasNotFallen : ℕ → ℕ → Type 0
HasNotFallen before now = min before (2 ^ 64 - 1) ≤ now

-- What the rig says of itself stays, and no count falls.
pub record Keeps (old new : RigState) : Type 0 where
  pub points : new.points ≡ old.points
  pub honest : new.honest ≡ old.honest
  pub units : new.units ≡ old.units
  pub states : new.states ≡ old.states
  pub most_faults : new.most_faults ≡ old.most_faults
  pub most_opens : new.most_opens ≡ old.most_opens
  pub trail : is_some new.trail ≡ is_some old.trail
  pub tallies : is_some new.tallies ≡ is_some old.tallies
  pub faults : old.faults ≤ new.faults
  pub opens : HasNotFallen old.opens new.opens
  pub spent : old.spent ≤ new.spent
  pub seats : HasNotFallen old.seats new.seats
  pub told : IsTold new

-- the seated unit is the first of the list with this serial and attempt
abbrev pub HasUnit : List ℕ → ℕ → RigState → RigState → Type 0
HasUnit serial attempt old new = IfSome old.units (λ units. (rows : List Row) × (unit_rows units serial attempt ≡ Some rows) × (new.truth ≡ Some rows))

-- the tallies before are the beginning of those after, and one more follows, of which P holds
abbrev pub AddsTally : (Tally → Type 0) → RigState → RigState → Type 0
AddsTally P old new = MatchOption old.tallies (new.tallies ≡ None) (λ tallies. (tally : Tally) × (new.tallies ≡ Some (tallies ++ tally ∷ [])) × P tally)

-- it is of this serial and attempt
abbrev pub IsTallyOf : List ℕ → ℕ → Tally → Type 0
IsTallyOf serial attempt tally = (tally.serial ≡ serial) × (tally.attempt ≡ attempt)

-- the trail is in the order of high voltage and ended at zero
abbrev pub IsInOrderOf : Program → RigState → Type 0
IsInOrderOf p state = IsInOrder (programmed_of p.nets) (cluster_classes p) state

-- ---- a unit with an outcome

pub record IsTested (p : Program) (serial : List ℕ) (attempt : ℕ) (old new : RigState) (outcome : Outcome) : Type 0 where
  pub keeps : Keeps old new
  pub unit : HasUnit serial attempt old new
  -- of an honest rig the outcome is the defined one of the seated unit, which does not stay charged
  pub truth : OfRows new (λ rows. (outcome ≡ outcome_of p rows) × (charged_of p rows ≡ None))
  pub told : IfSome (told_by p old) (λ findings. HasOutcome (findings serial attempt) outcome)
  pub in_range : OutcomeInRange outcome
  -- the readings determine the partition that is stated, and are of points that count
  pub determined : Determines new (stated_classes p outcome)
  pub judged : IfSome new.trail (All (ReadsAmong (programmed_of p.nets)))
  -- and the trail shows the rest of the outcome
  pub shown : IfSome new.trail (Shows p outcome)
  -- the tally of this seating counts enough for it
  pub tally : AddsTally (λ tally. IsTallyOf serial attempt tally × Enough p outcome tally) old new
  pub spent : Spends p outcome old new
  pub at_zero : new.volts ≡ 0
  pub order : IsInOrderOf p new
  -- the trail does not end with a residual above 30 volts after 100 ticks
  pub not_charged : IfSome new.trail IsNotCharged

-- ---- a unit without one

abbrev pub stopped_rig : {R : Type 0} → UnitStop R → R
stopped_rig (Empty rig) = rig
stopped_rig (InterlockOpen rig) = rig
stopped_rig (NotDischarged rig volts) = rig
stopped_rig (RigFault rig) = rig
stopped_rig (NotZero stuck) = stuck
stopped_rig (Memory rig) = rig

-- The seat was refused: the trail, the tallies and the readings stay as they were.
pub record IsRefused (old new : RigState) : Type 0 where
  pub frame : new ≡ record old { faults = new.faults; spare = new.spare; seats = new.seats; seated = false }

-- The seat answered that the unit is there; the trail and the last tally are of this seating.
pub record IsBegun (p : Program) (serial : List ℕ) (attempt : ℕ) (old new : RigState) : Type 0 where
  pub unit : HasUnit serial attempt old new
  pub judged : IfSome new.trail (All (ReadsAmong (programmed_of p.nets)))
  pub tally : AddsTally (IsTallyOf serial attempt) old new

-- it was stopped with the source at zero; the trail does not end with a residual above 30 volts after 100 ticks
pub record StopsAtZero (p : Program) (serial : List ℕ) (attempt : ℕ) (old new : RigState) : Type 0 where
  pub begun : IsBegun p serial attempt old new
  pub at_zero : new.volts ≡ 0
  pub order : IsInOrderOf p new
  pub not_charged : IfSome new.trail IsNotCharged

-- the seat answered that there is no such unit
abbrev pub IsEmpty : List ℕ → ℕ → RigState → RigState → Type 0
IsEmpty serial attempt old new = Seats old new serial attempt (Ok Absent)

-- the last interlock reading was open
pub record IsOpen (p : Program) (serial : List ℕ) (attempt : ℕ) (old new : RigState) : Type 0 where
  pub stops : StopsAtZero p serial attempt old new
  pub door : IfSome new.trail EndsOpen
  pub opens : Rose old.opens new.opens

-- the last event is a residual of so many volts, above 30, after at least 100 ticks; of an honest rig they are those of the unit's charge
pub record IsCharged (p : Program) (serial : List ℕ) (attempt : ℕ) (old new : RigState) (volts : ℕ) : Type 0 where
  pub begun : IsBegun p serial attempt old new
  pub at_zero : new.volts ≡ 0
  pub order : IsInOrderOf p new
  pub ends : IfSome new.trail (λ trail. EndsCharged trail volts)
  pub truth : OfRows new (λ rows. charged_of p rows ≡ Some volts)

-- three zero calls failed
pub record IsNotAtZero (p : Program) (serial : List ℕ) (attempt : ℕ) (old new : RigState) : Type 0 where
  pub begun : IsBegun p serial attempt old new
  pub order : IsStuckInOrder (programmed_of p.nets) (cluster_classes p) new
  pub not_charged : IfSome new.trail IsNotCharged
  pub rose : Rose old.faults new.faults

-- at the seat, or later
abbrev pub IsCutOff : Program → List ℕ → ℕ → RigState → RigState → Type 0
IsCutOff p serial attempt old new = (IsRefused old new × (new.volts ≡ 0)) ⊎ StopsAtZero p serial attempt old new

-- why there is no outcome
abbrev pub HasStopCause : {R : Type 0} → (R → RigState) → Program → List ℕ → ℕ → RigState → UnitStop R → Type 0
HasStopCause state p serial attempt old (Empty rig) = IsEmpty serial attempt old (state rig) × ((state rig).volts ≡ 0)
HasStopCause state p serial attempt old (InterlockOpen rig) = IsOpen p serial attempt old (state rig)
HasStopCause state p serial attempt old (NotDischarged rig volts) = IsCharged p serial attempt old (state rig) volts
HasStopCause state p serial attempt old (RigFault rig) = IsCutOff p serial attempt old (state rig) × Rose old.faults (state rig).faults
HasStopCause state p serial attempt old (NotZero stuck) = IsNotAtZero p serial attempt old (state stuck)
HasStopCause state p serial attempt old (Memory rig) = IsCutOff p serial attempt old (state rig)

pub record IsStopped {R : Type 0} (state : R → RigState) (p : Program) (serial : List ℕ) (attempt : ℕ) (old : RigState) (stop : UnitStop R) : Type 0 where
  pub keeps : Keeps old (state (stopped_rig stop))
  pub cause : HasStopCause state p serial attempt old stop
  pub told : IfSome (told_by p old) (λ findings. StopsSo (findings serial attempt) stop)

-- ---- both

abbrev pub RunsUnit : {R : Type 0} → (R → RigState) → Program → List ℕ → ℕ → RigState → Result (UnitRun R) (UnitStop R) → Type 0
RunsUnit state p serial attempt old (Ok run) = IsTested p serial attempt old (state run.rig) run.outcome
RunsUnit state p serial attempt old (Err stop) = IsStopped state p serial attempt old stop
