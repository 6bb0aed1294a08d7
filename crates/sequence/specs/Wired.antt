-- What reading the wiring of a unit leaves.
--     ReadsWiring p old new stop       readings of points that count, up to a refusal, if there was one
--     Wires state p n old wiring       what they show, after n readings of continuity and isolation
--     StopsReading state p old stop    a call was refused
use Rattle.std.specs.Prelude.{◌≡◌, ◌≤◌, ℕ, ◌+◌, List, All, Option, Some, None, IfSome}
use Rattle.partition.specs.NetTable.{judged_points, programmed_of}
use Rattle.partition.specs.Partitions.{IsOver, JoinsAllOf}
use Rattle.difference.specs.Difference.{difference_of}
use Rattle.difference.specs.declared.wiring.Difference.{Difference}
use Rattle.rig.specs.Joins.{truth_of}
use Rattle.rig.specs.Readings.{Reads}
use Rattle.rig.specs.RigState.{RigState}
use Rattle.rig.specs.Trail.{Agrees, ReadsAmong}
use Rattle.rig.specs.declared.rig.RigStop.{RigStop}
use Rattle.rig.specs.declared.rig.RigStop.TheVariants.{Failed}
use Rattle.wirelist.specs.declared.program.Program.{Program}
use Rattle.learn.specs.Learned.{IsLearned}
use Rattle.isolate.specs.Counts.{ReadsJudged}
use Rattle.isolate.specs.Pieces.{AreMeetings, most_diagnosing}
use Rattle.unit_outcome.specs.Enough.{class_count, judged_count, net_classes}
use Rattle.unit_outcome.specs.Spent.{OfRows}
use Rattle.unit_outcome.specs.declared.run.UnitStop.{UnitStop}
use Rattle.unit_outcome.specs.declared.run.UnitStop.TheVariants.{Empty, InterlockOpen, NotDischarged, RigFault, NotZero, Memory}
use Rattle.sequence.specs.declared.wiring.Wiring.{Wiring}
use Rattle.sequence.specs.declared.wiring.Wiring.TheVariants.{AsProgrammed, Differs}

-- only points that count were read
abbrev pub IsOfJudged : Program → RigState → Type 0
IsOfJudged p state = IfSome state.trail (All (ReadsAmong (programmed_of p.nets)))

-- the readings so far do not agree with the programmed partition
abbrev pub Contradicts : Program → RigState → Type 0
Contradicts p state = Agrees state (programmed_of p.nets) → ⊥

-- readings of points that count, up to the one that was refused, if one was
pub record ReadsWiring (p : Program) (old new : RigState) (stop : Option RigStop) : Type 0 where
  pub reads : Reads old new stop
  pub judged : ReadsJudged (programmed_of p.nets) old new

-- exactly n readings, which determine the programmed partition
pub record IsAsProgrammed (p : Program) (n : ℕ) (old new : RigState) : Type 0 where
  pub wiring : ReadsWiring p old new None
  pub learned : IsLearned new (programmed_of p.nets)
  pub spent : new.spent ≡ old.spent + n

-- The readings determine a partition, whose difference from the nets this is. After at most n of them the nets were parted into pieces.
-- An honest rig's unit is not as programmed.
pub record IsDifferent (p : Program) (n : ℕ) (old new : RigState) (d : Difference) : Type 0 where
  pub wiring : ReadsWiring p old new None
  pub measured : List ℕ
  pub learned : IsLearned new measured
  pub over : IsOver (programmed_of p.nets) measured
  pub difference_is : d ≡ difference_of p.nets measured
  pub at_least : old.spent + judged_count p ≤ new.spent + class_count measured
  pub pieces : List ℕ
  pub of_all : IsOver (programmed_of p.nets) pieces
  pub of_nets : JoinsAllOf (programmed_of p.nets) pieces
  pub of_classes : JoinsAllOf measured pieces
  pub some : net_classes p ≤ class_count pieces
  pub few : class_count pieces ≤ judged_count p
  pub at_most : new.spent ≤ old.spent + (n + most_diagnosing (judged_count p) (net_classes p) (class_count pieces) (class_count measured))
  pub own : OfRows new (λ rows. AreMeetings (programmed_of p.nets) (truth_of rows (judged_points p.nets) p.nets.points) pieces)
  pub faulty : OfRows new (λ rows. measured ≡ programmed_of p.nets → ⊥)

abbrev pub Wires : {R : Type 0} → (R → RigState) → Program → ℕ → RigState → Wiring R → Type 0
Wires state p n old (AsProgrammed proven) = (proven.partition ≡ programmed_of p.nets) × IsAsProgrammed p n old (state proven.rig)
Wires state p n old (Differs rig d) = IsDifferent p n old (state rig) d

-- they show a difference, for which nothing else was read
abbrev pub ShowsDifference : {R : Type 0} → (R → RigState) → Program → RigState → Wiring R → Type 0
ShowsDifference state p old (AsProgrammed proven) = ⊥
ShowsDifference state p old (Differs rig d) = IsDifferent p 0 old (state rig) d

abbrev pub StopsReading : {R : Type 0} → (R → RigState) → Program → RigState → UnitStop R → Type 0
StopsReading state p old (Empty rig) = ⊥
StopsReading state p old (InterlockOpen rig) = ⊥
StopsReading state p old (NotDischarged rig volts) = ⊥
StopsReading state p old (RigFault rig) = ReadsWiring p old (state rig) (Some Failed)
StopsReading state p old (NotZero stuck) = ⊥
StopsReading state p old (Memory rig) = (stop : Option RigStop) × ReadsWiring p old (state rig) stop
