-- How many group readings the test of a unit takes.
--     Spends p outcome old new    exactly those that show the programmed wiring, or at most those that a diagnosis takes after them
use Rattle.std.specs.Prelude.{◌≡◌, ℕ, ◌+◌, ◌≤◌, List, IfSome, IsSome, IsTrue}
use Rattle.partition.specs.NetTable.{judged_points, programmed_of}
use Rattle.partition.specs.Partitions.{IsOver, JoinsAllOf}
use Rattle.difference.specs.Rebuild.{rebuilt}
use Rattle.difference.specs.declared.wiring.Difference.{Difference}
use Rattle.rig.specs.Joins.{truth_of}
use Rattle.rig.specs.RigState.{RigState}
use Rattle.rig.specs.declared.unit.Row.{Row}
use Rattle.wirelist.specs.declared.outcome.Outcome.{Outcome}
use Rattle.wirelist.specs.declared.outcome.Outcome.TheVariants.{Pass, Wiring, Parts, Insulation, Withstand}
use Rattle.wirelist.specs.declared.program.Program.{Program}
use Rattle.isolate.specs.Pieces.{AreMeetings, most_diagnosing}
use Rattle.unit_outcome.specs.Enough.{checking_readings, class_count, judged_count, net_classes}

-- what an honest rig that tells its events says of the rows of the seated unit
abbrev pub OfRows : RigState → (List Row → Type 0) → Type 0
OfRows state P = IsTrue state.honest → IsSome state.trail → IfSome state.truth P

-- The nets were parted into pieces, each of one net and of one class of the stated partition, and no more readings were made than
-- those that show the programmed wiring and those that so many pieces take. Of an honest rig's unit the pieces are the meetings
-- of its nets and its classes.
pub record Diagnoses (p : Program) (old new : RigState) (d : Difference) : Type 0 where
  pub pieces : List ℕ
  pub over : IsOver (programmed_of p.nets) pieces
  pub of_nets : JoinsAllOf (programmed_of p.nets) pieces
  pub of_classes : JoinsAllOf (rebuilt p.nets d) pieces
  pub some : net_classes p ≤ class_count pieces
  pub few : class_count pieces ≤ judged_count p
  pub at_most : new.spent ≤ old.spent
      + (checking_readings p + most_diagnosing (judged_count p) (net_classes p) (class_count pieces) (class_count (rebuilt p.nets d)))
  pub own : OfRows new (λ rows. AreMeetings (programmed_of p.nets) (truth_of rows (judged_points p.nets) p.nets.points) pieces)

-- exactly the readings that show the programmed wiring
abbrev pub Checks : Program → RigState → RigState → Type 0
Checks p old new = new.spent ≡ old.spent + checking_readings p

abbrev pub Spends : Program → Outcome → RigState → RigState → Type 0
Spends p (Wiring d) old new = Diagnoses p old new d
Spends p Pass old new = Checks p old new
Spends p (Parts faults) old new = Checks p old new
Spends p (Insulation faults) old new = Checks p old new
Spends p (Withstand bit volts leak) old new = Checks p old new
