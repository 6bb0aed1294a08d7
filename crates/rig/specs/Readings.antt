-- What calls that make group readings leave.
use Rattle.std.specs.Prelude.{◌≡◌, ◌↔◌, ◌-◌, ◌≤◌, ℕ, Bool, List, Option, Some, IsTrue, IfNone}
use Rattle.base.specs.Causes.{HasCause}
use Rattle.partition.specs.Partitions.{Meets}
use Rattle.rig.specs.declared.rig.RigStop.{RigStop}
use Rattle.rig.specs.declared.rig.RigStop.TheVariants.{Failed}
use Rattle.rig.specs.RigState.{RigState}
use Rattle.rig.specs.Trail.{Agrees, Extends, IsReading}
use Rattle.rig.specs.Happened.{IsTold}
use Rattle.rig.specs.Calls.{counted}

-- Any number of readings, up to the one that was refused, if one was.
pub record Reads (old new : RigState) (stop : Option RigStop) : Type 0 where
  -- nothing else is changed
  pub frame : new ≡ record old { faults = new.faults; spare = new.spare; spent = new.spent; trail = new.trail; tallies = new.tallies }
  pub cause : HasCause old.faults new.faults stop Failed
  -- where no reading failed, no fault was counted: so none is behind want of memory
  pub no_fault : (stop ≡ Some Failed → ⊥) → new.faults ≡ old.faults
  pub told : IsTold old → IsTold new
  pub spent : old.spent ≤ new.spent
  -- the trail before is the beginning of the trail after, and what follows are readings alone
  pub trail : Extends IsReading old.trail new.trail
  -- of the tallies, the last one alone counts more readings
  pub tallies : (n : ℕ) × (new.tallies ≡ counted n old.tallies)
  -- and as many as were spent, where none was refused
  pub answered : IfNone stop (new.tallies ≡ counted (new.spent - old.spent) old.tallies)

-- What one reading teaches: a partition that agrees with the trail after it agreed before it, and with the answer.
abbrev pub Teaches : RigState → RigState → List ℕ → List ℕ → Bool → Type 0
Teaches old new a b met = (classes : List ℕ) → Agrees new classes → Agrees old classes × (IsTrue met ↔ Meets classes a b)
