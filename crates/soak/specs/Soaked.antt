-- What is known after the two units of a soak were run.
--     IsSoaked n state      both were tested, and the rig is that of the last
--     StopsSoak n stop      why one of them has no outcome
use Rattle.std.specs.Prelude.{◌≡◌, ◌⊎◌, ℕ, ◌<◌, List, [], ◌∷◌, codes, Option, Some, None, ⊤}
use Rattle.partition.specs.NetTable.{programmed_of}
use Rattle.rig.specs.RigState.{RigState}
use Rattle.rig.specs.declared.event.Tally.{Tally}
use Rattle.wirelist.specs.Clusters.{cluster_classes}
use Rattle.applications.specs.Ordered.{IsInOrder, IsStuckInOrder}
use Rattle.rig_sim.specs.SimRig.{SimState, IsNew}
use Rattle.unit_outcome.specs.Enough.{Enough}
use Rattle.unit_outcome.specs.Tested.{Keeps, IsTested, IsTallyOf}
use Rattle.soak_pair.specs.Pair.{soak_program, soak_rows, good_outcome, bad_outcome}
use Rattle.soak.specs.declared.run.SoakStop.{SoakStop}
use Rattle.soak.specs.declared.run.SoakStop.TheVariants.{RigFault, NotZero, Memory}

-- the rig is a simulator of the pair, on which calls were made
pub record IsOfPair (n : ℕ) (state : RigState) : Type 0 where
  pub began : SimState
  pub new : IsNew (soak_rows n) began
  pub keeps : Keeps began.state state

-- GOOD 1 and then BAD 1 were tested on one new simulator of the pair. Of each seating there is a tally that counts enough for its outcome,
-- and the trail is that of BAD 1.
pub record IsSoaked (n : ℕ) (state : RigState) : Type 0 where
  pub began : SimState
  pub between : RigState
  pub new : IsNew (soak_rows n) began
  pub good : IsTested (soak_program n) (codes "GOOD") 1 began.state between (good_outcome n)
  pub bad : IsTested (soak_program n) (codes "BAD") 1 between state (bad_outcome n)
  pub good_tally : Tally
  pub bad_tally : Tally
  pub tallies : state.tallies ≡ Some (good_tally ∷ bad_tally ∷ [])
  pub of_good : IsTallyOf (codes "GOOD") 1 good_tally
  pub of_bad : IsTallyOf (codes "BAD") 1 bad_tally
  pub enough_for_good : Enough (soak_program n) (good_outcome n) good_tally
  pub enough_for_bad : Enough (soak_program n) (bad_outcome n) bad_tally

-- the trail is in the order of high voltage of the program and ended at zero, or no unit was seated yet
abbrev pub EndsInOrder : ℕ → RigState → Type 0
EndsInOrder n state = (state.trail ≡ Some []) ⊎ IsInOrder (programmed_of (soak_program n).nets) (cluster_classes (soak_program n)) state

-- it ended with three zero calls that failed
abbrev pub EndsStuck : ℕ → RigState → Type 0
EndsStuck n state = IsStuckInOrder (programmed_of (soak_program n).nets) (cluster_classes (soak_program n)) state

-- The rig fails only where its count of faults rose, which was none.
abbrev pub StopsSoak : ℕ → SoakStop → Type 0
StopsSoak n (RigFault sim) = IsOfPair n sim.state × (0 < sim.state.faults) × EndsInOrder n sim.state
StopsSoak n (NotZero sim) = IsOfPair n sim.state × (0 < sim.state.faults) × EndsStuck n sim.state
StopsSoak n (Memory None) = ⊤
StopsSoak n (Memory (Some sim)) = IsOfPair n sim.state × EndsInOrder n sim.state
