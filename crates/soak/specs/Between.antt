-- What is known between the two units of a soak, and at a stop.
--     IsGood n p state outcome      GOOD 1 was tested
--     StopsOne n stop               one of the units has no outcome
use Rattle.std.specs.Prelude.{◌≡◌, ℕ, List, codes, Some, None}
use Rattle.rig.specs.Joins.{unit_rows}
use Rattle.rig.specs.RigState.{RigState}
use Rattle.rig.specs.declared.unit.Row.{Row}
use Rattle.rig_sim.specs.SimRig.{SimState, IsNew}
use Rattle.wirelist.specs.declared.outcome.Outcome.{Outcome}
use Rattle.wirelist.specs.declared.program.Program.{Program}
use Rattle.unit_outcome.specs.Defined.{charged_of}
use Rattle.unit_outcome.specs.Tested.{Keeps, IsTested, IsStopped}
use Rattle.unit_outcome.specs.declared.run.UnitStop.{UnitStop}
use Rattle.soak_pair.specs.Pair.{soak_program, soak_rows, soak_units}
use Rattle.soak.specs.Soaked.{EndsInOrder}

pub record IsGood (n : ℕ) (p : Program) (state : RigState) (outcome : Outcome) : Type 0 where
  pub program : p ≡ soak_program n
  pub began : SimState
  pub new : IsNew (soak_rows n) began
  pub good : IsTested p (codes "GOOD") 1 began.state state outcome

-- the rig was so before the test of one of the units, which stays without a charge
pub record StopsOne (n : ℕ) (stop : UnitStop SimState) : Type 0 where
  pub began : SimState
  pub new : IsNew (soak_rows n) began
  pub old : RigState
  pub keeps : Keeps began.state old
  pub order : EndsInOrder n old
  pub serial : List ℕ
  pub rows : List Row
  pub unit : unit_rows (soak_units n) serial 1 ≡ Some rows
  pub uncharged : charged_of (soak_program n) rows ≡ None
  pub stopped : IsStopped (λ (sim : SimState). sim.state) (soak_program n) serial 1 old stop
