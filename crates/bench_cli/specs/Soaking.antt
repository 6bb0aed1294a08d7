-- `soak`: two units of known wiring are tested after each other, and the line states their verdicts.
--     SoaksPair n given ..      how its own work ends
--     IsSoaking n run ..        what it promises
use Rattle.std.specs.Prelude.{◌≡◌, ◌⊎◌, ◌<◌, ℕ, List, codes, Option, Some}
use Rattle.base.specs.Causes.{Rose}
use Rattle.rig.specs.Happened.{IsBelowLast}
use Rattle.rig_sim.specs.SimRig.{SimState}
use Rattle.soak_pair.specs.Pair.{soak_line}
use Rattle.soak.specs.Soaked.{IsSoaked, StopsSoak, EndsInOrder, EndsStuck}
use Rattle.soak.specs.declared.run.SoakStop.TheVariants as stop
use Rattle.bench_cli.specs.Closing.{Sunk, Wrote, WroteSome, Closes, ClosesWith, IsUnasked, LacksMemory, rig_fault_line}
use Rattle.bench_cli.specs.UnitEnds.{PrintEnds}
use Rattle.bench_cli.specs.Run.{Run, Given, nothing, simulator, both}
use Rattle.bench_cli.specs.Told.{Is}

abbrev pub not_at_zero_line : List ℕ
not_at_zero_line = codes "source not at zero\n"

pub data SoakEnds (n : ℕ) (sunk : Sunk) : ℕ → Option SimState → Type 0 where
  -- both units were tested; the line was written, or a write failed in it, or memory ran out
  soaked : {status : ℕ} → (sim : SimState) → IsSoaked n sim.state → PrintEnds sunk (soak_line n) status → SoakEnds n sunk status (Some sim)
  -- the rig failed
  rig_failed : {status : ℕ} → (sim : SimState) → StopsSoak n (stop.RigFault sim) → ClosesWith sunk rig_fault_line 15 status → SoakEnds n sunk status (Some sim)
  -- three zero calls failed; nothing changes this status
  not_at_zero : (sim : SimState) → StopsSoak n (stop.NotZero sim) → Closes sunk not_at_zero_line ⊎ LacksMemory sunk not_at_zero_line
      → SoakEnds n sunk 10 (Some sim)
  -- memory ran out before both were tested
  no_memory : (rig : Option SimState) → StopsSoak n (stop.Memory rig) → IsUnasked sunk → SoakEnds n sunk 9 rig

abbrev pub SoaksPair : ℕ → Given → Sunk → ℕ → Option SimState → Type 0
SoaksPair n nothing sunk status rig = SoakEnds n sunk status rig
SoaksPair n (simulator sim) sunk status rig = ⊥
SoaksPair n (both sim p) sunk status rig = ⊥

pub record IsSoaking (n : ℕ) (run : Run) (status : ℕ) (rig : Option SimState) : Type 0 where
  -- 0: the line states the verdicts of the defined outcomes; the rig was made of the pair's harness, has a tally that is enough for each
  -- unit, and the trail of BAD 1
  pub soaked : status ≡ 0 → (sim : SimState) × (rig ≡ Some sim) × IsSoaked n sim.state × Wrote run.sunk (soak_line n)
  -- 7 only where a write failed, in the line, after the last call of the rig
  pub write_fault : status ≡ 7 → (sim : SimState) × (rig ≡ Some sim) × IsSoaked n sim.state
      × Rose run.sunk.faults run.sunk.faults_after × WroteSome run.sunk (soak_line n)
  -- 15 and 10 only where the rig counted a fault, of which there were none
  pub rig_fault : (status ≡ 15) ⊎ (status ≡ 10) → (sim : SimState) × (rig ≡ Some sim) × (0 < sim.state.faults)
  -- the trail of the rig is in the order of high voltage, and ended at zero, or with 10 after three zero calls that failed
  pub in_order : (sim : SimState) → rig ≡ Some sim → IsSoaked n sim.state ⊎ (EndsInOrder n sim.state ⊎ ((status ≡ 10) × EndsStuck n sim.state))
  -- with 10 it ended after three zero calls that failed
  pub stuck : status ≡ 10 → (sim : SimState) × (rig ≡ Some sim) × EndsStuck n sim.state
  -- without a failed write, and with counts of the rig that can still rise, the line is written, unless memory runs out
  pub complete : (Rose run.sunk.faults run.sunk.faults_after → ⊥)
      → ((sim : SimState) → rig ≡ Some sim → IsBelowLast sim.state.spent × IsBelowLast sim.state.seats) → Is 0 status
