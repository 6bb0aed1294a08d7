use Rattle.std.proofs.Common.{subst}
use Rattle.rig.specs.Happened.{IsTold}
use Rattle.rig_sim.specs.SimRig.{SimState}
use Rattle.rig_sim.proofs.SimLemmas.{sim_told}
use Rattle.rig_sim.proofs.sim_rig.SimRig.fails.Goals as goal

pub returns-clause-told : goal.returns-clause-told
returns-clause-told c = subst (λ (s : SimState). IsTold s.state) c.self.view_is (sim_told c.self.inside c.self.invariant)
