use Rattle.std.proofs.Common.{rules}
use Rattle.rig_sim.proofs.SimLemmas.{sim_told}
use Rattle.rig_sim.proofs.sim_rig.SimRig.fail.Goals as goal

pub returns-clause-told : goal.returns-clause-told
returns-clause-told c = sim_told (record c.self.inside { calls = c.count.new.self; faults = c.saturating_add-self-inside.result }) (search rules)
