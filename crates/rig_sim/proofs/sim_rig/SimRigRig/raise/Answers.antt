use Rattle.std.proofs.Common.{ap}
use Rattle.std.specs.Prelude.{not}
use Rattle.rig_sim.proofs.SimLemmas.{raises_failed, raises_done}
use Rattle.rig_sim.proofs.sim_rig.SimRigRig.raise.Goals as goal

pub returns-then-fails-clause-raises : goal.returns-then-fails-clause-raises
returns-then-fails-clause-raises c =
    raises_failed c.args.self.now c.record_raise.new.self c.args.volts _ (ap not c.if-fails.true) c.in_ok-record_raise.ensures.ok c.in_ok-record_raise.ensures.told c.in_ok-record_raise.ensures.later c.in_ok-record_raise.ensures.room

pub returns-else-fails-clause-raises : goal.returns-else-fails-clause-raises
returns-else-fails-clause-raises c =
    raises_done c.args.self.now c.record_raise.new.self c.args.volts _ (ap not c.if-fails.false) c.in_ok-record_raise.ensures.ok c.in_ok-record_raise.ensures.told c.in_ok-record_raise.ensures.room
