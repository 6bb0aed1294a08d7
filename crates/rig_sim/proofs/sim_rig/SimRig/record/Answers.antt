use Rattle.std.proofs.Common.{◌≡◌, subst, arith}
use Rattle.rig_sim.specs.SimRig.{SimState, with_call}
use Rattle.rig_sim.specs.SimView.{sim_state}
use Rattle.rig_sim.proofs.SimLemmas.{sim_told, sim_same, sim_event, record_is, opens_plain}
use Rattle.rig_sim.proofs.sim_rig.SimRig.record.Goals as goal

pub returns-in_err-add-clause-told : goal.returns-in_err-add-clause-told
returns-in_err-add-clause-told c = sim_same c.self.inside c.add.new.self c.in_err-add.ensures.err c.self.invariant

pub returns-clause-told : goal.returns-clause-told
returns-clause-told c =
    let a = c.self.inside in
    let opens = opens_plain a.log.meter.opens c.args.event c.requires.plain in
    let few = c.self.invariant.few_opens in
    sim_told (record a { calls = c.count.new.self; log = c.add.new.self })
    (sim_event a c.count.new.self a.doors c.add.new.self a.route c.args.event a.log.trail.spare c.self.invariant c.count.ensures.counted c.count.ensures.kept c.in_ok-add.ensures.ok (omega arith) c.self.invariant.room c.self.invariant.routed)

pub returns-clause-ok : goal.returns-clause-ok
returns-clause-ok c =
    let a = c.self.inside in
    subst (λ (s : SimState). sim_state (record a { calls = c.count.new.self; log = c.add.new.self }) ≡ with_call c.args.event s.state.spare s) c.self.view_is
    (record_is a c.count.new.self c.add.new.self c.args.event c.requires.plain c.count.ensures.counted c.in_ok-add.ensures.ok)
