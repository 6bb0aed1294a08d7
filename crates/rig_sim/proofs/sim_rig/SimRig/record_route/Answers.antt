use Rattle.std.proofs.Common.{Some, sym, subst, arith}
use Rattle.rig.specs.Calls.{AreGroups}
use Rattle.rig.specs.Happened.{IsTold}
use Rattle.rig_sim.specs.declared.fixture.Route.{Route}
use Rattle.rig_sim.specs.SimRig.{SimState}
use Rattle.rig_sim.proofs.SimLemmas.{sim_told, sim_same, sim_event}
use Rattle.rig_sim.proofs.sim_rig.SimRig.record_route.Goals as goal

pub returns-in_err-route-clause-told : goal.returns-in_err-route-clause-told
returns-in_err-route-clause-told c = subst (λ (s : SimState). IsTold s.state) c.self.view_is (sim_told c.self.inside c.self.invariant)

pub returns-in_err-from_slice-clause-told : goal.returns-in_err-from_slice-clause-told
returns-in_err-from_slice-clause-told c = subst (λ (s : SimState). IsTold s.state) c.self.view_is (sim_told c.self.inside c.self.invariant)

pub returns-in_err-from_slice-2-clause-told : goal.returns-in_err-from_slice-2-clause-told
returns-in_err-from_slice-2-clause-told c = subst (λ (s : SimState). IsTold s.state) c.self.view_is (sim_told c.self.inside c.self.invariant)

pub returns-in_err-add_with_room-clause-told : goal.returns-in_err-add_with_room-clause-told
returns-in_err-add_with_room-clause-told c = sim_same c.self.inside c.add_with_room.new.self c.in_err-add_with_room.ensures.err c.self.invariant

pub returns-clause-told : goal.returns-clause-told
returns-clause-told c =
    let a = c.self.inside in
    let few = c.self.invariant.few_opens in
    let groups = subst (λ (s : SimState). AreGroups s.state.points c.args.a.now c.args.b.now) (sym c.self.view_is) c.requires.groups in
    let routed = subst (λ (r : Route). AreGroups a.points r.left r.right) (sym c.in_ok-route.ensures) groups in
    sim_told (record a { calls = c.count.new.self; log = c.add_with_room.new.self; route = Some c.in_ok-route.route })
    (sim_event a c.count.new.self a.doors c.add_with_room.new.self (Some c.in_ok-route.route) _ 3 c.self.invariant c.count.ensures.counted c.count.ensures.kept c.in_ok-add_with_room.ensures.ok few (omega arith) routed)
