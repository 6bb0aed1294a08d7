use Rattle.std.proofs.Common.{◌≡◌, refl, sym, subst, arith}
use Rattle.std.specs.Prelude.{false}
use Rattle.rig.specs.declared.event.Event.TheVariants.{Raise}
use Rattle.rig_sim.specs.Counters.{IsNext}
use Rattle.rig_sim.specs.SimRig.{SimState}
use Rattle.rig_sim.proofs.SimLemmas.{sim_told, sim_same, sim_command}
use Rattle.rig_sim.proofs.sim_rig.SimRig.record_raise.Goals as goal

pub returns-in_err-add_with_room-clause-told : goal.returns-in_err-add_with_room-clause-told
returns-in_err-add_with_room-clause-told c = sim_same c.self.inside c.add_with_room.new.self c.in_err-add_with_room.ensures.err c.self.invariant

pub returns-clause-told : goal.returns-clause-told
returns-clause-told c =
    let a = c.self.inside in
    sim_told (record a { calls = c.count.new.self; log = c.add_with_room.new.self; faults = c.faults_after-self-inside.result })
    (sim_command a c.count.new.self c.add_with_room.new.self c.faults_after-self-inside.result c.args.done (Raise c.args.volts c.args.done) 3 c.self.invariant c.count.ensures.counted c.count.ensures.kept c.count.ensures.next
    (subst (λ (s : SimState). c.args.done ≡ false → IsNext s.calls) (sym c.self.view_is) c.requires.failed) c.faults_after-self-inside.ensures c.in_ok-add_with_room.ensures.ok refl (omega arith))
