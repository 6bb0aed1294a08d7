use Rattle.std.proofs.Common.{◌≡◌, ◌-◌, refl, sym, subst, arith}
use Rattle.std.specs.Prelude.{false}
use Rattle.rig.specs.declared.event.Event.TheVariants.{Zero}
use Rattle.rig_sim.specs.Counters.{IsNext}
use Rattle.rig_sim.specs.SimRig.{SimState}
use Rattle.rig_sim.proofs.SimLemmas.{sim_told, sim_command}
use Rattle.rig_sim.proofs.sim_rig.SimRig.record_zero.Goals as goal

pub returns-clause-told : goal.returns-clause-told
returns-clause-told c =
    let a = c.self.inside in
    let room = c.self.invariant.room in
    sim_told (record a { calls = c.count.new.self; log = c.add_zero.new.self; faults = c.faults_after-self-inside.result })
    (sim_command a c.count.new.self c.add_zero.new.self c.faults_after-self-inside.result c.args.done (Zero c.args.done) (a.log.trail.spare - 1) c.self.invariant c.count.ensures.counted c.count.ensures.kept c.count.ensures.next
    (subst (λ (s : SimState). c.args.done ≡ false → IsNext s.calls) (sym c.self.view_is) c.requires.failed) c.faults_after-self-inside.ensures c.add_zero.ensures refl (omega arith))
