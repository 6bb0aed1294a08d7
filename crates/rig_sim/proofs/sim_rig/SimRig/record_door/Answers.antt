use Rattle.std.proofs.Common.{◌≡◌, Bool, true, false, refl}
use Rattle.std.specs.Prelude.{IsTrue, not, ◌↔◌}
use Rattle.rig_sim.proofs.SimLemmas.{sim_told, sim_same, sim_door}
use Rattle.rig_sim.proofs.sim_rig.SimRig.record_door.Goals as goal

open_of : (next : Bool) (Next : Type 0) → IsTrue next ↔ Next → not next ≡ false → Next
open_of true Next told e = told.0 refl
open_of false Next told e = cc

pub returns-in_err-add-clause-told : goal.returns-in_err-add-clause-told
returns-in_err-add-clause-told c = sim_same c.self.inside c.add.new.self c.in_err-add.ensures.err c.self.invariant

pub returns-clause-told : goal.returns-clause-told
returns-clause-told c =
    let a = c.self.inside in
    sim_told (record a { calls = c.count.new.self; doors = c.count-2.new.self; log = c.add.new.self })
    (sim_door a c.count.new.self c.count-2.new.self c.add.new.self _ c.self.invariant c.count.ensures.counted c.count.ensures.kept c.in_ok-add.ensures.ok c.count-2.ensures.counted c.count-2.ensures.kept c.count-2.ensures.next
    (open_of c.is_next-closed.result _ c.is_next-closed.ensures))
