use Rattle.std.proofs.Common.{sym, subst}
use Rattle.std.specs.Prelude.{IfOk, IfSome, IsTrue, ◌↔◌}
use Rattle.rig.specs.Calls.{AreGroups, AreJoined}
use Rattle.rig_sim.specs.SimRig.{SimState, rows_of}
use Rattle.rig_sim.proofs.SimLemmas.{rows_below, met_of}
use Rattle.rig_sim.proofs.sim_rig.SimRig.read_groups.Goals as goal

pub returns : goal.returns
returns c =
    let a = c.self.inside in
    let groups = subst (λ (s : SimState). AreGroups s.state.points c.args.a.now c.args.b.now) (sym c.self.view_is) c.requires in
    subst (λ (s : SimState). IfOk c.meets.result (λ met. IfSome s.state.truth (λ rows. IsTrue met ↔ AreJoined rows c.args.a.now c.args.b.now))) c.self.view_is
    (met_of c.meets.result (rows_of a.units a.place) a.classes c.args.a.now c.args.b.now a.points (rows_below a.units a.points a.place c.self.invariant.units) c.self.invariant.joined groups c.meets.ensures)
