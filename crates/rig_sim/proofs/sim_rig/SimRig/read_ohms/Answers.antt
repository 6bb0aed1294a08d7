use Rattle.std.proofs.Common.{◌≡◌, sym, subst}
use Rattle.std.specs.Prelude.{IfSome}
use Rattle.rig.specs.Values.{ohms_of}
use Rattle.rig_sim.specs.Fixture.{ohms_by}
use Rattle.rig_sim.specs.SimRig.{SimState, rows_of}
use Rattle.rig_sim.proofs.SimLemmas.{by_truth}
use Rattle.rig_sim.proofs.sim_rig.SimRig.read_ohms.Goals as goal

pub returns : goal.returns
returns c =
    let a = c.self.inside in
    let shown = subst (λ (s : SimState). IfSome s.state.truth (λ rows. c.rows.result.now ≡ rows)) (sym c.self.view_is) c.rows.ensures.truth in
    subst (λ (s : SimState). IfSome s.state.truth (λ rows. c.ohms.result ≡ ohms_of rows s.state.points c.args.a c.args.b)) c.self.view_is
    (by_truth (rows_of a.units a.place) c.rows.result.now a.classes a.points (λ m rows. ohms_by m rows c.args.a c.args.b) c.ohms.result shown c.self.invariant.joined c.ohms.ensures)
