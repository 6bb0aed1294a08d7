use Rattle.std.proofs.Common.{sym, subst}
use Rattle.applications.proofs.one_application.Together.{IfOk-map}
use Rattle.harness.specs.Harness.{IsSound, IsOfRows}
use Rattle.rig_sim.specs.SimRig.{IsNew}
use Rattle.soak_pair.specs.Pair.{soak_rows}
use Rattle.soak_pair.proofs.SoakUnits.{soak_harness, sound, of_rows}
use Rattle.soak_pair.proofs.units.soak_rig.Goals as goal

pub of_harness-requires : goal.of_harness-requires
of_harness-requires c = subst IsSound (sym c.in_ok-harness.ensures) (sound c.args.points c.requires.few c.requires.some)

pub returns : goal.returns
returns c =
    let n = c.args.points in
    IfOk-map c.of_harness.result _ (IsNew (soak_rows n)) (λ sim new. new (soak_rows n) (subst (IsOfRows (soak_rows n)) (sym c.in_ok-harness.ensures) (of_rows n))) c.of_harness.ensures.rows
