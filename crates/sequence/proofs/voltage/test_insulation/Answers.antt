use Rattle.std.proofs.Common.{List, sym, subst, ◌∙◌, refl}
use Rattle.wirelist.specs.declared.faults.LeakFault.{LeakFault}
use Rattle.wirelist.specs.declared.outcome.Outcome.TheVariants.{Insulation as InsulationOutcome}
use Rattle.unit_outcome.specs.Defined.{voltage_charge}
use Rattle.hv.specs.Insulating.{Insulates}
use Rattle.sequence.specs.Stages.{FindsVoltage, StopsLate}
use Rattle.sequence.proofs.Going.{late-of, stops-later}
use Rattle.sequence.proofs.stages.Voltages.{goes-insulated, some-first, some-length, under_insulation, voltage-faults, voltage-then}
use Rattle.sequence.proofs.stages.Wirings.{when_err, when_ok}
use Rattle.sequence.proofs.voltage.test_insulation.Goals as goal

pub returns-then-is_empty-clause-ok : goal.returns-then-is_empty-clause-ok
returns-then-is_empty-clause-ok g c =
    let p = c.args.p.now in
    let s = g.R.Rig.state c.args.proven.rig in
    let t = g.R.Rig.state c.in-Ok.field-0.proven.rig in
    when_ok c.test_withstand.result _ _
    (λ run f.
    under_insulation p _ _ _ c.requires.test
    (λ test is made more.
    voltage-then p test is c.in-Ok.ensures.voltage c.in-Ok.ensures.zero run.outcome (subst (λ (faults : List LeakFault). Insulates p test s t faults) (c.if-is_empty.ensures.0 refl) made) more f)
    c.in-Ok.ensures.ok c.in-Ok.ensures.tallies)
    c.test_withstand.ensures.ok

pub returns-then-is_empty-clause-err : goal.returns-then-is_empty-clause-err
returns-then-is_empty-clause-err g c =
    let p = c.args.p.now in
    let s = g.R.Rig.state c.args.proven.rig in
    when_err c.test_withstand.result _ _
    (λ stop h.
    under_insulation p _ _ _ c.requires.test
    (λ test is made more.
    stops-later g.R.Rig.state p (goes-insulated p test is c.in-Ok.ensures.voltage c.in-Ok.ensures.zero made) (voltage_charge p) (voltage_charge p) (λ v k. k) stop h)
    c.in-Ok.ensures.ok c.in-Ok.ensures.tallies)
    c.test_withstand.ensures.err

pub returns-else-is_empty-clause-ok : goal.returns-else-is_empty-clause-ok
returns-else-is_empty-clause-ok g c =
    let p = c.args.p.now in
    let s = g.R.Rig.state c.args.proven.rig in
    let faults = c.in-Ok.field-0.faults in
    let same = c.into_rig.ensures.rig ∙ c.back.ensures in
    let some = some-length faults c.if-is_empty.ensures.1 in
    subst (λ r. FindsVoltage p s (g.R.Rig.state r) (InsulationOutcome faults)) (sym same)
    (under_insulation p _ _ _ c.requires.test
    (λ test is made more. voltage-faults p test is c.in-Ok.ensures.voltage c.in-Ok.ensures.zero faults made more c.in-Ok.ensures.in_range some)
    c.in-Ok.ensures.ok c.in-Ok.ensures.tallies)

pub returns-in-Err-clause-err : goal.returns-in-Err-clause-err
returns-in-Err-clause-err g c =
    let p = c.args.p.now in
    let s = g.R.Rig.state c.args.proven.rig in
    subst (λ stop. StopsLate g.R.Rig.state p (voltage_charge p) s stop) (sym c.stopped.ensures)
    (late-of g.R.Rig.state p (some-first p c.requires.test) s c.args.proven.rig c.in-Err.stop c.in-Err.ensures.err c.in-Err.ensures.voltage c.in-Err.ensures.zero c.in-Err.ensures.alone)
