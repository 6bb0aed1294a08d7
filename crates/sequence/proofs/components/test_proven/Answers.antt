use Rattle.std.proofs.Common.{List, [], refl, sym, subst, ◌∙◌}
use Rattle.wirelist.specs.declared.faults.PartFault.{PartFault}
use Rattle.wirelist.specs.declared.outcome.Outcome.TheVariants.{Parts}
use Rattle.parts_check.specs.Checking.{ChecksParts}
use Rattle.unit_outcome.specs.Defined.{proven_charge}
use Rattle.sequence.specs.Stages.{FindsProven, StopsLate}
use Rattle.sequence.proofs.stages.Parting.{late-parts, proven-faults, proven-stops, proven-then}
use Rattle.sequence.proofs.stages.Voltages.{some-length}
use Rattle.sequence.proofs.stages.Wirings.{when_err, when_ok}
use Rattle.sequence.proofs.components.test_proven.Goals as goal

pub returns-then-is_empty-clause-ok : goal.returns-then-is_empty-clause-ok
returns-then-is_empty-clause-ok g c =
    let p = c.args.p.now in
    let s = g.R.Rig.state c.args.proven.rig in
    let t = g.R.Rig.state c.in-Ok.field-0.proven.rig in
    let made : ChecksParts p s t [] = subst (λ (faults : List PartFault). ChecksParts p s t faults) (c.if-is_empty.ensures.0 refl) c.in-Ok.ensures.checks in
    when_ok c.test_voltage.result _ _ (λ run f. proven-then p c.points-point_count.ensures.seating.unpowered c.in-Ok.ensures.order run.outcome made f) c.test_voltage.ensures.ok

pub returns-then-is_empty-clause-err : goal.returns-then-is_empty-clause-err
returns-then-is_empty-clause-err g c =
    let p = c.args.p.now in
    let s = g.R.Rig.state c.args.proven.rig in
    let t = g.R.Rig.state c.in-Ok.field-0.proven.rig in
    let made : ChecksParts p s t [] = subst (λ (faults : List PartFault). ChecksParts p s t faults) (c.if-is_empty.ensures.0 refl) c.in-Ok.ensures.checks in
    when_err c.test_voltage.result _ _ (λ stop h. proven-stops p c.points-point_count.ensures.seating.unpowered c.in-Ok.ensures.order g.R.Rig.state made stop h) c.test_voltage.ensures.err

pub returns-else-is_empty-clause-ok : goal.returns-else-is_empty-clause-ok
returns-else-is_empty-clause-ok g c =
    let p = c.args.p.now in
    let s = g.R.Rig.state c.args.proven.rig in
    let faults = c.in-Ok.field-0.faults in
    subst (λ r. FindsProven p s (g.R.Rig.state r) (Parts faults)) (sym (c.into_rig.ensures.rig ∙ c.back.ensures))
    (proven-faults p c.points-point_count.ensures.seating.unpowered c.in-Ok.ensures.order faults c.in-Ok.ensures.checks (some-length faults c.if-is_empty.ensures.1))

pub returns-in-Err-clause-err : goal.returns-in-Err-clause-err
returns-in-Err-clause-err g c =
    let p = c.args.p.now in
    let s = g.R.Rig.state c.args.proven.rig in
    subst (λ stop. StopsLate g.R.Rig.state p (proven_charge p) s stop) (sym c.stopped.ensures)
    (late-parts g.R.Rig.state p s c.points-point_count.ensures.seating.unpowered c.in-Err.stop c.in-Err.ensures.stops c.in-Err.ensures.order)
