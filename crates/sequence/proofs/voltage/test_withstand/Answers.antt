use Rattle.std.proofs.Common.{◌≡◌, None, sym, subst, ◌∙◌}
use Rattle.wirelist.specs.declared.outcome.Outcome.{Outcome}
use Rattle.unit_outcome.specs.Defined.{voltage_charge, withstand_or_pass}
use Rattle.sequence.specs.Stages.{FindsBreakdown, StopsLate}
use Rattle.sequence.proofs.stages.Broken.{finds-breakdown, finds-none, none-of, some-second, under_test}
use Rattle.sequence.proofs.Going.{late-of}
use Rattle.sequence.proofs.voltage.test_withstand.Goals as goal

pub returns-then-is_none-clause-ok : goal.returns-then-is_none-clause-ok
returns-then-is_none-clause-ok g c =
    let p = c.args.p.now in
    let state = g.R.Rig.state in
    let same = c.into_rig.ensures.rig ∙ c.back.ensures in
    let zeroed = subst (λ r. (state r).volts ≡ 0) same c.into_rig.ensures.seating.unpowered in
    subst (λ r. FindsBreakdown p (state c.args.proven.rig) (state r) (withstand_or_pass None)) (sym same) (finds-none p (none-of p.withstand c.if-is_none.ensures) (state c.args.proven.rig) zeroed)

pub returns-in-Ok-clause-ok : goal.returns-in-Ok-clause-ok
returns-in-Ok-clause-ok g c =
    let p = c.args.p.now in
    let state = g.R.Rig.state in
    let s = state c.args.proven.rig in
    let failed = c.in-Ok.field-0.failed in
    let same = c.into_rig-in-Ok.ensures.rig ∙ c.back-in-Ok.ensures in
    let found : FindsBreakdown p s (state c.in-Ok.field-0.proven.rig) (withstand_or_pass failed) =
    under_test p _ _ _ c.if-is_none.ensures
    (λ test is made more. finds-breakdown p test is c.in-Ok.ensures.voltage c.in-Ok.ensures.zero failed made more c.in-Ok.ensures.in_range)
    c.in-Ok.ensures.ok c.in-Ok.ensures.tallies in
    subst (λ (o : Outcome). FindsBreakdown p s (state c.into_rig-in-Ok.result) o) (sym c.outcome_of.ensures)
    (subst (λ r. FindsBreakdown p s (state r) (withstand_or_pass failed)) (sym same) found)

pub returns-in-Err-clause-err : goal.returns-in-Err-clause-err
returns-in-Err-clause-err g c =
    let p = c.args.p.now in
    let s = g.R.Rig.state c.args.proven.rig in
    subst (λ stop. StopsLate g.R.Rig.state p (voltage_charge p) s stop) (sym c.stopped.ensures)
    (late-of g.R.Rig.state p (some-second p c.if-is_none.ensures) s c.args.proven.rig c.in-Err.stop c.in-Err.ensures.err c.in-Err.ensures.voltage c.in-Err.ensures.zero c.in-Err.ensures.alone)
