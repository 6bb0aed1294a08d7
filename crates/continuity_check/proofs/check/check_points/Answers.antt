use Rattle.std.proofs.Common.{◌+◌, [], ◌∷◌, Err, drop, sym, ap, subst}
use Rattle.rig.specs.Calls.{AreGroups}
use Rattle.rig.proofs.Reading.{AreGroups-after, Reads-refused}
use Rattle.continuity_check.specs.Compared.{compared_with}
use Rattle.continuity_check.proofs.Comparing.{StopsAt-after, was_failure}
use Rattle.continuity_check.proofs.Checking.{Checking-none, Checking-more, compared_with-more, compared_with-split}
use Rattle.continuity_check.proofs.check.check_points.Goals as goal

pub loop-point-init : goal.loop-point-init
loop-point-init g c = Checking-none (g.R.Rig.state c.args.seat.now) c.args.sheet.now c.requires.fits

pub check_point-requires-clause-groups : goal.check_point-requires-clause-groups
check_point-requires-clause-groups g c =
    AreGroups-after c.loop-point.invariant.reads
    (subst (λ p. AreGroups (g.R.Rig.state c.args.seat.now).points (c.args.head ∷ []) (p ∷ [])) (sym c.point-item.is) (c.requires.groups c.loop-point.point-index c.point-item.result c.loop-point-test.true))

pub returns-in_err-check_point-clause-reads : goal.returns-in_err-check_point-clause-reads
returns-in_err-check_point-clause-reads g c = Reads-refused c.loop-point.invariant.reads c.in_err-check_point.ensures.reads _ c.from_residual.ensures.1

pub loop-point-preserved : goal.loop-point-preserved
loop-point-preserved g c =
    Checking-more _ _ c.loop-point.invariant c.in_ok-check_point.ensures.reads c.in_ok-check_point.ensures.compares c.in_ok-check_point.ensures.fits
    (compared_with-more c.args.name.now c.args.points.now c.args.head c.loop-point.point-index c.point-item.result c.loop-point-test.true c.point-item.is)

pub returns-in_err-check_point-clause-failed : goal.returns-in_err-check_point-clause-failed
returns-in_err-check_point-clause-failed g c = λ failed.
    let points = c.args.points.now in
    let i = c.loop-point.point-index in
    StopsAt-after (compared_with c.args.name.now c.args.head (drop (i + 1) points)) c.loop-point.invariant.reads c.loop-point.invariant.compares
    (c.in_err-check_point.ensures.failed (ap Err (was_failure c.from_residual.result c.from_residual.ensures.1 failed)))
    (compared_with-split c.args.name.now points c.args.head i c.point-item.result c.loop-point-test.true c.point-item.is)
