use Rattle.std.proofs.Common.{refl, ap, arith}
use Rattle.rig.specs.RigState.{RigState}
use Rattle.serving.proofs.OpeningLemmas.{causes-after, serves-complete, serve-opened, stop-refused, stop-causes, stop-complete}
use Rattle.serving.proofs.opening.serve.Goals as goal

pub returns-in-Ok-clause-ends : goal.returns-in-Ok-clause-ends
returns-in-Ok-clause-ends g c =
    let mounted = c.in-Ok.ensures in
    serve-opened (g.R.Rig.state c.args.rig) c.args.program (g.D.Disk.state c.args.disk) c.in-Ok.station mounted.rig mounted.same mounted.opens mounted.standing
    _ _ _ _ _ _ c.listen_and_serve-status.ensures.serves

pub returns-in-Ok-clause-causes : goal.returns-in-Ok-clause-causes
returns-in-Ok-clause-causes g c =
    let mounted = c.in-Ok.ensures in
    causes-after _ _ _ _ (omega arith) mounted.opens.later (omega (arith, ap (λ (r : RigState). r.faults) mounted.rig)) (omega arith) c.listen_and_serve-status.ensures.causes

pub returns-in-Ok-clause-complete : goal.returns-in-Ok-clause-complete
returns-in-Ok-clause-complete g c file R0 reads says =
    serves-complete _ _ _ _ _ _ c.listen_and_serve-status.ensures.serves (returns-in-Ok-clause-causes g c)

pub returns-in-Err-clause-ends : goal.returns-in-Err-clause-ends
returns-in-Err-clause-ends g c =
    let closed = c.close_unopened-status.ensures in
    stop-refused g.D.Disk.state _ c.in-Err.stop _ closed.disk c.in-Err.ensures.opens _ closed.status _ _ closed.line refl refl refl

pub returns-in-Err-clause-causes : goal.returns-in-Err-clause-causes
returns-in-Err-clause-causes g c =
    let closed = c.close_unopened-status.ensures in
    stop-causes g.D.Disk.state _ c.in-Err.stop _ closed.disk c.in-Err.ensures.opens _ closed.status _ _ _ _ closed.later

pub returns-in-Err-clause-complete : goal.returns-in-Err-clause-complete
returns-in-Err-clause-complete g c file R0 reads says =
    let closed = c.close_unopened-status.ensures in
    stop-complete g.D.Disk.state _ c.in-Err.stop _ closed.disk c.in-Err.ensures.opens _ closed.status _ _ _ _ _ _ file R0 reads says
