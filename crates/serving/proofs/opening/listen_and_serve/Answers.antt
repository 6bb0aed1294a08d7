use Rattle.std.proofs.Common.{inl, inr, refl, ap, arith, Some}
use Rattle.serving.specs.Lines.{closed_as}
use Rattle.serving.proofs.OpeningLemmas.{causes-after, causes-from, served-all}
use Rattle.serving.proofs.TellingLemmas.{closed-why}
use Rattle.serving.proofs.opening.listen_and_serve.Goals as goal

pub returns-in-Ok-clause-serves : goal.returns-in-Ok-clause-serves
returns-in-Ok-clause-serves g c =
    let served = c.serve_all.ensures in
    inr (served-all g.R.Rig.state g.D.Disk.state _ _ _ _ (rw c.in-Ok.ensures.waiting at (rw c.in-Ok.ensures.done at served.serves))
    (rw c.in-Ok.ensures.waiting at (rw c.in-Ok.ensures.done at served.answers)) (rw c.in-Ok.ensures.waiting at (rw c.in-Ok.ensures.done at served.in_order)) served.tests
    (rw c.in-Ok.ensures.waiting at (rw c.in-Ok.ensures.done at served.spent)))

pub returns-in-Ok-clause-causes : goal.returns-in-Ok-clause-causes
returns-in-Ok-clause-causes g c =
    causes-after _ _ _ _ (omega arith) (omega arith) (omega arith) c.in-Ok.ensures.cause.later c.serve_all.ensures.causes

pub returns-in-Err-clause-serves : goal.returns-in-Err-clause-serves
returns-in-Err-clause-serves g c =
    inl (record {
      closing = closed_as c.in-Err.stop;
      status_is = c.closed_for-status.ensures.status;
      at_door = record {
        why = closed-why c.in-Err.stop;
        parts = record { rig_is = c.into_parts-rig.ensures.rig; disk_is = c.into_parts-rig.ensures.disk };
        waiting = c.in-Err.ensures.waiting;
        done = c.in-Err.ensures.done;
        moments = refl;
        wrote = c.closed_for-status.ensures.line;
      };
    })

pub returns-in-Err-clause-causes : goal.returns-in-Err-clause-causes
returns-in-Err-clause-causes g c =
    causes-from _ _ _ _ _ _ _ _ (returns-in-Err-clause-serves g c) c.closed_for-status.ensures.out_later c.in-Err.ensures.cause.later
    c.closed_for-status.ensures.other (λ eleven. c.in-Err.ensures.cause.rose (ap Some (c.closed_for-status.ensures.failed eleven)))
