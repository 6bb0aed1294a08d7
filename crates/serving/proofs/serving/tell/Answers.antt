use Rattle.std.proofs.Common.{inr, refl}
use Rattle.serving.specs.Visits.{closing_of}
use Rattle.serving.proofs.TellingLemmas.{served-so}
use Rattle.serving.proofs.serving.tell.Goals as goal

pub returns-in-Ok-clause-tells : goal.returns-in-Ok-clause-tells
returns-in-Ok-clause-tells g c = λ old came went moments moments' served.
    let done = rw c.in-Ok.is at served in
    c.told.ensures.tells old came went moments moments' (served-so _ _ old came went moments moments' c.in-Ok.done done)

pub returns-in-Err-clause-tells : goal.returns-in-Err-clause-tells
returns-in-Err-clause-tells g c = λ old came went moments moments' served waiting waiting' done done' passed.
    record {
      closing = closing_of c.in-Err.stop;
      status_is = c.ended.ensures.status;
      how = inr (inr (record {
        came = came;
        went = went;
        passes = passed;
        halt = c.in-Err.stop;
        served = rw c.in-Err.is at served;
        why = refl;
        rig_is = c.ended.ensures.rig;
        disk_is = c.ended.ensures.disk;
        wrote = c.ended.ensures.line;
      }));
    }
