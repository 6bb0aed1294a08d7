use Rattle.std.proofs.Common.{inl, inr}
use Rattle.serving.specs.Lines.{unwritten_as, conn_line}
use Rattle.serving.proofs.TellingLemmas.{unwritten-why, says-front}
use Rattle.serving.proofs.serving.told.Goals as goal

pub returns-in-Err-clause-tells : goal.returns-in-Err-clause-tells
returns-in-Err-clause-tells g c = λ old came went moments moments' served waiting waiting' done done' passed.
    record {
      closing = unwritten_as c.in-Err.stop;
      status_is = c.status_for-status.ensures.status;
      how = inr (inl (record {
        why = unwritten-why c.in-Err.stop;
        came = came;
        went = went;
        passes = passed;
        status = c.args.done.status;
        new = c.args.done.station;
        served = served;
        parts = record { rig_is = c.into_parts-rig.ensures.rig; disk_is = c.into_parts-rig.ensures.disk };
        wrote = says-front _ _ c.line_of-line.result (conn_line c.args.number c.args.done.status) c.line_of-line.ensures c.in-Err.ensures.part;
      }));
    }
