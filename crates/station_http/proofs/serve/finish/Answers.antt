use Rattle.std.proofs.Common.{◌∙◌, inl, inr, ap, refl, subst, Some}
use Rattle.bench_edge.specs.Whole.{WroteFront, WrotePart}
use Rattle.station_http.proofs.ServeLemmas.{front-written}
use Rattle.station_http.proofs.serve.finish.Goals as goal

pub returns-in-Failed-clause-finishes : goal.returns-in-Failed-clause-finishes
returns-in-Failed-clause-finishes g c = λ old request moments moments' turn.
    let (reply, text, status, went) = rw c.in-Goes.is at turn in
    let failed = c.in-Err.ensures.cause.rose (ap Some c.in-Failed.is) in
    rw (c.cut.ensures.station, c.cut.ensures.status) (record {
      reply = reply;
      went_on = went;
      wrote = inr (subst (WrotePart _ _) (c.as_bytes.ensures ∙ text) c.in-Err.ensures.part, failed, refl);
    })

pub returns-in-Goes-clause-finishes : goal.returns-in-Goes-clause-finishes
returns-in-Goes-clause-finishes g c = λ old request moments moments' turn.
    let (reply, text, status, went) = rw c.in-Goes.is at turn in
    inr (record {
      reply = reply;
      new = c.in-Goes.station;
      went_on = went;
      parts = record { rig_is = c.into_parts-rig.ensures.rig; disk_is = c.into_parts-rig.ensures.disk };
      wrote = subst (WrotePart _ _) (c.as_bytes.ensures ∙ text) c.in-Err.ensures.part;
    })

pub returns-clause-finishes : goal.returns-clause-finishes
returns-clause-finishes g c = λ old request moments moments' turn.
    let (reply, last, stops) = rw c.in-Halts.is at turn in
    let front = front-written _ _ _ c.write_all-tried.result c.write_all-tried.ensures.ok c.write_all-tried.ensures.refused in
    inl (record { reply = reply; stops = stops; wrote = subst (WroteFront _ _) (c.as_bytes-in-Halts.ensures ∙ last) front })
