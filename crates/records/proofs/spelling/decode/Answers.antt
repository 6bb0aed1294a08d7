use Rattle.std.proofs.Common.{arith}
use Rattle.std.proofs.lemmas.Result.{err_from_is_err_and}
use Rattle.records.proofs.Decoding.{header_named}
use Rattle.records.proofs.Bodies.{record_none, record_late, record_err, record_found, record_only}
use Rattle.records.proofs.spelling.decode.Goals as goal

pub returns-in-Err-clause-only : goal.returns-in-Err-clause-only
returns-in-Err-clause-only c = record_none c.args.bytes.now c.in-Err.stop c.in-Err.ensures

pub returns-then-moment-gt-LAST_MOMENT-clause-only : goal.returns-then-moment-gt-LAST_MOMENT-clause-only
returns-then-moment-gt-LAST_MOMENT-clause-only c = λ r spells. absurd (record_late c.args.bytes.now c.in-Ok.found.0 c.in-Ok.found.1.now c.in-Ok.ensures c.if-moment-gt-LAST_MOMENT.true r spells)

pub returns-in_err-body-clause-only : goal.returns-in_err-body-clause-only
returns-in_err-body-clause-only c =
    let p = err_from_is_err_and c.from_residual.result c.from_residual.ensures.1 in
    rw (p.1, p.2) (record_err c.args.bytes.now c.in-Ok.found.0 c.in-Ok.found.1.now c.in-Ok.ensures c.in_err-body.field-0.0 c.in_err-body.ensures)

pub returns-clause-found : goal.returns-clause-found
returns-clause-found c =
    record_found c.args.bytes.now c.in-Ok.found.0 c.in-Ok.found.1.now (λ i. omega (arith, c.type_inv.bytes i)) c.in-Ok.ensures
    (header_named c.args.bytes.now c.in-Ok.found.0 c.in-Ok.found.1.now (λ i. omega (arith, c.type_inv.bytes i)) c.in-Ok.ensures)
    c.if-moment-gt-LAST_MOMENT.false c.in_ok-body.body c.in_ok-body.ensures

pub returns-clause-only : goal.returns-clause-only
returns-clause-only c = record_only c.args.bytes.now c.in-Ok.found.0 c.in-Ok.found.1.now c.in-Ok.ensures c.in_ok-body.body c.in_ok-body.ensures
