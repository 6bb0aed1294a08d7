use Rattle.std.proofs.Common.{arith}
use Rattle.std.proofs.lemmas.Result.{err_from_is_err_and}
use Rattle.records.proofs.Decoding.{day_reader, whole_err, whole_not, whole_ok, at_end, not_at_end}
use Rattle.records.proofs.body.day_of.Goals as goal

pub returns-in_err-day : goal.returns-in_err-day
returns-in_err-day c =
    let p = err_from_is_err_and c.from_residual.result c.from_residual.ensures.1 in
    rw (p.1, p.2) (whole_err day_reader c.args.fields.now c.in_err-day.field-0.0 c.in_err-day.ensures)

pub returns-then-not-is_empty : goal.returns-then-not-is_empty
returns-then-not-is_empty c =
    whole_not day_reader c.args.fields.now c.in_ok-day.day c.in_ok-day.rest.now c.in_ok-day.ensures (λ fits nothing. not_at_end c.in_ok-day.rest.now c.is_empty.result c.is_empty.ensures c.if-not-is_empty.true nothing)

pub returns-then-day-gt-LAST_DAY : goal.returns-then-day-gt-LAST_DAY
returns-then-day-gt-LAST_DAY c =
    whole_not day_reader c.args.fields.now c.in_ok-day.day c.in_ok-day.rest.now c.in_ok-day.ensures (λ fits nothing. omega (arith, c.if-day-gt-LAST_DAY.true))

pub returns : goal.returns
returns c =
    whole_ok day_reader c.args.fields.now c.in_ok-day.day c.in_ok-day.rest.now (λ i. omega (arith, c.type_inv.fields i)) c.in_ok-day.ensures
    (at_end c.in_ok-day.rest.now c.is_empty.result c.is_empty.ensures c.if-not-is_empty.false)
    (omega (arith, c.if-day-gt-LAST_DAY.false))
