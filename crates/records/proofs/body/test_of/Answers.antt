use Rattle.std.proofs.lemmas.Result.{err_from_is_err_and}
use Rattle.records.proofs.Bodies.{kind_ok, kind_err, tested_kind}
use Rattle.records.proofs.body.test_of.Goals as goal

pub returns-in_err-serial : goal.returns-in_err-serial
returns-in_err-serial c =
    let p = err_from_is_err_and c.from_residual.result c.from_residual.ensures.1 in
    rw (p.1, p.2) (kind_err (tested_kind c.args.has_staff) c.args.fields.now c.in_err-serial.field-0.0 c.in_err-serial.ensures)

pub returns : goal.returns
returns c =
    kind_ok (tested_kind c.args.has_staff) c.args.fields.now (c.in_ok-serial.serial, c.in_ok-serial.attempt, c.in_ok-serial.staff, c.in_ok-serial.outcome) c.in_ok-serial.ensures
