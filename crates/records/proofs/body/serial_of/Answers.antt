use Rattle.std.proofs.Common.{arith}
use Rattle.records.proofs.Readers.{name_reader, name_is}
use Rattle.records.proofs.Decoding.{whole_err, whole_not, whole_ok, at_end, not_at_end}
use Rattle.records.proofs.body.serial_of.Goals as goal

pub returns-in-Err : goal.returns-in-Err
returns-in-Err c = whole_err name_reader c.args.fields.now c.in-Err.stop c.in-Err.ensures

pub returns-then-not-is_empty : goal.returns-then-not-is_empty
returns-then-not-is_empty c =
    whole_not name_reader c.args.fields.now c.in-Ok.found.0 c.in-Ok.found.1.now c.in-Ok.ensures (λ fits nothing. not_at_end c.in-Ok.found.1.now c.is_empty.result c.is_empty.ensures c.if-not-is_empty.true nothing)

pub returns : goal.returns
returns c =
    let bytes = c.args.fields.now in
    whole_ok name_reader bytes c.in-Ok.found.0 c.in-Ok.found.1.now (λ i. omega (arith, c.type_inv.fields i)) c.in-Ok.ensures
    (at_end c.in-Ok.found.1.now c.is_empty.result c.is_empty.ensures c.if-not-is_empty.false)
    (name_is bytes c.in-Ok.found.0 c.in-Ok.found.1.now (λ i. omega (arith, c.type_inv.fields i)) c.in-Ok.ensures)
