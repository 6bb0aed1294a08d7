use Rattle.std.proofs.Common.{arith}
use Rattle.std.proofs.lemmas.Result.{err_from_is_err_and}
use Rattle.records.proofs.Bodies.{program_ok, program_not, program_err}
use Rattle.records.proofs.Lengths.{text_short}
use Rattle.records.proofs.adopted.program_of.Goals as goal

pub returns-in_err-len : goal.returns-in_err-len
returns-in_err-len c =
    let p = err_from_is_err_and c.from_residual.result c.from_residual.ensures.1 in
    rw (p.1, p.2) (program_err text_short c.args.fields.now c.in_err-len.field-0.0 c.in_err-len.ensures)

pub returns-then-text-len : goal.returns-then-text-len
returns-then-text-len c = program_not text_short c.args.fields.now c.in_ok-len.text.now c.in_ok-len.len c.in_ok-len.ensures c.if-text-len.true

pub returns : goal.returns
returns c = program_ok text_short c.args.fields.now c.in_ok-len.text.now c.in_ok-len.len (λ i. omega (arith, c.type_inv.fields i)) c.in_ok-len.ensures c.if-text-len.false c.adopted.result c.adopted.ensures
