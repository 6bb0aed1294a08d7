use Rattle.importing.proofs.Taking.{are_asked, err_is, rows_cause}
use Rattle.importing.proofs.input.read_input.Goals as goal

pub returns-in_err-rows-clause-long : goal.returns-in_err-rows-clause-long
returns-in_err-rows-clause-long g c =
    let e = c.in_err-rows.field-0.0 in
    let before = g.I.Stream.left c.args.input.now in
    let why = rw c.as_slice.ensures at c.in_err-rows.ensures.refused in
    err_is c.from_residual-in_err-rows.result e before c.from_residual-in_err-rows.ensures.1
    (rows_cause before (g.I.Stream.left c.read_upto.new.source) c.in_ok-bytes.bytes e c.in_ok-bytes.ensures.bytes why)

pub returns-clause-asked : goal.returns-clause-asked
returns-clause-asked g c =
    let rows = rw c.as_slice.ensures at c.in_ok-rows.ensures.rows in
    let fits = rw c.as_slice.ensures at c.in_ok-rows.ensures.fits in
    are_asked (g.I.Stream.left c.args.input.now) (g.I.Stream.left c.read_upto.new.source) c.in_ok-bytes.bytes c.in_ok-rows.rows c.in_ok-bytes.ensures.bytes rows fits
