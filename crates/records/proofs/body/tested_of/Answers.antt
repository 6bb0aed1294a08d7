use Rattle.std.proofs.Common.{arith}
use Rattle.records.proofs.Decoding.{tested_reader, tested_named, whole_err, whole_not, whole_ok, at_end, not_at_end}
use Rattle.records.proofs.body.tested_of.Goals as goal

pub returns-in-Err : goal.returns-in-Err
returns-in-Err c = whole_err (tested_reader c.args.has_staff) c.args.fields.now c.in-Err.stop c.in-Err.ensures

pub returns-then-not-is_empty : goal.returns-then-not-is_empty
returns-then-not-is_empty c =
    whole_not (tested_reader c.args.has_staff) c.args.fields.now c.in-Ok.found.0 c.in-Ok.found.1.now c.in-Ok.ensures
    (λ fits nothing. not_at_end c.in-Ok.found.1.now c.is_empty.result c.is_empty.ensures c.if-not-is_empty.true nothing)

pub returns-then-not-is_test : goal.returns-then-not-is_test
returns-then-not-is_test c =
    whole_not (tested_reader c.args.has_staff) c.args.fields.now c.in-Ok.found.0 c.in-Ok.found.1.now c.in-Ok.ensures
    (λ fits nothing. let yes = c.is_test.ensures.1 (fits.in_range.attempt, fits.in_range.outcome) in let other = c.if-not-is_test.true in cc)

pub returns : goal.returns
returns c =
    let ranges = c.is_test.ensures.0 (let same = c.if-not-is_test.false in cc) in
    let named = tested_named c.args.has_staff c.args.fields.now c.in-Ok.found.0 c.in-Ok.found.1.now (λ i. omega (arith, c.type_inv.fields i)) c.in-Ok.ensures in
    whole_ok (tested_reader c.args.has_staff) c.args.fields.now c.in-Ok.found.0 c.in-Ok.found.1.now (λ i. omega (arith, c.type_inv.fields i)) c.in-Ok.ensures
    (at_end c.in-Ok.found.1.now c.is_empty.result c.is_empty.ensures c.if-not-is_empty.false)
    (record {
      in_range = record { serial = named.0; attempt = ranges.0; staff = named.1.0; outcome = ranges.1 };
      names_staff = named.1.1;
    })
