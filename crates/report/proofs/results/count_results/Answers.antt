use Rattle.std.proofs.Common.{ap, arith}
use Rattle.report.specs.Counting.{total_of}
use Rattle.report.proofs.Counted.{counted_more, total_with}
use Rattle.report.proofs.results.count_results.Goals as goal

pub loop-noted-preserved : goal.loop-noted-preserved
loop-noted-preserved c = record {
  found = counted_more c.args.records.now c.loop-noted.noted-index c.noted-item.result c.loop-noted-test.true c.noted-item.is c.loop-noted.found _ c.loop-noted.invariant.found c.after_record-found.ensures;
  few = omega (arith, c.loop-noted.invariant.few, total_with c.loop-noted.found c.noted-item.result.body, ap total_of c.after_record-found.ensures);
}
