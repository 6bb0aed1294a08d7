use Rattle.report.proofs.Counted.{serials_more}
use Rattle.report.proofs.counts.serials_of.Goals as goal

pub loop-noted-preserved : goal.loop-noted-preserved
loop-noted-preserved c =
    serials_more c.args.event c.args.records.now c.loop-noted.noted-index c.noted-item.result c.loop-noted-test.true c.noted-item.is c.loop-noted.names.items c.keep_serial.new.names.items
    c.loop-noted.invariant c.in_ok-keep_serial.ensures
