use Rattle.serials.specs.NameMaps.{at_name}
use Rattle.report.proofs.FirstTests.{first_test_more}
use Rattle.report.proofs.counts.first_tests.Goals as goal

pub loop-noted-preserved : goal.loop-noted-preserved
loop-noted-preserved c = λ serial.
    first_test_more c.args.records.now c.loop-noted.noted-index c.noted-item.result serial c.loop-noted-test.true c.noted-item.is (at_name c.loop-noted.firsts serial) (at_name c.note_record.new.firsts serial)
    (c.loop-noted.invariant serial) (c.in_ok-note_record.ensures serial)
