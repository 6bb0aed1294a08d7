use Rattle.serials.specs.NameMaps.{at_name}
use Rattle.report.proofs.FirstTests.{test_new}
use Rattle.report.proofs.counts.note_test.Goals as goal

pub returns : goal.returns
returns c = test_new (at_name c.args.firsts.now) (at_name c.insert.new.self) c.args.serial c.args.passed c.if-contains_key.ensures c.in_ok-insert.ensures.updates.0
