use Rattle.harness.specs.declared.row.HarnessRow.TheVariants.{Fault, Door}
use Rattle.harness.proofs.Collecting.{collecting_next, collecting_end}
use Rattle.harness.proofs.numbers.call_numbers.Goals as goal

pub loop-row-preserved : goal.loop-row-preserved
loop-row-preserved c = record {
  faults = collecting_next Fault c.args.rows.now c.row-item.result c.loop-row.row-index c.loop-row.faults c.add_number.new.faults c.loop-row-test.true c.row-item.is c.loop-row.invariant.faults c.in_ok-add_number.ensures.faults;
  doors = collecting_next Door c.args.rows.now c.row-item.result c.loop-row.row-index c.loop-row.doors c.add_number.new.doors c.loop-row-test.true c.row-item.is c.loop-row.invariant.doors c.in_ok-add_number.ensures.doors;
}

pub returns-clause-faults : goal.returns-clause-faults
returns-clause-faults c = collecting_end Fault c.args.rows.now c.loop-row.row-index c.loop-row.faults c.loop-row-test.false c.loop-row.invariant.faults

pub returns-clause-doors : goal.returns-clause-doors
returns-clause-doors c = collecting_end Door c.args.rows.now c.loop-row.row-index c.loop-row.doors c.loop-row-test.false c.loop-row.invariant.doors
