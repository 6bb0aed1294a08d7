use Rattle.std.proofs.Common.{take}
use Rattle.harness.specs.declared.row.HarnessRow.TheVariants.{Fault, Door}
use Rattle.harness.proofs.Collecting.{Collecting}
use Rattle.harness.proofs.numbers.call_numbers.Given as goal

abbrev pub invariant-loop-row : goal.invariant-loop-row
invariant-loop-row l = record {
  faults : Collecting Fault (take l.row-index l.rows) l.faults;
  doors : Collecting Door (take l.row-index l.rows) l.doors;
}
