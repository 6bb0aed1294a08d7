use Rattle.std.specs.Prelude.{All}
use Rattle.records.specs.RecordRanges.{IsRecord}
use Rattle.report.proofs.tests.records_of.Given as goal

abbrev pub invariant-loop-entry : goal.invariant-loop-entry
invariant-loop-entry l = All IsRecord l.records
