use Rattle.std.specs.Prelude.{option_copied}
use Rattle.report.proofs.Adopted.{program_more}
use Rattle.report.proofs.programs.last_program.Goals as goal

pub loop-noted-preserved : goal.loop-noted-preserved
loop-noted-preserved c =
    program_more c.args.records.now c.loop-noted.noted-index c.noted-item.result c.loop-noted-test.true c.noted-item.is (option_copied c.loop-noted.program) (option_copied c.adopted_after-program.result)
    c.loop-noted.invariant c.adopted_after-program.ensures
