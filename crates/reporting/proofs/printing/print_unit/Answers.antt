use Rattle.reporting.proofs.Ending.{nothing_written, on_err, unit_written}
use Rattle.reporting.proofs.printing.print_unit.Goals as goal

pub returns-in_err-text-clause-part : goal.returns-in_err-text-clause-part
returns-in_err-text-clause-part g c =
    on_err c.from_residual.result (nothing_written (g.O.Stream.got c.args.out.now) _ (unit_written c.args.records.now c.args.serial))
