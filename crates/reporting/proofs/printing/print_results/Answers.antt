use Rattle.reporting.proofs.Ending.{nothing_written, on_err, results_written}
use Rattle.reporting.proofs.printing.print_results.Goals as goal

pub returns-in_err-text-clause-part : goal.returns-in_err-text-clause-part
returns-in_err-text-clause-part g c =
    on_err c.from_residual.result (nothing_written (g.O.Stream.got c.args.out.now) _ (results_written c.args.records.now))
