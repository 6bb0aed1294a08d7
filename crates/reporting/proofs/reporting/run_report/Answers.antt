use Rattle.journal.specs.Append.{count_of, state_of}
use Rattle.reporting.proofs.Ending.{found_reported}
use Rattle.reporting.proofs.reporting.run_report.Goals as goal

pub returns-in-Ok-clause-disk : goal.returns-in-Ok-clause-disk
returns-in-Ok-clause-disk g c =
    let loaded = c.in-Ok.loaded in
    rw c.into_disk-disk.ensures
    (found_reported c.args.report.now (g.D.Disk.state c.args.disk) (state_of loaded.journal) c.print-status.result (g.O.Stream.got c.args.out.now) (g.O.Stream.got c.print-status.new.out)
    (count_of loaded.journal) loaded.records c.in-Ok.ensures.opens c.in-Ok.ensures.loaded.booked c.print-status.ensures.prints)
