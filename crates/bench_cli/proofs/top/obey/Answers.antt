use Rattle.std.proofs.Common.{refl}
use Rattle.words.specs.declared.command.Command.TheVariants.{Continuity, Learn, Report, Unit, Export, Soak}
use Rattle.bench_cli.specs.Checking.{ChecksUnit}
use Rattle.bench_cli.specs.Learning.{LearnsUnit}
use Rattle.bench_cli.specs.Run.{nothing}
use Rattle.bench_cli.specs.Ends.Ends.{obeyed}
use Rattle.reporting.specs.declared.reporting.Report.TheVariants as report
use Rattle.bench_cli.proofs.ways.Obeying.{comes_ends, disk_alone, report_ends}
use Rattle.bench_cli.proofs.top.obey.Goals as goal

pub returns-in-Continuity : goal.returns-in-Continuity
returns-in-Continuity g c = λ words asks.
    comes_ends _ (Continuity c.in-Continuity.unit) (ChecksUnit c.in-Continuity.unit) _ _ (rw c.in-Continuity.is at asks) refl (record { input = λ e. record { left = refl; faults = refl }; disk = λ e. refl; clock = λ e. refl; door = λ e. record { waiting = refl; done = refl; faults = refl } }) (record { input = λ e. record { left = refl; faults = refl }; disk = λ e. refl; clock = λ e. refl; door = λ e. record { waiting = refl; done = refl; faults = refl } }) (λ given work. work) c.continuity-status.ensures

pub returns-in-Learn : goal.returns-in-Learn
returns-in-Learn g c = λ words asks.
    comes_ends _ (Learn c.in-Learn.unit) (LearnsUnit c.in-Learn.unit) _ _ (rw c.in-Learn.is at asks) refl (record { input = λ e. record { left = refl; faults = refl }; disk = λ e. refl; clock = λ e. refl; door = λ e. record { waiting = refl; done = refl; faults = refl } }) (record { input = λ e. record { left = refl; faults = refl }; disk = λ e. refl; clock = λ e. refl; door = λ e. record { waiting = refl; done = refl; faults = refl } }) (λ given work. work) (c.learn_wiring-status.ensures _ (record { left = refl; faults = refl }))

pub returns-in-Soak : goal.returns-in-Soak
returns-in-Soak g c = λ words asks.
    obeyed (Soak c.in-Soak.points) (rw c.in-Soak.is at asks) (record { input = λ e. record { left = refl; faults = refl }; disk = λ e. refl; clock = λ e. refl; door = λ e. record { waiting = refl; done = refl; faults = refl } }) nothing
    (record { left = refl; faults = refl }, record { left = refl; faults = refl }) c.soak_units-status.ensures

pub returns-in-Run : goal.returns-in-Run
returns-in-Run g c = λ words asks. c.run_station.ensures words _ (rw c.in-Run.is at asks) (record { waiting = refl; done = refl; faults = refl })

pub returns-in-Import : goal.returns-in-Import
returns-in-Import g c = λ words asks. c.import_serials.ensures words _ (rw c.in-Import.is at asks) (record { waiting = refl; done = refl; faults = refl })

pub returns-in-Serve : goal.returns-in-Serve
returns-in-Serve g c = λ words asks. c.serve_station.ensures words _ (rw c.in-Serve.is at asks) (record { left = refl; faults = refl })

pub returns-in-Report : goal.returns-in-Report
returns-in-Report g c = λ words asks.
    report_ends _ Report report.Lot _ _ (λ printed. printed) (rw c.in-Report.is at asks) (disk_alone _ (record { left = refl; faults = refl }) refl (record { waiting = refl; done = refl; faults = refl }))
    (record { left = refl; faults = refl }) (record { left = refl; faults = refl }) c.print_report.ensures

pub returns-in-Unit : goal.returns-in-Unit
returns-in-Unit g c = λ words asks.
    report_ends _ (Unit c.in-Unit.serial) (report.Unit c.in-Unit.serial) _ _ (λ printed. printed) (rw c.in-Unit.is at asks) (disk_alone _ (record { left = refl; faults = refl }) refl (record { waiting = refl; done = refl; faults = refl }))
    (record { left = refl; faults = refl }) (record { left = refl; faults = refl }) c.print_report-in-Unit.ensures

pub returns-in-Export : goal.returns-in-Export
returns-in-Export g c = λ words asks.
    report_ends _ Export report.Results _ _ (λ printed. printed) (rw c.in-Export.is at asks) (disk_alone _ (record { left = refl; faults = refl }) refl (record { waiting = refl; done = refl; faults = refl }))
    (record { left = refl; faults = refl }) (record { left = refl; faults = refl }) c.print_report-in-Export.ensures
