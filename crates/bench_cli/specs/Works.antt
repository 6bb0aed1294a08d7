-- How a command's own work ends, its files being in form, and what each command promises. A new command has a line in each.
use Rattle.std.specs.Prelude.{ℕ, Option}
use Rattle.rig_sim.specs.SimRig.{SimState}
use Rattle.words.specs.declared.command.Command.{Command}
use Rattle.words.specs.declared.command.Command.TheVariants.{Continuity, Learn, Run as RunScript, Import, Serve, Report, Unit, Export, Soak}
use Rattle.reporting.specs.declared.reporting.Report.TheVariants as report
use Rattle.bench_cli.specs.Run.{Run, Given}
use Rattle.bench_cli.specs.Checking.{ChecksUnit, IsCheck}
use Rattle.bench_cli.specs.Learning.{LearnsUnit, IsLearning}
use Rattle.bench_cli.specs.Scripting.{RunsScript, IsScripting}
use Rattle.bench_cli.specs.Importing.{ImportsRows, IsImporting}
use Rattle.bench_cli.specs.Serving.{ServesDoor, IsServing}
use Rattle.bench_cli.specs.Reporting.{PrintsReport, IsReporting}
use Rattle.bench_cli.specs.Soaking.{SoaksPair, IsSoaking}

abbrev pub Works : Command → Given → Run → ℕ → Option SimState → Type 0
Works (Continuity unit) given run status rig = ChecksUnit unit given run.sunk status rig
Works (Learn unit) given run status rig = LearnsUnit unit given run.sunk status rig
Works RunScript given run status rig = RunsScript given run status rig
Works Import given run status rig = ImportsRows given run status rig
Works (Serve service) given run status rig = ServesDoor service given run status rig
Works Report given run status rig = PrintsReport report.Lot given run status rig
Works (Unit serial) given run status rig = PrintsReport (report.Unit serial) given run status rig
Works Export given run status rig = PrintsReport report.Results given run status rig
Works (Soak points) given run status rig = SoaksPair points given run.sunk status rig

abbrev pub Obeys : Command → Run → ℕ → Option SimState → Type 0
Obeys (Continuity unit) run status rig = IsCheck unit run status rig
Obeys (Learn unit) run status rig = IsLearning unit run status rig
Obeys RunScript run status rig = IsScripting run status rig
Obeys Import run status rig = IsImporting run status rig
Obeys (Serve service) run status rig = IsServing service run status rig
Obeys Report run status rig = IsReporting report.Lot run status rig
Obeys (Unit serial) run status rig = IsReporting (report.Unit serial) run status rig
Obeys Export run status rig = IsReporting report.Results run status rig
Obeys (Soak points) run status rig = IsSoaking points run status rig
