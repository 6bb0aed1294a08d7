-- A command that was obeyed ends in one of the ways of a run.
use Rattle.std.proofs.Common.{◌≡◌, ℕ, true, false, List, Option, None, Some, refl, subst}
use Rattle.std.specs.Prelude.{zip, MatchOption}
use Rattle.rig_sim.specs.SimRig.{SimState}
use Rattle.wirelist.specs.declared.program.Program.{Program}
use Rattle.continuity_check.specs.Compared.{compared_of}
use Rattle.words.specs.declared.command.UnitName.{UnitName}
use Rattle.words.specs.declared.command.Command.{Command}
use Rattle.words.specs.Words.{Asks}
use Rattle.bench_cli.specs.Commands.{reads_harness, reads_wires, reads_input, uses_disk, uses_clock, uses_door}
use Rattle.bench_cli.specs.Closing.{Sunk}
use Rattle.bench_cli.specs.Findings.{ComparesAll, StopsAmong, LearnsAll, StopsLearning}
use Rattle.bench_cli.specs.UnitEnds.{UnitEnds}
use Rattle.bench_cli.specs.Run.{Files, Run, IsUnread, IsShut, Given, nothing, simulator, both, TakesHarness, TakesBoth, Comes}
use Rattle.bench_cli.specs.Run.Comes.{at_files, by_work}
use Rattle.bench_cli.specs.Checking.{ChecksUnit}
use Rattle.bench_cli.specs.Learning.{LearnsUnit}
use Rattle.records.specs.declared.record.StationRecord.{StationRecord}
use Rattle.ledger.specs.Opening.{Says, found}
use Rattle.script.specs.Causes.{Causes, Completes}
use Rattle.script.specs.Opened.{RunOpened, RunRefused}
use Rattle.bench_cli.specs.Scripting.{RunsScript, counts_before, counts_after}
use Rattle.importing.specs.Imported.{ImportOpened}
use Rattle.bench_cli.specs.Importing.{ImportsRows}
use Rattle.reporting.specs.declared.reporting.Report.{Report}
use Rattle.bench_cli.specs.Reporting.{Printed}
use Rattle.bench_cli.specs.Works.{Works}
use Rattle.bench_cli.specs.Run.{LeavesUnused, LeavesAll}
use Rattle.bench_cli.specs.Ends.{Ends}
use Rattle.bench_cli.specs.Ends.Ends.{stopped, obeyed}

-- a command that reads the harness, and comes to an end at its files or by its work
pub comes_ends : (run : Run) (command : Command) (Does : Given → Sunk → ℕ → Option SimState → Type 0) (status : ℕ) (rig : Option SimState) → Asks run.words command → reads_harness command ≡ true
    → LeavesAll run → LeavesUnused (reads_input command) (uses_disk command) (uses_clock command) (uses_door command) run
    → ((given : Given) → Does given run.sunk status rig → Works command given run status rig) → Comes (reads_wires command) run.files run.sunk Does status rig → Ends run status rig
comes_ends run command Does status rig asks reads idle unused does (at_files stop) = stopped command asks reads idle stop
comes_ends run command Does status rig asks reads idle unused does (by_work given takes work) = obeyed command asks unused given takes (does given work)

-- a check of the unit, on what both files gave
pub check_comes : (unit : UnitName) (files : Files) (sim final : SimState) (p : Program) (names : List (List ℕ)) (sunk : Sunk) (status : ℕ) → names ≡ p.names → TakesBoth files sim p
    → UnitEnds (ComparesAll (compared_of (zip names p.nets.named))) (StopsAmong (compared_of (zip names p.nets.named))) sim.state final.state unit.serial unit.attempt sunk status
    → Comes true files sunk (ChecksUnit unit) status (Some final)
check_comes unit files sim final p names sunk status is takes ends =
    by_work (both sim p) takes (record {
      final = final;
      handed = refl;
      ends = subst (λ (l : List (List ℕ)). UnitEnds (ComparesAll (compared_of (zip l p.nets.named))) (StopsAmong (compared_of (zip l p.nets.named))) sim.state final.state unit.serial unit.attempt sunk status) is ends;
    })

-- the learning of the unit, on what the harness gave
pub learning_comes : (unit : UnitName) (files : Files) (sim final : SimState) (sunk : Sunk) (status : ℕ) → TakesHarness files.harness sim → IsUnread files.wires
    → UnitEnds LearnsAll StopsLearning sim.state final.state unit.serial unit.attempt sunk status → Comes false files sunk (LearnsUnit unit) status (Some final)
learning_comes unit files sim final sunk status takes alone ends = by_work (simulator sim) (takes, alone) (record { final = final; handed = refl; ends = ends })

-- a script, from the contract of its run
pub script_work : (run : Run) (status : ℕ) (sim : SimState) (p : Program) (rig : Option SimState)
    → MatchOption rig (RunRefused run.disk run.sunk.got run.moments run.input.left status run.disk_after run.sunk.got_after run.moments_after run.input.left_after)
    (λ held. RunOpened sim.state p run.disk run.sunk.got run.moments run.input.left status held.state run.disk_after run.sunk.got_after run.input.left_after)
    → MatchOption rig (Causes (counts_before run sim.state) (counts_after run sim.state) status) (λ held. Causes (counts_before run sim.state) (counts_after run held.state) status)
    → ((file : List ℕ) (R0 : List StationRecord) → run.disk.reads_as ≡ Some file → Says file (found R0)
    → MatchOption rig (Completes (counts_before run sim.state) (counts_after run sim.state) status) (λ held. Completes (counts_before run sim.state) (counts_after run held.state) status))
    → RunsScript (both sim p) run status rig
script_work run status sim p None refused causes complete = record { refused = refused; causes = causes; complete = complete }
script_work run status sim p (Some held) opened causes complete = record { opened = opened; causes = causes; complete = complete }

-- an import, from the contract of its call
pub import_work : (run : Run) (status : ℕ) (sim : SimState) (p : Program) (rig : Option SimState)
    → MatchOption rig (RunRefused run.disk run.sunk.got run.moments run.input.left status run.disk_after run.sunk.got_after run.moments_after run.input.left_after)
    (λ held. ImportOpened sim.state p run.disk run.sunk.got run.moments run.input.left status held.state run.disk_after run.sunk.got_after run.moments_after run.input.left_after)
    → MatchOption rig (Causes (counts_before run sim.state) (counts_after run sim.state) status) (λ held. Causes (counts_before run sim.state) (counts_after run held.state) status)
    → ((file : List ℕ) (R0 : List StationRecord) → run.disk.reads_as ≡ Some file → Says file (found R0)
    → MatchOption rig (Completes (counts_before run sim.state) (counts_after run sim.state) status) (λ held. Completes (counts_before run sim.state) (counts_after run held.state) status))
    → ImportsRows (both sim p) run status rig
import_work run status sim p None refused causes complete = record { refused = refused; causes = causes; complete = complete }
import_work run status sim p (Some held) opened causes complete = record { opened = opened; causes = causes; complete = complete }

-- ---- a report

-- a command that reads no file, and whose work is this report
pub report_ends : (run : Run) (command : Command) (asked : Report) (status : ℕ) (rig : Option SimState)
    → (Printed asked run.sunk run.disk run.disk_after status rig → Works command nothing run status rig)
    → Asks run.words command → LeavesUnused (reads_input command) (uses_disk command) (uses_clock command) (uses_door command) run
    → IsUnread run.files.harness → IsUnread run.files.wires → Printed asked run.sunk run.disk run.disk_after status rig → Ends run status rig
report_ends run command asked status rig works asks unused harness wires printed = obeyed command asks unused nothing (harness, wires) (works printed)

-- it uses the disk alone
pub disk_alone : (run : Run) → IsUnread run.input → run.moments_after ≡ run.moments → IsShut run.door → LeavesUnused false true false false run
disk_alone run input clock door = record { input = λ e. input; disk = λ e. cc; clock = λ e. clock; door = λ e. door }
