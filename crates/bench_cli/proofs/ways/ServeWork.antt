-- The serving of connections, from the contract of its call.
use Rattle.std.proofs.Common.{◌≡◌, ℕ, List, Option, None, Some}
use Rattle.std.specs.Prelude.{MatchOption}
use Rattle.rig_sim.specs.SimRig.{SimState}
use Rattle.wirelist.specs.declared.program.Program.{Program}
use Rattle.records.specs.declared.record.StationRecord.{StationRecord}
use Rattle.ledger.specs.Opening.{Says, found}
use Rattle.words.specs.declared.command.Service.{Service}
use Rattle.serving.specs.Completes.{Completes}
use Rattle.serving.specs.Keeping.{Causes}
use Rattle.serving.specs.Opened.{ServeRefused, ServeOpened}
use Rattle.bench_cli.specs.Run.{Run, both}
use Rattle.bench_cli.specs.Serving.{ServesDoor, around_before, around_after, faults_before, faults_after}

pub serve_work : (service : Service) (run : Run) (status : ℕ) (sim : SimState) (p : Program) (rig : Option SimState)
    → MatchOption rig (ServeRefused run.disk (around_before run) status run.disk_after (around_after run))
    (λ held. ServeOpened sim.state p run.disk service.count (around_before run) status held.state run.disk_after (around_after run))
    → MatchOption rig (Causes (faults_before run sim.state) (faults_after run sim.state) status) (λ held. Causes (faults_before run sim.state) (faults_after run held.state) status)
    → ((file : List ℕ) (R0 : List StationRecord) → run.disk.reads_as ≡ Some file → Says file (found R0)
    → MatchOption rig (Completes (faults_before run sim.state) (faults_after run sim.state) status) (λ held. Completes (faults_before run sim.state) (faults_after run held.state) status))
    → ServesDoor service (both sim p) run status rig
serve_work service run status sim p None refused causes complete = record { refused = refused; causes = causes; complete = complete }
serve_work service run status sim p (Some held) opened causes complete = record { opened = opened; causes = causes; complete = complete }
