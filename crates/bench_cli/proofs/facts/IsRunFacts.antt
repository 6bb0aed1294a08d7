-- What a run promises, from the way in which it ended.
use Rattle.std.proofs.Common.{ℕ, Option, refl}
use Rattle.rig_sim.specs.SimRig.{SimState}
use Rattle.words.specs.declared.command.Command.{Command}
use Rattle.words.specs.declared.command.Command.TheVariants.{Continuity, Learn, Run as RunScript, Import, Serve, Report, Unit, Export, Soak}
use Rattle.reporting.specs.declared.reporting.Report.TheVariants as report
use Rattle.words.specs.Words.{Asks}
use Rattle.bench_cli.specs.Run.{Run}
use Rattle.bench_cli.specs.Ends.{Ends}
use Rattle.bench_cli.specs.Works.{Obeys}
use Rattle.bench_cli.specs.Promises.{IsRun}
use Rattle.bench_cli.proofs.ways.RunWays.{Way, way}
use Rattle.bench_cli.proofs.facts.CheckFacts.{is_check}
use Rattle.bench_cli.proofs.facts.LearnFacts.{is_learning}
use Rattle.bench_cli.proofs.facts.ScriptFacts.{is_scripting}
use Rattle.bench_cli.proofs.facts.ImportFacts.{is_importing}
use Rattle.bench_cli.proofs.facts.ServeFacts.{is_serving}
use Rattle.bench_cli.proofs.facts.ReportFacts.{is_reporting}
use Rattle.bench_cli.proofs.facts.SoakFacts.{is_soaking}
use Rattle.bench_cli.proofs.facts.SoundFacts.{sound_fact}
use Rattle.bench_cli.proofs.facts.FrameFacts.{no_command_fact, usage_fact, commanded_fact, unread_fact, wires_unread_fact, input_unread_fact, harness_front_fact, wires_front_fact, disk_unused_fact, clock_unused_fact, door_unused_fact, harness_refused_fact, refused_harness_fact, wires_refused_fact, refused_wires_fact, points_differ_fact, differing_points_fact, read_fault_fact, network_fault_fact, no_memory_fact, handed_out_fact, kept_back_fact}

module _ (run : Run) (status : ℕ) (rig : Option SimState) where
  obeys : Ends run status rig → Way run status rig → (command : Command) → Asks run.words command → Obeys command run status rig
  obeys ends by (Continuity unit) asks = is_check unit run status rig asks ends by
  obeys ends by (Learn unit) asks = is_learning unit run status rig asks ends by
  obeys ends by RunScript asks = is_scripting run status rig asks ends by
  obeys ends by Import asks = is_importing run status rig asks ends by
  obeys ends by (Serve service) asks = is_serving service run status rig asks ends by
  obeys ends by Report asks = is_reporting Report report.Lot run status rig refl (λ given work. work) asks ends
  obeys ends by (Unit serial) asks = is_reporting (Unit serial) (report.Unit serial) run status rig refl (λ given work. work) asks ends
  obeys ends by Export asks = is_reporting Export report.Results run status rig refl (λ given work. work) asks ends
  obeys ends by (Soak n) asks = is_soaking n run status rig asks ends

  pub is_run : Ends run status rig → IsRun run status rig
  is_run ends =
      let by = way run status rig ends in
      record {
        ends = ends;
        obeyed = obeys ends by;
        no_command = no_command_fact run status rig by;
        usage = usage_fact run status rig by;
        commanded = commanded_fact run status rig by;
        unread = unread_fact run status rig ends;
        wires_unread = wires_unread_fact run status rig ends;
        input_unread = input_unread_fact run status rig ends;
        harness_front = harness_front_fact run status rig ends;
        wires_front = wires_front_fact run status rig ends;
        disk_unused = disk_unused_fact run status rig ends;
        clock_unused = clock_unused_fact run status rig ends;
        door_unused = door_unused_fact run status rig ends;
        sound = sound_fact run status rig ends;
        harness_refused = harness_refused_fact run status rig by;
        refused_harness = refused_harness_fact run status rig by;
        wires_refused = wires_refused_fact run status rig by;
        refused_wires = refused_wires_fact run status rig by;
        points_differ = points_differ_fact run status rig by;
        differing_points = differing_points_fact run status rig by;
        read_fault = read_fault_fact run status rig by;
        network_fault = network_fault_fact run status rig by;
        no_memory = no_memory_fact run status rig by;
        handed_out = handed_out_fact run status rig ends;
        kept_back = kept_back_fact run status rig ends;
      }
