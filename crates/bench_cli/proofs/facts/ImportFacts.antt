-- What an import promises.
use Rattle.std.proofs.Common.{◌≡◌, ◌⊎◌, inl, inr, ℕ, List, Option, None, Some, refl, ◌∙◌, subst}
use Rattle.harness.specs.declared.row.HarnessRow.{HarnessRow}
use Rattle.harness.specs.Units.{units_of}
use Rattle.rig.specs.RigState.{RigState}
use Rattle.rig_sim.specs.SimRig.{SimState, IsNew}
use Rattle.wirelist.specs.declared.program.Program.{Program}
use Rattle.unit_outcome.specs.Found.{found_in}
use Rattle.importing.specs.Imported.{ImportAnswered}
use Rattle.words.specs.declared.command.Command.{Command}
use Rattle.words.specs.declared.command.Command.TheVariants.{Import}
use Rattle.words.specs.Words.{Asks}
use Rattle.words.proofs.OneReading.{one_reading}
use Rattle.bench_cli.specs.Commands.{reads_wires}
use Rattle.bench_cli.specs.Ends.{Ends}
use Rattle.bench_cli.specs.Ends.Ends.{no_command, no_memory, stopped, obeyed}
use Rattle.bench_cli.specs.Importing.{Imported, ImportsRows, AnsweredRows, HasImported, ImportedOnFiles, IsImporting}
use Rattle.bench_cli.specs.Run.{Run, Given, nothing, simulator, both, TakesFiles, TakesBoth, StopsAtFiles, LeavesAll}
use Rattle.bench_cli.specs.Scripting.{EndsAtFiles}
use Rattle.bench_cli.specs.Told.{FailedRead, HarnessInForm, WiresInForm}
use Rattle.bench_cli.specs.Works.{Works}
use Rattle.bench_cli.proofs.ways.FileWays.{harness_told, program_told, taken_points}
use Rattle.bench_cli.proofs.ways.RunWays.{Way, reached}
use Rattle.bench_cli.proofs.facts.ScriptFacts.{told_new}

answered_rows : (rows : List HarnessRow) (p : Program) (run : Run) (status : ℕ) (sim : SimState) (final : RigState) → IsNew rows sim
    → ImportAnswered sim.state p run.disk run.sunk.got run.moments run.input.left status final run.disk_after run.sunk.got_after run.input.left_after
    → AnsweredRows rows p run status sim.state final
answered_rows rows p run status sim final new answered = record {
  rows_answered = answered;
  headline = λ file R0 begins got moments input got_is moments_are left_is.
      answered.headline file R0 begins (record { findings = found_in (units_of rows) p; got = got; moments = moments }) input
      (record { findings_are = told_new rows p sim new; got_is = got_is; moments_are = moments_are; left_is = left_is });
}

has_imported : (rows : List HarnessRow) (p : Program) (run : Run) (status : ℕ) (sim : SimState) (final : RigState) → IsNew rows sim
    → Imported p run status sim.state final → HasImported rows p run status final
has_imported rows p run status sim final new ends = record {
  sim = sim;
  new = new;
  causes = ends.causes;
  complete = ends.complete;
  came = elim ends.opened [ inl none ↦ inl none | inr all ↦ inr (answered_rows rows p run status sim final new all) ];
}

module _ (run : Run) (status : ℕ) where
  imported_both : (rig : Option SimState) (sim : SimState) (p : Program) → TakesBoth run.files sim p → ImportsRows (both sim p) run status rig
      → ImportedOnFiles run status rig
  imported_both None sim p takes work = record {
    rows = takes.harness.rows;
    p = p;
    harness = harness_told takes.harness;
    wires = program_told takes.wires;
    over = takes.same ∙ taken_points takes.harness;
    began = sim;
    new = takes.harness.is_new;
    ends = work;
  }
  imported_both (Some final) sim p takes work = record {
    rows = takes.harness.rows;
    p = p;
    harness = harness_told takes.harness;
    wires = program_told takes.wires;
    over = takes.same ∙ taken_points takes.harness;
    began = sim;
    new = takes.harness.is_new;
    ends = has_imported takes.harness.rows p run status sim final.state takes.harness.is_new work;
  }

  imported : (rig : Option SimState) (given : Given) → TakesFiles run.files given → ImportsRows given run status rig → ImportedOnFiles run status rig
  imported rig nothing takes work = absurd work
  imported rig (simulator sim) takes work = absurd work
  imported rig (both sim p) takes work = imported_both rig sim p takes work

  came_by : (rig : Option SimState) (command : Command) → command ≡ Import → (given : Given) → TakesFiles run.files given → Works command given run status rig
      → ImportedOnFiles run status rig
  came_by rig command is given takes work = imported rig given takes (subst (λ (c : Command). Works c given run status rig) is work)

module _ (run : Run) where
  came_fact : (status : ℕ) (rig : Option SimState) → Asks run.words Import → Ends run status rig
      → ((status ≡ 9) × LeavesAll run) ⊎ (EndsAtFiles run status rig ⊎ ImportedOnFiles run status rig)
  came_fact status rig asks (no_command none unread alone unused line) = absurd (none (Import, asks))
  came_fact status rig asks (no_memory unread alone unused unasked) = inl (refl, unused)
  came_fact status rig asks (stopped command also reads unused stop) =
      inr (inl (record {
        stops = subst (λ (c : Command). StopsAtFiles (reads_wires c) run.files run.sunk status rig) (one_reading run.words command Import also asks) stop;
        unused = unused;
      }))
  came_fact status rig asks (obeyed command also unused given takes work) =
      inr (inr (came_by run status rig command (one_reading run.words command Import also asks) given takes work))

  reaches_fact : (status : ℕ) (rig : Option SimState) → Asks run.words Import → Way run status rig → (rows : List HarnessRow) → HarnessInForm run.files rows
      → WiresInForm run.files rows → ImportedOnFiles run status rig ⊎ ((status ≡ 9) ⊎ FailedRead run.files status)
  reaches_fact status rig asks way rows harness wires = elim (reached Import rows asks harness (λ wired. wires) way) [
    | inl w ↦ inl (imported run status rig w.given w.takes w.work)
    | inr (inl is) ↦ inr (inl is)
    | inr (inr (is, inl rose)) ↦ inr (inr (is, inl rose))
    | inr (inr (is, inr (wired, rose))) ↦ inr (inr (is, inr rose))
  ]

  pub is_importing : (status : ℕ) (rig : Option SimState) → Asks run.words Import → Ends run status rig → Way run status rig → IsImporting run status rig
  is_importing status rig asks ends way = record { came = came_fact status rig asks ends; reaches = reaches_fact status rig asks way }
