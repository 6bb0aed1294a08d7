-- What the run of a script promises.
use Rattle.std.proofs.Common.{◌≡◌, ◌⊎◌, inl, inr, ℕ, List, Option, None, Some, refl, ◌∙◌, ap, subst}
use Rattle.harness.specs.declared.row.HarnessRow.{HarnessRow}
use Rattle.harness.specs.Units.{units_of}
use Rattle.rig.specs.RigState.{RigState}
use Rattle.rig_sim.specs.SimRig.{SimState, IsNew}
use Rattle.wirelist.specs.declared.program.Program.{Program}
use Rattle.unit_outcome.specs.Found.{found_in, told_by}
use Rattle.words.specs.declared.command.Command.{Command}
use Rattle.words.specs.declared.command.Command.TheVariants.{Run as RunScript}
use Rattle.words.specs.Words.{Asks}
use Rattle.words.proofs.OneReading.{one_reading}
use Rattle.bench_cli.specs.Run.{Run, Given, nothing, simulator, both, TakesFiles, TakesBoth, StopsAtFiles, LeavesAll}
use Rattle.bench_cli.specs.Commands.{reads_wires}
use Rattle.bench_cli.specs.Told.{FailedRead, HarnessInForm, WiresInForm}
use Rattle.bench_cli.specs.Ends.{Ends}
use Rattle.bench_cli.specs.Ends.Ends.{no_command, no_memory, stopped, obeyed}
use Rattle.bench_cli.specs.Scripting.{Opened, HasRun, RanOnFiles, RunsScript, EndsAtFiles, IsScripting}
use Rattle.bench_cli.specs.Works.{Works}
use Rattle.bench_cli.proofs.ways.FileWays.{harness_told, program_told, taken_points}
use Rattle.bench_cli.proofs.ways.RunWays.{Way, reached}

-- what a new simulator tells of each unit
pub told_new : (rows : List HarnessRow) (p : Program) (sim : SimState) → IsNew rows sim → told_by p sim.state ≡ Some (found_in (units_of rows) p)
told_new rows p sim new = ap (λ (s : RigState). told_by p s) new.state

has_run : (rows : List HarnessRow) (p : Program) (run : Run) (status : ℕ) (sim : SimState) (final : RigState) → IsNew rows sim → Opened p run status sim.state final → HasRun rows p run status final
has_run rows p run status sim final new ends = record {
  sim = sim;
  new = new;
  ends = ends;
  headline = λ file R0 begins got moments script got_is moments_are left_is.
      ends.opened.headline file R0 begins (record { findings = found_in (units_of rows) p; got = got; moments = moments }) script
      (record { findings_are = told_new rows p sim new; got_is = got_is; moments_are = moments_are; left_is = left_is });
}

module _ (run : Run) (status : ℕ) where
  ran_both : (rig : Option SimState) (sim : SimState) (p : Program) → TakesBoth run.files sim p → RunsScript (both sim p) run status rig → RanOnFiles run status rig
  ran_both None sim p takes work = record {
    rows = takes.harness.rows;
    p = p;
    harness = harness_told takes.harness;
    wires = program_told takes.wires;
    over = takes.same ∙ taken_points takes.harness;
    began = sim;
    new = takes.harness.is_new;
    ends = work;
  }
  ran_both (Some final) sim p takes work = record {
    rows = takes.harness.rows;
    p = p;
    harness = harness_told takes.harness;
    wires = program_told takes.wires;
    over = takes.same ∙ taken_points takes.harness;
    began = sim;
    new = takes.harness.is_new;
    ends = has_run takes.harness.rows p run status sim final.state takes.harness.is_new work;
  }

  ran : (rig : Option SimState) (given : Given) → TakesFiles run.files given → RunsScript given run status rig → RanOnFiles run status rig
  ran rig nothing takes work = absurd work
  ran rig (simulator sim) takes work = absurd work
  ran rig (both sim p) takes work = ran_both rig sim p takes work

  came_by : (rig : Option SimState) (command : Command) → command ≡ RunScript → (given : Given) → TakesFiles run.files given → Works command given run status rig → RanOnFiles run status rig
  came_by rig command is given takes work = ran rig given takes (subst (λ (c : Command). Works c given run status rig) is work)

module _ (run : Run) where
  came_fact : (status : ℕ) (rig : Option SimState) → Asks run.words RunScript → Ends run status rig → ((status ≡ 9) × LeavesAll run) ⊎ (EndsAtFiles run status rig ⊎ RanOnFiles run status rig)
  came_fact status rig asks (no_command none unread alone unused line) = absurd (none (RunScript, asks))
  came_fact status rig asks (no_memory unread alone unused unasked) = inl (refl, unused)
  came_fact status rig asks (stopped command also reads unused stop) =
      inr (inl (record { stops = subst (λ (c : Command). StopsAtFiles (reads_wires c) run.files run.sunk status rig) (one_reading run.words command RunScript also asks) stop; unused = unused }))
  came_fact status rig asks (obeyed command also unused given takes work) = inr (inr (came_by run status rig command (one_reading run.words command RunScript also asks) given takes work))

  reaches_fact : (status : ℕ) (rig : Option SimState) → Asks run.words RunScript → Way run status rig → (rows : List HarnessRow) → HarnessInForm run.files rows → WiresInForm run.files rows
      → RanOnFiles run status rig ⊎ ((status ≡ 9) ⊎ FailedRead run.files status)
  reaches_fact status rig asks way rows harness wires = elim (reached RunScript rows asks harness (λ wired. wires) way) [
    | inl w ↦ inl (ran run status rig w.given w.takes w.work)
    | inr (inl is) ↦ inr (inl is)
    | inr (inr (is, inl rose)) ↦ inr (inr (is, inl rose))
    | inr (inr (is, inr (wired, rose))) ↦ inr (inr (is, inr rose))
  ]

  pub is_scripting : (status : ℕ) (rig : Option SimState) → Asks run.words RunScript → Ends run status rig → Way run status rig → IsScripting run status rig
  is_scripting status rig asks ends way = record { came = came_fact status rig asks ends; reaches = reaches_fact status rig asks way }
