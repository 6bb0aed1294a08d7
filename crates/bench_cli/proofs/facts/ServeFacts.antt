-- What the serving of connections promises.
use Rattle.std.proofs.Common.{◌≡◌, ◌⊎◌, inl, inr, ℕ, List, Option, None, Some, refl, ◌∙◌, sym, ap, subst}
use Rattle.harness.specs.declared.row.HarnessRow.{HarnessRow}
use Rattle.harness.specs.Units.{units_of}
use Rattle.rig.specs.RigState.{RigState}
use Rattle.rig_sim.specs.SimRig.{SimState, IsNew}
use Rattle.wirelist.specs.declared.program.Program.{Program}
use Rattle.unit_outcome.specs.Found.{found_in, told_by}
use Rattle.unit_outcome.specs.Tested.{IsInOrderOf}
use Rattle.records.specs.declared.record.StationRecord.{StationRecord}
use Rattle.ledger.specs.Opening.{BeginsSound, Opens, found}
use Rattle.station.specs.View.{StationState, IsTold}
use Rattle.script.proofs.disk.Openings.{run_tells}
use Rattle.serving.specs.InTurn.{ServesTold}
use Rattle.serving.specs.Opened.{IsUnheard, ServesFrom, left_at, stage_at}
use Rattle.words.specs.declared.command.Command.{Command}
use Rattle.words.specs.declared.command.Command.TheVariants.{Serve}
use Rattle.words.specs.declared.command.Service.{Service}
use Rattle.words.specs.Words.{Asks}
use Rattle.words.proofs.OneReading.{one_reading}
use Rattle.bench_cli.specs.Commands.{reads_wires}
use Rattle.bench_cli.specs.Ends.{Ends}
use Rattle.bench_cli.specs.Ends.Ends.{no_command, no_memory, stopped, obeyed}
use Rattle.bench_cli.specs.Run.{Run, Given, nothing, simulator, both, TakesFiles, TakesBoth, StopsAtFiles, LeavesAll}
use Rattle.bench_cli.specs.Scripting.{EndsAtFiles}
use Rattle.bench_cli.specs.Serving.{ServingOpened, ServesDoor, HasServed, ServedOnFiles, IsServing, around_before, around_after}
use Rattle.bench_cli.specs.Told.{FailedRead, HarnessInForm, WiresInForm}
use Rattle.bench_cli.specs.Works.{Works}
use Rattle.bench_cli.proofs.ways.FileWays.{harness_told, program_told, taken_points}
use Rattle.bench_cli.proofs.ways.RunWays.{Way, reached}
use Rattle.bench_cli.proofs.facts.ScriptFacts.{told_new}

-- a new simulator has no trail yet
order_new : (rows : List HarnessRow) (p : Program) (sim : SimState) → IsNew rows sim → IsInOrderOf p sim.state
order_new rows p sim new = subst (λ (r : RigState). IsInOrderOf p r) (sym new.state) (tt, refl)

-- what is told of the station over a sound file
told_station : (rows : List HarnessRow) (p : Program) (sim : SimState) (run : Run) (s : StationState) → IsNew rows sim → s.rig ≡ sim.state → s.program ≡ p
    → Opens run.disk s.disk (found s.records) → (file : List ℕ) (R0 : List StationRecord) → BeginsSound run.disk file R0 → IsTold s (found_in (units_of rows) p)
told_station rows p sim run s new rig_is program_is opens file R0 begins = record {
  disk = run_tells run.disk file R0 begins s opens;
  findings_are = ap (λ (q : Program). told_by q s.rig) program_is ∙ ap (λ (r : RigState). told_by p r) rig_is ∙ told_new rows p sim new;
}

module _ (service : Service) (run : Run) (status : ℕ) where
  in_order_by : (rows : List HarnessRow) (p : Program) (sim : SimState) (final : RigState) → IsNew rows sim → (ends : ServingOpened service p run status sim.state final)
      → (file : List ℕ) (R0 : List StationRecord) → BeginsSound run.disk file R0
      → ServesFrom service.count (stage_at ends.opened.station (around_before run)) status (left_at final run.disk_after (around_after run))
      → IsUnheard (stage_at ends.opened.station (around_before run)) status (left_at final run.disk_after (around_after run))
      ⊎ ServesTold (found_in (units_of rows) p) (stage_at ends.opened.station (around_before run)) service.count status
      (left_at final run.disk_after (around_after run))
  in_order_by rows p sim final new ends file R0 begins (inl unheard) = inl unheard
  in_order_by rows p sim final new ends file R0 begins (inr all) =
      inr (all.in_order (found_in (units_of rows) p)
      (told_station rows p sim run ends.opened.station new ends.opened.rig_is ends.opened.program_is ends.opened.opens file R0 begins))

  has_served : (rows : List HarnessRow) (p : Program) (sim : SimState) (final : RigState) → IsNew rows sim → ServingOpened service p run status sim.state final
      → HasServed service rows p run status final
  has_served rows p sim final new ends = record {
    sim = sim;
    new = new;
    ends = ends;
    told = ap (λ (r : RigState). told_by p r) ends.opened.rig_is ∙ told_new rows p sim new;
    order = ends.opened.order (order_new rows p sim new);
    in_order = λ file R0 begins. in_order_by rows p sim final new ends file R0 begins ends.opened.served;
  }

  served_both : (rig : Option SimState) (sim : SimState) (p : Program) → TakesBoth run.files sim p → ServesDoor service (both sim p) run status rig
      → ServedOnFiles service run status rig
  served_both None sim p takes work = record {
    rows = takes.harness.rows;
    p = p;
    harness = harness_told takes.harness;
    wires = program_told takes.wires;
    over = takes.same ∙ taken_points takes.harness;
    began = sim;
    new = takes.harness.is_new;
    ends = work;
  }
  served_both (Some final) sim p takes work = record {
    rows = takes.harness.rows;
    p = p;
    harness = harness_told takes.harness;
    wires = program_told takes.wires;
    over = takes.same ∙ taken_points takes.harness;
    began = sim;
    new = takes.harness.is_new;
    ends = has_served takes.harness.rows p sim final.state takes.harness.is_new work;
  }

  served : (rig : Option SimState) (given : Given) → TakesFiles run.files given → ServesDoor service given run status rig → ServedOnFiles service run status rig
  served rig nothing takes work = absurd work
  served rig (simulator sim) takes work = absurd work
  served rig (both sim p) takes work = served_both rig sim p takes work

  came_by : (rig : Option SimState) (command : Command) → command ≡ Serve service → (given : Given) → TakesFiles run.files given → Works command given run status rig
      → ServedOnFiles service run status rig
  came_by rig command is given takes work = served rig given takes (subst (λ (c : Command). Works c given run status rig) is work)

module _ (service : Service) (run : Run) where
  came_fact : (status : ℕ) (rig : Option SimState) → Asks run.words (Serve service) → Ends run status rig
      → ((status ≡ 9) × LeavesAll run) ⊎ (EndsAtFiles run status rig ⊎ ServedOnFiles service run status rig)
  came_fact status rig asks (no_command none unread alone unused line) = absurd (none (Serve service, asks))
  came_fact status rig asks (no_memory unread alone unused unasked) = inl (refl, unused)
  came_fact status rig asks (stopped command also reads unused stop) =
      inr (inl (record {
        stops = subst (λ (c : Command). StopsAtFiles (reads_wires c) run.files run.sunk status rig) (one_reading run.words command (Serve service) also asks) stop;
        unused = unused;
      }))
  came_fact status rig asks (obeyed command also unused given takes work) =
      inr (inr (came_by service run status rig command (one_reading run.words command (Serve service) also asks) given takes work))

  reaches_fact : (status : ℕ) (rig : Option SimState) → Asks run.words (Serve service) → Way run status rig → (rows : List HarnessRow) → HarnessInForm run.files rows
      → WiresInForm run.files rows → ServedOnFiles service run status rig ⊎ ((status ≡ 9) ⊎ FailedRead run.files status)
  reaches_fact status rig asks way rows harness wires = elim (reached (Serve service) rows asks harness (λ wired. wires) way) [
    | inl w ↦ inl (served service run status rig w.given w.takes w.work)
    | inr (inl is) ↦ inr (inl is)
    | inr (inr (is, inl rose)) ↦ inr (inr (is, inl rose))
    | inr (inr (is, inr (wired, rose))) ↦ inr (inr (is, inr rose))
  ]

pub is_serving : (service : Service) (run : Run) (status : ℕ) (rig : Option SimState) → Asks run.words (Serve service) → Ends run status rig → Way run status rig → IsServing service run status rig
is_serving service run status rig asks ends way = record { came = came_fact service run status rig asks ends; reaches = reaches_fact service run status rig asks way }
