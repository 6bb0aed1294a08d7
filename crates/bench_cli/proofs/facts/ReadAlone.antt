-- Of a rig on which one unit was read: the trail has group readings alone.
use Rattle.std.proofs.Common.{◌≡◌, [], ℕ, Bool, List, Option, None, Some, Ok, Err, refl, ◌∙◌, ap, subst, arith}
use Rattle.std.specs.Prelude.{option_map}
use Rattle.rig.specs.declared.event.Event.{Event}
use Rattle.rig.specs.declared.rig.RigStop.{RigStop}
use Rattle.rig.specs.declared.rig.RigStop.TheVariants.{Failed}
use Rattle.rig.specs.declared.rig.SeatAnswer.TheVariants.{Present, Absent}
use Rattle.rig.specs.RigState.{RigState}
use Rattle.rig.specs.Readings.{Reads}
use Rattle.rig.specs.Seating.{Seats}
use Rattle.rig.specs.Trail.{Extends, IsReading}
use Rattle.harness.specs.declared.row.HarnessRow.{HarnessRow}
use Rattle.rig_sim.specs.SimRig.{SimState, IsNew}
use Rattle.words.specs.Words.{Asks}
use Rattle.words.specs.declared.command.Command.{Command}
use Rattle.words.specs.declared.command.UnitName.{UnitName}
use Rattle.words.proofs.OneReading.{one_reading}
use Rattle.bench_cli.specs.Closing.{Sunk}
use Rattle.bench_cli.specs.Commands.{reads_wires}
use Rattle.bench_cli.specs.Run.{Run, Read, Files, Given, TakesFiles, TakesHarness, StopsAtFiles}
use Rattle.bench_cli.specs.Run.StopsAtFiles.{harness_fault, harness_refused, harness_memory, wires_fault, wires_refused, wires_memory, points_differ}
use Rattle.bench_cli.specs.UnitEnds.{SeatedEnds, UnseatedEnds, UnitEnds}
use Rattle.bench_cli.specs.UnitEnds.SeatedEnds.{printed, write_failed, rig_failed as reading_failed, no_memory as reading_memory, no_memory_in_text, no_memory_at_fault as reading_memory_at_fault}
use Rattle.bench_cli.specs.UnitEnds.UnseatedEnds.{empty, rig_failed as seat_failed, no_memory as seat_memory, no_memory_at_empty, no_memory_at_fault as seat_memory_at_fault}
use Rattle.bench_cli.specs.UnitEnds.UnitEnds.{seated, unseated}
use Rattle.bench_cli.specs.UnitWork.{WorksOn, ReadsAlone}
use Rattle.bench_cli.specs.Works.{Works}
use Rattle.bench_cli.specs.Ends.{Ends}
use Rattle.bench_cli.specs.Ends.Ends.{no_command, no_memory as words_memory, stopped, obeyed}
use Rattle.bench_cli.proofs.ways.SeatedLemmas.{is_seated}

abbrev Alone : RigState → Type 0
Alone state = Extends IsReading (Some []) state.trail

-- a trail without events
bare : (state : RigState) → state.trail ≡ Some [] → Alone state
bare state is = ([], λ k event below. absurd (omega (arith, below)), is)

-- readings behind none
read_on : (middle final : RigState) (stop : Option RigStop) → middle.trail ≡ Some [] → Reads middle final stop → Alone final
read_on middle final stop is reads = subst (λ (t : Option (List Event)). Extends IsReading t final.trail) is reads.trail

module _ (Finds : RigState → RigState → List ℕ → Type 0) (Stops : RigState → RigState → Type 0) (reads : (before after : RigState) (text : List ℕ) → Finds before after text → Reads before after None) where
  seated_alone : (middle final : RigState) (sunk : Sunk) (status : ℕ) → middle.trail ≡ Some [] → SeatedEnds Finds Stops middle final sunk status → Alone final
  seated_alone middle final sunk status is (printed text finds wrote) = read_on middle final None is (reads middle final text finds)
  seated_alone middle final sunk status is (write_failed text finds rose wrote) = read_on middle final None is (reads middle final text finds)
  seated_alone middle final sunk status is (reading_failed some stops line) = read_on middle final (Some Failed) is some
  seated_alone middle final sunk status is (reading_memory stop some unasked) = read_on middle final stop is some
  seated_alone middle final sunk status is (no_memory_in_text text finds lacks) = read_on middle final None is (reads middle final text finds)
  seated_alone middle final sunk status is (reading_memory_at_fault some lacks) = read_on middle final (Some Failed) is some

  module _ (rows : List HarnessRow) (sim : SimState) (new : IsNew rows sim) where
    began : sim.state.trail ≡ Some []
    began = ap (λ (s : RigState). s.trail) new.state

    nobody : (final : RigState) (serial : List ℕ) (attempt : ℕ) → Seats sim.state final serial attempt (Ok Absent) → Alone final
    nobody final serial attempt seats =
        bare final (ap (λ (s : RigState). s.trail) (seats.absent refl) ∙ ap (λ (t : Option (List Event)). option_map (λ (_ : List Event). []) t) began)

    refused : (final : RigState) (serial : List ℕ) (attempt : ℕ) (stop : RigStop) → Seats sim.state final serial attempt (Err stop) → Alone final
    refused final serial attempt stop seats = bare final (ap (λ (s : RigState). s.trail) seats.err ∙ began)

    unseated_alone : (final : RigState) (serial : List ℕ) (attempt : ℕ) (sunk : Sunk) (status : ℕ) → UnseatedEnds sim.state final serial attempt sunk status → Alone final
    unseated_alone final serial attempt sunk status (empty seats line) = nobody final serial attempt seats
    unseated_alone final serial attempt sunk status (seat_failed seats line) = refused final serial attempt Failed seats
    unseated_alone final serial attempt sunk status (seat_memory stop seats unasked) = refused final serial attempt stop seats
    unseated_alone final serial attempt sunk status (no_memory_at_empty seats lacks) = nobody final serial attempt seats
    unseated_alone final serial attempt sunk status (seat_memory_at_fault seats lacks) = refused final serial attempt Failed seats

    unit_alone : (final : RigState) (serial : List ℕ) (attempt : ℕ) (sunk : Sunk) (status : ℕ) → UnitEnds Finds Stops sim.state final serial attempt sunk status → Alone final
    unit_alone final serial attempt sunk status (seated middle seats ends) =
        seated_alone middle final sunk status (is_seated rows sim new middle serial attempt seats).trail ends
    unit_alone final serial attempt sunk status (unseated ends) = unseated_alone final serial attempt sunk status ends

  -- and so is the rig that is handed out
  pub work_alone : (unit : UnitName) (file : Read) (sim : SimState) (sunk : Sunk) (status : ℕ) (rig : Option SimState) → TakesHarness file sim → WorksOn Finds Stops unit sim sunk status rig → ReadsAlone rig
  work_alone unit file sim sunk status rig takes work other out =
      let same : work.final ≡ other = cc (work.handed, out) in
      subst (λ (s : SimState). Alone s.state) same (unit_alone takes.rows sim takes.is_new work.final.state unit.serial unit.attempt sunk status work.ends)

-- the simulator as it was made
new_alone : (file : Read) (made sim : SimState) → TakesHarness file made → Some made ≡ Some sim → Alone sim.state
new_alone file made sim takes out =
    let same : made ≡ sim = cc in
    subst (λ (s : SimState). Alone s.state) same (bare made.state (ap (λ (s : RigState). s.trail) takes.is_new.state))

files_alone : (wired : Bool) (files : Files) (sunk : Sunk) (status : ℕ) (rig : Option SimState) → StopsAtFiles wired files sunk status rig → ReadsAlone rig
files_alone wired files sunk status rig (harness_fault fails alone line) sim out = cc
files_alone wired files sunk status rig (harness_refused refusal refuses alone line) sim out = cc
files_alone wired files sunk status rig (harness_memory lost alone unasked) sim out = cc
files_alone wired files sunk status rig (wires_fault reads made takes fails line) sim out = new_alone files.harness made sim takes out
files_alone wired files sunk status rig (wires_refused reads made takes refusal refuses line) sim out = new_alone files.harness made sim takes out
files_alone wired files sunk status rig (wires_memory reads made takes lost unasked) sim out = new_alone files.harness made sim takes out
files_alone wired files sunk status rig (points_differ reads made takes p read other line) sim out = new_alone files.harness made sim takes out

-- a command whose own work reads alone
pub run_alone : (run : Run) (command : Command) (status : ℕ) (rig : Option SimState) → Asks run.words command
    → ((given : Given) → TakesFiles run.files given → Works command given run status rig → ReadsAlone rig) → Ends run status rig → ReadsAlone rig
run_alone run command status rig asks works (words_memory unread alone unused unasked) sim out = cc
run_alone run command status rig asks works (no_command none unread alone unused line) sim out = cc
run_alone run command status rig asks works (stopped other also reads unused stop) sim out = files_alone (reads_wires other) run.files run.sunk status rig stop sim out
run_alone run command status rig asks works (obeyed other also unused given takes work) sim out =
    works given takes (subst (λ (c : Command). Works c given run status rig) (one_reading run.words other command also asks) work) sim out
