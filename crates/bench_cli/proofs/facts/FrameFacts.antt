-- What a run promises whatever the command.
use Rattle.std.proofs.Common.{◌≡◌, ◌≢◌, ◌⊎◌, inl, inr, ℕ, Bool, true, false, List, Option, None, Some, refl, sym, ◌∙◌, ap, subst, arith}
use Rattle.base.specs.Causes.{Rose}
use Rattle.bench_edge.specs.Whole.{LostFront}
use Rattle.bench_edge.proofs.Calls.{TookFirst-lost}
use Rattle.harness.specs.declared.row.HarnessRow.{HarnessRow}
use Rattle.harness.specs.declared.refusal.HarnessRefusal.{HarnessRefusal}
use Rattle.harness.specs.Places.{points_in}
use Rattle.harness.specs.Harness.{IsHarness, IsRefused}
use Rattle.rig_sim.specs.SimRig.{SimState}
use Rattle.wirelist.specs.declared.program.Program.{Program}
use Rattle.wirelist.specs.declared.refusal.WireRefusal.{WireRefusal}
use Rattle.words.specs.declared.command.Command.{Command}
use Rattle.words.specs.Words.{Asks, IsCommand}
use Rattle.words.proofs.OneReading.{one_reading}
use Rattle.bench_cli.specs.Commands.{AsksFor, reads_harness, reads_wires, reads_input, uses_disk, uses_clock, uses_door}
use Rattle.bench_cli.specs.Closing.{Closes, CountsNone, usage_line}
use Rattle.bench_cli.specs.Run.{Run, IsUnread, IsShut, Given, nothing, simulator, both, TakesFiles, TakesHarness, StopsAtFiles, most_of_harness, most_of_wires, refusal_line}
use Rattle.bench_cli.specs.Run.StopsAtFiles.{harness_fault, harness_refused, harness_memory, wires_fault, wires_refused, wires_memory, points_differ}
use Rattle.bench_cli.specs.Told.{TellsHarness, TellsWires, HasRows, HasRefusal, HasProgram, HasFault, FailedHarness, FailedRead, Is}
use Rattle.bench_cli.specs.Wires.{IsWirelist, first_refusal, wires_refusal_line, points_differ_line}
use Rattle.bench_cli.specs.Ends.{Ends}
use Rattle.bench_cli.specs.Ends.Ends.{no_command, no_memory as words_memory, stopped, obeyed}
use Rattle.bench_cli.specs.Promises.{IsReadFault}
use Rattle.bench_cli.proofs.frames.Framed.{Framed, AreFilesOf}
use Rattle.bench_cli.proofs.frames.Framing.{framed}
use Rattle.bench_cli.proofs.ways.FileWays.{harness_told, same_rows, refusal_told, not_refused, taken_points, refused_told, program_told, not_both_ways, one_program, alone_front, harness_front_at_files, wires_front_at_files, wires_alone_unwired, wires_alone_without, handed_at_files}
use Rattle.bench_cli.proofs.ways.FileWays.FileWay.{no_harness_read, no_harness, no_wires_read, no_wires, other_points, no_memory}
use Rattle.bench_cli.proofs.ways.RunWays.{Way}
use Rattle.bench_cli.proofs.ways.RunWays.Way.{usage, no_usage, stops, works}

bool_cases : (b : Bool) → (b ≡ true) ⊎ (b ≡ false)
bool_cases true = inl refl
bool_cases false = inr refl

module _ (run : Run) where
  -- of a command that reads the harness, the harness was taken
  given_harness : (command : Command) (given : Given) → AreFilesOf command given → TakesFiles run.files given → reads_harness command ≡ true → (sim : SimState) × TakesHarness run.files.harness sim
  given_harness command nothing files takes reads = let both : true ≡ false = sym reads ∙ files.0 in cc
  given_harness command (simulator sim) files takes reads = (sim, takes.0)
  given_harness command (both sim p) files takes reads = (sim, takes.harness)

module _ (run : Run) (status : ℕ) (rig : Option SimState) where
  -- ---- by the status

  pub no_command_fact : Way run status rig → status ≡ 2 → (IsCommand run.words → ⊥) × Closes run.sunk usage_line
  no_command_fact (usage is none line) at = (none, line)
  no_command_fact (no_usage is quiet) at = absurd (omega arith)
  no_command_fact (stops command asks reads (no_harness_read is rose line)) at = absurd (omega arith)
  no_command_fact (stops command asks reads (no_harness is refusal refuses line)) at = absurd (omega arith)
  no_command_fact (stops command asks reads (no_wires_read is wired sim takes rose line)) at = absurd (omega arith)
  no_command_fact (stops command asks reads (no_wires is wired sim takes refusal refuses line)) at = absurd (omega arith)
  no_command_fact (stops command asks reads (other_points is wired sim takes p read other line)) at = absurd (omega arith)
  no_command_fact (stops command asks reads (no_memory is quiet)) at = absurd (omega arith)
  no_command_fact (works command asks given takes work frame) at = absurd (frame.no_stop.0 at)

  pub usage_fact : Way run status rig → (IsCommand run.words → ⊥) → Is 2 status
  usage_fact (usage is none line) no_one = inl is
  usage_fact (no_usage is quiet) no_one = inr is
  usage_fact (stops command asks reads stop) no_one = absurd (no_one (command, asks))
  usage_fact (works command asks given takes work frame) no_one = absurd (no_one (command, asks))

  pub commanded_fact : Way run status rig → Is 2 status ⊎ IsCommand run.words
  commanded_fact (usage is none line) = inl (inl is)
  commanded_fact (no_usage is quiet) = inl (inr is)
  commanded_fact (stops command asks reads stop) = inr (command, asks)
  commanded_fact (works command asks given takes work frame) = inr (command, asks)

  pub harness_refused_fact : Way run status rig → status ≡ 3 → AsksFor reads_harness run.words × (refusal : HarnessRefusal) × HasRefusal run.files refusal × Closes run.sunk (refusal_line refusal)
  harness_refused_fact (usage is none line) at = absurd (omega arith)
  harness_refused_fact (no_usage is quiet) at = absurd (omega arith)
  harness_refused_fact (stops command asks reads (no_harness_read is rose line)) at = absurd (omega arith)
  harness_refused_fact (stops command asks reads (no_harness is refusal refuses line)) at = ((command, asks, reads), refusal, refusal_told refuses, line)
  harness_refused_fact (stops command asks reads (no_wires_read is wired sim takes rose line)) at = absurd (omega arith)
  harness_refused_fact (stops command asks reads (no_wires is wired sim takes refusal refuses line)) at = absurd (omega arith)
  harness_refused_fact (stops command asks reads (other_points is wired sim takes p read other line)) at = absurd (omega arith)
  harness_refused_fact (stops command asks reads (no_memory is quiet)) at = absurd (omega arith)
  harness_refused_fact (works command asks given takes work frame) at = absurd (frame.no_stop.1 at)

  pub wires_refused_fact : Way run status rig → status ≡ 4 → AsksFor reads_wires run.words × (rows : List HarnessRow) × HasRows run.files rows
      × (refusal : WireRefusal) × HasFault run.files refusal × Closes run.sunk (wires_refusal_line refusal)
  wires_refused_fact (usage is none line) at = absurd (omega arith)
  wires_refused_fact (no_usage is quiet) at = absurd (omega arith)
  wires_refused_fact (stops command asks reads (no_harness_read is rose line)) at = absurd (omega arith)
  wires_refused_fact (stops command asks reads (no_harness is refusal refuses line)) at = absurd (omega arith)
  wires_refused_fact (stops command asks reads (no_wires_read is wired sim takes rose line)) at = absurd (omega arith)
  wires_refused_fact (stops command asks reads (no_wires is wired sim takes refusal refuses line)) at = ((command, asks, wired), takes.rows, harness_told takes, refusal, refused_told refuses, line)
  wires_refused_fact (stops command asks reads (other_points is wired sim takes p read other line)) at = absurd (omega arith)
  wires_refused_fact (stops command asks reads (no_memory is quiet)) at = absurd (omega arith)
  wires_refused_fact (works command asks given takes work frame) at = absurd (frame.no_stop.2 at)

  pub points_differ_fact : Way run status rig → status ≡ 13 → AsksFor reads_wires run.words × (rows : List HarnessRow) × HasRows run.files rows
      × (p : Program) × HasProgram run.files p × (p.nets.points ≢ points_in rows) × Closes run.sunk (points_differ_line (points_in rows) p.nets.points)
  points_differ_fact (usage is none line) at = absurd (omega arith)
  points_differ_fact (no_usage is quiet) at = absurd (omega arith)
  points_differ_fact (stops command asks reads (no_harness_read is rose line)) at = absurd (omega arith)
  points_differ_fact (stops command asks reads (no_harness is refusal refuses line)) at = absurd (omega arith)
  points_differ_fact (stops command asks reads (no_wires_read is wired sim takes rose line)) at = absurd (omega arith)
  points_differ_fact (stops command asks reads (no_wires is wired sim takes refusal refuses line)) at = absurd (omega arith)
  points_differ_fact (stops command asks reads (other_points is wired sim takes p read other line)) at = (
    (command, asks, wired),
    takes.rows,
    harness_told takes,
    p,
    program_told read,
    λ same. other (same ∙ sym (taken_points takes)),
    subst (λ (n : ℕ). Closes run.sunk (points_differ_line n p.nets.points)) (taken_points takes) line,
  )
  points_differ_fact (stops command asks reads (no_memory is quiet)) at = absurd (omega arith)
  points_differ_fact (works command asks given takes work frame) at = absurd (frame.no_stop.3 at)

  pub read_fault_fact : Way run status rig → status ≡ 6 → IsReadFault run
  read_fault_fact (usage is none line) at = absurd (omega arith)
  read_fault_fact (no_usage is quiet) at = absurd (omega arith)
  read_fault_fact (stops command asks reads (no_harness_read is rose line)) at = inl (inl ((command, asks, reads), rose), line)
  read_fault_fact (stops command asks reads (no_harness is refusal refuses line)) at = absurd (omega arith)
  read_fault_fact (stops command asks reads (no_wires_read is wired sim takes rose line)) at = inl (inr ((command, asks, wired), rose), line)
  read_fault_fact (stops command asks reads (no_wires is wired sim takes refusal refuses line)) at = absurd (omega arith)
  read_fault_fact (stops command asks reads (other_points is wired sim takes p read other line)) at = absurd (omega arith)
  read_fault_fact (stops command asks reads (no_memory is quiet)) at = absurd (omega arith)
  read_fault_fact (works command asks given takes work frame) at = let fault = frame.read_fault at in inr ((command, asks, fault.0), fault.1)

  pub network_fault_fact : Way run status rig → status ≡ 11 → AsksFor uses_door run.words × Rose run.door.faults run.door.faults_after
  network_fault_fact (usage is none line) at = absurd (omega arith)
  network_fault_fact (no_usage is quiet) at = absurd (omega arith)
  network_fault_fact (stops command asks reads (no_harness_read is rose line)) at = absurd (omega arith)
  network_fault_fact (stops command asks reads (no_harness is refusal refuses line)) at = absurd (omega arith)
  network_fault_fact (stops command asks reads (no_wires_read is wired sim takes rose line)) at = absurd (omega arith)
  network_fault_fact (stops command asks reads (no_wires is wired sim takes refusal refuses line)) at = absurd (omega arith)
  network_fault_fact (stops command asks reads (other_points is wired sim takes p read other line)) at = absurd (omega arith)
  network_fault_fact (stops command asks reads (no_memory is quiet)) at = absurd (omega arith)
  network_fault_fact (works command asks given takes work frame) at = let fault = frame.network_fault at in ((command, asks, fault.0), fault.1)

  pub no_memory_fact : Way run status rig → status ≡ 9 → (AsksFor uses_disk run.words → ⊥) → CountsNone run.sunk
  no_memory_fact (usage is none line) at no_one = absurd (omega arith)
  no_memory_fact (no_usage is quiet) at no_one = quiet
  no_memory_fact (stops command asks reads (no_harness_read is rose line)) at no_one = absurd (omega arith)
  no_memory_fact (stops command asks reads (no_harness is refusal refuses line)) at no_one = absurd (omega arith)
  no_memory_fact (stops command asks reads (no_wires_read is wired sim takes rose line)) at no_one = absurd (omega arith)
  no_memory_fact (stops command asks reads (no_wires is wired sim takes refusal refuses line)) at no_one = absurd (omega arith)
  no_memory_fact (stops command asks reads (other_points is wired sim takes p read other line)) at no_one = absurd (omega arith)
  no_memory_fact (stops command asks reads (no_memory is quiet)) at no_one = quiet
  no_memory_fact (works command asks given takes work frame) at no_one = frame.no_memory at (λ uses. no_one (command, asks, uses))

  -- ---- by what the files hold

  pub refused_harness_fact : Way run status rig → AsksFor reads_harness run.words → (file : List ℕ) (refusal : HarnessRefusal) → TellsHarness run.files file → IsRefused file refusal → Is 3 status ⊎ FailedHarness run.files status
  refused_harness_fact (usage is none line) (mine, asks, own) file refusal told refused = absurd (none (mine, asks))
  refused_harness_fact (no_usage is quiet) (mine, asks, own) file refusal told refused = inl (inr is)
  refused_harness_fact (stops command also reads (no_harness_read is rose line)) (mine, asks, own) file refusal told refused = inr (is, rose)
  refused_harness_fact (stops command also reads (no_harness is why refuses line)) (mine, asks, own) file refusal told refused = inl (inl is)
  refused_harness_fact (stops command also reads (no_wires_read is wired sim takes rose line)) (mine, asks, own) file refusal told refused = absurd (not_refused file takes.rows refusal (harness_told takes file told) refused)
  refused_harness_fact (stops command also reads (no_wires is wired sim takes why refuses line)) (mine, asks, own) file refusal told refused = absurd (not_refused file takes.rows refusal (harness_told takes file told) refused)
  refused_harness_fact (stops command also reads (other_points is wired sim takes p read other line)) (mine, asks, own) file refusal told refused = absurd (not_refused file takes.rows refusal (harness_told takes file told) refused)
  refused_harness_fact (stops command also reads (no_memory is quiet)) (mine, asks, own) file refusal told refused = inl (inr is)
  refused_harness_fact (works command also given takes work frame) (mine, asks, own) file refusal told refused =
      let took = given_harness run command given frame.files takes (ap reads_harness (one_reading run.words command mine also asks) ∙ own) in
      absurd (not_refused file took.1.rows refusal (harness_told took.1 file told) refused)

  -- of a command that reads the wirelist, both were taken
  given_both : (command : Command) (given : Given) → AreFilesOf command given → TakesFiles run.files given → reads_wires command ≡ true → (sim : SimState) × (p : Program) × TakesFiles run.files (both sim p)
  given_both command nothing files takes reads = let both : true ≡ false = sym reads ∙ files.1 in cc
  given_both command (simulator sim) files takes reads = let both : true ≡ false = sym reads ∙ files.1 in cc
  given_both command (both sim p) files takes reads = (sim, p, takes)

  pub refused_wires_fact : Way run status rig → AsksFor reads_wires run.words → (harness wires : List ℕ) (rows : List HarnessRow) (refusal : WireRefusal)
      → TellsHarness run.files harness → IsHarness harness rows → TellsWires run.files wires → first_refusal wires ≡ Some refusal → Is 4 status ⊎ FailedRead run.files status
  refused_wires_fact (usage is none line) (mine, asks, own) harness wires rows refusal told is_harness told_wires first = absurd (none (mine, asks))
  refused_wires_fact (no_usage is quiet) (mine, asks, own) harness wires rows refusal told is_harness told_wires first = inl (inr is)
  refused_wires_fact (stops command also reads (no_harness_read is rose line)) (mine, asks, own) harness wires rows refusal told is_harness told_wires first = inr (is, inl rose)
  refused_wires_fact (stops command also reads (no_harness is why refuses line)) (mine, asks, own) harness wires rows refusal told is_harness told_wires first = absurd (not_refused harness rows why is_harness (refusal_told refuses harness told))
  refused_wires_fact (stops command also reads (no_wires_read is wired sim takes rose line)) (mine, asks, own) harness wires rows refusal told is_harness told_wires first = inr (is, inr rose)
  refused_wires_fact (stops command also reads (no_wires is wired sim takes why refuses line)) (mine, asks, own) harness wires rows refusal told is_harness told_wires first = inl (inl is)
  refused_wires_fact (stops command also reads (other_points is wired sim takes p read other line)) (mine, asks, own) harness wires rows refusal told is_harness told_wires first =
      absurd (not_both_ways wires refusal p first (program_told read wires told_wires))
  refused_wires_fact (stops command also reads (no_memory is quiet)) (mine, asks, own) harness wires rows refusal told is_harness told_wires first = inl (inr is)
  refused_wires_fact (works command also given takes work frame) (mine, asks, own) harness wires rows refusal told is_harness told_wires first =
      let took = given_both command given frame.files takes (ap reads_wires (one_reading run.words command mine also asks) ∙ own) in
      absurd (not_both_ways wires refusal took.1 first (program_told took.2.wires wires told_wires))

  pub differing_points_fact : Way run status rig → AsksFor reads_wires run.words → (harness wires : List ℕ) (rows : List HarnessRow) (p : Program)
      → TellsHarness run.files harness → IsHarness harness rows → TellsWires run.files wires → IsWirelist wires p → p.nets.points ≢ points_in rows → Is 13 status ⊎ FailedRead run.files status
  differing_points_fact (usage is none line) (mine, asks, own) harness wires rows p told is_harness told_wires is_wirelist differ = absurd (none (mine, asks))
  differing_points_fact (no_usage is quiet) (mine, asks, own) harness wires rows p told is_harness told_wires is_wirelist differ = inl (inr is)
  differing_points_fact (stops command also reads (no_harness_read is rose line)) (mine, asks, own) harness wires rows p told is_harness told_wires is_wirelist differ = inr (is, inl rose)
  differing_points_fact (stops command also reads (no_harness is why refuses line)) (mine, asks, own) harness wires rows p told is_harness told_wires is_wirelist differ =
      absurd (not_refused harness rows why is_harness (refusal_told refuses harness told))
  differing_points_fact (stops command also reads (no_wires_read is wired sim takes rose line)) (mine, asks, own) harness wires rows p told is_harness told_wires is_wirelist differ = inr (is, inr rose)
  differing_points_fact (stops command also reads (no_wires is wired sim takes why refuses line)) (mine, asks, own) harness wires rows p told is_harness told_wires is_wirelist differ =
      absurd (not_both_ways wires why p (refused_told refuses wires told_wires) is_wirelist)
  differing_points_fact (stops command also reads (other_points is wired sim takes q read other line)) (mine, asks, own) harness wires rows p told is_harness told_wires is_wirelist differ = inl (inl is)
  differing_points_fact (stops command also reads (no_memory is quiet)) (mine, asks, own) harness wires rows p told is_harness told_wires is_wirelist differ = inl (inr is)
  differing_points_fact (works command also given takes work frame) (mine, asks, own) harness wires rows p told is_harness told_wires is_wirelist differ =
      let took = given_both command given frame.files takes (ap reads_wires (one_reading run.words command mine also asks) ∙ own) in
      let same = one_program wires p took.1 is_wirelist (program_told took.2.wires wires told_wires) in
      absurd (differ (ap (λ (q : Program). q.nets.points) same ∙ took.2.same ∙ taken_points took.2.harness ∙ ap points_in (same_rows took.2.harness harness rows told is_harness)))

module _ (run : Run) where
  -- ---- what is taken of the sources, and of the disk

  unread_given : (command : Command) → Asks run.words command → (given : Given) → AreFilesOf command given → TakesFiles run.files given → (AsksFor reads_harness run.words → ⊥) → IsUnread run.files.harness
  unread_given command asks nothing files takes no_one = takes.0
  unread_given command asks (simulator sim) files takes no_one = absurd (no_one (command, asks, files.0))
  unread_given command asks (both sim p) files takes no_one = absurd (no_one (command, asks, files.0))

  pub unread_fact : (status : ℕ) (rig : Option SimState) → Ends run status rig → (AsksFor reads_harness run.words → ⊥) → IsUnread run.files.harness
  unread_fact status rig (no_command none unread alone unused line) no_one = unread
  unread_fact status rig (words_memory unread alone unused unasked) no_one = unread
  unread_fact status rig (stopped command asks reads unused stop) no_one = absurd (no_one (command, asks, reads))
  unread_fact status rig (obeyed command asks unused given takes work) no_one = unread_given command asks given (framed command given run status rig work).files takes no_one

  unwired_given : (command : Command) → Asks run.words command → (given : Given) → AreFilesOf command given → TakesFiles run.files given → (AsksFor reads_wires run.words → ⊥) → IsUnread run.files.wires
  unwired_given command asks nothing files takes no_one = takes.1
  unwired_given command asks (simulator sim) files takes no_one = takes.1
  unwired_given command asks (both sim p) files takes no_one = absurd (no_one (command, asks, files.1))

  unrigged_given : (status : ℕ) (rig : Option SimState) (command : Command) → Asks run.words command → (given : Given) → TakesFiles run.files given → Framed command given run status rig → rig ≡ None → (AsksFor uses_disk run.words → ⊥) → IsUnread run.files.wires
  unrigged_given status rig command asks nothing takes frame out no_one = takes.1
  unrigged_given status rig command asks (simulator sim) takes frame out no_one = takes.1
  unrigged_given status rig command asks (both sim p) takes frame out no_one = elim (bool_cases (uses_disk command)) [
    | inl uses ↦ absurd (no_one (command, asks, uses))
    | inr unused ↦ absurd (frame.undisked unused frame.files.0 out)
  ]

  abbrev Unasked : Option SimState → Type 0
  Unasked rig = (AsksFor reads_wires run.words → ⊥) ⊎ ((rig ≡ None) × (AsksFor uses_disk run.words → ⊥))

  pub wires_unread_fact : (status : ℕ) (rig : Option SimState) → Ends run status rig → Unasked rig → IsUnread run.files.wires
  wires_unread_fact status rig (no_command none unread alone unused line) unasked = alone
  wires_unread_fact status rig (words_memory unread alone unused quiet) unasked = alone
  wires_unread_fact status rig (stopped command asks reads unused stop) (inl no_one) = wires_alone_unwired stop (λ wired. no_one (command, asks, wired))
  wires_unread_fact status rig (stopped command asks reads unused stop) (inr (out, no_one)) = wires_alone_without stop out
  wires_unread_fact status rig (obeyed command asks unused given takes work) (inl no_one) = unwired_given command asks given (framed command given run status rig work).files takes no_one
  wires_unread_fact status rig (obeyed command asks unused given takes work) (inr (out, no_one)) = unrigged_given status rig command asks given takes (framed command given run status rig work) out no_one

  pub input_unread_fact : (status : ℕ) (rig : Option SimState) → Ends run status rig → (AsksFor reads_input run.words → ⊥) → IsUnread run.input
  input_unread_fact status rig (no_command none unread alone unused line) no_one = unused.input refl
  input_unread_fact status rig (words_memory unread alone unused unasked) no_one = unused.input refl
  input_unread_fact status rig (stopped command asks reads unused stop) no_one = unused.input refl
  input_unread_fact status rig (obeyed command asks unused given takes work) no_one = elim (bool_cases (reads_input command)) [
    | inl reads ↦ absurd (no_one (command, asks, reads))
    | inr alone ↦ unused.input alone
  ]

  pub disk_unused_fact : (status : ℕ) (rig : Option SimState) → Ends run status rig → (AsksFor uses_disk run.words → ⊥) → run.disk_after ≡ run.disk
  disk_unused_fact status rig (no_command none unread alone unused line) no_one = unused.disk refl
  disk_unused_fact status rig (words_memory unread alone unused unasked) no_one = unused.disk refl
  disk_unused_fact status rig (stopped command asks reads unused stop) no_one = unused.disk refl
  disk_unused_fact status rig (obeyed command asks unused given takes work) no_one = elim (bool_cases (uses_disk command)) [
    | inl uses ↦ absurd (no_one (command, asks, uses))
    | inr alone ↦ unused.disk alone
  ]

  pub clock_unused_fact : (status : ℕ) (rig : Option SimState) → Ends run status rig → (AsksFor uses_clock run.words → ⊥) → run.moments_after ≡ run.moments
  clock_unused_fact status rig (no_command none unread alone unused line) no_one = unused.clock refl
  clock_unused_fact status rig (words_memory unread alone unused unasked) no_one = unused.clock refl
  clock_unused_fact status rig (stopped command asks reads unused stop) no_one = unused.clock refl
  clock_unused_fact status rig (obeyed command asks unused given takes work) no_one = elim (bool_cases (uses_clock command)) [
    | inl uses ↦ absurd (no_one (command, asks, uses))
    | inr alone ↦ unused.clock alone
  ]

  pub door_unused_fact : (status : ℕ) (rig : Option SimState) → Ends run status rig → (AsksFor uses_door run.words → ⊥) → IsShut run.door
  door_unused_fact status rig (no_command none unread alone unused line) no_one = unused.door refl
  door_unused_fact status rig (words_memory unread alone unused unasked) no_one = unused.door refl
  door_unused_fact status rig (stopped command asks reads unused stop) no_one = unused.door refl
  door_unused_fact status rig (obeyed command asks unused given takes work) no_one = elim (bool_cases (uses_door command)) [
    | inl uses ↦ absurd (no_one (command, asks, uses))
    | inr alone ↦ unused.door alone
  ]

  abbrev HarnessFront : Type 0
  HarnessFront = LostFront run.files.harness.left run.files.harness.left_after most_of_harness

  harness_front_given : (given : Given) → TakesFiles run.files given → HarnessFront
  harness_front_given nothing takes = alone_front run.files.harness most_of_harness takes.0
  harness_front_given (simulator sim) takes = TookFirst-lost _ _ _ _ takes.0.taken
  harness_front_given (both sim p) takes = TookFirst-lost _ _ _ _ takes.harness.taken

  pub harness_front_fact : (status : ℕ) (rig : Option SimState) → Ends run status rig → HarnessFront
  harness_front_fact status rig (no_command none unread alone unused line) = alone_front run.files.harness most_of_harness unread
  harness_front_fact status rig (words_memory unread alone unused unasked) = alone_front run.files.harness most_of_harness unread
  harness_front_fact status rig (stopped command asks reads unused stop) = harness_front_at_files stop
  harness_front_fact status rig (obeyed command asks unused given takes work) = harness_front_given given takes

  abbrev WiresFront : Type 0
  WiresFront = LostFront run.files.wires.left run.files.wires.left_after most_of_wires

  wires_front_given : (given : Given) → TakesFiles run.files given → WiresFront
  wires_front_given nothing takes = alone_front run.files.wires most_of_wires takes.1
  wires_front_given (simulator sim) takes = alone_front run.files.wires most_of_wires takes.1
  wires_front_given (both sim p) takes = TookFirst-lost _ _ _ _ takes.wires.taken

  pub wires_front_fact : (status : ℕ) (rig : Option SimState) → Ends run status rig → WiresFront
  wires_front_fact status rig (no_command none unread alone unused line) = alone_front run.files.wires most_of_wires alone
  wires_front_fact status rig (words_memory unread alone unused unasked) = alone_front run.files.wires most_of_wires alone
  wires_front_fact status rig (stopped command asks reads unused stop) = wires_front_at_files stop
  wires_front_fact status rig (obeyed command asks unused given takes work) = wires_front_given given takes

  -- ---- when the rig is handed out

  abbrev HandedFact : Type 0
  HandedFact = (command : Command) × Asks run.words command × (reads_harness command ≡ true → (rows : List HarnessRow) × HasRows run.files rows)

  handed_given : (command : Command) (given : Given) → AreFilesOf command given → TakesFiles run.files given → reads_harness command ≡ true → (rows : List HarnessRow) × HasRows run.files rows
  handed_given command given files takes reads = let took = given_harness run command given files takes reads in (took.1.rows, harness_told took.1)

  pub handed_out_fact : (status : ℕ) (rig : Option SimState) → Ends run status rig → (sim : SimState) → rig ≡ Some sim → HandedFact
  handed_out_fact status rig (no_command none unread alone unused line) sim out = cc
  handed_out_fact status rig (words_memory unread alone unused unasked) sim out = cc
  handed_out_fact status rig (stopped command asks reads unused stop) sim out = (command, asks, λ also. handed_at_files stop sim out)
  handed_out_fact status rig (obeyed command asks unused given takes work) sim out = (command, asks, handed_given command given (framed command given run status rig work).files takes)

  abbrev KeptFact : ℕ → Type 0
  KeptFact status = (status ≡ 9) ⊎ (FailedHarness run.files status ⊎ (AsksFor uses_disk run.words × ((status ≡ 5) ⊎ (status ≡ 8))))

  kept_stop : {wired : Bool} {s : ℕ} {r : Option SimState} → StopsAtFiles wired run.files run.sunk s r → r ≡ None → (file : List ℕ) (rows : List HarnessRow) → TellsHarness run.files file → IsHarness file rows
      → (s ≡ 9) ⊎ FailedHarness run.files s
  kept_stop (harness_fault fails alone (inl (is, line))) out file rows told is_harness = inr (is, fails.rose)
  kept_stop (harness_fault fails alone (inr (is, lacks))) out file rows told is_harness = inl is
  kept_stop (harness_refused refusal refuses alone line) out file rows told is_harness = absurd (not_refused file rows refusal is_harness (refusal_told refuses file told))
  kept_stop (harness_memory front alone unasked) out file rows told is_harness = inl refl
  kept_stop (wires_fault wired sim takes fails line) out file rows told is_harness = cc
  kept_stop (wires_refused wired sim takes refusal refuses line) out file rows told is_harness = cc
  kept_stop (wires_memory wired sim takes front unasked) out file rows told is_harness = cc
  kept_stop (points_differ wired sim takes p read other line) out file rows told is_harness = cc

  kept_work : (status : ℕ) (rig : Option SimState) (command : Command) → Asks run.words command → (given : Given) → Framed command given run status rig → rig ≡ None → reads_harness command ≡ true → KeptFact status
  kept_work status rig command asks given frame out reads = elim (frame.handed reads out) [
    | inl is ↦ inl is
    | inr (uses, is) ↦ inr (inr ((command, asks, uses), is))
  ]

  pub kept_back_fact : (status : ℕ) (rig : Option SimState) → Ends run status rig → rig ≡ None → AsksFor reads_harness run.words → (file : List ℕ) (rows : List HarnessRow) → TellsHarness run.files file → IsHarness file rows → KeptFact status
  kept_back_fact status rig (no_command none unread alone unused line) out (mine, asks, own) file rows told is_harness = absurd (none (mine, asks))
  kept_back_fact status rig (words_memory unread alone unused unasked) out (mine, asks, own) file rows told is_harness = inl refl
  kept_back_fact status rig (stopped command also reads unused stop) out (mine, asks, own) file rows told is_harness = elim (kept_stop stop out file rows told is_harness) [
    | inl is ↦ inl is
    | inr failed ↦ inr (inl failed)
  ]
  kept_back_fact status rig (obeyed command also unused given takes work) out (mine, asks, own) file rows told is_harness =
      kept_work status rig command also given (framed command given run status rig work) out (ap reads_harness (one_reading run.words command mine also asks) ∙ own)
