-- The ways in which a run ends, by the status alone.
use Rattle.std.proofs.Common.{◌≡◌, ◌≢◌, ◌⊎◌, inl, inr, ℕ, true, List, Option, sym, ◌∙◌, ap, subst, refl}
use Rattle.harness.specs.declared.row.HarnessRow.{HarnessRow}
use Rattle.harness.specs.Places.{points_in}
use Rattle.rig_sim.specs.SimRig.{SimState}
use Rattle.wirelist.specs.declared.program.Program.{Program}
use Rattle.words.specs.declared.command.Command.{Command}
use Rattle.words.specs.Words.{Asks, IsCommand}
use Rattle.words.proofs.OneReading.{one_reading}
use Rattle.bench_cli.specs.Commands.{reads_harness, reads_wires}
use Rattle.bench_cli.specs.Closing.{Closes, CountsNone, usage_line}
use Rattle.bench_cli.specs.Run.{Run, Given, TakesFiles}
use Rattle.bench_cli.specs.Told.{Failed, HarnessInForm, WiresInForm}
use Rattle.bench_cli.specs.Works.{Works}
use Rattle.bench_cli.specs.Ends.{Ends}
use Rattle.bench_cli.specs.Ends.Ends.{no_command, no_memory as words_memory, stopped, obeyed}
use Rattle.bench_cli.proofs.ways.FileWays.{FileWay, file_way, same_rows, refusal_told, not_refused, taken_points, refused_told, program_told, not_both_ways, one_program}
use Rattle.bench_cli.proofs.ways.FileWays.FileWay.{no_harness_read, no_harness, no_wires_read, no_wires, other_points, no_memory}
use Rattle.bench_cli.proofs.frames.Framed.{Framed}
use Rattle.bench_cli.proofs.frames.Framing.{framed}
use Rattle.bench_cli.proofs.ways.UnitWays.{lacks_none}

pub data Way (run : Run) (status : ℕ) (rig : Option SimState) : Type 0 where
  usage : status ≡ 2 → (IsCommand run.words → ⊥) → Closes run.sunk usage_line → Way run status rig
  no_usage : status ≡ 9 → CountsNone run.sunk → Way run status rig
  stops : (command : Command) → Asks run.words command → reads_harness command ≡ true → FileWay (reads_wires command) run.files run.sunk status rig → Way run status rig
  works : (command : Command) → Asks run.words command → (given : Given) → TakesFiles run.files given → Works command given run status rig
      → Framed command given run status rig → Way run status rig

pub way : (run : Run) (status : ℕ) (rig : Option SimState) → Ends run status rig → Way run status rig
way run status rig (no_command none unread alone unused (inl (is, line))) = usage is none line
way run status rig (no_command none unread alone unused (inr (is, lacks))) = no_usage is (lacks_none usage_line lacks)
way run status rig (words_memory unread alone unused unasked) = no_usage refl unasked.faults
way run status rig (stopped command asks reads unused stop) = stops command asks reads (file_way stop)
way run status rig (obeyed command asks unused given takes work) = works command asks given takes work (framed command given run status rig work)

-- what the command's own work came to
pub record Worked (command : Command) (run : Run) (status : ℕ) (rig : Option SimState) : Type 0 where
  pub given : Given
  pub takes : TakesFiles run.files given
  pub work : Works command given run status rig

-- the statuses that come of a command's own work alone
abbrev pub IsOwn : ℕ → Type 0
IsOwn status = (status ≢ 2) × (status ≢ 3) × (status ≢ 4) × (status ≢ 6) × (status ≢ 9) × (status ≢ 13)

-- the command came to its own work, or memory ran out, or a read failed of a file that it reads
abbrev pub Reached : Command → Run → ℕ → Option SimState → Type 0
Reached command run status rig = Worked command run status rig ⊎ ((status ≡ 9) ⊎ ((status ≡ 6) × (Failed run.files.harness ⊎ ((reads_wires command ≡ true) × Failed run.files.wires))))

module _ {run : Run} {status : ℕ} {rig : Option SimState} where
  own_work : (mine command : Command) → Asks run.words mine → Asks run.words command → (given : Given) → TakesFiles run.files given → Works command given run status rig → Worked mine run status rig
  own_work mine command asks also given takes work =
      record { given = given; takes = takes; work = subst (λ (c : Command). Works c given run status rig) (one_reading run.words command mine also asks) work }

  pub worked : (command : Command) → Asks run.words command → Way run status rig → IsOwn status → Worked command run status rig
  worked mine asks (usage is none line) own = absurd (own.0 is)
  worked mine asks (no_usage is quiet) own = absurd (own.4 is)
  worked mine asks (stops command also reads (no_harness_read is rose line)) own = absurd (own.3 is)
  worked mine asks (stops command also reads (no_harness is refusal refuses line)) own = absurd (own.1 is)
  worked mine asks (stops command also reads (no_wires_read is wired sim takes rose line)) own = absurd (own.3 is)
  worked mine asks (stops command also reads (no_wires is wired sim takes refusal refuses line)) own = absurd (own.2 is)
  worked mine asks (stops command also reads (other_points is wired sim takes p read other line)) own = absurd (own.5 is)
  worked mine asks (stops command also reads (no_memory is quiet)) own = absurd (own.4 is)
  worked mine asks (works command also given takes work frame) own = own_work mine command asks also given takes work

  -- with its files in form the command comes to its own work, unless a read failed or memory ran out
  pub reached : (command : Command) (rows : List HarnessRow) → Asks run.words command → HarnessInForm run.files rows → (reads_wires command ≡ true → WiresInForm run.files rows) → Way run status rig → Reached command run status rig
  reached mine rows asks form wires (usage is none line) = absurd (none (mine, asks))
  reached mine rows asks form wires (no_usage is quiet) = inr (inl is)
  reached mine rows asks form wires (stops command also reads (no_harness_read is rose line)) = inr (inr (is, inl rose))
  reached mine rows asks form wires (stops command also reads (no_harness is refusal refuses line)) = absurd (not_refused form.file rows refusal form.is_harness (refusal_told refuses form.file form.told))
  reached mine rows asks form wires (stops command also reads (no_wires_read is wired sim takes rose line)) =
      inr (inr (is, inr (ap reads_wires (one_reading run.words mine command asks also) ∙ wired, rose)))
  reached mine rows asks form wires (stops command also reads (no_wires is wired sim takes refusal refuses line)) =
      let in_form = wires (ap reads_wires (one_reading run.words mine command asks also) ∙ wired) in
      absurd (not_both_ways in_form.file refusal in_form.p (refused_told refuses in_form.file in_form.told) in_form.is_wirelist)
  reached mine rows asks form wires (stops command also reads (other_points is wired sim takes p read other line)) =
      let in_form = wires (ap reads_wires (one_reading run.words mine command asks also) ∙ wired) in
      absurd (other (ap (λ (q : Program). q.nets.points) (one_program in_form.file p in_form.p (program_told read in_form.file in_form.told) in_form.is_wirelist)
      ∙ in_form.over ∙ sym (taken_points takes ∙ ap points_in (same_rows takes form.file rows form.told form.is_harness))))
  reached mine rows asks form wires (stops command also reads (no_memory is quiet)) = inr (inl is)
  reached mine rows asks form wires (works command also given takes work frame) = inl (own_work mine command asks also given takes work)
