-- The ways in which a run ends at its files, by the status alone; and what is told of the files.
use Rattle.std.proofs.Common.{◌≡◌, ◌≢◌, inl, inr, ℕ, Bool, true, List, [], slice_get, Option, None, Some, refl, sym, ◌∙◌, ap, subst}
use Rattle.bench_edge.specs.Whole.{TookFirst, LostFront}
use Rattle.bench_edge.proofs.Calls.{TookFirst-told, TookFirst-lost, LostFront-none}
use Rattle.harness.specs.declared.row.HarnessRow.{HarnessRow}
use Rattle.harness.specs.declared.refusal.HarnessRefusal.{HarnessRefusal}
use Rattle.harness.specs.Places.{points_in}
use Rattle.harness.specs.Harness.{IsHarness, IsRefused}
use Rattle.harness.proofs.LawLemmas.{harness_law}
use Rattle.rig_sim.specs.SimRig.{SimState}
use Rattle.wirelist.specs.declared.program.Program.{Program}
use Rattle.wirelist.specs.declared.refusal.WireRefusal.{WireRefusal}
use Rattle.bench_cli.specs.Closing.{Sunk, Closes, CountsNone, ClosesWith, read_fault_line}
use Rattle.bench_cli.specs.Run.{Read, Files, IsUnread, TakesHarness, RefusesHarness, TakesWires, RefusesWires, StopsAtFiles, most_of_harness, most_of_wires, refusal_line}
use Rattle.bench_cli.specs.Run.StopsAtFiles.{harness_fault, harness_refused, harness_memory, wires_fault, wires_refused, wires_memory, points_differ}
use Rattle.bench_cli.specs.Wires.{IsWirelist, first_refusal, wires_refusal_line, points_differ_line}
use Rattle.bench_cli.specs.Told.{Tells, Failed}
use Rattle.bench_cli.proofs.ways.SeatedLemmas.{points_are}
use Rattle.bench_cli.proofs.ways.UnitWays.{lacks_none}

-- ---- what is told of the files

-- the file that was read is the one that is told
told_file : (read : Read) (most : ℕ) (file told : List ℕ) → TookFirst read.left read.left_after most file → Tells read most told → file ≡ told
told_file read most file told took (bytes, is, told_is) = TookFirst-told read.left read.left_after most file bytes is took ∙ sym told_is

pub harness_told : {read : Read} {sim : SimState} (takes : TakesHarness read sim) (file : List ℕ) → Tells read most_of_harness file → IsHarness file takes.rows
harness_told {read} takes file told = subst (λ (f : List ℕ). IsHarness f takes.rows) (told_file read most_of_harness takes.file file takes.taken told) takes.is_harness

-- a file that is in form has the rows that were read
pub same_rows : {read : Read} {sim : SimState} (takes : TakesHarness read sim) (file : List ℕ) (rows : List HarnessRow) → Tells read most_of_harness file → IsHarness file rows → takes.rows ≡ rows
same_rows takes file rows told is = (harness_law file).one_reading takes.rows rows (harness_told takes file told) is

pub refusal_told : {read : Read} {refusal : HarnessRefusal} (refuses : RefusesHarness read refusal) (file : List ℕ) → Tells read most_of_harness file → IsRefused file refusal
refusal_told {read} {refusal} refuses file told = subst (λ (f : List ℕ). IsRefused f refusal) (told_file read most_of_harness refuses.file file refuses.taken told) refuses.is_refused

-- a harness file is refused or has rows
pub not_refused : (file : List ℕ) (rows : List HarnessRow) (refusal : HarnessRefusal) → IsHarness file rows → IsRefused file refusal → ⊥
not_refused file rows refusal is refused = (harness_law file).apart rows refusal is refused

pub taken_points : {read : Read} {sim : SimState} (takes : TakesHarness read sim) → sim.state.points ≡ points_in takes.rows
taken_points {read} {sim} takes = points_are takes.rows sim takes.is_new

pub refused_told : {wires : Read} {refusal : WireRefusal} (refuses : RefusesWires wires refusal) (file : List ℕ) → Tells wires most_of_wires file → first_refusal file ≡ Some refusal
refused_told {wires} {refusal} refuses file told = subst (λ (f : List ℕ). first_refusal f ≡ Some refusal) (told_file wires most_of_wires refuses.file file refuses.taken told) refuses.first

pub program_told : {wires : Read} {p : Program} (taken : TakesWires wires p) (file : List ℕ) → Tells wires most_of_wires file → IsWirelist file p
program_told {wires} {p} taken file told = subst (λ (f : List ℕ). IsWirelist f p) (told_file wires most_of_wires taken.file file taken.taken told) taken.is_wirelist

-- a wirelist is refused or says one program
pub not_both_ways : (file : List ℕ) (refusal : WireRefusal) (p : Program) → first_refusal file ≡ Some refusal → IsWirelist file p → ⊥
not_both_ways file refusal p first is = nothing refusal (sym (ap (λ (faults : List WireRefusal). slice_get faults 0) is.faultless) ∙ first)
  where
    nothing : (e : WireRefusal) → slice_get {X = WireRefusal} [] 0 ≡ Some e → ⊥
    nothing e none = cc

pub one_program : (file : List ℕ) (p q : Program) → IsWirelist file p → IsWirelist file q → p ≡ q
one_program file p q one other = one.says ∙ sym other.says

-- ---- the ways

pub data FileWay (wired : Bool) (files : Files) (sunk : Sunk) (status : ℕ) (rig : Option SimState) : Type 0 where
  no_harness_read : status ≡ 6 → Failed files.harness → Closes sunk read_fault_line → FileWay wired files sunk status rig
  no_harness : status ≡ 3 → (refusal : HarnessRefusal) → RefusesHarness files.harness refusal → Closes sunk (refusal_line refusal) → FileWay wired files sunk status rig
  no_wires_read : status ≡ 6 → wired ≡ true → (sim : SimState) → TakesHarness files.harness sim → Failed files.wires → Closes sunk read_fault_line → FileWay wired files sunk status rig
  no_wires : status ≡ 4 → wired ≡ true → (sim : SimState) → TakesHarness files.harness sim → (refusal : WireRefusal) → RefusesWires files.wires refusal
      → Closes sunk (wires_refusal_line refusal) → FileWay wired files sunk status rig
  other_points : status ≡ 13 → wired ≡ true → (sim : SimState) → TakesHarness files.harness sim → (p : Program) → TakesWires files.wires p → p.nets.points ≢ sim.state.points
      → Closes sunk (points_differ_line sim.state.points p.nets.points) → FileWay wired files sunk status rig
  no_memory : status ≡ 9 → CountsNone sunk → FileWay wired files sunk status rig

module _ {wired : Bool} {files : Files} {sunk : Sunk} where
  closed : {rig : Option SimState} (line : List ℕ) {own status : ℕ} → ClosesWith sunk line own status → (status ≡ own → Closes sunk line → FileWay wired files sunk status rig) → FileWay wired files sunk status rig
  closed text (inl (is, line)) way = way is line
  closed text (inr (is, lacks)) way = no_memory is (lacks_none text lacks)

  pub file_way : {status : ℕ} {rig : Option SimState} → StopsAtFiles wired files sunk status rig → FileWay wired files sunk status rig
  file_way (harness_fault fails alone line) = closed _ line (λ is closes. no_harness_read is fails.rose closes)
  file_way (harness_refused refusal refuses alone line) = closed _ line (λ is closes. no_harness is refusal refuses closes)
  file_way (harness_memory front alone unasked) = no_memory refl unasked.faults
  file_way (wires_fault asked sim takes fails line) = closed _ line (λ is closes. no_wires_read is asked sim takes fails.rose closes)
  file_way (wires_refused asked sim takes refusal refuses line) = closed _ line (λ is closes. no_wires is asked sim takes refusal refuses closes)
  file_way (wires_memory asked sim takes front unasked) = no_memory refl unasked.faults
  file_way (points_differ asked sim takes p wires other line) = closed _ line (λ is closes. other_points is asked sim takes p wires other closes)

  -- ---- what is taken of the sources

  pub harness_front_at_files : {status : ℕ} {rig : Option SimState} → StopsAtFiles wired files sunk status rig → LostFront files.harness.left files.harness.left_after most_of_harness
  harness_front_at_files (harness_fault fails alone line) = fails.front
  harness_front_at_files (harness_refused refusal refuses alone line) = TookFirst-lost _ _ _ _ refuses.taken
  harness_front_at_files (harness_memory front alone unasked) = front
  harness_front_at_files (wires_fault asked sim takes fails line) = TookFirst-lost _ _ _ _ takes.taken
  harness_front_at_files (wires_refused asked sim takes refusal refuses line) = TookFirst-lost _ _ _ _ takes.taken
  harness_front_at_files (wires_memory asked sim takes front unasked) = TookFirst-lost _ _ _ _ takes.taken
  harness_front_at_files (points_differ asked sim takes p wires other line) = TookFirst-lost _ _ _ _ takes.taken

-- no more of a source is gone than its file may have, and a byte
pub alone_front : (read : Read) (most : ℕ) → IsUnread read → LostFront read.left read.left_after most
alone_front read most alone = subst (λ (left : Option (List ℕ)). LostFront read.left left most) (sym alone.left) (LostFront-none read.left most)

module _ {wired : Bool} {files : Files} {sunk : Sunk} where
  pub wires_front_at_files : {status : ℕ} {rig : Option SimState} → StopsAtFiles wired files sunk status rig → LostFront files.wires.left files.wires.left_after most_of_wires
  wires_front_at_files (harness_fault fails alone line) = alone_front files.wires most_of_wires alone
  wires_front_at_files (harness_refused refusal refuses alone line) = alone_front files.wires most_of_wires alone
  wires_front_at_files (harness_memory front alone unasked) = alone_front files.wires most_of_wires alone
  wires_front_at_files (wires_fault asked sim takes fails line) = fails.front
  wires_front_at_files (wires_refused asked sim takes refusal refuses line) = TookFirst-lost _ _ _ _ refuses.taken
  wires_front_at_files (wires_memory asked sim takes front unasked) = front
  wires_front_at_files (points_differ asked sim takes p wires other line) = TookFirst-lost _ _ _ _ wires.taken

  -- the wirelist is left alone where it is not read, and where there is no simulator
  pub wires_alone_unwired : {status : ℕ} {rig : Option SimState} → StopsAtFiles wired files sunk status rig → (wired ≡ true → ⊥) → IsUnread files.wires
  wires_alone_unwired (harness_fault fails alone line) unwired = alone
  wires_alone_unwired (harness_refused refusal refuses alone line) unwired = alone
  wires_alone_unwired (harness_memory front alone unasked) unwired = alone
  wires_alone_unwired (wires_fault asked sim takes fails line) unwired = absurd (unwired asked)
  wires_alone_unwired (wires_refused asked sim takes refusal refuses line) unwired = absurd (unwired asked)
  wires_alone_unwired (wires_memory asked sim takes front unasked) unwired = absurd (unwired asked)
  wires_alone_unwired (points_differ asked sim takes p wires other line) unwired = absurd (unwired asked)

  pub wires_alone_without : {status : ℕ} {rig : Option SimState} → StopsAtFiles wired files sunk status rig → rig ≡ None → IsUnread files.wires
  wires_alone_without (harness_fault fails alone line) none = alone
  wires_alone_without (harness_refused refusal refuses alone line) none = alone
  wires_alone_without (harness_memory front alone unasked) none = alone
  wires_alone_without (wires_fault asked sim takes fails line) none = cc
  wires_alone_without (wires_refused asked sim takes refusal refuses line) none = cc
  wires_alone_without (wires_memory asked sim takes front unasked) none = cc
  wires_alone_without (points_differ asked sim takes p wires other line) none = cc

  -- the simulator is handed out where the harness is in form
  pub handed_at_files : {status : ℕ} {rig : Option SimState} → StopsAtFiles wired files sunk status rig → (sim : SimState) → rig ≡ Some sim
      → (rows : List HarnessRow) × ((file : List ℕ) → Tells files.harness most_of_harness file → IsHarness file rows)
  handed_at_files (harness_fault fails alone line) sim out = cc
  handed_at_files (harness_refused refusal refuses alone line) sim out = cc
  handed_at_files (harness_memory front alone unasked) sim out = cc
  handed_at_files (wires_fault asked new takes fails line) sim out = (takes.rows, harness_told takes)
  handed_at_files (wires_refused asked new takes refusal refuses line) sim out = (takes.rows, harness_told takes)
  handed_at_files (wires_memory asked new takes front unasked) sim out = (takes.rows, harness_told takes)
  handed_at_files (points_differ asked new takes p wires other line) sim out = (takes.rows, harness_told takes)
