-- What reading the files of a command comes to, from its parts.
use Rattle.std.proofs.Common.{◌≡◌, ◌⊎◌, inl, inr, refl, slice_get, ℕ, Bool, true, List, [], Option, None, Some, Result, Ok, Err, sym, ◌∙◌, ap, subst}
use Rattle.std.specs.Prelude.{codes, decimal, unwrap_or, ◌++◌, IfOk}
use Rattle.harness.specs.Refusals.{number_of, line_of}
use Rattle.wirelist.specs.declared.program.Program.{Program}
use Rattle.wirelist.specs.declared.refusal.WireRefusal.{WireRefusal}
use Rattle.harness.specs.declared.refusal.HarnessRefusal.{HarnessRefusal}
use Rattle.harness.specs.declared.refusal.HarnessRefusal.TheVariants as harness
use Rattle.harness.specs.Harness.{IsRefused}
use Rattle.rig_sim.specs.SimRig.{SimState}
use Rattle.bench_edge.specs.Whole.{TookFirst}
use Rattle.bench_edge.proofs.Calls.{TookFirst-lost}
use Rattle.wirelist.specs.declared.refusal.WireRefusal.TheVariants as wire
use Rattle.wirelist_rows.specs.Filled.{rows_in}
use Rattle.wirelist_reader.specs.Refusals.{refusals}
use Rattle.wirelist_reader.specs.Rows.{program_of}
use Rattle.bench_cli.specs.declared.files.FileStop.{FileStop}
use Rattle.bench_cli.specs.declared.files.FileStop.TheVariants.{Fault, Refused, Memory}
use Rattle.bench_cli.specs.Closing.{Sunk, ClosesWith}
use Rattle.bench_cli.specs.Files.{HarnessIs, HarnessCloses, WiresAre, WiresClose, StopCloses, harness_stop_of, wires_stop_of}
use Rattle.bench_cli.specs.Run.{Read, Files, IsUnread, TakesHarness, TakesWires, TakesBoth, StopsAtFiles, most_of_harness, most_of_wires, refusal_line, line_words}
use Rattle.bench_cli.specs.Run.StopsAtFiles.{harness_fault, harness_refused, harness_memory, wires_fault, wires_refused, wires_memory, points_differ}
use Rattle.bench_cli.specs.Wires.{points_differ_line}

-- the line of a refusal
pub refused_closes : {E : Type 0} (line_of_refusal : E → List ℕ) (own : ℕ) (sunk : Sunk) (stop : FileStop E) (refusal : E) (line : List ℕ) (status : ℕ)
    → stop ≡ Refused refusal → line ≡ line_of_refusal refusal → ClosesWith sunk line own status → StopCloses line_of_refusal own sunk stop status
refused_closes {E} line_of_refusal own sunk stop refusal line status is text closes =
    subst (λ (s : FileStop E). StopCloses line_of_refusal own sunk s status) (sym is) (subst (λ (l : List ℕ). ClosesWith sunk l own status) text closes)

module _ (wired : Bool) (files : Files) (sunk : Sunk) (status : ℕ) where
  abbrev Stops : Option SimState → Type 0
  Stops rig = StopsAtFiles wired files sunk status rig

  pub harness_stops : (stop : FileStop HarnessRefusal) → IsUnread files.wires → HarnessIs files.harness (Err stop) → HarnessCloses sunk stop status → Stops None
  harness_stops Fault alone fails closes = harness_fault fails alone closes
  harness_stops (Refused refusal) alone refuses closes = harness_refused refusal refuses alone closes
  harness_stops Memory alone front closes = subst (λ (n : ℕ). StopsAtFiles wired files sunk n None) (sym closes.0) (harness_memory front alone closes.1)

  pub wires_stop : wired ≡ true → (sim : SimState) (stop : FileStop WireRefusal) → TakesHarness files.harness sim → WiresAre files.wires (Err stop) → WiresClose sunk stop status → Stops (Some sim)
  wires_stop asked sim Fault takes fails closes = wires_fault asked sim takes fails closes
  wires_stop asked sim (Refused refusal) takes refuses closes = wires_refused asked sim takes refusal refuses closes
  wires_stop asked sim Memory takes front closes = subst (λ (n : ℕ). StopsAtFiles wired files sunk n (Some sim)) (sym closes.0) (wires_memory asked sim takes front closes.1)

  pub difference_stops : wired ≡ true → (sim : SimState) (points wanted : ℕ) (p : Program) → points ≡ sim.state.points → wanted ≡ p.nets.points → (wanted ≡ points → ⊥) → TakesHarness files.harness sim → TakesWires files.wires p
      → ClosesWith sunk (points_differ_line points wanted) 13 status → Stops (Some sim)
  difference_stops asked sim points wanted p at_points at_wanted other takes read closes =
      points_differ asked sim takes p read (λ same. other (at_wanted ∙ same ∙ sym at_points))
      (subst (λ (n : ℕ). ClosesWith sunk (points_differ_line sim.state.points n) 13 status) at_wanted (subst (λ (n : ℕ). ClosesWith sunk (points_differ_line n wanted) 13 status) at_points closes))

pub takes_both : (files : Files) (sim : SimState) (points wanted : ℕ) (p : Program) → points ≡ sim.state.points → wanted ≡ p.nets.points → wanted ≡ points → TakesHarness files.harness sim → TakesWires files.wires p → TakesBoth files sim p
takes_both files sim points wanted p at_points at_wanted same takes read = record { harness = takes; wires = read; same = sym at_wanted ∙ same ∙ at_points }

-- what holds of a value that is there
pub ok_more : {T E : Type 0} {P Q : T → Type 0} (result : Result T E) → ((value : T) → P value → Q value) → IfOk result P → IfOk result Q
ok_more (Ok value) more holds = more value holds
ok_more (Err why) more holds = tt

pub with_line : (sunk : Sunk) (line text : List ℕ) (own status : ℕ) → line ≡ text → ClosesWith sunk line own status → ClosesWith sunk text own status
with_line sunk line text own status is closes = subst (λ (l : List ℕ). ClosesWith sunk l own status) is closes

pub refusal_line-is : (refusal : HarnessRefusal) (text : List ℕ) (n : ℕ) (number line : Option ℕ) → text ≡ codes "harness refused " ++ (decimal n ++ (line_words line ++ codes "\n"))
    → n ≡ unwrap_or number 0 → number ≡ number_of refusal → line ≡ line_of refusal → text ≡ refusal_line refusal
refusal_line-is refusal text n number line is at_n at_number at_line =
    is
    ∙ ap (λ (k : ℕ). codes "harness refused " ++ (decimal k ++ (line_words line ++ codes "\n"))) (at_n ∙ ap (λ (o : Option ℕ). unwrap_or o 0) at_number)
    ∙ ap (λ (o : Option ℕ). codes "harness refused " ++ (decimal (unwrap_or (number_of refusal) 0) ++ (line_words o ++ codes "\n"))) at_line

-- what reading the wirelist gives, of the bytes that were taken
pub takes_wires : (read : Read) (file bytes : List ℕ) (p : Program) → TookFirst read.left read.left_after most_of_wires file → bytes ≡ file → refusals bytes ≡ [] → p ≡ program_of (rows_in bytes) → TakesWires read p
takes_wires read file bytes p taken same none says = record {
  file = file;
  taken = taken;
  is_wirelist = record { faultless = ap refusals (sym same) ∙ none; says = says ∙ ap (λ (b : List ℕ). program_of (rows_in b)) same };
}

told_or_memory : (refusal : WireRefusal) → (refusal ≡ wire.Memory) ⊎ (wires_stop_of refusal ≡ Refused refusal)
told_or_memory wire.Memory = inl refl
told_or_memory (wire.NotText n) = inr refl
told_or_memory (wire.UnknownKind n) = inr refl
told_or_memory (wire.BadField n f) = inr refl
told_or_memory wire.NoPart = inr refl
told_or_memory (wire.SecondRow n) = inr refl
told_or_memory (wire.TooManyPoints n) = inr refl
told_or_memory (wire.Nets e) = inr refl
told_or_memory (wire.SameName n) = inr refl
told_or_memory (wire.BadWindow n) = inr refl
told_or_memory (wire.PartInsideNet n) = inr refl
told_or_memory (wire.TooManyClusters n) = inr refl
told_or_memory (wire.TooLong n) = inr refl
told_or_memory (wire.PartPoint n) = inr refl
told_or_memory (wire.SecondPart n) = inr refl
told_or_memory (wire.TooManyParts n) = inr refl

pub refuses_wires : (read : Read) (file bytes : List ℕ) (refusal : WireRefusal) (stop : FileStop WireRefusal) → TookFirst read.left read.left_after most_of_wires file → bytes ≡ file
    → (refusal ≡ wire.Memory) ⊎ (slice_get (refusals bytes) 0 ≡ Some refusal) → stop ≡ wires_stop_of refusal → WiresAre read (Err stop)
refuses_wires read file bytes refusal stop taken same (inl memory) is =
    subst (λ (s : FileStop WireRefusal). WiresAre read (Err s)) (sym (is ∙ ap wires_stop_of memory)) (TookFirst-lost _ _ _ _ taken)
refuses_wires read file bytes refusal stop taken same (inr first) is = elim (told_or_memory refusal) [
  | inl memory ↦ subst (λ (s : FileStop WireRefusal). WiresAre read (Err s)) (sym (is ∙ ap wires_stop_of memory)) (TookFirst-lost _ _ _ _ taken)
  | inr told ↦
      subst (λ (s : FileStop WireRefusal). WiresAre read (Err s)) (sym (is ∙ told))
      (record { file = file; taken = taken; first = ap (λ (b : List ℕ). slice_get (refusals b) 0) (sym same) ∙ first })
]

refused_or_memory : (refusal : HarnessRefusal) → (refusal ≡ harness.Memory) ⊎ (harness_stop_of refusal ≡ Refused refusal)
refused_or_memory harness.Memory = inl refl
refused_or_memory (harness.BadLine n) = inr refl
refused_or_memory (harness.PointRange n) = inr refl
refused_or_memory (harness.SecondElement n) = inr refl
refused_or_memory (harness.SameUnit n) = inr refl
refused_or_memory harness.NoEnd = inr refl
refused_or_memory (harness.TooMany n) = inr refl
refused_or_memory harness.TooLong = inr refl

-- what reading a harness file gives that is refused
pub refuses_harness : (read : Read) (file bytes : List ℕ) (refusal : HarnessRefusal) (stop : FileStop HarnessRefusal) → TookFirst read.left read.left_after most_of_harness file
    → bytes ≡ file → (refusal ≡ harness.Memory) ⊎ IsRefused bytes refusal → stop ≡ harness_stop_of refusal → HarnessIs read (Err stop)
refuses_harness read file bytes refusal stop taken same (inl memory) is =
    subst (λ (s : FileStop HarnessRefusal). HarnessIs read (Err s)) (sym (is ∙ ap harness_stop_of memory)) (TookFirst-lost _ _ _ _ taken)
refuses_harness read file bytes refusal stop taken same (inr refused) is = elim (refused_or_memory refusal) [
  | inl memory ↦ subst (λ (s : FileStop HarnessRefusal). HarnessIs read (Err s)) (sym (is ∙ ap harness_stop_of memory)) (TookFirst-lost _ _ _ _ taken)
  | inr told ↦
      subst (λ (s : FileStop HarnessRefusal). HarnessIs read (Err s)) (sym (is ∙ told))
      (record { file = file; taken = taken; is_refused = subst (λ (b : List ℕ). IsRefused b refusal) same refused })
]
