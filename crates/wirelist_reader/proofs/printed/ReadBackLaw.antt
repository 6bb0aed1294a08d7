-- What is printed is read.
use Rattle.std.proofs.Common.{◌≡◌, ◌⊎◌, ◌<◌, List, ℕ, [], map, length, Result, Ok, Err, Some, slice_get, ◌∙◌, ap, sym, arith, inl, inr}
use Rattle.std.specs.Prelude.{IfOk}
use Rattle.printed_rows.proofs.Lengths.{canonical_short}
use Rattle.printed_rows.proofs.Printed.{printed_records}
use Rattle.wirelist.specs.Canonical.{canonical, rows_of}
use Rattle.wirelist.specs.Programs.{IsProgram}
use Rattle.wirelist.specs.declared.program.Program.{Program}
use Rattle.wirelist.specs.declared.refusal.WireRefusal.{WireRefusal}
use Rattle.wirelist.specs.declared.refusal.WireRefusal.TheVariants as wire
use Rattle.wirelist_rows.specs.Filled.{filled, rows_in}
use Rattle.wirelist_reader.specs.Laws.{IsReadBack}
use Rattle.wirelist_reader.specs.Refusals.{FindsOrMemory, most_bytes, refusals, rows_refusals}
use Rattle.wirelist_reader.specs.Rows.{program_of}
use Rattle.wirelist_reader.proofs.printed.PrintedFaults.{printed_has_no_fault}
use Rattle.wirelist_reader.proofs.printed.PrintedProgram.{printed_gives_back, printed_is_filled}
use Rattle.wirelist_reader.proofs.ReadFacts.{short_file}

-- the rows of the canonical text
rows_back : (p : Program) → IsProgram p → rows_in (canonical p) ≡ rows_of p
rows_back p ok = ap (map filled) (printed_records p ok) ∙ printed_is_filled p ok

pub read_back : (p : Program) → IsProgram p → IsReadBack p
read_back p ok =
    let short = canonical_short p ok in
    record {
      faultless = short_file (canonical p) (omega arith) ∙ ap rows_refusals (rows_back p ok) ∙ printed_has_no_fault p ok;
      same = ap program_of (rows_back p ok) ∙ printed_gives_back p ok;
    }

-- what the reader answers to the canonical text
pub answers_back : (bytes : List ℕ) (result : Result Program WireRefusal) → IfOk result (λ p. p ≡ program_of (rows_in bytes)) → FindsOrMemory {A = Program} (refusals bytes) result
    → (p : Program) → IsProgram p → bytes ≡ canonical p → (result ≡ Ok p) ⊎ (result ≡ Err wire.Memory)
answers_back bytes (Ok q) same finds p ok text =
    let law = read_back p ok in
    let back : q ≡ p = same ∙ ap (λ (b : List ℕ). program_of (rows_in b)) text ∙ law.same in
    inl (ap Ok back)
answers_back bytes (Err e) same finds p ok text = elim finds [
  | inl memory ↦ inr (ap Err memory)
  | inr first ↦
      let law = read_back p ok in
      let none : slice_get {X = WireRefusal} [] 0 ≡ Some e = ap (λ (faults : List WireRefusal). slice_get faults 0) (sym (ap refusals text ∙ law.faultless)) ∙ first in
      absurd (nothing e none)
]
  where
    nothing : (e : WireRefusal) → slice_get {X = WireRefusal} [] 0 ≡ Some e → ⊥
    nothing e none = cc

-- a file that is too long is no canonical text
pub too_long : (bytes : List ℕ) → most_bytes < length bytes → (p : Program) → IsProgram p → bytes ≡ canonical p → ⊥
too_long bytes long p ok text = let short = canonical_short p ok in let size = ap length text in absurd (omega arith)
