-- The canonical text of a program is that of no other, and is read as it.
use Rattle.std.proofs.Common.{◌≡◌, ℕ, List, Result, Ok, Err, ◌⊎◌, inl, inr, sym, ap, ◌∙◌}
use Rattle.wirelist.specs.declared.program.Program.{Program}
use Rattle.wirelist.specs.declared.refusal.WireRefusal.{WireRefusal}
use Rattle.wirelist.specs.declared.refusal.WireRefusal.TheVariants as wire
use Rattle.wirelist.specs.Canonical.{canonical}
use Rattle.wirelist.specs.Programs.{IsProgram}
use Rattle.wirelist_reader.proofs.printed.ReadBackLaw.{read_back, answers_back}
use Rattle.records.specs.declared.stop.DecodeStop.{DecodeStop}
use Rattle.records.specs.declared.stop.DecodeStop.TheVariants.{NotARecord, Memory}
use Rattle.records.specs.RecordRanges.{Decodes}

-- a text is that of one program
pub one_text : (p q : Program) → IsProgram p → IsProgram q → canonical p ≡ canonical q → p ≡ q
one_text p q fp fq same =
    let law = read_back p fp in
    elim (answers_back (canonical p) (Ok p) (sym law.same) law.faultless q fq same) [ inl ok ↦ cc | inr out ↦ absurd cc ]

-- what the reader answers to the text of a program
abbrev pub Answers : List ℕ → Result Program WireRefusal → Type 0
Answers text result = (q : Program) → IsProgram q → text ≡ canonical q → (result ≡ Ok q) ⊎ (result ≡ Err wire.Memory)

-- a text that is refused is that of no program
pub refused_is_none : (text : List ℕ) (result : Result Program WireRefusal) (e : WireRefusal) (stop : DecodeStop) → Answers text result → result ≡ Err e → (e ≡ wire.Memory → stop ≡ Memory)
    → Decodes IsProgram canonical text (Err stop)
refused_is_none text result e stop answers is memory = record {
  found = tt;
  only = λ q fits spelled. elim (answers q fits spelled) [ inl ok ↦ absurd cc | inr out ↦ memory cc ];
}

-- a program that was read is the one whose text it is
read_is : (text : List ℕ) (result : Result Program WireRefusal) (p : Program) → Answers text result → result ≡ Ok p → (q : Program) → IsProgram q → text ≡ canonical q → p ≡ q
read_is text result p answers is q fits spelled = elim (answers q fits spelled) [ inl ok ↦ cc | inr out ↦ absurd cc ]

-- a text that is printed otherwise is that of no program
pub other_is_none : (text : List ℕ) (result : Result Program WireRefusal) (p : Program) → Answers text result → result ≡ Ok p → (canonical p ≡ text → ⊥) → Decodes IsProgram canonical text (Err NotARecord)
other_is_none text result p answers is other = record {
  found = tt;
  only = λ q fits spelled. absurd (other (ap canonical (read_is text result p answers is q fits spelled) ∙ sym spelled));
}

-- a text that is printed so is that of the program
pub same_is_found : (text : List ℕ) (result : Result Program WireRefusal) (p : Program) → Answers text result → result ≡ Ok p → IsProgram p → canonical p ≡ text → Decodes IsProgram canonical text (Ok p)
same_is_found text result p answers is valid same = record { found = (valid, sym same); only = read_is text result p answers is }
