-- What is wrong with a file: one thing at most, and with a journal nothing.
use Rattle.std.proofs.Common.{◌≡◌, ⊎_elim, ℕ, ◌+◌, List, [], ◌∷◌, ◌++◌, length, take, drop, refl, sym, ◌∙◌, ap, arith, append_assoc}
use Rattle.std.specs.List.{flat_map}
use Rattle.std.proofs.lemmas.List.{take_at}
use Rattle.journal.specs.Format.{entry, written, magic, IsClosed, IsRead}
use Rattle.journal.specs.Opening.{IsCut, IsBad, IsJournal}
use Rattle.std.specs.Option.{ForSome}
use Rattle.disk_edge.specs.Disk.{DiskState}
use Rattle.journal.specs.Refusal.{IsWrong, IsOfTheFile, IsRefused}
use Rattle.journal.specs.declared.refusal.Refusal.{Refusal}
use Rattle.journal.specs.declared.refusal.Refusal.TheVariants.{NotJournal, BadEntry, TooLong, Failed, Memory}
use Rattle.journal.proofs.Bytes.{HasNoEntry, closed_no_entry, written_same}

cut_no_entry : (rest : List ℕ) → IsCut rest → HasNoEntry rest
cut_no_entry rest cut body after fits same = cut.no_entry body after fits (ap (drop 1) (sym cut.open_gate ∙ same))

begins : (file rest : List ℕ) (bodies : List (List ℕ)) → file ≡ written bodies ++ rest → take 8 file ≡ magic
begins file rest bodies is = ap (take 8) (is ∙ append_assoc magic (flat_map entry bodies) rest) ∙ take_at magic (flat_map entry bodies ++ rest) 8 refl

same_bad : (file : List ℕ) (k p k' p' : ℕ) → IsBad file k p → IsBad file k' p' → (k ≡ k') × (p ≡ p')
same_bad file k p k' p' bad bad' =
    let same = written_same bad.bodies bad'.bodies bad.rest bad'.rest bad.fit bad'.fit (cut_no_entry bad.rest bad.cut) (cut_no_entry bad'.rest bad'.cut) (sym bad.bytes ∙ bad'.bytes) in (
      bad.counts ∙ ap (λ (b : List (List ℕ)). length b + 1) same.0 ∙ sym bad'.counts,
      bad.stands ∙ ap (λ (b : List (List ℕ)). length (written b)) same.0 ∙ sym bad'.stands,
    )

not_closed : (x y : List ℕ) → IsClosed x → IsCut y → x ≡ y → ⊥
not_closed [] y closed cut same = let h : [] ≡ 1 ∷ cut.tail = same ∙ cut.open_gate in cc
not_closed (gate ∷ x) y closed cut same = let h : gate ∷ x ≡ 1 ∷ cut.tail = same ∙ cut.open_gate in closed (cc)

not_bad : (file : List ℕ) (bodies : List (List ℕ)) (k p : ℕ) → IsRead file bodies → IsBad file k p → ⊥
not_bad file bodies k p read bad =
    let same = written_same bodies bad.bodies read.rest bad.rest read.fit bad.fit (closed_no_entry read.rest read.closed) (cut_no_entry bad.rest bad.cut) (sym read.bytes ∙ bad.bytes) in
    not_closed read.rest bad.rest read.closed bad.cut same.1

pub one_wrong : (file : List ℕ) (a b : Refusal) → IsWrong file a → IsWrong file b → a ≡ b
one_wrong file (NotJournal f) (NotJournal f') a b = ap NotJournal (a.begins ∙ sym b.begins)
one_wrong file (NotJournal f) (BadEntry k p) a b = absurd (a.other (a.begins ∙ begins file b.rest b.bodies b.bytes))
one_wrong file (NotJournal f) (TooLong n) a b = absurd (omega (arith, a.within, b.0, b.1))
one_wrong file (NotJournal f) Failed a b = absurd b
one_wrong file (NotJournal f) Memory a b = absurd b
one_wrong file (BadEntry k p) (NotJournal f) a b = absurd (b.other (b.begins ∙ begins file a.rest a.bodies a.bytes))
one_wrong file (BadEntry k p) (BadEntry k' p') a b = let same = same_bad file k p k' p' a b in cc (same.0, same.1)
one_wrong file (BadEntry k p) (TooLong n) a b = absurd (omega (arith, a.within, b.0, b.1))
one_wrong file (BadEntry k p) Failed a b = absurd b
one_wrong file (BadEntry k p) Memory a b = absurd b
one_wrong file (TooLong n) (NotJournal f) a b = absurd (omega (arith, b.within, a.0, a.1))
one_wrong file (TooLong n) (BadEntry k p) a b = absurd (omega (arith, b.within, a.0, a.1))
one_wrong file (TooLong n) (TooLong n') a b = ap TooLong (a.0 ∙ sym b.0)
one_wrong file (TooLong n) Failed a b = absurd b
one_wrong file (TooLong n) Memory a b = absurd b
one_wrong file Failed b a wrong = absurd a
one_wrong file Memory b a wrong = absurd a

pub not_wrong : (file : List ℕ) (why : Refusal) → IsJournal file → IsWrong file why → ⊥
not_wrong file (NotJournal f) journal wrong = ⊎_elim
    (λ short. omega (arith, short.0, wrong.long))
    (λ read. wrong.other (wrong.begins ∙ begins file read.1.rest journal.1.0 read.1.bytes))
    journal.1.1
not_wrong file (BadEntry k p) journal wrong = ⊎_elim
    (λ short. omega (arith, short.0, wrong.long))
    (λ read. not_bad file journal.1.0 k p read.1 wrong)
    journal.1.1
not_wrong file (TooLong n) journal wrong = omega (arith, journal.0, wrong.0, wrong.1)
not_wrong file Failed journal wrong = wrong
not_wrong file Memory journal wrong = wrong

-- a refusal that speaks of the file says what is wrong with it
pub refused_wrong : (old new : DiskState) (why : Refusal) → IsRefused old new why → IsOfTheFile why → ForSome old.reads_as (λ file. IsWrong file why)
refused_wrong old new (NotJournal f) refused spoken = refused
refused_wrong old new (BadEntry k p) refused spoken = refused
refused_wrong old new (TooLong n) refused spoken = refused
refused_wrong old new Failed refused spoken = absurd spoken
refused_wrong old new Memory refused spoken = absurd spoken
