-- What bytes are read as, all of them.
use Rattle.std.proofs.Common.{◌≡◌, Bool, true, false, eqb, ℕ, ◌≤◌, List, [], ◌∷◌, ◌++◌, length, Option, None, Some, is_some, IfSome, Ok, Err, refl, sym, ap, subst, ◌∙◌, arith}
use Rattle.std.proofs.lemmas.Option.{same_Some, some_pair_parts}
use Rattle.std.proofs.lemmas.List.{append-nil, nil_from_length}
use Rattle.std.proofs.lemmas.Bool.{eqb-true, eqb-false}
use Rattle.std.specs.Int.{w32, w64}
use Rattle.partition.specs.Names.{IsName}
use Rattle.wirelist.specs.declared.outcome.Outcome.{Outcome}
use Rattle.records.specs.declared.record.Staff.{Staff}
use Rattle.records.specs.declared.stop.DecodeStop.{DecodeStop}
use Rattle.records.specs.declared.stop.DecodeStop.TheVariants.{NotARecord, Memory}
use Rattle.records.specs.RecordBytes.{four_bytes, eight_bytes, name_bytes, staff_bytes, tested_bytes}
use Rattle.records.specs.RecordRanges.{Decodes, IsDay, IsStaff, IsTestedAs, last_moment}
use Rattle.records.specs.Reading.{outcome_at, Reader, Refuses, number_at, staff_at, tested_at, header_at}
use Rattle.records.specs.Reading.{both_at, byte_at, name_at}
use Rattle.records.proofs.Readers.{IsBytes, IsBytes-rest, bind_some, both_reads, name_is, IsReader, both_reader, made_reader, byte_reader, number32, number64, name_reader}
use Rattle.records.proofs.Outcomes.{outcome_reader}

-- what fits and is spelled is read, with nothing after it
pub reads_whole : {X : Type 0} {F : X → Type 0} {s : X → List ℕ} {r : Reader X} → IsReader F s r → (bytes : List ℕ) (x : X) → F x → bytes ≡ s x → r bytes ≡ Some (x, [])
reads_whole {X} {F} {s} {r} a bytes x fits is = ap r (is ∙ sym (append-nil (s x))) ∙ a.again x [] fits

-- nothing is read at the front
pub whole_err : {X : Type 0} {F : X → Type 0} {s : X → List ℕ} {r : Reader X} → IsReader F s r → (bytes : List ℕ) (e : DecodeStop) → Refuses e (r bytes) → Decodes F s bytes (Err e)
whole_err a bytes Memory h = record { found = tt; only = λ x fits is. refl }
whole_err a bytes NotARecord h = record { found = tt; only = λ x fits is. absurd (let there = reads_whole a bytes x fits is in cc) }

-- something is read at the front, and bytes follow it, or it is out of range
pub whole_not : {X : Type 0} {F : X → Type 0} {s : X → List ℕ} {r : Reader X} → IsReader F s r → (bytes : List ℕ) (y : X) (rest : List ℕ) → r bytes ≡ Some (y, rest) → (F y → rest ≡ [] → ⊥) → Decodes F s bytes (Err NotARecord)
whole_not {X} {F} {s} {r} a bytes y rest h wrong = record {
  found = tt;
  only = λ x fits is. let same = some_pair_parts y x rest [] (sym h ∙ reads_whole a bytes x fits is) in absurd (wrong (subst F (sym same.0) fits) same.1);
}

-- something in range is read, and nothing follows it
pub whole_ok : {X : Type 0} {F : X → Type 0} {s : X → List ℕ} {r : Reader X} → IsReader F s r → (bytes : List ℕ) (y : X) (rest : List ℕ) → IsBytes bytes → r bytes ≡ Some (y, rest) → rest ≡ [] → F y → Decodes F s bytes (Ok y)
whole_ok {X} {F} {s} {r} a bytes y rest bs h end fits = record {
  found = (fits, a.takes bytes y rest bs h ∙ ap (λ (z : List ℕ). s y ++ z) end ∙ append-nil (s y));
  only = λ x fits' is. let same = some_pair_parts y x rest [] (sym h ∙ reads_whole a bytes x fits' is) in same.0;
}

-- ---- the fields of records

pub day_reader : IsReader IsDay four_bytes (number_at w32)
day_reader = record { takes = number32.takes; again = λ n rest fits. number32.again n rest (omega arith) }

none_takes : (bytes : List ℕ) (staff : Option Staff) (rest : List ℕ) → staff_at false bytes ≡ Some (staff, rest) → bytes ≡ staff_bytes staff ++ rest
unfolding staff_at
none_takes bytes staff rest e =
    let made : Option Staff × List ℕ = (None, bytes) in
    subst (λ (z : Option Staff × List ℕ). bytes ≡ staff_bytes z.0 ++ z.1) (same_Some made (staff, rest) e) refl

none_again : (staff : Option Staff) (rest : List ℕ) → is_some staff ≡ false → staff_at false (staff_bytes staff ++ rest) ≡ Some (staff, rest)
unfolding staff_at
none_again None rest is = refl
none_again (Some s) rest is = absurd cc

-- who made a test and where, in range, where a test names it
abbrev pub NamesStaff : Bool → Option Staff → Type 0
NamesStaff has_staff staff = IfSome staff IsStaff × (is_some staff ≡ has_staff)

names_of : (staff : Option Staff) → NamesStaff true staff → (x : List ℕ × List ℕ) × (IsName x.0 × IsName x.1) × (Some (record { operator = x.0; fixture = x.1 }) ≡ staff)
names_of None fits = absurd (let is = fits.1 in cc)
names_of (Some s) fits = ((s.operator, s.fixture), (fits.0.operator, fits.0.fixture), refl)

pub staff_reader : (has_staff : Bool) → IsReader (NamesStaff has_staff) staff_bytes (staff_at has_staff)
unfolding staff_at
staff_reader false = record { takes = λ bytes staff rest fits e. none_takes bytes staff rest e; again = λ staff rest fits. none_again staff rest fits.1 }
staff_reader true = made_reader (both_reader name_reader name_reader) (NamesStaff true) staff_bytes _ (λ x. refl) names_of

pub tested_reader : (has_staff : Bool) → IsReader (IsTestedAs has_staff) tested_bytes (tested_at has_staff)
unfolding tested_at
tested_reader has_staff = made_reader (both_reader name_reader (both_reader byte_reader (both_reader (staff_reader has_staff) outcome_reader))) (IsTestedAs has_staff) tested_bytes _ (λ x. refl)
    (λ t fits. ((t.0, (t.1, (t.2, t.3))), (fits.in_range.serial, (tt, ((fits.in_range.staff, fits.names_staff), fits.in_range.outcome))), refl))

-- kind, moment and id
pub record IsHeader (h : ℕ × ℕ × List ℕ) : Type 0 where
  pub moment : h.1 ≤ last_moment
  pub id : IsName h.2

abbrev pub header_bytes : ℕ × ℕ × List ℕ → List ℕ
header_bytes h = h.0 ∷ (eight_bytes h.1 ++ name_bytes h.2)

pub header_reader : IsReader IsHeader header_bytes header_at
unfolding header_at
header_reader = made_reader (both_reader byte_reader (both_reader number64 name_reader)) IsHeader header_bytes _ (λ x. refl)
    (λ h fits. ((h.0, (h.1, h.2)), (tt, (let late = fits.moment in omega arith, fits.id)), refl))

-- the test for an end
pub at_end : (rest : List ℕ) (b : Bool) → b ≡ eqb (length rest) 0 → b ≡ true → rest ≡ []
at_end rest b test ended = nil_from_length rest (eqb-true (length rest) 0 (sym test ∙ ended))

pub not_at_end : (rest : List ℕ) (b : Bool) → b ≡ eqb (length rest) 0 → b ≡ false → rest ≡ [] → ⊥
not_at_end rest b test isnt nothing = eqb-false (length rest) 0 (sym test ∙ isnt) (ap length nothing)

-- the id of a header is a name
pub header_named : (bytes : List ℕ) (h : ℕ × ℕ × List ℕ) (fields : List ℕ) → IsBytes bytes → header_at bytes ≡ Some (h, fields) → IsName h.2
unfolding header_at
header_named bytes h fields bs e =
    let m = bind_some (both_at byte_at (both_at (number_at w64) name_at) bytes) (λ x. Some ((x.0.0, x.0.1.0, x.0.1.1), x.1)) (h, fields) e in
    let p = both_reads byte_at (both_at (number_at w64) name_at) bytes m.0.0 m.0.1 m.1 in
    let q = both_reads (number_at w64) name_at p.0 m.0.0.1 m.0.1 p.2 in
    let bs1 : IsBytes p.0 = IsBytes-rest bytes (m.0.0.0 ∷ []) p.0 bs (byte_reader.takes bytes m.0.0.0 p.0 bs p.1) in
    let bs2 : IsBytes q.0 = IsBytes-rest p.0 (eight_bytes m.0.0.1.0) q.0 bs1 (number64.takes p.0 m.0.0.1.0 q.0 bs1 q.1) in
    let named : IsName m.0.0.1.1 = name_is q.0 m.0.0.1.1 m.0.1 bs2 q.2 in
    let whole : (ℕ × ℕ × List ℕ) × List ℕ = ((m.0.0.0, m.0.0.1.0, m.0.0.1.1), m.0.1) in
    subst (λ (z : (ℕ × ℕ × List ℕ) × List ℕ). IsName z.0.2) (same_Some whole (h, fields) m.2) named

-- who made a test and where are names
staff_named : (has_staff : Bool) (bytes : List ℕ) (staff : Option Staff) (rest : List ℕ) → IsBytes bytes → staff_at has_staff bytes ≡ Some (staff, rest) → NamesStaff has_staff staff
unfolding staff_at
staff_named false bytes staff rest bs e =
    let made : Option Staff × List ℕ = (None, bytes) in
    subst (λ (z : Option Staff × List ℕ). NamesStaff false z.0) (same_Some made (staff, rest) e) (tt, refl)
staff_named true bytes staff rest bs e =
    let m = bind_some (both_at name_at name_at bytes) (λ x. Some (Some (record { operator = x.0.0; fixture = x.0.1 }), x.1)) (staff, rest) e in
    let p = both_reads name_at name_at bytes m.0.0 m.0.1 m.1 in
    let bs1 : IsBytes p.0 = IsBytes-rest bytes (name_bytes m.0.0.0) p.0 bs (name_reader.takes bytes m.0.0.0 p.0 bs p.1) in
    let operator : IsName m.0.0.0 = name_is bytes m.0.0.0 p.0 bs p.1 in
    let fixture : IsName m.0.0.1 = name_is p.0 m.0.0.1 m.0.1 bs1 p.2 in
    let made : Option Staff × List ℕ = (Some (record { operator = m.0.0.0; fixture = m.0.0.1 }), m.0.1) in
    subst (λ (z : Option Staff × List ℕ). NamesStaff true z.0) (same_Some made (staff, rest) m.2) (record { operator = operator; fixture = fixture }, refl)

-- so is the serial of a test
pub tested_named : (has_staff : Bool) (bytes : List ℕ) (t : List ℕ × ℕ × Option Staff × Outcome) (rest : List ℕ) → IsBytes bytes → tested_at has_staff bytes ≡ Some (t, rest)
    → IsName t.0 × NamesStaff has_staff t.2
unfolding tested_at
tested_named has_staff bytes t rest bs e =
    let m = bind_some (both_at name_at (both_at byte_at (both_at (staff_at has_staff) outcome_at)) bytes) (λ x. Some ((x.0.0, x.0.1.0, x.0.1.1.0, x.0.1.1.1), x.1)) (t, rest) e in
    let p = both_reads name_at (both_at byte_at (both_at (staff_at has_staff) outcome_at)) bytes m.0.0 m.0.1 m.1 in
    let q = both_reads byte_at (both_at (staff_at has_staff) outcome_at) p.0 m.0.0.1 m.0.1 p.2 in
    let o = both_reads (staff_at has_staff) outcome_at q.0 m.0.0.1.1 m.0.1 q.2 in
    let bs1 : IsBytes p.0 = IsBytes-rest bytes (name_bytes m.0.0.0) p.0 bs (name_reader.takes bytes m.0.0.0 p.0 bs p.1) in
    let bs2 : IsBytes q.0 = IsBytes-rest p.0 (m.0.0.1.0 ∷ []) q.0 bs1 (byte_reader.takes p.0 m.0.0.1.0 q.0 bs1 q.1) in
    let serial : IsName m.0.0.0 = name_is bytes m.0.0.0 p.0 bs p.1 in
    let staff : NamesStaff has_staff m.0.0.1.1.0 = staff_named has_staff q.0 m.0.0.1.1.0 o.0 bs2 o.1 in
    let whole : (List ℕ × ℕ × Option Staff × Outcome) × List ℕ = ((m.0.0.0, m.0.0.1.0, m.0.0.1.1.0, m.0.0.1.1.1), m.0.1) in
    subst (λ (z : (List ℕ × ℕ × Option Staff × Outcome) × List ℕ). IsName z.0.0 × NamesStaff has_staff z.0.2) (same_Some whole (t, rest) m.2) (serial, staff)
