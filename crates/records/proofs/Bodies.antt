-- The fields of each kind, and whole records.
use Rattle.std.proofs.Common.{◌≡◌, ◌≢◌, ℕ, ◌^◌, ◌<◌, ◌≤◌, Bool, true, false, if◌then◌else◌, List, [], ◌∷◌, ◌++◌, length, Option, None, Some, is_some, Result, Ok, Err, refl, sym, ap, ◌∙◌, append_assoc, arith}
use Rattle.std.proofs.lemmas.Option.{some_pair_parts}
use Rattle.std.specs.Int.{w32}
use Rattle.partition.specs.Names.{IsName}
use Rattle.wirelist.specs.declared.outcome.Outcome.{Outcome}
use Rattle.wirelist.specs.declared.program.Program.{Program}
use Rattle.wirelist.specs.Canonical.{canonical}
use Rattle.wirelist.specs.Programs.{IsProgram}
use Rattle.records.specs.declared.record.Staff.{Staff}
use Rattle.records.specs.declared.record.Body.{Body}
use Rattle.records.specs.declared.record.Body.TheVariants.{Adopt, Enrol, Calibrate, Tested, Rework, Release, Scrap, Mark}
use Rattle.records.specs.declared.record.StationRecord.{StationRecord}
use Rattle.records.specs.declared.stop.DecodeStop.{DecodeStop}
use Rattle.records.specs.declared.stop.DecodeStop.TheVariants.{NotARecord, Memory}
use Rattle.records.specs.RecordBytes.{test_kind, kind_of, four_bytes, eight_bytes, name_bytes, tested_bytes, program_bytes, body_bytes, record_bytes}
use Rattle.records.specs.RecordRanges.{Decodes, Only, IsDay, IsTestedAs, IsBody, IsBodyOf, Spells, last_moment}
use Rattle.records.specs.Reading.{Refuses, number_at, header_at}
use Rattle.records.proofs.Readers.{IsBytes, number32}
use Rattle.records.proofs.Decoding.{header_bytes, header_reader}

-- records of one kind are made of what their fields say
pub record IsKind {X : Type 0} (F : X → Type 0) (s : X → List ℕ) (kind : ℕ) (made : X → Body) : Type 0 where
  pub fits : (x : X) → F x → IsBody (made x)
  pub is : (x : X) → F x → kind ≡ kind_of (made x)
  pub spelled : (x : X) → s x ≡ body_bytes (made x)
  pub each : (b : Body) → IsBody b → kind ≡ kind_of b → (x : X) × F x × (made x ≡ b)

-- a record of another kind is no test
no_test : (kind : ℕ) (staff : Option Staff) → kind ≢ 4 → kind ≢ 9 → kind ≡ test_kind staff → ⊥
no_test kind None other _ is = other is
no_test kind (Some staff) _ other is = other is

adopts : (b : Body) → IsBody b → 1 ≡ kind_of b → (x : Program) × IsProgram x × (Adopt x ≡ b)
adopts (Adopt p) fits is = (p, fits, refl)
adopts (Tested serial attempt staff outcome) fits is = absurd (no_test 1 staff (omega arith) (omega arith) is)
adopts b fits is = absurd (omega arith)

pub adopt_kind : IsKind IsProgram program_bytes 1 (λ p. Adopt p)
adopt_kind = record { fits = λ x fits. fits; is = λ x fits. refl; spelled = λ x. refl; each = adopts }

enrols : (b : Body) → IsBody b → 2 ≡ kind_of b → (x : List ℕ) × IsName x × (Enrol x ≡ b)
enrols (Enrol serial) fits is = (serial, fits, refl)
enrols (Tested serial attempt staff outcome) fits is = absurd (no_test 2 staff (omega arith) (omega arith) is)
enrols b fits is = absurd (omega arith)

pub enrol_kind : IsKind IsName name_bytes 2 (λ serial. Enrol serial)
enrol_kind = record { fits = λ x fits. fits; is = λ x fits. refl; spelled = λ x. refl; each = enrols }

calibrates : (b : Body) → IsBody b → 3 ≡ kind_of b → (x : ℕ) × IsDay x × (Calibrate x ≡ b)
calibrates (Calibrate day) fits is = (day, fits, refl)
calibrates (Tested serial attempt staff outcome) fits is = absurd (no_test 3 staff (omega arith) (omega arith) is)
calibrates b fits is = absurd (omega arith)

pub calibrate_kind : IsKind IsDay four_bytes 3 (λ day. Calibrate day)
calibrate_kind = record { fits = λ x fits. fits; is = λ x fits. refl; spelled = λ x. refl; each = calibrates }

-- what a test's record keeps
abbrev pub Test : Type 0
Test = List ℕ × ℕ × Option Staff × Outcome

abbrev pub tested : Test → Body
tested t = Tested t.0 t.1 t.2 t.3

without_staff : (staff : Option Staff) → is_some staff ≡ false → 4 ≡ test_kind staff
without_staff None is = refl
without_staff (Some staff) is = absurd cc

with_staff : (staff : Option Staff) → is_some staff ≡ true → 9 ≡ test_kind staff
with_staff None is = absurd cc
with_staff (Some staff) is = refl

tests : (b : Body) → IsBody b → 4 ≡ kind_of b → (x : Test) × IsTestedAs false x × (tested x ≡ b)
tests (Tested serial attempt None outcome) fits is = ((serial, attempt, None, outcome), record { in_range = fits; names_staff = refl }, refl)
tests (Tested serial attempt (Some staff) outcome) fits is = absurd (omega arith)
tests b fits is = absurd (omega arith)

staffed_tests : (b : Body) → IsBody b → 9 ≡ kind_of b → (x : Test) × IsTestedAs true x × (tested x ≡ b)
staffed_tests (Tested serial attempt None outcome) fits is = absurd (omega arith)
staffed_tests (Tested serial attempt (Some staff) outcome) fits is = ((serial, attempt, Some staff, outcome), record { in_range = fits; names_staff = refl }, refl)
staffed_tests b fits is = absurd (omega arith)

pub tested_kind : (has_staff : Bool) → IsKind (IsTestedAs has_staff) tested_bytes (if has_staff then 9 else 4) tested
tested_kind false = record { fits = λ x fits. fits.in_range; is = λ x fits. without_staff x.2 fits.names_staff; spelled = λ x. refl; each = tests }
tested_kind true = record { fits = λ x fits. fits.in_range; is = λ x fits. with_staff x.2 fits.names_staff; spelled = λ x. refl; each = staffed_tests }

reworks : (b : Body) → IsBody b → 5 ≡ kind_of b → (x : List ℕ) × IsName x × (Rework x ≡ b)
reworks (Rework serial) fits is = (serial, fits, refl)
reworks (Tested serial attempt staff outcome) fits is = absurd (no_test 5 staff (omega arith) (omega arith) is)
reworks b fits is = absurd (omega arith)

pub rework_kind : IsKind IsName name_bytes 5 (λ serial. Rework serial)
rework_kind = record { fits = λ x fits. fits; is = λ x fits. refl; spelled = λ x. refl; each = reworks }

releases : (b : Body) → IsBody b → 6 ≡ kind_of b → (x : List ℕ) × IsName x × (Release x ≡ b)
releases (Release serial) fits is = (serial, fits, refl)
releases (Tested serial attempt staff outcome) fits is = absurd (no_test 6 staff (omega arith) (omega arith) is)
releases b fits is = absurd (omega arith)

pub release_kind : IsKind IsName name_bytes 6 (λ serial. Release serial)
release_kind = record { fits = λ x fits. fits; is = λ x fits. refl; spelled = λ x. refl; each = releases }

scraps : (b : Body) → IsBody b → 7 ≡ kind_of b → (x : List ℕ) × IsName x × (Scrap x ≡ b)
scraps (Scrap serial) fits is = (serial, fits, refl)
scraps (Tested serial attempt staff outcome) fits is = absurd (no_test 7 staff (omega arith) (omega arith) is)
scraps b fits is = absurd (omega arith)

pub scrap_kind : IsKind IsName name_bytes 7 (λ serial. Scrap serial)
scrap_kind = record { fits = λ x fits. fits; is = λ x fits. refl; spelled = λ x. refl; each = scraps }

-- a mark says nothing
abbrev pub IsNothing : Unit {0} → Type 0
IsNothing _ = Unit {0}

abbrev pub no_bytes : Unit {0} → List ℕ
no_bytes _ = []

marks : (b : Body) → IsBody b → 8 ≡ kind_of b → (x : Unit {0}) × IsNothing x × (Mark ≡ b)
marks Mark fits is = (tt, tt, refl)
marks (Tested serial attempt staff outcome) fits is = absurd (no_test 8 staff (omega arith) (omega arith) is)
marks b fits is = absurd (omega arith)

pub mark_kind : IsKind IsNothing no_bytes 8 (λ x. Mark)
mark_kind = record { fits = λ x fits. tt; is = λ x fits. refl; spelled = λ x. refl; each = marks }

pub kind_ok : {X : Type 0} {F : X → Type 0} {s : X → List ℕ} {kind : ℕ} {made : X → Body} → IsKind F s kind made → (fields : List ℕ) (x : X) → Decodes F s fields (Ok x) → Decodes (IsBodyOf kind) body_bytes fields (Ok (made x))
kind_ok {X} {F} {s} {kind} {made} k fields x d = record {
  found = (record { in_range = k.fits x d.found.0; kind_is = k.is x d.found.0 }, d.found.1 ∙ k.spelled x);
  only = λ b fits is. let y = k.each b fits.in_range fits.kind_is in ap made (d.only y.0 y.1 (is ∙ sym (k.spelled y.0 ∙ ap body_bytes y.2))) ∙ y.2;
}

pub kind_err : {X : Type 0} {F : X → Type 0} {s : X → List ℕ} {kind : ℕ} {made : X → Body} → IsKind F s kind made → (fields : List ℕ) (e : DecodeStop) → Decodes F s fields (Err e) → Decodes (IsBodyOf kind) body_bytes fields (Err e)
kind_err k fields e d = record {
  found = tt;
  only = λ b fits is. let y = k.each b fits.in_range fits.kind_is in d.only y.0 y.1 (is ∙ sym (k.spelled y.0 ∙ ap body_bytes y.2));
}

pub mark_found : (fields : List ℕ) → fields ≡ [] → Decodes (IsBodyOf 8) body_bytes fields (Ok Mark)
mark_found fields is = kind_ok mark_kind fields tt (record { found = (tt, is); only = λ x fits spelled. refl })

pub mark_not : (fields : List ℕ) → (fields ≡ [] → ⊥) → Decodes (IsBodyOf 8) body_bytes fields (Err NotARecord)
mark_not fields some = kind_err mark_kind fields NotARecord (record { found = tt; only = λ x fits spelled. absurd (some spelled) })

-- ---- whole records

abbrev pub header_of : StationRecord → ℕ × ℕ × List ℕ
header_of r = (kind_of r.body, r.moment, r.id)

regroup : (r : StationRecord) → record_bytes r ≡ header_bytes (header_of r) ++ body_bytes r.body
regroup r = ap (λ (z : List ℕ). kind_of r.body ∷ z) (sym (append_assoc (eight_bytes r.moment) (name_bytes r.id) (body_bytes r.body)))

-- a record's spelling has its header and its fields
pub header_there : (bytes : List ℕ) (r : StationRecord) → Spells bytes r → header_at bytes ≡ Some (header_of r, body_bytes r.body)
header_there bytes r spells = ap header_at (spells.bytes_are ∙ regroup r) ∙ header_reader.again (header_of r) (body_bytes r.body) (record { moment = spells.in_range.moment; id = spells.in_range.id })

header_same : (bytes : List ℕ) (h : ℕ × ℕ × List ℕ) (fields : List ℕ) → header_at bytes ≡ Some (h, fields) → (r : StationRecord) → Spells bytes r → (h ≡ header_of r) × (fields ≡ body_bytes r.body)
header_same bytes h fields is r spells = some_pair_parts h (header_of r) fields (body_bytes r.body) (sym is ∙ header_there bytes r spells)

-- there is no header
pub record_none : (bytes : List ℕ) (e : DecodeStop) → Refuses e (header_at bytes) → (r : StationRecord) → Spells bytes r → Only {X = StationRecord} (Err e) r
record_none bytes Memory h r spells = refl
record_none bytes NotARecord h r spells = absurd (let there = header_there bytes r spells in cc)

-- the moment is too late
pub record_late : (bytes : List ℕ) (h : ℕ × ℕ × List ℕ) (fields : List ℕ) → header_at bytes ≡ Some (h, fields) → last_moment < h.1 → (r : StationRecord) → Spells bytes r → ⊥
record_late bytes h fields is late r spells =
    let same : h.1 ≡ r.moment = ap (λ (z : ℕ × ℕ × List ℕ). z.1) (header_same bytes h fields is r spells).0 in
    let early = spells.in_range.moment in
    omega arith

-- the fields are those of no record of the kind
pub record_err : (bytes : List ℕ) (h : ℕ × ℕ × List ℕ) (fields : List ℕ) → header_at bytes ≡ Some (h, fields) → (e : DecodeStop) → Decodes (IsBodyOf h.0) body_bytes fields (Err e)
    → (r : StationRecord) → Spells bytes r → e ≡ Memory
record_err bytes h fields is e d r spells =
    let same = header_same bytes h fields is r spells in
    d.only r.body (record { in_range = spells.in_range.body; kind_is = ap (λ (z : ℕ × ℕ × List ℕ). z.0) same.0 }) same.1

pub record_found : (bytes : List ℕ) (h : ℕ × ℕ × List ℕ) (fields : List ℕ) → IsBytes bytes → header_at bytes ≡ Some (h, fields) → IsName h.2 → h.1 ≤ last_moment → (b : Body) → Decodes (IsBodyOf h.0) body_bytes fields (Ok b)
    → Spells bytes (record { id = h.2; moment = h.1; body = b })
record_found bytes h fields bs is name early b d = record {
  in_range = record { id = name; moment = early; body = d.found.0.in_range };
  bytes_are =
      header_reader.takes bytes h fields bs is
      ∙ ap (λ (z : List ℕ). header_bytes h ++ z) d.found.1
      ∙ ap (λ (k : ℕ). header_bytes (k, h.1, h.2) ++ body_bytes b) d.found.0.kind_is
      ∙ sym (regroup (record { id = h.2; moment = h.1; body = b }));
}

pub record_only : (bytes : List ℕ) (h : ℕ × ℕ × List ℕ) (fields : List ℕ) → header_at bytes ≡ Some (h, fields) → (b : Body) → Decodes (IsBodyOf h.0) body_bytes fields (Ok b)
    → (r : StationRecord) → Spells bytes r → record { id = h.2; moment = h.1; body = b } ≡ r
record_only bytes h fields is b d r spells =
    let same = header_same bytes h fields is r spells in
    let body : b ≡ r.body = d.only r.body (record { in_range = spells.in_range.body; kind_is = ap (λ (z : ℕ × ℕ × List ℕ). z.0) same.0 }) same.1 in
    let with_header : ℕ × ℕ × List ℕ → StationRecord = λ z. record { id = z.2; moment = z.1; body = b } in
    let with_body : Body → StationRecord = λ z. record { id = r.id; moment = r.moment; body = z } in
    ap with_header same.0 ∙ ap with_body body

-- ---- the program of an Adopt record

-- the length, and the text of a program
pub program_found : (fields text : List ℕ) (n : ℕ) → IsBytes fields → number_at w32 fields ≡ Some (n, text) → length text ≡ n → (p : Program) → Decodes IsProgram canonical text (Ok p) → IsProgram p × (fields ≡ program_bytes p)
program_found fields text n bs is long p d =
    let parts : fields ≡ four_bytes n ++ text = number32.takes fields n text bs is in
    let whole : four_bytes n ++ text ≡ program_bytes p = ap (λ (k : ℕ). four_bytes k ++ text) (sym long) ∙ ap (λ (z : List ℕ). four_bytes (length z) ++ z) d.found.1 in
    (d.found.0, parts ∙ whole)

-- programs have short texts
abbrev pub HasShortText : Program → Type 0
HasShortText p = length (canonical p) < 2 ^ 32

pub program_there : (short : (p : Program) → IsProgram p → HasShortText p) (fields text : List ℕ) (n : ℕ) → number_at w32 fields ≡ Some (n, text) → (p : Program) → IsProgram p → fields ≡ program_bytes p → (n ≡ length (canonical p)) × (text ≡ canonical p)
program_there short fields text n is p fits spelled =
    some_pair_parts n (length (canonical p)) text (canonical p) (sym is ∙ ap (number_at w32) spelled ∙ number32.again (length (canonical p)) (canonical p) (short p fits))

pub program_ok : (short : (p : Program) → IsProgram p → HasShortText p) (fields text : List ℕ) (n : ℕ) → IsBytes fields → number_at w32 fields ≡ Some (n, text) → length text ≡ n → (r : Result Program DecodeStop) → Decodes IsProgram canonical text r → Decodes IsProgram program_bytes fields r
program_ok short fields text n bs is long (Ok p) d = record {
  found = program_found fields text n bs is long p d;
  only = λ q fits spelled. d.only q fits (program_there short fields text n is q fits spelled).1;
}
program_ok short fields text n bs is long (Err e) d = record {
  found = tt;
  only = λ q fits spelled. d.only q fits (program_there short fields text n is q fits spelled).1;
}

pub program_not : (short : (p : Program) → IsProgram p → HasShortText p) (fields text : List ℕ) (n : ℕ) → number_at w32 fields ≡ Some (n, text) → length text ≢ n → Decodes IsProgram program_bytes fields (Err NotARecord)
program_not short fields text n is long = record {
  found = tt;
  only = λ q fits spelled. let there = program_there short fields text n is q fits spelled in absurd (long (ap length there.1 ∙ sym there.0));
}

pub program_err : (short : (p : Program) → IsProgram p → HasShortText p) (fields : List ℕ) (e : DecodeStop) → Refuses e (number_at w32 fields) → Decodes IsProgram program_bytes fields (Err e)
program_err short fields Memory h = record { found = tt; only = λ q fits spelled. refl }
program_err short fields NotARecord h = record {
  found = tt;
  only = λ q fits spelled. absurd (let there = ap (number_at w32) spelled ∙ number32.again (length (canonical q)) (canonical q) (short q fits) in cc);
}
