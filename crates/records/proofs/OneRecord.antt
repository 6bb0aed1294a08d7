-- No bytes spell two records.
use Rattle.std.proofs.Common.{◌≡◌, ℕ, true, false, List, [], length, None, Some, refl, sym, ap, ◌∙◌}
use Rattle.std.proofs.lemmas.Option.{some_pair_parts}
use Rattle.wirelist.specs.declared.program.Program.{Program}
use Rattle.wirelist.specs.Canonical.{canonical}
use Rattle.wirelist.specs.Programs.{IsProgram}
use Rattle.records.specs.declared.record.Body.{Body}
use Rattle.records.specs.declared.record.Body.TheVariants.{Adopt, Enrol, Calibrate, Tested, Rework, Release, Scrap, Mark}
use Rattle.records.specs.declared.record.StationRecord.{StationRecord}
use Rattle.records.specs.Laws.{SpellingLaw}
use Rattle.records.specs.RecordBytes.{kind_of, program_bytes, body_bytes, record_bytes}
use Rattle.records.specs.RecordRanges.{IsBody}
use Rattle.records.specs.Reading.{Reader}
use Rattle.records.proofs.Readers.{IsReader, name_reader, number32}
use Rattle.records.proofs.Decoding.{reads_whole, day_reader, tested_reader}
use Rattle.records.proofs.Lengths.{text_short}
use Rattle.records.proofs.Texts.{one_text}
use Rattle.records.proofs.Bodies.{IsKind, adopt_kind, enrol_kind, calibrate_kind, tested_kind, rework_kind, release_kind, scrap_kind, mark_kind, header_of, header_there, program_there}

-- a spelling that can be read is that of one value
one_value : {X : Type 0} {F : X → Type 0} {s : X → List ℕ} {r : Reader X} → IsReader F s r → (x y : X) → F x → F y → s x ≡ s y → x ≡ y
one_value {X} {F} {s} {r} a x y fx fy same =
    (some_pair_parts x y [] [] (sym (reads_whole a (s x) x fx refl) ∙ reads_whole a (s x) y fy same)).0

one_program : (p q : Program) → IsProgram p → IsProgram q → program_bytes p ≡ program_bytes q → p ≡ q
one_program p q fp fq same =
    let own = number32.again (length (canonical p)) (canonical p) (text_short p fp) in
    one_text p q fp fq (program_there text_short (program_bytes p) (canonical p) (length (canonical p)) own q fq same).1

-- so are the fields of each kind
one_of_kind : {X : Type 0} {F : X → Type 0} {s : X → List ℕ} {kind : ℕ} {made : X → Body} → IsKind F s kind made → ((x y : X) → F x → F y → s x ≡ s y → x ≡ y)
    → (b c : Body) → IsBody b → IsBody c → kind ≡ kind_of b → kind ≡ kind_of c → body_bytes b ≡ body_bytes c → b ≡ c
one_of_kind {X} {F} {s} {kind} {made} k one b c fb fc kb kc same =
    let x = k.each b fb kb in
    let y = k.each c fc kc in
    let spelled : s x.0 ≡ s y.0 = k.spelled x.0 ∙ ap body_bytes x.2 ∙ same ∙ sym (k.spelled y.0 ∙ ap body_bytes y.2) in
    sym x.2 ∙ ap made (one x.0 y.0 x.1 y.1 spelled) ∙ y.2

one_body : (b c : Body) → IsBody b → IsBody c → kind_of b ≡ kind_of c → body_bytes b ≡ body_bytes c → b ≡ c
one_body (Adopt p) c fb fc kinds same = one_of_kind adopt_kind one_program (Adopt p) c fb fc refl kinds same
one_body (Enrol serial) c fb fc kinds same = one_of_kind enrol_kind (one_value name_reader) (Enrol serial) c fb fc refl kinds same
one_body (Calibrate day) c fb fc kinds same = one_of_kind calibrate_kind (one_value day_reader) (Calibrate day) c fb fc refl kinds same
one_body (Tested serial attempt None outcome) c fb fc kinds same = one_of_kind (tested_kind false) (one_value (tested_reader false)) (Tested serial attempt None outcome) c fb fc refl kinds same
one_body (Tested serial attempt (Some staff) outcome) c fb fc kinds same = one_of_kind (tested_kind true) (one_value (tested_reader true)) (Tested serial attempt (Some staff) outcome) c fb fc refl kinds same
one_body (Rework serial) c fb fc kinds same = one_of_kind rework_kind (one_value name_reader) (Rework serial) c fb fc refl kinds same
one_body (Release serial) c fb fc kinds same = one_of_kind release_kind (one_value name_reader) (Release serial) c fb fc refl kinds same
one_body (Scrap serial) c fb fc kinds same = one_of_kind scrap_kind (one_value name_reader) (Scrap serial) c fb fc refl kinds same
one_body Mark c fb fc kinds same = one_of_kind mark_kind (λ x y fx fy same. refl) Mark c fb fc refl kinds same

pub one_record : SpellingLaw
one_record r s fr fs same =
    let first = header_there (record_bytes r) r (record { in_range = fr; bytes_are = refl }) in
    let second = header_there (record_bytes r) s (record { in_range = fs; bytes_are = same }) in
    let parts = some_pair_parts (header_of r) (header_of s) (body_bytes r.body) (body_bytes s.body) (sym first ∙ second) in
    let body : r.body ≡ s.body = one_body r.body s.body fr.body fs.body (ap (λ (h : ℕ × ℕ × List ℕ). h.0) parts.0) parts.1 in
    let with_header : ℕ × ℕ × List ℕ → StationRecord = λ h. record { id = h.2; moment = h.1; body = r.body } in
    let with_body : Body → StationRecord = λ b. record { id = s.id; moment = s.moment; body = b } in
    ap with_header parts.0 ∙ ap with_body body
