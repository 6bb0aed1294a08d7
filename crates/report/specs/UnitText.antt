-- The report of one unit.
--     status_word f          the unit's status, by what the records say of its serial
--     record_lines R s       the lines of a numbered record, where it names the serial
--     unit_text R s          the report, where the serial is enrolled
use Rattle.std.specs.Prelude.{ℕ, ◌-◌, ◌/◌, List, [], ◌++◌, take, codes, decimal, Option, Some, None, is_none, is_some, if◌then◌else◌}
use Rattle.std.specs.List.{enumerate_from, flat_map}
use Rattle.wirelist.specs.declared.outcome.Outcome.{Outcome}
use Rattle.wirelist.specs.declared.program.Program.{Program}
use Rattle.wirelist.specs.Outcomes.{verdict_of}
use Rattle.records.specs.declared.record.Staff.{Staff}
use Rattle.records.specs.declared.record.Body.{Body}
use Rattle.records.specs.declared.record.Body.TheVariants.{Adopt, Enrol, Calibrate, Tested, Rework, Release, Scrap, Mark}
use Rattle.records.specs.declared.record.StationRecord.{StationRecord}
use Rattle.serials.specs.declared.facts.SerialFacts.{SerialFacts}
use Rattle.serials.specs.Dates.{day_text}
use Rattle.serials.specs.Facts.{history}
use Rattle.serials.specs.Scan.{last_program, names}
use Rattle.outcome_lines.specs.OutcomeLines.{outcome_lines}
use Rattle.outcome_lines.specs.VerdictText.{verdict_text}

-- the date of a record
abbrev pub record_date : StationRecord → List ℕ
record_date r = day_text (r.moment / 86400)

-- `rework record K DATE`
abbrev pub event_line : List ℕ → ℕ → StationRecord → List ℕ
event_line word k r = word ++ codes " record " ++ decimal k ++ codes " " ++ record_date r ++ codes "\n"

-- ` by OPERATOR on FIXTURE`, where the test names them
abbrev pub staff_text : Option Staff → List ℕ
staff_text None = []
staff_text (Some staff) = codes " by " ++ staff.operator ++ codes " on " ++ staff.fixture

-- `test record K DATE attempt A by OPERATOR on FIXTURE VERDICT`
abbrev pub test_line : ℕ → StationRecord → ℕ → Option Staff → Outcome → List ℕ
test_line k r attempt staff outcome =
    codes "test record " ++ decimal k ++ codes " " ++ record_date r ++ codes " attempt " ++ decimal attempt ++ staff_text staff ++ codes " "
    ++ verdict_text (verdict_of outcome) ++ codes "\n"

-- the lines of a record with this number, by its fields; a test's labels are those of the program
unfoldable pub body_lines : Option Program → ℕ → StationRecord → Body → List ℕ
body_lines p k r (Enrol serial) = event_line (codes "enrolled") k r
body_lines p k r (Tested serial attempt staff outcome) = test_line k r attempt staff outcome ++ outcome_lines p outcome
body_lines p k r (Rework serial) = event_line (codes "rework") k r
body_lines p k r (Release serial) = event_line (codes "released") k r
body_lines p k r (Scrap serial) = event_line (codes "scrapped") k r
body_lines p k r (Adopt q) = []
body_lines p k r (Calibrate day) = []
body_lines p k r Mark = []

-- the same, where the record names the serial
abbrev pub noted_lines : Option Program → List ℕ → ℕ → StationRecord → List ℕ
noted_lines p serial k r = if names serial r then body_lines p k r r.body else []

-- the lines of a numbered record; the program of a test is the last one adopted before it
abbrev pub record_lines : List StationRecord → List ℕ → ℕ × StationRecord → List ℕ
record_lines R serial numbered = noted_lines (last_program (take (numbered.0 - 1) R)) serial numbered.0 numbered.1

-- the records with their numbers, from 1
abbrev pub numbered_records : List StationRecord → List (ℕ × StationRecord)
numbered_records R = enumerate_from 1 R

-- the first of these that applies
abbrev pub status_word : SerialFacts → List ℕ
status_word facts =
    if facts.scrapped then codes "scrapped"
    else (if facts.released then codes "released"
    else (if is_none facts.last_test then codes "enrolled"
    else (if facts.last_passed then codes "passed"
    else (if facts.reworked then codes "reworked" else codes "rework due"))))

-- the lines above the records
abbrev pub heading : List ℕ → SerialFacts → List ℕ
heading serial facts = codes "UNIT " ++ serial ++ codes "\nstatus " ++ status_word facts ++ codes "\n"

-- the report, and none where the serial is not enrolled
unfoldable pub unit_text : List StationRecord → List ℕ → Option (List ℕ)
unit_text R serial =
    let facts : SerialFacts = history R serial in
    if is_some facts.enrol then Some (heading serial facts ++ flat_map (record_lines R serial) (numbered_records R)) else None
