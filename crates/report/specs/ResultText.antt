-- The results file.
--     test_fields with_staff k r ..          the fields of a test's row
--     result_text R                          the file
use Rattle.std.specs.Prelude.{ℕ, Bool, true, false, List, [], ◌∷◌, ◌++◌, length, filter_map, codes, decimal, Option, Some, None}
use Rattle.std.specs.List.{flat_map, list_any}
use Rattle.std.specs.Option.{option_map_or}
use Rattle.difference.specs.declared.wiring.Difference.{Difference}
use Rattle.wirelist.specs.Canonical.{line_of}
use Rattle.wirelist.specs.declared.outcome.Outcome.{Outcome}
use Rattle.wirelist.specs.declared.outcome.Outcome.TheVariants.{Pass, Wiring, Parts, Insulation, Withstand}
use Rattle.records.specs.declared.record.Staff.{Staff}
use Rattle.records.specs.declared.record.Body.TheVariants.{Tested}
use Rattle.records.specs.declared.record.StationRecord.{StationRecord}
use Rattle.serials.specs.Scan.{marks}
use Rattle.report.specs.UnitText.{numbered_records, record_date}

-- the columns of each file, and those that it has besides once the records hold a mark
abbrev pub test_columns : List (List ℕ)
test_columns = codes "record" ∷ codes "date" ∷ codes "serial" ∷ codes "attempt" ∷ codes "verdict" ∷ codes "opens" ∷ codes "shorts" ∷ codes "miswires" ∷ []

abbrev pub staff_columns : Bool → List (List ℕ)
staff_columns false = []
staff_columns true = codes "operator" ∷ codes "fixture" ∷ []

abbrev pub columns : Bool → List (List ℕ)
columns with_staff = test_columns ++ staff_columns with_staff

-- the verdict's word
abbrev pub verdict_word : Outcome → List ℕ
verdict_word Pass = codes "pass"
verdict_word (Wiring d) = codes "wiring"
verdict_word (Parts faults) = codes "parts"
verdict_word (Insulation faults) = codes "insulation"
verdict_word (Withstand bit volts leak) = codes "withstand"

-- the difference that an outcome states; there is none where the wiring is right
abbrev pub wiring_of : Outcome → Option Difference
wiring_of o = elim o [ Wiring d ↦ Some d | _ ↦ None ]

-- how many opens, shorts and miswires it has
abbrev pub open_count : Option Difference → ℕ
open_count wiring = option_map_or (λ (d : Difference). length d.opens) wiring 0

abbrev pub short_count : Option Difference → ℕ
short_count wiring = option_map_or (λ (d : Difference). length d.shorts) wiring 0

abbrev pub miswire_count : Option Difference → ℕ
miswire_count wiring = option_map_or (λ (d : Difference). length d.miswires) wiring 0

-- the verdict's word, and these counts
abbrev pub verdict_fields : Outcome → List (List ℕ)
verdict_fields o =
    verdict_word o ∷ decimal (open_count (wiring_of o)) ∷ decimal (short_count (wiring_of o)) ∷ decimal (miswire_count (wiring_of o)) ∷ []

-- who made a test, and where; nothing where the test does not say
abbrev pub operator_of : Option Staff → List ℕ
operator_of None = []
operator_of (Some staff) = staff.operator

abbrev pub fixture_of : Option Staff → List ℕ
fixture_of None = []
fixture_of (Some staff) = staff.fixture

-- both, in a file that has these columns
abbrev pub staff_fields : Bool → Option Staff → List (List ℕ)
staff_fields false staff = []
staff_fields true staff = operator_of staff ∷ fixture_of staff ∷ []

-- the fields of a test's row
abbrev pub test_fields : Bool → ℕ → StationRecord → List ℕ → ℕ → Option Staff → Outcome → List (List ℕ)
test_fields with_staff k r serial attempt staff outcome =
    (decimal k ∷ record_date r ∷ serial ∷ decimal attempt ∷ []) ++ verdict_fields outcome ++ staff_fields with_staff staff

-- the row of a numbered record, where it is a test
abbrev pub result_row : Bool → ℕ × StationRecord → Option (List (List ℕ))
result_row with_staff numbered =
    elim numbered.1.body [ Tested serial attempt staff outcome ↦ Some (test_fields with_staff numbered.0 numbered.1 serial attempt staff outcome) | _ ↦ None ]

-- the rows: the columns, and one for each test; the columns of who and where are there once the records hold a mark
abbrev pub result_rows : List StationRecord → List (List (List ℕ))
result_rows R =
    let with_staff : Bool = list_any marks R in
    columns with_staff ∷ filter_map (result_row with_staff) (numbered_records R)

-- the file: the lines of the rows
unfoldable pub result_text : List StationRecord → List ℕ
result_text R = flat_map line_of (result_rows R)
