-- The report of the lot.
--     different texts     how many different texts there are
--     yield_text f t      f of t in percent, to a tenth
--     lot_text R          the report
use Rattle.std.specs.Prelude.{ℕ, ◌+◌, ◌*◌, ◌/◌, ◌%◌, Bool, true, false, ◌==◌, if◌then◌else◌, Option, Some, None, is_some}
use Rattle.std.specs.Prelude.{List, ◌++◌, length, filter, filter_map, count_by, slice_get, codes, decimal, bytes_eq}
use Rattle.std.specs.Option.{option_map_or}
use Rattle.std.specs.Set.{distinct_count}
use Rattle.wirelist.specs.declared.program.Program.{Program}
use Rattle.wirelist.specs.declared.outcome.Outcome.{Outcome}
use Rattle.wirelist.specs.declared.outcome.Outcome.TheVariants.{Wiring, Parts, Insulation, Withstand}
use Rattle.records.specs.declared.record.Body.TheVariants.{Enrol, Tested, Release, Scrap}
use Rattle.records.specs.declared.record.StationRecord.{StationRecord}
use Rattle.serials.specs.Scan.{is_pass, last_program, tests}

-- ---- serials

-- the serial that a record enrols
abbrev pub enrolled_in : StationRecord → Option (List ℕ)
enrolled_in r = elim r.body [ Enrol s ↦ Some s | _ ↦ None ]

-- the serial that it releases
abbrev pub released_in : StationRecord → Option (List ℕ)
released_in r = elim r.body [ Release s ↦ Some s | _ ↦ None ]

-- the serial that it scraps
abbrev pub scrapped_in : StationRecord → Option (List ℕ)
scrapped_in r = elim r.body [ Scrap s ↦ Some s | _ ↦ None ]

-- how many different texts there are
abbrev pub different : List (List ℕ) → ℕ
different texts = distinct_count bytes_eq texts

-- what the first test of a serial found
abbrev pub first_test : List StationRecord → List ℕ → Option Outcome
first_test R serial = slice_get (tests R serial) 0

-- the serial has a test
abbrev pub is_tested : List StationRecord → List ℕ → Bool
is_tested R serial = is_some (first_test R serial)

-- its first test is a pass
abbrev pub passed_first : List StationRecord → List ℕ → Bool
passed_first R serial = option_map_or is_pass (first_test R serial) false

-- how many serials are enrolled; how many of these have a test; of how many of these the first test is a pass
abbrev pub enrolled_count : List StationRecord → ℕ
enrolled_count R = different (filter_map enrolled_in R)

abbrev pub tested_count : List StationRecord → ℕ
tested_count R = different (filter (is_tested R) (filter_map enrolled_in R))

abbrev pub passed_count : List StationRecord → ℕ
passed_count R = different (filter (passed_first R) (filter_map enrolled_in R))

-- how many serials have a release, and a scrap
abbrev pub released_count : List StationRecord → ℕ
released_count R = different (filter_map released_in R)

abbrev pub scrapped_count : List StationRecord → ℕ
scrapped_count R = different (filter_map scrapped_in R)

-- ---- results

-- what a record's test found
abbrev pub found_in : StationRecord → Option Outcome
found_in r = elim r.body [ Tested s attempt staff outcome ↦ Some outcome | _ ↦ None ]

-- what all tests found
abbrev pub results : List StationRecord → List Outcome
results R = filter_map found_in R

abbrev pub is_wiring : Outcome → Bool
is_wiring o = elim o [ Wiring d ↦ true | _ ↦ false ]

abbrev pub is_parts : Outcome → Bool
is_parts o = elim o [ Parts faults ↦ true | _ ↦ false ]

abbrev pub is_insulation : Outcome → Bool
is_insulation o = elim o [ Insulation faults ↦ true | _ ↦ false ]

abbrev pub is_withstand : Outcome → Bool
is_withstand o = elim o [ Withstand bit volts leak ↦ true | _ ↦ false ]

-- ---- lines

-- `part P revision R` of the last adopted program
abbrev pub part_line : Option Program → List ℕ
part_line None = codes "part -\n"
part_line (Some p) = codes "part " ++ p.part ++ codes " revision " ++ decimal p.revision ++ codes "\n"

-- a word and a count
abbrev pub count_line : List ℕ → ℕ → List ℕ
count_line word n = word ++ codes " " ++ decimal n ++ codes "\n"

-- f of t in percent, rounded to a tenth, half a tenth upwards; a dash for none of none
abbrev pub yield_text : ℕ → ℕ → List ℕ
yield_text f t =
    let tenths : ℕ = (2000 * f + t) / (2 * t) in
    if t == 0 then codes "-" else decimal (tenths / 10) ++ codes "." ++ decimal (tenths % 10) ++ codes "%"

abbrev pub yield_line : ℕ → ℕ → List ℕ
yield_line f t = codes "yield " ++ yield_text f t ++ codes "\n"

-- how many tests there were, and how many of each verdict
abbrev pub results_line : List Outcome → List ℕ
results_line found =
    codes "results " ++ decimal (length found)
    ++ codes " pass " ++ decimal (count_by is_pass found)
    ++ codes " wiring " ++ decimal (count_by is_wiring found)
    ++ codes " parts " ++ decimal (count_by is_parts found)
    ++ codes " insulation " ++ decimal (count_by is_insulation found)
    ++ codes " withstand " ++ decimal (count_by is_withstand found)
    ++ codes "\n"

-- the report
unfoldable pub lot_text : List StationRecord → List ℕ
lot_text R =
    codes "LOT REPORT\n"
    ++ part_line (last_program R)
    ++ count_line (codes "enrolled") (enrolled_count R)
    ++ count_line (codes "tested") (tested_count R)
    ++ count_line (codes "first pass") (passed_count R)
    ++ yield_line (passed_count R) (tested_count R)
    ++ results_line (results R)
    ++ count_line (codes "released") (released_count R)
    ++ count_line (codes "scrapped") (scrapped_count R)
