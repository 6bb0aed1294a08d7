-- What a plain list of records says. Records are numbered from 1.
--     numbers_of passes R          the numbers of the records that pass, in order
--     by_id R id                   the number of the first record with the id
--     last_program R, last_calibration R, first_mark R     what holds for the whole station
--     enrolment R s, tests R s, has_passed R s, is_reworked R s, is_released R s, is_scrapped R s     what holds for one serial
use Rattle.std.specs.Prelude.{ℕ, ◌+◌, Bool, true, false, if◌then◌else◌, Option, Some, None, is_some}
use Rattle.std.specs.Prelude.{List, [], ◌∷◌, drop, filter_map, slice_get, bytes_eq}
use Rattle.std.specs.List.{last_or, list_any}
use Rattle.std.specs.Option.{option_map_or}
use Rattle.wirelist.specs.declared.program.Program.{Program}
use Rattle.wirelist.specs.declared.outcome.Outcome.{Outcome}
use Rattle.wirelist.specs.declared.outcome.Outcome.TheVariants.{Pass, Wiring, Parts, Insulation, Withstand}
use Rattle.records.specs.declared.record.Body.{Body}
use Rattle.records.specs.declared.record.Body.TheVariants.{Adopt, Enrol, Calibrate, Tested, Rework, Release, Scrap, Mark}
use Rattle.records.specs.declared.record.StationRecord.{StationRecord}

-- ---- one record

-- the program that it adopts
abbrev pub program_in : StationRecord → Option Program
program_in r = elim r.body [ Adopt p ↦ Some p | _ ↦ None ]

-- the day that it calibrates to
abbrev pub day_in : StationRecord → Option ℕ
day_in r = elim r.body [ Calibrate day ↦ Some day | _ ↦ None ]

-- it is a mark
abbrev pub marks : StationRecord → Bool
marks r = elim r.body [ Mark ↦ true | _ ↦ false ]

-- it has the id
abbrev pub has_id : List ℕ → StationRecord → Bool
has_id id r = bytes_eq id r.id

-- it enrols the serial
abbrev pub enrols : List ℕ → StationRecord → Bool
enrols serial r = elim r.body [ Enrol s ↦ bytes_eq s serial | _ ↦ false ]

-- what its test of the serial found
abbrev pub outcome_in : List ℕ → StationRecord → Option Outcome
outcome_in serial r = elim r.body [ Tested s attempt staff outcome ↦ (if bytes_eq s serial then Some outcome else None) | _ ↦ None ]

-- it tests the serial
abbrev pub is_test_of : List ℕ → StationRecord → Bool
is_test_of serial r = is_some (outcome_in serial r)

-- it reworks the serial
abbrev pub reworks : List ℕ → StationRecord → Bool
reworks serial r = elim r.body [ Rework s ↦ bytes_eq s serial | _ ↦ false ]

-- it releases the serial
abbrev pub releases : List ℕ → StationRecord → Bool
releases serial r = elim r.body [ Release s ↦ bytes_eq s serial | _ ↦ false ]

-- it scraps the serial
abbrev pub scraps : List ℕ → StationRecord → Bool
scraps serial r = elim r.body [ Scrap s ↦ bytes_eq s serial | _ ↦ false ]

-- the serial that a record's fields name
abbrev pub serial_in : Body → Option (List ℕ)
serial_in (Adopt p) = None
serial_in (Enrol s) = Some s
serial_in (Calibrate day) = None
serial_in (Tested s attempt staff outcome) = Some s
serial_in (Rework s) = Some s
serial_in (Release s) = Some s
serial_in (Scrap s) = Some s
serial_in Mark = None

-- they name this serial
abbrev pub names_in : List ℕ → Body → Bool
names_in serial b = option_map_or (λ s. bytes_eq s serial) (serial_in b) false

-- the record names the serial
abbrev pub names : List ℕ → StationRecord → Bool
names serial r = names_in serial r.body

-- a pass
abbrev pub is_pass : Outcome → Bool
is_pass Pass = true
is_pass (Wiring d) = false
is_pass (Parts faults) = false
is_pass (Insulation faults) = false
is_pass (Withstand bit volts leak) = false

-- ---- all records

-- the numbers of the items that pass, where the first item has this number
abbrev pub numbers_from : {A : Type 0} → (A → Bool) → ℕ → List A → List ℕ
numbers_from passes n [] = []
numbers_from passes n (x ∷ xs) = if passes x then n ∷ numbers_from passes (n + 1) xs else numbers_from passes (n + 1) xs

-- the numbers of the items that pass, in order
abbrev pub numbers_of : {A : Type 0} → (A → Bool) → List A → List ℕ
numbers_of passes xs = numbers_from passes 1 xs

-- the number of the first item that passes
abbrev pub first_number : {A : Type 0} → (A → Bool) → List A → Option ℕ
first_number passes xs = slice_get (numbers_of passes xs) 0

-- the number of the last item that passes
abbrev pub last_number : {A : Type 0} → (A → Bool) → List A → Option ℕ
last_number passes xs = last_or None (numbers_of passes xs)

-- the last value that the function gives of an item
abbrev pub last_of : {A B : Type 0} → (A → Option B) → List A → Option B
last_of f xs = last_or None (filter_map f xs)

-- the number of the first record with the id
abbrev pub by_id : List StationRecord → List ℕ → Option ℕ
by_id R id = first_number (has_id id) R

-- the program that was adopted last
abbrev pub last_program : List StationRecord → Option Program
last_program R = last_of program_in R

-- the day of the last calibration
abbrev pub last_calibration : List StationRecord → Option ℕ
last_calibration R = last_of day_in R

-- the number of the first mark
abbrev pub first_mark : List StationRecord → Option ℕ
first_mark R = first_number marks R

-- the number of the serial's first enrolment
abbrev pub enrolment : List StationRecord → List ℕ → Option ℕ
enrolment R serial = first_number (enrols serial) R

-- what the serial's tests found, in order
abbrev pub tests : List StationRecord → List ℕ → List Outcome
tests R serial = filter_map (outcome_in serial) R

-- the number of the serial's last test
abbrev pub last_test : List StationRecord → List ℕ → Option ℕ
last_test R serial = last_number (is_test_of serial) R

-- the serial's last test is a pass
abbrev pub has_passed : List StationRecord → List ℕ → Bool
has_passed R serial = option_map_or is_pass (last_or None (tests R serial)) false

-- a rework of the serial stands after its last test
abbrev pub is_reworked : List StationRecord → List ℕ → Bool
is_reworked R serial = option_map_or (λ k. list_any (reworks serial) (drop k R)) (last_test R serial) false

-- the serial has a release
abbrev pub is_released : List StationRecord → List ℕ → Bool
is_released R serial = list_any (releases serial) R

-- the serial has a scrap
abbrev pub is_scrapped : List StationRecord → List ℕ → Bool
is_scrapped R serial = list_any (scraps serial) R

-- some record names the serial
abbrev pub is_known : List StationRecord → List ℕ → Bool
is_known R serial = list_any (names serial) R
