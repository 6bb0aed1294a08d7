-- What the rows of an import ask.
--     asked_by_rows bytes     what they ask, in order, each with its record's number
--     is_too_long bytes       the input is refused whole
use Rattle.std.specs.Prelude.{ℕ, Bool, false, ◌==◌, ◌&&◌, ◌||◌, nat_lt, if◌then◌else◌, ⊤}
use Rattle.std.specs.Prelude.{List, [], ◌∷◌, length, filter_map, codes, bytes_eq, Option, Some, None}
use Rattle.std.specs.List.{enumerate_from}
use Rattle.partition.specs.Names.{is_name}
use Rattle.serials.specs.declared.command.Command.{Command}
use Rattle.serials.specs.declared.command.Command.TheVariants.{Enrol}
use Rattle.wirelist_rows.specs.Filled.{rows_in}

-- the most bytes and the most records of an input
abbrev pub most_bytes : ℕ
most_bytes = 8388608

abbrev pub most_records : ℕ
most_records = 100000

-- the fields `id` and `serial`
abbrev pub is_heading : List (List ℕ) → Bool
is_heading (a ∷ b ∷ []) = bytes_eq a (codes "id") && bytes_eq b (codes "serial")
is_heading others = false

-- a record without fields, and a first record of these two
abbrev pub is_passed_over : ℕ → List (List ℕ) → Bool
is_passed_over number fields = length fields == 0 || (number == 1 && is_heading fields)

-- two names enrol the second under the first as its id; other fields are no command
abbrev pub enrolment : List (List ℕ) → Option Command
enrolment (id ∷ serial ∷ []) = if is_name id && is_name serial then Some (Enrol id serial) else None
enrolment others = None

-- it enrols a serial
abbrev pub IsEnrolment : Command → Type 0
IsEnrolment (Enrol id serial) = ⊤
IsEnrolment others = ⊥

-- what a numbered record asks, where it is not passed over
abbrev pub asked_by : ℕ × List (List ℕ) → Option (ℕ × Option Command)
asked_by row = if is_passed_over row.0 row.1 then None else Some (row.0, enrolment row.1)

-- the records of the input, numbered from 1, each without the empty fields at its end, and what they ask
unfoldable pub asked_by_rows : List ℕ → List (ℕ × Option Command)
asked_by_rows bytes = filter_map asked_by (enumerate_from 1 (rows_in bytes))

-- it has too many bytes or too many records
abbrev pub is_too_long : List ℕ → Bool
is_too_long bytes = nat_lt most_bytes (length bytes) || nat_lt most_records (length (rows_in bytes))
