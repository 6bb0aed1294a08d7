-- Dates: days from 1970-01-01 on, by the calendar of `jiff`, and their texts.
--     day_text n        the date of a day, `2024-05-01` for 19,844
--     read_date text    the day whose date the text is
use Rattle.std.specs.Prelude.{ℕ, zero, suc, ◌+◌, ◌-◌, ◌*◌, ◌/◌, ◌%◌, ◌<◌, ◌&&◌, nat_lt, nat_le, if◌then◌else◌, pos, unsigned_abs}
use Rattle.std.specs.Prelude.{List, [], ◌∷◌, ◌++◌, take, drop, slice_range, Option, Some, None, bytes_eq}
use Rattle.std.specs.List.{fold}
use Rattle.jiff.specs.Words.{days_in_month}
use Rattle.jiff_core.specs.Calendar.{days_from_civil}
use Rattle.records.specs.RecordRanges.{last_day}

-- a day of the calendar
pub record Civil : Type 0 where
  pub year : ℕ
  pub month : ℕ
  pub day : ℕ

abbrev pub civil : ℕ → ℕ → ℕ → Civil
civil y m d = record { year = y; month = m; day = d }

-- the day after
abbrev pub day_after : Civil → Civil
day_after c =
    if nat_lt c.day (days_in_month (pos c.year) c.month) then record { year = c.year; month = c.month; day = c.day + 1 }
    else if nat_lt c.month 12 then record { year = c.year; month = c.month + 1; day = 1 }
    else record { year = c.year + 1; month = 1; day = 1 }

-- so many days after 1970-01-01
unfoldable pub civil_of : ℕ → Civil
civil_of zero = record { year = 1970; month = 1; day = 1 }
civil_of (suc n) = day_after (civil_of n)

-- a number below 100 in two digits
abbrev pub two_digits : ℕ → List ℕ
two_digits n = (48 + n / 10) ∷ (48 + n % 10) ∷ []

-- a number below 10,000 in four digits
abbrev pub four_digits : ℕ → List ℕ
four_digits n = two_digits (n / 100) ++ two_digits (n % 100)

-- `2024-05-01`
abbrev pub civil_text : Civil → List ℕ
civil_text c = four_digits c.year ++ (45 ∷ (two_digits c.month ++ (45 ∷ two_digits c.day)))

-- the date of a day
abbrev pub day_text : ℕ → List ℕ
day_text n = civil_text (civil_of n)

-- the number that digits stand for
abbrev pub digits_value : List ℕ → ℕ
digits_value ds = fold (λ n d. 10 * n + (d - 48)) 0 ds

-- the day that a text of this form would name
abbrev pub named_day : List ℕ → ℕ
named_day text =
    let year : ℕ = digits_value (take 4 text) in
    let month : ℕ = digits_value (slice_range text 5 7) in
    let day : ℕ = digits_value (drop 8 text) in
    unsigned_abs (days_from_civil (pos year) month day)

-- the day whose date the text is, from 1970-01-01 to 9999-12-31
unfoldable pub read_date : List ℕ → Option ℕ
read_date text = if nat_le (named_day text) last_day && bytes_eq text (day_text (named_day text)) then Some (named_day text) else None

-- the parts have at most four, two and two digits
pub record IsWritten (c : Civil) : Type 0 where
  pub year : c.year < 10_000
  pub month : c.month < 100
  pub day : c.day < 100
