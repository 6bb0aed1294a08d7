-- The day that a date names.
use Rattle.std.proofs.Common.{◌≡◌, ◌≢◌, ℕ, ◌<◌, ◌≤◌, ◌&&◌, Bool, true, false, nat_le, if◌then◌else◌, List, Option, None, Some, IfNone, IfSome, bytes_eq, pos, unsigned_abs, refl, sym, ap, ◌∙◌, subst, arith}
use Rattle.std.proofs.lemmas.Bool.{and_parts, leb-true, le-leb}
use Rattle.std.proofs.lemmas.Slice.Eq.{bytes_eq-Decides}
use Rattle.jiff_core.specs.Calendar.{days_from_civil}
use Rattle.records.specs.RecordRanges.{last_day}
use Rattle.serials.specs.Dates.{civil_of, two_digits, four_digits, day_text, digits_value, named_day, read_date}
use Rattle.serials.specs.Laws.{DateLaw}
use Rattle.serials.proofs.CivilDays.{civil_of-is, civil_of-written}

two_digits_value : (n : ℕ) → n < 100 → digits_value (two_digits n) ≡ n
two_digits_value n few = omega arith

four_digits_value : (n : ℕ) → n < 10_000 → digits_value (four_digits n) ≡ n
four_digits_value n few = omega arith

-- a day's text names the day
named_day-day_text : (n : ℕ) → n ≤ last_day → named_day (day_text n) ≡ n
named_day-day_text n within =
    let c = civil_of n in
    let w = civil_of-written n within in
    let y = four_digits_value (civil_of n).year w.year in
    let m = two_digits_value (civil_of n).month w.month in
    let d = two_digits_value (civil_of n).day w.day in
    ap (λ (k : ℕ). unsigned_abs (days_from_civil (pos k) (digits_value (two_digits (civil_of n).month)) (digits_value (two_digits (civil_of n).day)))) y
    ∙ ap (λ (k : ℕ). unsigned_abs (days_from_civil (pos (civil_of n).year) k (digits_value (two_digits (civil_of n).day)))) m
    ∙ ap (λ (k : ℕ). unsigned_abs (days_from_civil (pos (civil_of n).year) (civil_of n).month k)) d
    ∙ ap unsigned_abs (civil_of-is n within).number

abbrev names_date : List ℕ → ℕ → Bool
names_date text n = nat_le n last_day && bytes_eq text (day_text n)

names_own : (text : List ℕ) (n : ℕ) → n ≤ last_day → day_text n ≡ text → names_date text n ≡ true
names_own text n within is = rw (le-leb n last_day within, (bytes_eq-Decides text (day_text n)).1 (sym is)) refl

none_named : (text : List ℕ) (n : ℕ) (b : Bool) → names_date text n ≡ b → ((k : ℕ) → k ≤ last_day → day_text k ≢ text) → None ≡ (if b then Some n else None)
none_named text n false e none = refl
none_named text n true e none =
    let p = and_parts (nat_le n last_day) (bytes_eq text (day_text n)) e in
    absurd (none n (leb-true n last_day p.0) (sym ((bytes_eq-Decides text (day_text n)).0 p.1)))

-- what the texts of all days tell is what is read
pub read_date-is : (text : List ℕ) (o : Option ℕ) → IfNone o ((n : ℕ) → n ≤ last_day → day_text n ≢ text) → IfSome o (λ n. (n ≤ last_day) × (day_text n ≡ text)) → o ≡ read_date text
unfolding read_date
read_date-is text None none some = none_named text (named_day text) (names_date text (named_day text)) refl none
read_date-is text (Some n) none some =
    let same : named_day text ≡ n = ap named_day (sym some.1) ∙ named_day-day_text n some.0 in
    subst (λ (k : ℕ). Some n ≡ (if names_date text k then Some k else None)) (sym same) (rw (names_own text n some.0 some.1) refl)

-- ---- the law of dates

day_found : (text : List ℕ) (n day : ℕ) (b : Bool) → names_date text n ≡ b → (if b then Some n else None) ≡ Some day → (day ≤ last_day) × (text ≡ day_text day)
day_found text n day false e is = absurd cc
day_found text n day true e is =
    let same : n ≡ day = cc in
    let p = and_parts (nat_le n last_day) (bytes_eq text (day_text n)) e in
    subst (λ (k : ℕ). (k ≤ last_day) × (text ≡ day_text k)) same (leb-true n last_day p.0, (bytes_eq-Decides text (day_text n)).0 p.1)

pub dates_read : DateLaw
unfolding read_date
dates_read text day = (
  λ is. day_found text (named_day text) day (names_date text (named_day text)) refl is,
  λ fits. sym (read_date-is text (Some day) tt (fits.0, sym fits.1)),
)
