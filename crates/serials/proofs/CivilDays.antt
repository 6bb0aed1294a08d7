-- The days in turn are the dates of `jiff` with those numbers.
use Rattle.std.proofs.Common.{◌≡◌, ℕ, zero, suc, ◌+◌, ◌/◌, ◌%◌, ◌<◌, ◌≤◌, ◌∙◌, sym, refl, ap, arith, Bool, true, false, nat_lt, if◌then◌else◌, ℤ, pos, negsuc, unsigned_abs, ◌≢◌, Option, Some, None, IfNone, IfSome, ◌^◌, List}
use Rattle.std.specs.Int.{IsInRange, FitsUnsignedBits}
use Rattle.std.proofs.lemmas.Bool.{ltb-true, ltb-false}
use Rattle.jiff.specs.Words.{days_in_month, IsDate, IsYmd, epoch_day, date_text}
use Rattle.jiff.proofs.SpanFacts.{signed_arith}
use Rattle.jiff.proofs.Family.{epoch_day_injective, days_from_civil-day, days_from_civil-next_month, days_from_civil-next_year, days_from_civil-max, epoch_day_range}
use Rattle.jiff_core.proofs.CalendarLemmas.{days_in_month_bounds}
use Rattle.jiff_core.proofs.StandardFacts.{known_days}
use Rattle.jiff_core.specs.Calendar.{days_from_civil}
use Rattle.jiff_core.specs.declared.civil.date.Date.{Date}
use Rattle.serials.specs.Dates.{Civil, civil, day_after, civil_of, civil_text, day_text, two_digits, IsWritten}

-- a day of the calendar with this number
pub record IsDay (n : ℕ) (c : Civil) : Type 0 where
  pub year : c.year ≤ 9999
  pub month : IsInRange 1 12 c.month
  pub day : IsInRange 1 (days_in_month (pos c.year) c.month) c.day
  pub number : days_from_civil (pos c.year) c.month c.day ≡ pos n

-- the three ways to the day after, by what the tests of `day_after` give
same_month : (n : ℕ) (c : Civil) → IsDay n c → c.day < days_in_month (pos c.year) c.month → IsDay (suc n) (record { year = c.year; month = c.month; day = c.day + 1 })
same_month n c h more =
    let step = days_from_civil-day (pos c.year) c.month c.day (c.day + 1) h.day.0 (omega arith) in
    record { year = h.year; month = h.month; day = (omega arith, omega arith); number = omega (arith, signed_arith, step, h.number) }

next_month : (n : ℕ) (c : Civil) → IsDay n c → c.day ≡ days_in_month (pos c.year) c.month → c.month < 12 → IsDay (suc n) (record { year = c.year; month = c.month + 1; day = 1 })
next_month n c h last more =
    let step = days_from_civil-next_month (pos c.year) c.month c.day h.month.0 last in
    record { year = h.year; month = (omega arith, omega arith); day = (omega arith, omega (arith, days_in_month_bounds)); number = omega (arith, signed_arith, step, h.number) }

next_year : (n : ℕ) (c : Civil) → n < 2_932_896 → IsDay n c → c.day ≡ days_in_month (pos c.year) c.month → c.month ≡ 12 → IsDay (suc n) (record { year = c.year + 1; month = 1; day = 1 })
next_year n c within h last december =
    let day31 : c.day ≡ 31 = rw december at last in
    let number = rw (december, day31) at h.number in
    let earlier : c.year ≡ 9999 → ⊥ = λ e. let top = rw e at number in omega (arith, signed_arith, top, days_from_civil-max) in
    let step = days_from_civil-next_year (pos c.year) (pos (c.year + 1)) (omega (arith, signed_arith)) (omega (arith, signed_arith)) in
    record { year = omega arith; month = (omega arith, omega arith); day = (omega arith, omega arith); number = omega (arith, signed_arith, step, number) }

after_month : (n : ℕ) (c : Civil) → n < 2_932_896 → IsDay n c → c.day ≡ days_in_month (pos c.year) c.month → (b : Bool) → nat_lt c.month 12 ≡ b
    → IsDay (suc n) (if b then record { year = c.year; month = c.month + 1; day = 1 } else record { year = c.year + 1; month = 1; day = 1 })
after_month n c within h last true e = next_month n c h last (ltb-true _ _ e)
after_month n c within h last false e =
    let late : 12 ≤ c.month = ltb-false _ _ e in
    let december : c.month ≡ 12 = omega (arith, h.month) in
    next_year n c within h last december

after_day : (n : ℕ) (c : Civil) → n < 2_932_896 → IsDay n c → (b : Bool) → nat_lt c.day (days_in_month (pos c.year) c.month) ≡ b
    → IsDay (suc n) (if b then record { year = c.year; month = c.month; day = c.day + 1 }
    else (if nat_lt c.month 12 then record { year = c.year; month = c.month + 1; day = 1 } else record { year = c.year + 1; month = 1; day = 1 }))
after_day n c within h true e = same_month n c h (ltb-true _ _ e)
after_day n c within h false e =
    let late : days_in_month (pos c.year) c.month ≤ c.day = ltb-false _ _ e in
    let last : c.day ≡ days_in_month (pos c.year) c.month = omega (arith, h.day) in
    after_month n c within h last (nat_lt c.month 12) refl

pub day_after-is : (n : ℕ) (c : Civil) → n < 2_932_896 → IsDay n c → IsDay (suc n) (day_after c)
day_after-is n c within h = after_day n c within h (nat_lt c.day (days_in_month (pos c.year) c.month)) refl

pub civil_of-is : (n : ℕ) → n ≤ 2_932_896 → IsDay n (civil_of n)
unfolding civil_of
civil_of-is zero within = record { year = omega arith; month = (omega arith, omega arith); day = (omega arith, omega arith); number = known_days.0 }
civil_of-is (suc n) within = day_after-is n (civil_of n) (omega arith) (civil_of-is n (omega arith))

-- texts of parts in their places are equal where the parts are
two_digits-injective : (m n : ℕ) → two_digits m ≡ two_digits n → m ≡ n
two_digits-injective m n e =
    let tens : 48 + m / 10 ≡ 48 + n / 10 = cc in
    let ones : 48 + m % 10 ≡ 48 + n % 10 = cc in
    omega arith

pub civil_text-injective : (a b : Civil) → civil_text a ≡ civil_text b → (a.year ≡ b.year) × (a.month ≡ b.month) × (a.day ≡ b.day)
civil_text-injective a b e =
    let y0 : 48 + a.year / 100 / 10 ≡ 48 + b.year / 100 / 10 = cc in
    let y1 : 48 + a.year / 100 % 10 ≡ 48 + b.year / 100 % 10 = cc in
    let y2 : 48 + a.year % 100 / 10 ≡ 48 + b.year % 100 / 10 = cc in
    let y3 : 48 + a.year % 100 % 10 ≡ 48 + b.year % 100 % 10 = cc in
    let m0 : 48 + a.month / 10 ≡ 48 + b.month / 10 = cc in
    let m1 : 48 + a.month % 10 ≡ 48 + b.month % 10 = cc in
    let d0 : 48 + a.day / 10 ≡ 48 + b.day / 10 = cc in
    let d1 : 48 + a.day % 10 ≡ 48 + b.day % 10 = cc in
    (omega arith, omega arith, omega arith)

-- a date of `jiff` with this number has the parts of the day
pub date-civil_of : (d : Date) (n : ℕ) → n ≤ 2_932_896 → epoch_day d ≡ pos n → (d.year ≡ pos (civil_of n).year) × (d.month ≡ (civil_of n).month) × (d.day ≡ (civil_of n).day)
date-civil_of d n within e =
    let c = civil_of-is n within in
    let other : Date = record { year = pos (civil_of n).year; month = (civil_of n).month; day = (civil_of n).day; year_in = (omega (arith, signed_arith, c.year), omega (arith, signed_arith, c.year)); month_in = c.month; day_in = c.day } in
    epoch_day_injective d other (e ∙ sym c.number)

-- so it prints the day's text
pub date_text-day_text : (d : Date) (n : ℕ) → n ≤ 2_932_896 → epoch_day d ≡ pos n → date_text d ≡ day_text n
date_text-day_text d n within e = let p = date-civil_of d n within e in rw (p.0, p.1, p.2) refl

-- a day's parts have four, two and two digits
pub civil_of-written : (n : ℕ) → n ≤ 2_932_896 → IsWritten (civil_of n)
civil_of-written n within =
    let c = civil_of-is n within in
    let short = days_in_month_bounds (pos (civil_of n).year) (civil_of n).month in
    record { year = omega (arith, c.year); month = omega (arith, c.month); day = omega (arith, c.day, short) }

-- parts that are written as a day's are a date of `jiff`
pub written-date : (y m d n : ℕ) → n ≤ 2_932_896 → civil_text (civil y m d) ≡ day_text n → IsDate (pos y) (pos m) (pos d)
written-date y m d n within e =
    let same = civil_text-injective (civil y m d) (civil_of n) e in
    let c = civil_of-is n within in
    rw (same.0, same.1, same.2) ((omega (arith, signed_arith, c.year), omega (arith, signed_arith, c.year)), (omega (arith, signed_arith, c.month), omega (arith, signed_arith, c.month)), (omega (arith, signed_arith, c.day), omega (arith, signed_arith, c.day)))

-- a date that has these parts and a number is that day
pub read-some : (y m d n : ℕ) (found : Date) → IsYmd (pos y) (pos m) (pos d) found → epoch_day found ≡ pos n → (n ≤ 2_932_896) × (day_text n ≡ civil_text (civil y m d))
read-some y m d n found parts e =
    let range = epoch_day_range found in
    let within : n ≤ 2_932_896 = omega (arith, signed_arith, range, e) in
    let same = date-civil_of found n within e in
    let year : y ≡ (civil_of n).year = omega (arith, signed_arith, same.0, parts.0) in
    let month : m ≡ (civil_of n).month = omega (arith, signed_arith, same.1, parts.1) in
    let day : d ≡ (civil_of n).day = omega (arith, signed_arith, same.2, parts.2) in
    (within, rw (year, month, day) refl)

-- and a date whose parts are written as a day's has that day's number
pub written-number : (y m d n : ℕ) (found : Date) → n ≤ 2_932_896 → civil_text (civil y m d) ≡ day_text n → IsYmd (pos y) (pos m) (pos d) found → epoch_day found ≡ pos n
written-number y m d n found within e parts =
    let same = civil_text-injective (civil y m d) (civil_of n) e in
    let c = civil_of-is n within in
    let month : found.month ≡ m = omega (arith, signed_arith, parts.1) in
    let day : found.day ≡ d = omega (arith, signed_arith, parts.2) in
    rw (parts.0, month, day, same.0, same.1, same.2) c.number

-- a signed number that fits is that number
pub fits-number : (z : ℤ) (n : ℕ) → FitsUnsignedBits 32 z → n ≡ unsigned_abs z → z ≡ pos n
fits-number (pos m) n f e = ap pos (sym e)
fits-number (negsuc m) n f e = absurd f

pub fits-pos : (z : ℤ) (n : ℕ) → z ≡ pos n → n ≤ 2_932_896 → FitsUnsignedBits 32 z
fits-pos z n e within = let fits : n < 2 ^ 32 = omega arith in rw e fits

-- no two days have one text
pub day_text-injective : (m n : ℕ) → m ≤ 2_932_896 → n ≤ 2_932_896 → day_text m ≡ day_text n → m ≡ n
day_text-injective m n below_m below_n e =
    let same = civil_text-injective (civil_of m) (civil_of n) e in
    let first = rw (same.0, same.1, same.2) at (civil_of-is m below_m).number in
    omega (arith, signed_arith, first, (civil_of-is n below_n).number)

-- what is read of a day's text is the day
pub read-back : (o : Option ℕ) (bytes : List ℕ) (day : ℕ) → day ≤ 2_932_896 → bytes ≡ day_text day
    → IfNone o ((n : ℕ) → n ≤ 2_932_896 → day_text n ≢ bytes) → IfSome o (λ n. (n ≤ 2_932_896) × (day_text n ≡ bytes)) → o ≡ Some day
read-back None bytes day within e none some = absurd (none day within (sym e))
read-back (Some n) bytes day within e none some = ap (λ k. Some k) (day_text-injective n day some.0 within (some.1 ∙ e))
