-- The ranges of a wirelist's numbers, each in one place.
--     IsWithin low most n     the number lies between the two
--     IsIn range n            the number lies in the range
use Rattle.std.specs.Prelude.{ℕ, ◌≤◌}
use Rattle.wirelist.specs.declared.ranges.NumberRange.{NumberRange}

abbrev pub IsWithin : ℕ → ℕ → ℕ → Type 0
IsWithin low most n = (low ≤ n) × (n ≤ most)

abbrev pub IsIn : NumberRange → ℕ → Type 0
IsIn range n = IsWithin range.low range.most n

abbrev pub range_of : ℕ → ℕ → NumberRange
range_of low most = record { low = low; most = most }

-- how many points a harness has
abbrev pub points : NumberRange
points = range_of 1 4096

-- a point as a word; whether the harness has it is asked later
abbrev pub point_words : NumberRange
point_words = range_of 0 65535

abbrev pub revisions : NumberRange
revisions = range_of 1 999999

-- the window of a resistor, in milliohms: above what a joined pair reads
abbrev pub milliohms : NumberRange
milliohms = range_of 10001 1000000000000

-- the window of a diode, in millivolts
abbrev pub millivolts : NumberRange
millivolts = range_of 1 5000

abbrev pub insulation_volts : NumberRange
insulation_volts = range_of 50 1000

abbrev pub insulation_ticks : NumberRange
insulation_ticks = range_of 1 1200

abbrev pub megohms : NumberRange
megohms = range_of 1 100000

abbrev pub withstand_volts : NumberRange
withstand_volts = range_of 50 2000

abbrev pub withstand_ticks : NumberRange
withstand_ticks = range_of 1 600

abbrev pub nanoamps : NumberRange
nanoamps = range_of 1 10000000

abbrev pub attempts : NumberRange
attempts = range_of 1 9
