-- The kinds of rows, and the fields of each: the table of the format.
--     kind_word kind        the first field of a row
--     shapes_of kind        what its further fields are
--     kind_of word          the kind that the word names
--     number field          the number that a field is
--     fits shape field      whether a field is what it may be
--     bad_fields kind row   the numbers of the fields that are missing, surplus, or not what they may be
use Rattle.std.specs.Prelude.{ℕ, ◌-◌, ◌%◌, Bool, true, false, ◌&&◌, ◌==◌, not, nat_le, bytes_eq, List, [], ◌∷◌, Option, None, Some, length, filter}
use Rattle.std.specs.Prelude.{find, codes, slice_get, slice_index_or}
use Rattle.std.specs.List.{range_with_len}
use Rattle.std.specs.Fmt.{decimal}
use Rattle.std.specs.Str.Parse.{digits_value}
use Rattle.partition.specs.Names.{is_name}
use Rattle.wirelist.specs.Numbers.{points, point_words, revisions, milliohms, millivolts, insulation_volts, insulation_ticks, megohms}
use Rattle.wirelist.specs.Numbers.{withstand_volts, withstand_ticks, nanoamps, attempts}
use Rattle.wirelist_reader.specs.declared.kind.Kind.{Kind}
use Rattle.wirelist_reader.specs.declared.kind.Kind.TheVariants.{Part, Points, Net, Ignore, Resistor, Diode, Insulation, Withstand, Attempts}
use Rattle.wirelist_reader.specs.declared.kind.Shape.{Shape}
use Rattle.wirelist_reader.specs.declared.kind.Shape.TheVariants.{Name, Number, Volts, MorePoints, End}

-- the first field of a row
abbrev pub kind_word : Kind → List ℕ
kind_word Part = codes "part"
kind_word Points = codes "points"
kind_word Net = codes "net"
kind_word Ignore = codes "ignore"
kind_word Resistor = codes "resistor"
kind_word Diode = codes "diode"
kind_word Insulation = codes "insulation"
kind_word Withstand = codes "withstand"
kind_word Attempts = codes "attempts"

abbrev pub all_kinds : List Kind
all_kinds = Part ∷ Points ∷ Net ∷ Ignore ∷ Resistor ∷ Diode ∷ Insulation ∷ Withstand ∷ Attempts ∷ []

-- the kind that the word names
abbrev pub kind_of : List ℕ → Option Kind
kind_of word = find (λ kind. bytes_eq word (kind_word kind)) all_kinds

-- a point, as a word; whether the matrix has it is asked later
abbrev pub point : Shape
point = Number point_words

-- the fields after the first
abbrev pub shapes_of : Kind → List Shape
shapes_of Part = Name ∷ Number revisions ∷ []
shapes_of Points = Number points ∷ []
shapes_of Net = Name ∷ []
shapes_of Ignore = point ∷ []
shapes_of Resistor = Name ∷ point ∷ point ∷ Number milliohms ∷ Number milliohms ∷ []
shapes_of Diode = Name ∷ point ∷ point ∷ Number millivolts ∷ Number millivolts ∷ []
shapes_of Insulation = Volts insulation_volts ∷ Number insulation_ticks ∷ Number megohms ∷ []
shapes_of Withstand = Volts withstand_volts ∷ Number withstand_ticks ∷ Number nanoamps ∷ []
shapes_of Attempts = Number attempts ∷ []

-- what may follow these
abbrev pub shape_after : Kind → Shape
shape_after Part = End
shape_after Points = End
shape_after Net = MorePoints
shape_after Ignore = MorePoints
shape_after Resistor = End
shape_after Diode = End
shape_after Insulation = End
shape_after Withstand = End
shape_after Attempts = End

-- the shape of the field with this place, the first field having place 0
abbrev pub shape_at : Kind → ℕ → Shape
shape_at kind place = slice_index_or (shapes_of kind) (place - 1) (shape_after kind)

-- the number that a field is
abbrev pub number : List ℕ → ℕ
number field = digits_value 10 field

-- the field is a number's decimal text, and the number lies in the range
abbrev pub is_number : ℕ → ℕ → List ℕ → Bool
is_number low most field = bytes_eq field (decimal (number field)) && (nat_le low (number field) && nat_le (number field) most)

-- whether a field, or the row's end, is what may stand there
abbrev pub fits : Shape → Option (List ℕ) → Bool
fits Name None = false
fits Name (Some field) = is_name field
fits (Number range) None = false
fits (Number range) (Some field) = is_number range.low range.most field
fits (Volts range) None = false
fits (Volts range) (Some field) = is_number range.low range.most field && (number field % 50 == 0)
fits MorePoints None = true
fits MorePoints (Some field) = is_number point_words.low point_words.most field
fits End None = true
fits End (Some field) = false

-- The places of the fields that are missing, surplus, or not what they may be. A row that ends too early misses the field behind its last.
abbrev pub bad_fields : Kind → List (List ℕ) → List ℕ
bad_fields kind row = filter (λ place. not (fits (shape_at kind place) (slice_get row place))) (range_with_len 1 (length row))
