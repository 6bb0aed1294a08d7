-- The rows of a wirelist, and the program that they give.
--     rows_of_kind k rows  the rows of one kind, in order
--     program_of rows      what the rows say
use Rattle.std.specs.Prelude.{ℕ, ◌+◌, Bool, ◌||◌, bytes_eq, List, [], ◌++◌, Option, None, Some, length, drop, filter, map, option_map, slice_get}
use Rattle.std.specs.Prelude.{slice_index_or}
use Rattle.partition.specs.Classes.{points_below}
use Rattle.partition.specs.NetFaults.{table_of}
use Rattle.wirelist.specs.declared.program.Program.{Program}
use Rattle.wirelist.specs.declared.program.Insulation as insulation
use Rattle.wirelist.specs.declared.program.Withstand as withstand
use Rattle.wirelist.specs.declared.parts.Resistor as resistor
use Rattle.wirelist.specs.declared.parts.Diode as diode
use Rattle.wirelist_reader.specs.Kinds.{kind_word, number}
use Rattle.wirelist_reader.specs.declared.parts.PartEnds.{PartEnds}
use Rattle.wirelist_reader.specs.declared.kind.Kind.{Kind}
use Rattle.wirelist_reader.specs.declared.kind.Kind.TheVariants.{Part, Points, Net, Ignore, Resistor, Diode, Insulation, Withstand, Attempts}

abbrev pub row_at : List (List (List ℕ)) → ℕ → List (List ℕ)
row_at rows i = slice_index_or rows i []

abbrev pub field_at : List (List ℕ) → ℕ → List ℕ
field_at row i = slice_index_or row i []

-- the row is of this kind
abbrev pub is_kind : Kind → List (List ℕ) → Bool
is_kind kind row = bytes_eq (field_at row 0) (kind_word kind)

abbrev pub is_component : List (List ℕ) → Bool
is_component row = is_kind Resistor row || is_kind Diode row

-- the row gives a name to a net or a component
abbrev pub is_named : List (List ℕ) → Bool
is_named row = is_kind Net row || is_component row

-- the rows of one kind, in order
abbrev pub rows_of_kind : Kind → List (List (List ℕ)) → List (List (List ℕ))
rows_of_kind kind rows = filter (is_kind kind) rows

-- the first row of a kind
abbrev pub first_of : Kind → List (List (List ℕ)) → List (List ℕ)
first_of kind rows = row_at (rows_of_kind kind rows) 0

abbrev pub number_at : List (List ℕ) → ℕ → ℕ
number_at row i = number (field_at row i)

-- the number of points
abbrev pub points_in : List (List (List ℕ)) → ℕ
points_in rows = number_at (first_of Points rows) 1

-- the points of each net, as listed
abbrev pub listed_nets : List (List (List ℕ)) → List (List ℕ)
listed_nets rows = map (λ row. map number (drop 2 row)) (rows_of_kind Net rows)

-- the points that are not judged, as listed
abbrev pub listed_ignored : List (List (List ℕ)) → List ℕ
listed_ignored rows = map number (drop 1 (first_of Ignore rows))

abbrev pub resistor_of : List (List ℕ) → resistor.Resistor
resistor_of row = record { name = field_at row 1; a = number_at row 2; b = number_at row 3; min = number_at row 4; max = number_at row 5 }

abbrev pub diode_of : List (List ℕ) → diode.Diode
diode_of row = record { name = field_at row 1; from = number_at row 2; to = number_at row 3; min = number_at row 4; max = number_at row 5 }

abbrev pub insulation_of : List (List ℕ) → insulation.Insulation
insulation_of row = record { volts = number_at row 1; ticks = number_at row 2; megohms = number_at row 3 }

abbrev pub withstand_of : List (List ℕ) → withstand.Withstand
withstand_of row = record { volts = number_at row 1; ticks = number_at row 2; nanoamps = number_at row 3 }

-- 3 where there is no such row
abbrev pub attempts_of : Option (List (List ℕ)) → ℕ
attempts_of None = 3
attempts_of (Some row) = number_at row 1

-- what the rows say
abbrev pub program_of : List (List (List ℕ)) → Program
program_of rows = record {
  part = field_at (first_of Part rows) 1;
  revision = number_at (first_of Part rows) 2;
  nets = table_of (points_in rows) (listed_nets rows) (listed_ignored rows);
  names = map (λ row. field_at row 1) (rows_of_kind Net rows);
  resistors = map resistor_of (rows_of_kind Resistor rows);
  diodes = map diode_of (rows_of_kind Diode rows);
  insulation = option_map insulation_of (slice_get (rows_of_kind Insulation rows) 0);
  withstand = option_map withstand_of (slice_get (rows_of_kind Withstand rows) 0);
  attempts = attempts_of (slice_get (rows_of_kind Attempts rows) 0);
}

-- the ends of the component of a row, and the number of its record
abbrev pub ends_in : ℕ → List (List ℕ) → PartEnds
ends_in n row = record { record_number = n; a = number_at row 2; b = number_at row 3 }

-- those of the components of one kind, in order
abbrev pub ends_of_kind : Kind → List (List (List ℕ)) → List PartEnds
ends_of_kind kind rows = map (λ i. ends_in (i + 1) (row_at rows i)) (filter (λ i. is_kind kind (row_at rows i)) (points_below (length rows)))

-- those of all components: the resistors in order, then the diodes
abbrev pub ends_of : List (List (List ℕ)) → List PartEnds
ends_of rows = ends_of_kind Resistor rows ++ ends_of_kind Diode rows
