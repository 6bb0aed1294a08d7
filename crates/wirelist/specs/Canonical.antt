-- The one canonical text of a program.
--     row_fields      the fields of each row
--     rows_of p       the rows, in their order
--     canonical p     their text
use Rattle.std.specs.Prelude.{ℕ, List, [], ◌∷◌, ◌++◌, Option, None, Some, map, zip, codes}
use Rattle.std.specs.List.{flat_map, join_with_byte}
use Rattle.std.specs.Fmt.{decimal}
use Rattle.wirelist.specs.declared.program.Program.{Program}
use Rattle.wirelist.specs.declared.program.Insulation.{Insulation}
use Rattle.wirelist.specs.declared.program.Withstand.{Withstand}
use Rattle.wirelist.specs.declared.parts.Resistor.{Resistor}
use Rattle.wirelist.specs.declared.parts.Diode.{Diode}

-- `part,NAME,REVISION`
abbrev pub part_row : List ℕ → ℕ → List (List ℕ)
part_row name revision = codes "part" ∷ name ∷ decimal revision ∷ []

-- `points,N`
abbrev pub points_row : ℕ → List (List ℕ)
points_row points = codes "points" ∷ decimal points ∷ []

-- `net,NAME,P,P`
abbrev pub net_row : List ℕ × List ℕ → List (List ℕ)
net_row net = codes "net" ∷ net.0 ∷ map decimal net.1

-- `ignore,P,P`
abbrev pub ignore_row : List ℕ → List (List ℕ)
ignore_row points = codes "ignore" ∷ map decimal points

-- `resistor,NAME,A,B,MIN,MAX`
abbrev pub resistor_row : Resistor → List (List ℕ)
resistor_row r = codes "resistor" ∷ r.name ∷ decimal r.a ∷ decimal r.b ∷ decimal r.min ∷ decimal r.max ∷ []

-- `diode,NAME,FROM,TO,MIN,MAX`
abbrev pub diode_row : Diode → List (List ℕ)
diode_row d = codes "diode" ∷ d.name ∷ decimal d.from ∷ decimal d.to ∷ decimal d.min ∷ decimal d.max ∷ []

-- `insulation,VOLTS,TICKS,MEGOHMS`
abbrev pub insulation_row : Insulation → List (List ℕ)
insulation_row i = codes "insulation" ∷ decimal i.volts ∷ decimal i.ticks ∷ decimal i.megohms ∷ []

-- `withstand,VOLTS,TICKS,NANOAMPS`
abbrev pub withstand_row : Withstand → List (List ℕ)
withstand_row w = codes "withstand" ∷ decimal w.volts ∷ decimal w.ticks ∷ decimal w.nanoamps ∷ []

-- `attempts,N`
abbrev pub attempts_row : ℕ → List (List ℕ)
attempts_row attempts = codes "attempts" ∷ decimal attempts ∷ []

-- a row where there is something, and none else
abbrev pub ignore_rows : List ℕ → List (List (List ℕ))
ignore_rows [] = []
ignore_rows (p ∷ ps) = ignore_row (p ∷ ps) ∷ []

abbrev pub insulation_rows : Option Insulation → List (List (List ℕ))
insulation_rows None = []
insulation_rows (Some i) = insulation_row i ∷ []

abbrev pub withstand_rows : Option Withstand → List (List (List ℕ))
withstand_rows None = []
withstand_rows (Some w) = withstand_row w ∷ []

-- the rows, in their order
abbrev pub rows_of : Program → List (List (List ℕ))
rows_of p =
    part_row p.part p.revision ∷ points_row p.nets.points
    ∷ (map net_row (zip p.names p.nets.named)
    ++ (ignore_rows p.nets.ignored
    ++ (map resistor_row p.resistors
    ++ (map diode_row p.diodes
    ++ (insulation_rows p.insulation
    ++ (withstand_rows p.withstand
    ++ (attempts_row p.attempts ∷ [])))))))

-- a row's line: its fields with commas between, and an LF
abbrev pub line_of : List (List ℕ) → List ℕ
line_of row = join_with_byte 44 row ++ (10 ∷ [])

-- the text: the lines of the rows
abbrev pub canonical : Program → List ℕ
canonical p = flat_map line_of (rows_of p)
