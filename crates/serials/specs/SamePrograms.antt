-- Whether two programs are equal in all parts, as a test.
use Rattle.std.specs.Prelude.{ℕ, Bool, true, false, ◌==◌, ◌&&◌, List, Option, Some, None, bytes_eq}
use Rattle.std.specs.Cmp.Lexicographic.{pointwise}
use Rattle.partition.specs.NetTable.{NetTable}
use Rattle.wirelist.specs.declared.program.Program.{Program}
use Rattle.wirelist.specs.declared.program.Insulation.{Insulation}
use Rattle.wirelist.specs.declared.program.Withstand.{Withstand}
use Rattle.wirelist.specs.declared.parts.Resistor.{Resistor}
use Rattle.wirelist.specs.declared.parts.Diode.{Diode}

-- two lists of names, or of the points of nets
abbrev pub same_lists : List (List ℕ) → List (List ℕ) → Bool
same_lists = pointwise bytes_eq

abbrev pub same_nets : NetTable → NetTable → Bool
same_nets s t = s.points == t.points && (same_lists s.named t.named && bytes_eq s.ignored t.ignored)

abbrev pub same_resistor : Resistor → Resistor → Bool
same_resistor r s = bytes_eq r.name s.name && (r.a == s.a && (r.b == s.b && (r.min == s.min && r.max == s.max)))

abbrev pub same_diode : Diode → Diode → Bool
same_diode d e = bytes_eq d.name e.name && (d.from == e.from && (d.to == e.to && (d.min == e.min && d.max == e.max)))

abbrev pub same_insulation : Option Insulation → Option Insulation → Bool
same_insulation None None = true
same_insulation (Some i) (Some j) = i.volts == j.volts && (i.ticks == j.ticks && i.megohms == j.megohms)
same_insulation i j = false

abbrev pub same_withstand : Option Withstand → Option Withstand → Bool
same_withstand None None = true
same_withstand (Some w) (Some v) = w.volts == v.volts && (w.ticks == v.ticks && w.nanoamps == v.nanoamps)
same_withstand w v = false

-- the two programs are equal in all parts
unfoldable pub same_program : Program → Program → Bool
same_program p q =
    bytes_eq p.part q.part
    && (p.revision == q.revision
    && (same_nets p.nets q.nets
    && (same_lists p.names q.names
    && (pointwise same_resistor p.resistors q.resistors
    && (pointwise same_diode p.diodes q.diodes
    && (same_insulation p.insulation q.insulation && (same_withstand p.withstand q.withstand && p.attempts == q.attempts)))))))
