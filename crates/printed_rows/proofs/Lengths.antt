-- The length of a printed program, row by row.
use Rattle.std.proofs.Common.{◌≡◌, ℕ, ◌+◌, ◌*◌, ◌<◌, ◌≤◌, List, [], ◌∷◌, ◌++◌, length, get_or, map, All, IfSome, Option, None, Some, codes, ◌∙◌, ap, arith, length-append}
use Rattle.std.specs.List.{flat_map, join_with_byte, zip}
use Rattle.std.specs.Fmt.{decimal}
use Rattle.std.proofs.lemmas.Fmt.{length-decimal-le}
use Rattle.std.proofs.lemmas.Grind.{flat_map-append}
use Rattle.std.proofs.lemmas.List.Elements.{All-tail}
use Rattle.partition.specs.Names.{IsName}
use Rattle.partition.specs.NetTable.{NetTable}
use Rattle.partition.proofs.tables.NetLaws.{judged-below}
use Rattle.wirelist.specs.Canonical.{canonical, line_of, part_row, points_row, net_row, ignore_row, ignore_rows, resistor_row, diode_row, insulation_row, insulation_rows, withstand_row, withstand_rows, attempts_row}
use Rattle.wirelist.specs.Clusters.{IsJudged, ResistorsInside, DiodesInside}
use Rattle.wirelist.specs.Programs.{IsProgram, IsResistor, IsDiode, IsInsulation, IsWithstand}
use Rattle.wirelist.specs.Ranges.{most_points, text_limit}
use Rattle.wirelist.specs.declared.program.Program.{Program}
use Rattle.wirelist.specs.declared.program.Insulation.{Insulation}
use Rattle.wirelist.specs.declared.program.Withstand.{Withstand}
use Rattle.wirelist.specs.declared.parts.Resistor.{Resistor}
use Rattle.wirelist.specs.declared.parts.Diode.{Diode}
use Rattle.printed_rows.proofs.Fields.{name_field}
use Rattle.printed_rows.proofs.NetSizes.{all_points, points_few, nets_few, judged_below}

-- ---- fields

-- the fields of a row, with the comma or the LF after each
abbrev row_size : List (List ℕ) → ℕ
row_size [] = 0
row_size (field ∷ fields) = length field + 1 + row_size fields

join_size : (x : List ℕ) (xs : List (List ℕ)) → length (join_with_byte 44 (x ∷ xs)) + 1 ≡ row_size (x ∷ xs)
join_size x [] = omega arith
join_size x (y ∷ ys) = omega (arith, length-append x (44 ∷ join_with_byte 44 (y ∷ ys)), join_size y ys)

line_size : (x : List ℕ) (xs : List (List ℕ)) → length (line_of (x ∷ xs)) ≡ row_size (x ∷ xs)
line_size x xs = omega (arith, length-append (join_with_byte 44 (x ∷ xs)) (10 ∷ []), join_size x xs)

name_size : (name : List ℕ) → IsName name → length name ≤ 24
name_size name h = (name_field name h).short

-- a point has four digits at most
point_size : (p : ℕ) → p < most_points → length (decimal p) ≤ 4
point_size p h = length-decimal-le 4 p (omega arith) (omega arith) (omega arith)

points_size : (ps : List ℕ) → All (λ p. p < most_points) ps → row_size (map decimal ps) ≤ 5 * length ps
points_size [] h = omega arith
points_size (p ∷ ps) h =
    let first = point_size p (h 0 p (omega arith)) in
    let rest = points_size ps (All-tail (λ q. q < most_points) p ps h) in
    omega arith

-- ---- rows

-- one more line
lines_size : (row : List (List ℕ)) (rows : List (List (List ℕ))) → length (flat_map line_of (row ∷ rows)) ≡ length (line_of row) + length (flat_map line_of rows)
lines_size row rows = length-append (line_of row) (flat_map line_of rows)

net_size : (name ps : List ℕ) → IsName name → All (λ p. p < most_points) ps → length (line_of (net_row (name, ps))) ≤ 30 + 5 * length ps
net_size name ps named below =
    let own = name_size name named in
    let points = points_size ps below in
    omega (arith, line_size (codes "net") (name ∷ map decimal ps))

nets_size : (names nets : List (List ℕ)) → All IsName names → All (λ net. All (λ p. p < most_points) net) nets
    → length (flat_map line_of (map net_row (zip names nets))) ≤ 30 * length nets + 5 * length (all_points nets)
nets_size [] nets named below = omega arith
nets_size (name ∷ names) [] named below = omega arith
nets_size (name ∷ names) (net ∷ nets) named below =
    let first = net_size name net (named 0 name (omega arith)) (below 0 net (omega arith)) in
    let rest = nets_size names nets (All-tail IsName name names named) (All-tail (λ ps. All (λ p. p < most_points) ps) net nets below) in
    omega (arith, lines_size (net_row (name, net)) (map net_row (zip names nets)), length-append net (all_points nets))

-- the row of the ignored points, if there is one
ignored_size : (ps : List ℕ) → All (λ p. p < most_points) ps → length (flat_map line_of (ignore_rows ps)) ≤ 7 + 5 * length ps
ignored_size [] below = omega arith
ignored_size (p ∷ ps) below =
    let points = points_size (p ∷ ps) below in
    omega (arith, line_size (codes "ignore") (map decimal (p ∷ ps)), lines_size (ignore_row (p ∷ ps)) [])

-- a component's row has 72 bytes at most
resistor_size : (t : NetTable) (r : Resistor) → t.points ≤ most_points → IsResistor r → IsJudged t r.a × IsJudged t r.b → length (line_of (resistor_row r)) ≤ 72
resistor_size t r few own ends =
    let window = own.window in
    let high = own.high in
    let a = judged-below t r.a ends.0 in
    let b = judged-below t r.b ends.1 in
    let name = name_size r.name own.name in
    let from = point_size r.a (omega arith) in
    let to = point_size r.b (omega arith) in
    let min = length-decimal-le 13 r.min (omega arith) (omega arith) (omega arith) in
    let max = length-decimal-le 13 r.max (omega arith) (omega arith) (omega arith) in
    omega (arith, line_size (codes "resistor") (r.name ∷ decimal r.a ∷ decimal r.b ∷ decimal r.min ∷ decimal r.max ∷ []))

diode_size : (t : NetTable) (d : Diode) → t.points ≤ most_points → IsDiode d → IsJudged t d.from × IsJudged t d.to → length (line_of (diode_row d)) ≤ 72
diode_size t d few own ends =
    let window = own.window in
    let high = own.high in
    let a = judged-below t d.from ends.0 in
    let b = judged-below t d.to ends.1 in
    let name = name_size d.name own.name in
    let from = point_size d.from (omega arith) in
    let to = point_size d.to (omega arith) in
    let min = length-decimal-le 4 d.min (omega arith) (omega arith) (omega arith) in
    let max = length-decimal-le 4 d.max (omega arith) (omega arith) (omega arith) in
    omega (arith, line_size (codes "diode") (d.name ∷ decimal d.from ∷ decimal d.to ∷ decimal d.min ∷ decimal d.max ∷ []))

module _ (t : NetTable) (few : t.points ≤ most_points) where
  resistors_size : (rs : List Resistor) → All IsResistor rs → ResistorsInside t rs → length (flat_map line_of (map resistor_row rs)) ≤ 72 * length rs
  resistors_size [] own inside = omega arith
  resistors_size (r ∷ rs) own inside =
      let first = resistor_size t r few (own 0 r (omega arith)) (inside 0 r (omega arith)) in
      let rest = resistors_size rs (All-tail IsResistor r rs own) (All-tail (λ (x : Resistor). IsJudged t x.a × IsJudged t x.b) r rs inside) in
      omega (arith, lines_size (resistor_row r) (map resistor_row rs))

  diodes_size : (ds : List Diode) → All IsDiode ds → DiodesInside t ds → length (flat_map line_of (map diode_row ds)) ≤ 72 * length ds
  diodes_size [] own inside = omega arith
  diodes_size (d ∷ ds) own inside =
      let first = diode_size t d few (own 0 d (omega arith)) (inside 0 d (omega arith)) in
      let rest = diodes_size ds (All-tail IsDiode d ds own) (All-tail (λ (x : Diode). IsJudged t x.from × IsJudged t x.to) d ds inside) in
      omega (arith, lines_size (diode_row d) (map diode_row ds))

insulation_size : (o : Option Insulation) → IfSome o IsInsulation → length (flat_map line_of (insulation_rows o)) ≤ 28
insulation_size None h = omega arith
insulation_size (Some i) h =
    let volts_most = h.volts.1 in
    let ticks_most = h.ticks.1 in
    let megohms_most = h.megohms.1 in
    let volts = length-decimal-le 4 i.volts (omega arith) (omega arith) (omega arith) in
    let ticks = length-decimal-le 4 i.ticks (omega arith) (omega arith) (omega arith) in
    let megohms = length-decimal-le 6 i.megohms (omega arith) (omega arith) (omega arith) in
    omega (arith, line_size (codes "insulation") (decimal i.volts ∷ decimal i.ticks ∷ decimal i.megohms ∷ []), lines_size (insulation_row i) [])

withstand_size : (o : Option Withstand) → IfSome o IsWithstand → length (flat_map line_of (withstand_rows o)) ≤ 28
withstand_size None h = omega arith
withstand_size (Some w) h =
    let volts_most = h.volts.1 in
    let ticks_most = h.ticks.1 in
    let nanoamps_most = h.nanoamps.1 in
    let volts = length-decimal-le 4 w.volts (omega arith) (omega arith) (omega arith) in
    let ticks = length-decimal-le 3 w.ticks (omega arith) (omega arith) (omega arith) in
    let nanoamps = length-decimal-le 8 w.nanoamps (omega arith) (omega arith) (omega arith) in
    omega (arith, line_size (codes "withstand") (decimal w.volts ∷ decimal w.ticks ∷ decimal w.nanoamps ∷ []), lines_size (withstand_row w) [])

part_size : (name : List ℕ) (revision : ℕ) → IsName name → revision ≤ 999999 → length (line_of (part_row name revision)) ≤ 37
part_size name revision named most =
    let own = name_size name named in
    let number = length-decimal-le 6 revision (omega arith) (omega arith) (omega arith) in
    omega (arith, line_size (codes "part") (name ∷ decimal revision ∷ []))

number_size : (points : ℕ) → points ≤ most_points → length (line_of (points_row points)) ≤ 12
number_size points few =
    let number = length-decimal-le 4 points (omega arith) (omega arith) (omega arith) in omega (arith, line_size (codes "points") (decimal points ∷ []))

attempts_size : (attempts : ℕ) → attempts ≤ 9 → length (line_of (attempts_row attempts)) ≤ 11
attempts_size attempts few =
    let number = length-decimal-le 1 attempts (omega arith) (omega arith) (omega arith) in omega (arith, line_size (codes "attempts") (decimal attempts ∷ []))

-- ---- all rows

in_order_size : (first second last : List (List ℕ)) (a b c d e f : List (List (List ℕ)))
    → length (flat_map line_of (first ∷ second ∷ (a ++ (b ++ (c ++ (d ++ (e ++ (f ++ (last ∷ [])))))))))
    ≡ length (line_of first) + (length (line_of second) + (length (flat_map line_of a) + (length (flat_map line_of b) + (length (flat_map line_of c)
    + (length (flat_map line_of d) + (length (flat_map line_of e) + (length (flat_map line_of f) + length (line_of last))))))))
in_order_size first second last a b c d e f =
    let joined : (xs ys : List (List (List ℕ))) → length (flat_map line_of (xs ++ ys)) ≡ length (flat_map line_of xs) + length (flat_map line_of ys) =
    λ xs ys. ap length (flat_map-append line_of xs ys) ∙ length-append (flat_map line_of xs) (flat_map line_of ys) in
    omega (
      arith,
      lines_size first (second ∷ (a ++ (b ++ (c ++ (d ++ (e ++ (f ++ (last ∷ [])))))))),
      lines_size second (a ++ (b ++ (c ++ (d ++ (e ++ (f ++ (last ∷ []))))))),
      joined a (b ++ (c ++ (d ++ (e ++ (f ++ (last ∷ [])))))),
      joined b (c ++ (d ++ (e ++ (f ++ (last ∷ []))))),
      joined c (d ++ (e ++ (f ++ (last ∷ [])))),
      joined d (e ++ (f ++ (last ∷ []))),
      joined e (f ++ (last ∷ [])),
      joined f (last ∷ []),
      lines_size last [],
    )

pub canonical_short : (p : Program) → IsProgram p → length (canonical p) < text_limit
canonical_short p ok =
    let points = ok.points in
    let parts = ok.components in
    let few = parts.few in
    let listed = points_few p.nets ok.nets in
    let counted = nets_few p.nets ok.nets in
    let part = part_size p.part p.revision ok.part ok.revision.1 in
    let number = number_size p.nets.points points in
    let net = nets_size p.names p.nets.named ok.names (λ k d h j e l. let below = judged_below p.nets (get_or (get_or p.nets.named k d) j e) (ok.nets.in_range k d h j e l) in omega arith) in
    let ignored = ignored_size p.nets.ignored (λ k d h. let below = ok.nets.ignored_in_range k d h in omega arith) in
    let resistor = resistors_size p.nets points p.resistors parts.resistors parts.inside.resistors_in in
    let diode = diodes_size p.nets points p.diodes parts.diodes parts.inside.diodes_in in
    let insulation = insulation_size p.insulation ok.insulation in
    let withstand = withstand_size p.withstand ok.withstand in
    let attempts = attempts_size p.attempts ok.attempts.1 in
    let all = in_order_size (part_row p.part p.revision) (points_row p.nets.points) (attempts_row p.attempts)
    (map net_row (zip p.names p.nets.named)) (ignore_rows p.nets.ignored) (map resistor_row p.resistors) (map diode_row p.diodes) (insulation_rows p.insulation) (withstand_rows p.withstand) in
    omega arith
