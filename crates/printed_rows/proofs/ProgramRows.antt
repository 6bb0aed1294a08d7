-- The rows of a program are rows of plain fields.
use Rattle.std.proofs.Common.{ℕ, suc, ◌^◌, ◌<◌, ◌≤◌, List, [], ◌∷◌, map, All, get_or, Option, None, Some, IfSome, refl, arith}
use Rattle.std.specs.List.{AllByRecursion, zip}
use Rattle.std.specs.Fmt.{decimal}
use Rattle.partition.specs.Names.{IsName}
use Rattle.partition.specs.NetTable.{NetTable, IsNetTable}
use Rattle.wirelist.specs.Canonical.{rows_of, part_row, points_row, net_row, ignore_rows, resistor_row, diode_row, insulation_rows, withstand_rows, attempts_row}
use Rattle.partition.proofs.tables.NetLaws.{judged-below}
use Rattle.wirelist.specs.Clusters.{IsJudged, ResistorsInside, DiodesInside}
use Rattle.wirelist.specs.Programs.{IsProgram, IsResistor, IsDiode, IsInsulation, IsWithstand}
use Rattle.wirelist.specs.declared.program.Program.{Program}
use Rattle.wirelist.specs.declared.program.Insulation.{Insulation}
use Rattle.wirelist.specs.declared.program.Withstand.{Withstand}
use Rattle.wirelist.specs.declared.parts.Resistor.{Resistor}
use Rattle.wirelist.specs.declared.parts.Diode.{Diode}
use Rattle.printed_rows.proofs.Fields.{IsPlainField, IsPlainRow, all_append, name_field, decimal_field}
use Rattle.printed_rows.proofs.NetSizes.{judged_below}

all_tail : {X : Type 0} (P : X → Type 0) (x : X) (xs : List X) → All P (x ∷ xs) → All P xs
all_tail P x xs h k d l = h (suc k) d (omega arith)

points_fields : (ps : List ℕ) → All (λ q. q < 2 ^ 64) ps → AllByRecursion IsPlainField (map decimal ps)
points_fields [] h = tt
points_fields (q ∷ ps) h = (decimal_field q (h 0 q (omega arith)), points_fields ps (all_tail (λ q. q < 2 ^ 64) q ps h))

nets_plain : (names nets : List (List ℕ)) → All IsName names → All (λ net. All (λ q. q < 2 ^ 64) net) nets
    → AllByRecursion IsPlainRow (map net_row (zip names nets))
nets_plain [] nets n p = tt
nets_plain (name ∷ names) [] n p = tt
nets_plain (name ∷ names) (net ∷ nets) n p = (
  record {
    many = omega arith;
    fields = (
      record { plain = refl; short = omega arith },
      (name_field name (n 0 name (omega arith)), points_fields net (p 0 net (omega arith))),
    );
  },
  nets_plain names nets (all_tail IsName name names n) (all_tail (λ ps. All (λ q. q < 2 ^ 64) ps) net nets p),
)

-- the points of a net are below 2^64, and so are those that are not judged
nets_below : (t : NetTable) → IsNetTable t → t.points ≤ 4096 → All (λ net. All (λ q. q < 2 ^ 64) net) t.named
nets_below t ok few k d h j e l = let below = judged_below t (get_or (get_or t.named k d) j e) (ok.in_range k d h j e l) in omega arith

ignored_below : (t : NetTable) → IsNetTable t → t.points ≤ 4096 → All (λ q. q < 2 ^ 64) t.ignored
ignored_below t ok few k d h = let below = ok.ignored_in_range k d h in omega arith

ignored_plain : (ps : List ℕ) → All (λ q. q < 2 ^ 64) ps → AllByRecursion IsPlainRow (ignore_rows ps)
ignored_plain [] h = tt
ignored_plain (p ∷ ps) h = (record { many = omega arith; fields = (record { plain = refl; short = omega arith }, points_fields (p ∷ ps) h) }, tt)

-- the rows of a program, kind by kind
resistors_plain : (t : NetTable) (rs : List Resistor) → t.points ≤ 4096 → All IsResistor rs → ResistorsInside t rs → AllByRecursion IsPlainRow (map resistor_row rs)
resistors_plain t [] few all inside = tt
resistors_plain t (r ∷ rs) few all inside =
    let ends = inside 0 r (omega arith) in
    let own = all 0 r (omega arith) in
    let window = own.window in
    let high = own.high in
    let a = judged-below t r.a ends.0 in
    let b = judged-below t r.b ends.1 in (
      record {
        many = omega arith;
        fields = (
          record { plain = refl; short = omega arith },
          (
            name_field r.name own.name,
            (decimal_field r.a (omega arith), (decimal_field r.b (omega arith), (decimal_field r.min (omega arith), (decimal_field r.max (omega arith), tt)))),
          ),
        );
      },
      resistors_plain t rs few (all_tail IsResistor r rs all) (all_tail (λ (x : Resistor). IsJudged t x.a × IsJudged t x.b) r rs inside),
    )

diodes_plain : (t : NetTable) (ds : List Diode) → t.points ≤ 4096 → All IsDiode ds → DiodesInside t ds → AllByRecursion IsPlainRow (map diode_row ds)
diodes_plain t [] few all inside = tt
diodes_plain t (x ∷ xs) few all inside =
    let ends = inside 0 x (omega arith) in
    let own = all 0 x (omega arith) in
    let window = own.window in
    let high = own.high in
    let a = judged-below t x.from ends.0 in
    let b = judged-below t x.to ends.1 in (
      record {
        many = omega arith;
        fields = (
          record { plain = refl; short = omega arith },
          (
            name_field x.name own.name,
            (decimal_field x.from (omega arith), (decimal_field x.to (omega arith), (decimal_field x.min (omega arith), (decimal_field x.max (omega arith), tt)))),
          ),
        );
      },
      diodes_plain t xs few (all_tail IsDiode x xs all) (all_tail (λ (y : Diode). IsJudged t y.from × IsJudged t y.to) x xs inside),
    )

insulation_plain : (o : Option Insulation) → IfSome o IsInsulation → AllByRecursion IsPlainRow (insulation_rows o)
insulation_plain None h = tt
insulation_plain (Some i) h =
    let volts = h.volts in
    let ticks = h.ticks in
    let megohms = h.megohms in (
      record {
        many = omega arith;
        fields = (
          record { plain = refl; short = omega arith },
          (decimal_field i.volts (omega arith), (decimal_field i.ticks (omega arith), (decimal_field i.megohms (omega arith), tt))),
        );
      },
      tt,
    )

withstand_plain : (o : Option Withstand) → IfSome o IsWithstand → AllByRecursion IsPlainRow (withstand_rows o)
withstand_plain None h = tt
withstand_plain (Some w) h =
    let volts = h.volts in
    let ticks = h.ticks in
    let nanoamps = h.nanoamps in (
      record {
        many = omega arith;
        fields = (
          record { plain = refl; short = omega arith },
          (decimal_field w.volts (omega arith), (decimal_field w.ticks (omega arith), (decimal_field w.nanoamps (omega arith), tt))),
        );
      },
      tt,
    )

head_plain : (part : List ℕ) (revision : ℕ) → IsName part → revision ≤ 999999 → IsPlainRow (part_row part revision)
head_plain part revision name few = record {
  many = omega arith;
  fields = (record { plain = refl; short = omega arith }, (name_field part name, (decimal_field revision (omega arith), tt)));
}

points_plain : (points : ℕ) → points ≤ 4096 → IsPlainRow (points_row points)
points_plain points few = record {
  many = omega arith;
  fields = (record { plain = refl; short = omega arith }, (decimal_field points (omega arith), tt));
}

attempts_plain : (attempts : ℕ) → attempts ≤ 9 → IsPlainRow (attempts_row attempts)
attempts_plain attempts few = record {
  many = omega arith;
  fields = (record { plain = refl; short = omega arith }, (decimal_field attempts (omega arith), tt));
}

-- all rows of a program
pub rows_plain : (p : Program) → IsProgram p → AllByRecursion IsPlainRow (rows_of p)
rows_plain p ok =
    let few = ok.points in
    let parts = ok.components in (
      head_plain p.part p.revision ok.part ok.revision.1,
      (
        points_plain p.nets.points few,
        all_append IsPlainRow _ _ (nets_plain p.names p.nets.named ok.names (nets_below p.nets ok.nets few))
            (all_append IsPlainRow _ _ (ignored_plain p.nets.ignored (ignored_below p.nets ok.nets few))
            (all_append IsPlainRow _ _ (resistors_plain p.nets p.resistors few parts.resistors parts.inside.resistors_in)
            (all_append IsPlainRow _ _ (diodes_plain p.nets p.diodes few parts.diodes parts.inside.diodes_in)
            (all_append IsPlainRow _ _ (insulation_plain p.insulation ok.insulation)
            (all_append IsPlainRow _ _ (withstand_plain p.withstand ok.withstand) (attempts_plain p.attempts ok.attempts.1, tt)))))),
      ),
    )
