-- The pair of units that a soak runs over n points, and what is known after it.
--     soak_program n        the program that both are tested against
--     good_rows, bad_rows   what lies between the points of the units GOOD 1 and BAD 1
--     soak_units n          the two units
--     soak_rows n           the rows of their harness file
--     soak_line n           the line of their verdicts
use Rattle.std.specs.Prelude.{ℕ, ◌+◌, ◌*◌, ◌/◌, ◌%◌, ◌==◌, nat_le, List, [], ◌∷◌, ◌++◌, map, codes, decimal, None, Some, if◌then◌else◌}
use Rattle.std.specs.List.{flat_map, range_with_len}
use Rattle.rig.specs.declared.unit.Row.{Row}
use Rattle.rig.specs.declared.unit.Unit.{Unit as HarnessUnit}
use Rattle.rig.specs.declared.unit.Row.TheVariants.{Wire}
use Rattle.harness.specs.declared.row.HarnessRow.{HarnessRow}
use Rattle.harness.specs.declared.row.HarnessRow.TheVariants.{Points, NewUnit, Element, End}
use Rattle.wirelist.specs.Outcomes.{verdict_of}
use Rattle.wirelist.specs.declared.outcome.Outcome.{Outcome}
use Rattle.wirelist.specs.declared.outcome.Verdict.{Verdict}
use Rattle.wirelist.specs.declared.program.Program.{Program}
use Rattle.unit_outcome.specs.Defined.{outcome_of}
use Rattle.outcome_lines.specs.VerdictText.{verdict_text}

-- ---- the program

-- the points 2i and 2i+1
abbrev pub soak_net : ℕ → List ℕ
soak_net i = (2 * i) ∷ (2 * i + 1) ∷ []

-- for each i with 2i+1 below n
abbrev pub soak_nets : ℕ → List (List ℕ)
soak_nets n = map soak_net (range_with_len 0 (n / 2))

abbrev pub soak_name : ℕ → List ℕ
soak_name i = codes "N" ++ decimal i

-- withstand at 500 volts for 2 ticks with 1,000 nanoamps, and nothing else
abbrev pub soak_program : ℕ → Program
soak_program n = record {
  part = codes "SOAK";
  revision = 1;
  nets = record { points = n; named = soak_nets n; ignored = [] };
  names = map soak_name (range_with_len 0 (n / 2));
  resistors = [];
  diodes = [];
  insulation = None;
  withstand = Some (record { volts = 500; ticks = 2; nanoamps = 1000 });
  attempts = 3;
}

-- ---- the units

-- a wire for a net
abbrev pub net_wire : ℕ → Row
net_wire i = Wire (2 * i) (2 * i + 1)

abbrev pub good_rows : ℕ → List Row
good_rows n = map net_wire (range_with_len 0 (n / 2))

-- the wires of the four points from 4q on, changed where q mod 8 is 2, 5 or 6: an open, a swap, a short
abbrev pub bad_four : ℕ → List Row
bad_four q =
    if q % 8 == 2 then Wire (4 * q) (4 * q + 1) ∷ []
    else (if q % 8 == 5 then Wire (4 * q) (4 * q + 3) ∷ Wire (4 * q + 1) (4 * q + 2) ∷ []
    else (if q % 8 == 6 then Wire (4 * q) (4 * q + 1) ∷ Wire (4 * q + 2) (4 * q + 3) ∷ Wire (4 * q) (4 * q + 2) ∷ []
    else Wire (4 * q) (4 * q + 1) ∷ Wire (4 * q + 2) (4 * q + 3) ∷ []))

-- the wire of a net behind the last four
abbrev pub bad_rest : ℕ → List Row
bad_rest n = if nat_le 2 (n % 4) then Wire (4 * (n / 4)) (4 * (n / 4) + 1) ∷ [] else []

-- for each q with 4q+3 below n
abbrev pub bad_rows : ℕ → List Row
bad_rows n = flat_map bad_four (range_with_len 0 (n / 4)) ++ bad_rest n

abbrev pub soak_units : ℕ → List HarnessUnit
soak_units n =
    record { serial = codes "GOOD"; attempt = 1; rows = good_rows n } ∷ record { serial = codes "BAD"; attempt = 1; rows = bad_rows n } ∷ []

-- the file has no `fault` row and no `door` row
abbrev pub soak_rows : ℕ → List HarnessRow
soak_rows n =
    Points n ∷ NewUnit (codes "GOOD") 1 ∷ (map Element (good_rows n) ++ NewUnit (codes "BAD") 1 ∷ (map Element (bad_rows n) ++ End ∷ []))

-- ---- what a soak writes

abbrev pub good_outcome : ℕ → Outcome
good_outcome n = outcome_of (soak_program n) (good_rows n)

abbrev pub bad_outcome : ℕ → Outcome
bad_outcome n = outcome_of (soak_program n) (bad_rows n)

-- `soak N good VERDICT bad VERDICT`
abbrev pub verdicts_line : ℕ → Verdict → Verdict → List ℕ
verdicts_line n good bad = codes "soak " ++ decimal n ++ codes " good " ++ verdict_text good ++ codes " bad " ++ verdict_text bad ++ codes "\n"

-- the same with the verdicts of the defined outcomes
unfoldable pub soak_line : ℕ → List ℕ
soak_line n = verdicts_line n (verdict_of (good_outcome n)) (verdict_of (bad_outcome n))
