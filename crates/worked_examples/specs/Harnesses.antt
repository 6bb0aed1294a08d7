-- The small harnesses of the examples.
use Rattle.std.specs.Prelude.{ℕ, List, [], ◌∷◌}
use Rattle.partition.specs.Classes.{classes_by, class_at, joined_by}
use Rattle.partition.specs.NetTable.{NetTable, judged_points}
use Rattle.difference.specs.declared.wiring.Piece.{Piece}
use Rattle.difference.specs.declared.wiring.Short.{Short}
use Rattle.difference.specs.declared.wiring.Difference.{Difference}

-- nets over so many points
abbrev pub harness : ℕ → List (List ℕ) → List ℕ → NetTable
harness points named ignored = record { points = points; named = named; ignored = ignored }

-- the nets {0, 1} and {2, 3} of five points, of which point 4 is in none
abbrev pub two_pairs : NetTable
two_pairs = harness 5 ((0 ∷ 1 ∷ []) ∷ (2 ∷ 3 ∷ []) ∷ []) []

-- the same nets, point 4 being ignored
abbrev pub two_pairs_alone : NetTable
two_pairs_alone = harness 5 ((0 ∷ 1 ∷ []) ∷ (2 ∷ 3 ∷ []) ∷ []) (4 ∷ [])

-- the net {0, 1, 2} of six points
abbrev pub one_net : NetTable
one_net = harness 6 ((0 ∷ 1 ∷ 2 ∷ []) ∷ []) []

-- four points without a net
abbrev pub four_points : NetTable
four_points = harness 4 [] []

-- the classes of a unit's wires, cut down to the points that the table judges; walks may pass through any point
abbrev pub measured_under : NetTable → List (ℕ × ℕ) → List ℕ
measured_under t wires = classes_by (judged_points t) t.points (class_at (joined_by wires t.points))

-- a difference of opens, of shorts or of miswires alone
abbrev pub opens_alone : List Piece → Difference
opens_alone pieces = record { opens = pieces; shorts = []; miswires = [] }

abbrev pub shorts_alone : List Short → Difference
shorts_alone shorts = record { opens = []; shorts = shorts; miswires = [] }

abbrev pub miswires_alone : List Piece → Difference
miswires_alone pieces = record { opens = []; shorts = []; miswires = pieces }
