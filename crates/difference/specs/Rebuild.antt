-- The partition that a difference describes.
use Rattle.std.specs.Prelude.{ℕ, List, ◌++◌, if◌then◌else◌, fold}
use Rattle.partition.specs.Classes.{has, classes_by}
use Rattle.partition.specs.NetTable.{NetTable, judged_points, net_at, head_at}
use Rattle.difference.specs.declared.wiring.Piece.{Piece}
use Rattle.difference.specs.declared.wiring.Short.{Short}
use Rattle.difference.specs.declared.wiring.Difference.{Difference}

-- the class of the last short that names the net, or else l
abbrev pub short_label : List Short → ℕ → ℕ → ℕ
short_label shorts net l = fold (λ found short. if has short.nets net then short.class else found) l shorts

-- the class of the last piece that holds the point, or else l
abbrev pub piece_label : List Piece → ℕ → ℕ → ℕ
piece_label pieces p l = fold (λ found piece. if has piece.points p then piece.class else found) l pieces

-- the label of a point: that of the last open or miswire that holds it, else of the last short that names its net, else its net's head
abbrev pub label_of : NetTable → Difference → ℕ → ℕ
label_of t d p = piece_label (d.opens ++ d.miswires) p (short_label d.shorts (net_at t p) (head_at t p))

-- the points of equal label form a class
abbrev pub rebuilt : NetTable → Difference → List ℕ
rebuilt t d = classes_by (judged_points t) t.points (label_of t d)
