-- What is worked out of a measured partition on the way to its difference from the nets.
--     IsMeasured t m             a partition of the points that count
--     AreAnchors t m anchors     the anchor of each class, at the class's number
--     AreHomes t m i homes       the first i nets, at the numbers of their homes
--     is_stray t m p             whether a point counts and is not in its net's home
--     by_anchor t m              the strays in order of anchor, then of point
--     by_net t m                 the strays in order of net, then of anchor, then of point
--     pieces_along t m ps        the pieces that points make as they stand
--     is_mixed t m n c           whether points of several nets, below n, are in a class
--     AreMixed t m n marks       which classes are so, at the class's number
use Rattle.std.specs.Prelude.{◌≡◌, ℕ, ◌-◌, ◌<◌, ◌==◌, ◌&&◌, Bool, false, not, nat_lt, List, [], ◌∷◌, ◌++◌, length, filter, fold, All, if◌then◌else◌}
use Rattle.std.specs.Prelude.{slice_index_or, slice_set}
use Rattle.std.specs.List.{list_any, flat_map}
use Rattle.partition.specs.Classes.{points_below, has, class_at, IsPartition}
use Rattle.partition.specs.NetTable.{NetTable, all_nets, judged_points, net_at, net_count}
use Rattle.partition.specs.Claims.{nobody}
use Rattle.difference.specs.Difference.{home_of, anchor_of}
use Rattle.partition.specs.NetTable.{head_at}
use Rattle.difference.specs.declared.wiring.Piece.{Piece}

-- a partition of the points that count
abbrev pub IsMeasured : NetTable → List ℕ → Type 0
IsMeasured t m = IsPartition (judged_points t) t.points m

-- the anchor of each class, at the class's number
pub record AreAnchors (t : NetTable) (m anchors : List ℕ) : Type 0 where
  pub size : length anchors ≡ t.points
  pub anchor : (c : ℕ) → c < t.points → class_at anchors c ≡ anchor_of t m c

-- the net with a number
abbrev pub net_of : NetTable → ℕ → List ℕ
net_of t i = slice_index_or (all_nets t) i []

-- of the first i nets the numbers of those whose home is each class, ascending
pub record AreHomes (t : NetTable) (m : List ℕ) (i : ℕ) (homes : List (List ℕ)) : Type 0 where
  pub size : length homes ≡ t.points
  pub nets : (c : ℕ) → c < t.points → slice_index_or homes c [] ≡ filter (λ j. home_of m (net_of t j) == c) (points_below i)

-- whether a point counts and is not in its net's home
abbrev pub is_stray : NetTable → List ℕ → ℕ → Bool
is_stray t m p = has (judged_points t) p && not (class_at m p == class_at m (head_at t p))

-- the anchor of a stray's class, and nobody at another point
abbrev pub stray_anchor : NetTable → List ℕ → ℕ → ℕ
stray_anchor t m p = if is_stray t m p then anchor_of t m (class_at m p) else nobody

-- the strays in order of anchor, then of point
abbrev pub by_anchor : NetTable → List ℕ → List ℕ
by_anchor t m = flat_map (λ a. filter (λ p. stray_anchor t m p == a) (points_below t.points)) (points_below t.points)

-- the strays in order of net, then of anchor, then of point
abbrev pub by_net : NetTable → List ℕ → List ℕ
by_net t m = flat_map (λ i. filter (λ p. net_at t p == i) (by_anchor t m)) (points_below (net_count t))

-- a piece of no point
abbrev pub no_piece : Piece
no_piece = record { net = 0; class = 0; points = [] }

-- whether the last piece is of this net and class
abbrev pub goes_on : List Piece → ℕ → ℕ → Bool
goes_on pieces net class =
    let last = slice_index_or pieces (length pieces - 1) no_piece in
    nat_lt 0 (length pieces) && (last.net == net && last.class == class)

-- one more point: at the end of the last piece, where that is of this net and class, and otherwise as a piece
abbrev pub with_point : List Piece → ℕ → ℕ → ℕ → List Piece
with_point pieces net class p =
    let at = length pieces - 1 in
    let last = slice_index_or pieces at no_piece in
    if goes_on pieces net class
    then slice_set pieces at (record { net = last.net; class = last.class; points = last.points ++ p ∷ [] })
    else pieces ++ record { net = net; class = class; points = p ∷ [] } ∷ []

-- the pieces that points make as they stand
abbrev pub pieces_along : NetTable → List ℕ → List ℕ → List Piece
pieces_along t m points = fold (λ pieces p. with_point pieces (net_at t p) (anchor_of t m (class_at m p)) p) [] points

-- whether a point is in a class, and not of the net of the class's least point
abbrev pub is_mixing : NetTable → List ℕ → ℕ → ℕ → Bool
is_mixing t m c p = has (judged_points t) p && (class_at m p == c && not (net_at t p == net_at t c))

-- whether points of several nets, below n, are in a class
abbrev pub is_mixed : NetTable → List ℕ → ℕ → ℕ → Bool
is_mixed t m n c = list_any (is_mixing t m c) (points_below n)

-- whether points of several nets, below p, are in each class, at the class's number
pub record AreMixed (t : NetTable) (m : List ℕ) (p : ℕ) (marks : List Bool) : Type 0 where
  pub size : length marks ≡ t.points
  pub mark : (c : ℕ) → c < t.points → slice_index_or marks c false ≡ is_mixed t m p c

-- whether the class of a piece is marked
abbrev pub is_marked : List ℕ → List Bool → Piece → Bool
is_marked m marks piece = slice_index_or marks (class_at m piece.class) false

-- the classes of pieces are those of points that count, and have a mark
abbrev pub CanBeMarked : List ℕ → List Bool → List Piece → Type 0
CanBeMarked m marks pieces = All (λ piece. (piece.class < length m) × (class_at m piece.class < length marks)) pieces
