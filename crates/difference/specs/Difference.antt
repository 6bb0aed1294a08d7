-- By what a measured partition differs from the nets.
use Rattle.std.specs.Prelude.{ℕ, ◌==◌, ◌&&◌, Bool, not, nat_lt, List, map, filter, filter_map, flat_map, length, find, Option, Some, None, unwrap_or}
use Rattle.std.specs.Prelude.{option_map, if◌then◌else◌, slice_index_or}
use Rattle.std.specs.List.{list_any}
use Rattle.partition.specs.Classes.{class_at}
use Rattle.partition.specs.NetTable.{NetTable, all_nets, head_of, judged_points, numbered_nets}
use Rattle.difference.specs.declared.wiring.Piece.{Piece}
use Rattle.difference.specs.declared.wiring.Short.{Short}
use Rattle.difference.specs.declared.wiring.Difference.{Difference}

-- the home of a net: the class that holds its head
abbrev pub home_of : List ℕ → List ℕ → ℕ
home_of m net = class_at m (head_of net)

-- the points of a net in a class
abbrev pub meeting : List ℕ → List ℕ → ℕ → List ℕ
meeting m net c = filter (λ p. class_at m p == c) net

-- whether a net has a point in a class
abbrev pub meets : List ℕ → List ℕ → ℕ → Bool
meets m net c = list_any (λ p. class_at m p == c) net

-- the numbers of the nets whose home is the class, ascending
abbrev pub nets_at_home : NetTable → List ℕ → ℕ → List ℕ
nets_at_home t m c = map (λ n. n.0) (filter (λ n. home_of m n.1 == c) (numbered_nets t))

-- the anchor of a class: the head of the first net whose home it is, or else its least point, which is its number
abbrev pub anchor_of : NetTable → List ℕ → ℕ → ℕ
anchor_of t m c = unwrap_or (option_map head_of (find (λ net. home_of m net == c) (all_nets t))) c

-- the anchors of the classes, ascending
abbrev pub anchors : NetTable → List ℕ → List ℕ
anchors t m = filter (λ p. anchor_of t m (class_at m p) == p) (judged_points t)

-- a net's meeting with the class of an anchor, as a piece
abbrev pub piece_at : List ℕ → ℕ × List ℕ → ℕ → Piece
piece_at m n a = record { net = n.0; class = a; points = meeting m n.1 (class_at m a) }

-- whether it is one: the net meets the class, which is not its home
abbrev pub has_piece : List ℕ → ℕ × List ℕ → ℕ → Bool
has_piece m n a = meets m n.1 (class_at m a) && not (class_at m a == home_of m n.1)

-- the pieces of a net, in order of anchor
abbrev pub pieces_of_net : NetTable → List ℕ → ℕ × List ℕ → List Piece
pieces_of_net t m n = map (piece_at m n) (filter (has_piece m n) (anchors t m))

-- all pieces, in order of net, then of anchor
abbrev pub pieces_of : NetTable → List ℕ → List Piece
pieces_of t m = flat_map (pieces_of_net t m) (numbered_nets t)

-- whether the class of a piece meets another net than the piece's
abbrev pub is_miswire : NetTable → List ℕ → Piece → Bool
is_miswire t m piece = list_any (λ n. not (n.0 == piece.net) && meets m n.1 (class_at m piece.class)) (numbered_nets t)

-- the pieces whose class meets no other net
abbrev pub opens_of : NetTable → List ℕ → List Piece
opens_of t m = filter (λ piece. not (is_miswire t m piece)) (pieces_of t m)

-- the pieces whose class meets another net
abbrev pub miswires_of : NetTable → List ℕ → List Piece
miswires_of t m = filter (is_miswire t m) (pieces_of t m)

-- the short of a net's home, where the net is the first of two or more that have this home
abbrev pub short_at : NetTable → List ℕ → ℕ × List ℕ → Option Short
short_at t m n =
    let homed = nets_at_home t m (home_of m n.1) in
    if slice_index_or homed 0 n.0 == n.0 && nat_lt 1 (length homed)
    then Some (record { class = head_of n.1; nets = homed })
    else None

-- the classes that are home to two or more nets, in order of first net
abbrev pub shorts_of : NetTable → List ℕ → List Short
shorts_of t m = filter_map (short_at t m) (numbered_nets t)

-- the three lists
abbrev pub difference_of : NetTable → List ℕ → Difference
difference_of t m = record { opens = opens_of t m; shorts = shorts_of t m; miswires = miswires_of t m }
