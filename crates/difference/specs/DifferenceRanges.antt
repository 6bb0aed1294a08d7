-- How large a difference is.
--     PieceWithin n piece         the net, the class and the points of a piece are below n, and the points ascend strictly; there is one at least
--     ShortWithin n short         the class and the nets of a short are below n, and the nets ascend strictly; there are two at least
--     PieceBefore x y             x stands before y, by net, then by class
--     ShortBefore x y             x stands before y, by first net
--     piece_points pieces         how many points all pieces have
--     short_nets shorts           how many nets all shorts have
--     DifferenceWithin n d        the three lists are such, in strict order, and no longer than n, all in all
use Rattle.std.specs.Prelude.{◌≡◌, ℕ, ◌+◌, ◌<◌, ◌≤◌, ◌⊎◌, List, length, All, AllPairs, sum_by, slice_index}
use Rattle.std.specs.List.Sorted.{IsStrictlyIncreasing}
use Rattle.difference.specs.declared.wiring.Piece.{Piece}
use Rattle.difference.specs.declared.wiring.Short.{Short}
use Rattle.difference.specs.declared.wiring.Difference.{Difference}

abbrev pub PieceWithin : ℕ → Piece → Type 0
PieceWithin n piece = (piece.net < n) × (piece.class < n) × All (λ p. p < n) piece.points × IsStrictlyIncreasing piece.points × (1 ≤ length piece.points)

abbrev pub ShortWithin : ℕ → Short → Type 0
ShortWithin n short = (short.class < n) × All (λ net. net < n) short.nets × IsStrictlyIncreasing short.nets × (2 ≤ length short.nets)

-- by net, then by class
abbrev pub PieceBefore : Piece → Piece → Type 0
PieceBefore x y = (x.net < y.net) ⊎ ((x.net ≡ y.net) × (x.class < y.class))

-- by first net
abbrev pub ShortBefore : Short → Short → Type 0
ShortBefore x y = slice_index x.nets 0 < slice_index y.nets 0

abbrev pub PiecesWithin : ℕ → List Piece → Type 0
PiecesWithin n pieces = (length pieces ≤ n) × All (PieceWithin n) pieces × AllPairs PieceBefore pieces

abbrev pub ShortsWithin : ℕ → List Short → Type 0
ShortsWithin n shorts = (length shorts ≤ n) × All (ShortWithin n) shorts × AllPairs ShortBefore shorts

-- how many points all pieces have, and how many nets all shorts
abbrev pub piece_points : List Piece → ℕ
piece_points pieces = sum_by (λ (x : Piece). length x.points) pieces

abbrev pub short_nets : List Short → ℕ
short_nets shorts = sum_by (λ (x : Short). length x.nets) shorts

-- the numbers are below n, each list is in order, and n points and n nets are enough for all of it
pub record DifferenceWithin (n : ℕ) (d : Difference) : Type 0 where
  pub opens_in : PiecesWithin n d.opens
  pub shorts_in : ShortsWithin n d.shorts
  pub miswires_in : PiecesWithin n d.miswires
  pub all_points : piece_points d.opens + piece_points d.miswires ≤ n
  pub all_nets : short_nets d.shorts ≤ n
