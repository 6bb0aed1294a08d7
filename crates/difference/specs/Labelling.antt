-- The labels of points, while a difference is written into them.
--     PieceIsOf n piece        the class and the points of a piece are below n
--     ShortIsOf n k short      the class of a short is below n, and its nets below k
--     IsInRange t d            the numbers of a difference are of points and nets of the table
--     AreLabels t d labels     each point has the label that the difference says
use Rattle.std.specs.Prelude.{◌≡◌, ℕ, ◌<◌, List, length, All, IsTrue, IsFalse}
use Rattle.partition.specs.Classes.{class_at, has, no_class}
use Rattle.partition.specs.NetTable.{NetTable, judged_points, net_count}
use Rattle.difference.specs.Rebuild.{label_of}
use Rattle.difference.specs.declared.wiring.Piece.{Piece}
use Rattle.difference.specs.declared.wiring.Short.{Short}
use Rattle.difference.specs.declared.wiring.Difference.{Difference}

-- the class and the points of a piece are below n
pub record PieceIsOf (n : ℕ) (piece : Piece) : Type 0 where
  pub class : piece.class < n
  pub points : All (λ p. p < n) piece.points

-- the class of a short is below n, and its nets are below k
pub record ShortIsOf (n k : ℕ) (short : Short) : Type 0 where
  pub class : short.class < n
  pub nets : All (λ net. net < k) short.nets

-- the numbers of a difference are of points and nets of the table
pub record IsInRange (t : NetTable) (d : Difference) : Type 0 where
  pub opens : All (PieceIsOf t.points) d.opens
  pub shorts : All (ShortIsOf t.points (net_count t)) d.shorts
  pub miswires : All (PieceIsOf t.points) d.miswires

-- each point that counts has the label that the difference says, and each other point has none
pub record AreLabels (t : NetTable) (d : Difference) (labels : List ℕ) : Type 0 where
  pub size : length labels ≡ t.points
  pub label : (p : ℕ) → IsTrue (has (judged_points t) p) → class_at labels p ≡ label_of t d p
  pub none : (p : ℕ) → p < t.points → IsFalse (has (judged_points t) p) → class_at labels p ≡ no_class
