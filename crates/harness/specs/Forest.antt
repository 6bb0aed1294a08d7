-- Trees of points: each point stands below its parent, and the points of one tree are one class.
use Rattle.std.specs.Prelude.{◌≡◌, ◌⊎◌, ◌<◌, ◌≤◌, ℕ, List, length, slice_index, Contains}
use Rattle.partition.specs.Classes.{class_at, merged}

-- no parent is greater than its point
abbrev pub Descends : List ℕ → Type 0
Descends parents = (p : ℕ) → p < length parents → slice_index parents p ≤ p

-- each point's parent is of its class, and a point that is its own parent is its class number
pub record IsForest (parents classes : List ℕ) : Type 0 where
  pub size : length parents ≡ length classes
  pub down : Descends parents
  pub same : (p : ℕ) → p < length parents → class_at classes (slice_index parents p) ≡ class_at classes p
  pub root : (p : ℕ) → p < length parents → slice_index parents p ≡ p → class_at classes p ≡ p

-- each point that is not its own parent is listed
abbrev pub AreListed : List ℕ → List ℕ → Type 0
AreListed parents listed = (p : ℕ) → p < length parents → (slice_index parents p ≡ p) ⊎ Contains listed p

-- From the point on, parents lead to this one. Points of one class stay so, and no new point has a parent.
pub record Climbs (old new : List ℕ) (from to : ℕ) : Type 0 where
  pub size : length new ≡ length old
  pub inside : to < length old
  pub down : Descends new
  pub forest : (classes : List ℕ) → IsForest old classes → IsForest new classes
  pub same : (classes : List ℕ) → IsForest old classes → class_at classes to ≡ class_at classes from
  pub fixed : (p : ℕ) → p < length old → slice_index old p ≡ p → slice_index new p ≡ p

-- The two points' trees are one.
pub record Links (old new moved moved' : List ℕ) (a b : ℕ) : Type 0 where
  pub size : length new ≡ length old
  pub down : Descends new
  pub forest : (classes : List ℕ) → IsForest old classes → IsForest new (merged classes a b)
  pub listed : AreListed old moved → AreListed new moved'
