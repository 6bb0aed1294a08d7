-- Partitions, and what they join. A point that does not count has no class.
--     HasClass classes p           the point counts: it has a class
--     IsClassing classes           a partition of the points that count
--     IsPartitionOfAll classes     one in which all points count
--     IsOver classes other         the two are of the same points
--     JoinsBesides old new a b     new joins what old joins, and the classes of a and b
--     IsLabel n label              a label of one of n points
use Rattle.std.specs.Prelude.{◌≡◌, ◌↔◌, ◌⊎◌, ℕ, ◌<◌, ◌≤◌, ◌^◌, List, length, Contains}
use Rattle.partition.specs.Classes.{class_at, no_class, Same}

-- the point counts: it has a class
abbrev pub HasClass : List ℕ → ℕ → Type 0
HasClass classes p = class_at classes p < no_class

-- the class number of each point that counts is a point of its class, and no point of its class is below it; another point has none
pub record IsClassing (classes : List ℕ) : Type 0 where
  pub least : (p : ℕ) → HasClass classes p → class_at classes p ≤ p
  pub own : (p : ℕ) → HasClass classes p → class_at classes (class_at classes p) ≡ class_at classes p
  pub none : (p : ℕ) → class_at classes p ≤ no_class

-- each point's class number is a point of its own class, and no point of its class is below it
pub record IsPartitionOfAll (classes : List ℕ) : Type 0 where
  pub least : (p : ℕ) → p < length classes → class_at classes p ≤ p
  pub own : (p : ℕ) → p < length classes → class_at classes (class_at classes p) ≡ class_at classes p

-- a partition of the points that count, no more points than the numbers of points can name
pub record IsPartitionValue (classes : List ℕ) : Type 0 where
  pub partition : IsClassing classes
  pub few : length classes < 2 ^ 16

-- the two are of the same points, and the same of these count
pub record IsOver (classes other : List ℕ) : Type 0 where
  pub size : length other ≡ length classes
  pub judged : (p : ℕ) → HasClass other p ↔ HasClass classes p

-- the one joins all that the other joins
abbrev pub JoinsAllOf : List ℕ → List ℕ → Type 0
JoinsAllOf classes others = (a b : ℕ) → HasClass others a → HasClass others b → Same others a b → Same classes a b

-- some point of the one group is in one class with some point of the other, both of which count
pub record Meets (classes a b : List ℕ) : Type 0 where
  pub left : ℕ
  pub right : ℕ
  pub in_left : Contains a left
  pub in_right : Contains b right
  pub judged : HasClass classes left
  pub joined : Same classes left right

-- a label of one of n points: the number of one of them, or no class
abbrev pub IsLabel : ℕ → ℕ → Type 0
IsLabel n label = (label < n) ⊎ (label ≡ no_class)

-- two points that count are together in the new partition exactly where they were, or lay one in each of the classes of a and b
abbrev pub JoinsBesides : List ℕ → List ℕ → ℕ → ℕ → Type 0
JoinsBesides old new a b =
    (p q : ℕ) → HasClass old p → HasClass old q →
    Same new p q ↔ (Same old p q ⊎ ((Same old p a × Same old q b) ⊎ (Same old p b × Same old q a)))
