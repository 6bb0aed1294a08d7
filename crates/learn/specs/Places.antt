-- Where a point belongs among groups of joined points.
--     ArePlaces points p groups     groups among which a point can be placed
--     AreWhole state p groups       the readings show that each group is joined
--     IsPlaceOf state p groups k    they show that the point is joined with the group of number k
--     HasNoPlace state p groups     they show that it is joined with none of them
use Rattle.std.specs.Prelude.{◌<◌, ℕ, List, [], length, map, All, Contains, slice_index_or}
use Rattle.std.specs.List.Sorted.{IsStrictlyIncreasing}
use Rattle.partition.specs.Classes.{Same}
use Rattle.partition.specs.NetTable.{head_of}
use Rattle.partition.specs.Partitions.{HasClass}
use Rattle.rig.specs.Calls.{IsGroup}
use Rattle.rig.specs.RigState.{RigState}
use Rattle.learn.specs.Groups.{IsPossible}

-- at least one group; each ascends and is not empty; they are in order of their least points; and none has the point
pub record ArePlaces (points p : ℕ) (groups : List (List ℕ)) : Type 0 where
  pub some : 0 < length groups
  pub point : p < points
  pub each : All (IsGroup points) groups
  pub order : IsStrictlyIncreasing (map head_of groups)
  pub other : All (λ group. Contains group p → ⊥) groups

-- a partition that the unit may have, in which the point and all points of the groups count
pub record IsPossibleAt (state : RigState) (p : ℕ) (groups : List (List ℕ)) (classes : List ℕ) : Type 0 where
  pub possible : IsPossible state classes
  pub point : HasClass classes p
  pub each : All (All (HasClass classes)) groups

-- every such partition joins the points of each group
abbrev pub AreWhole : RigState → ℕ → List (List ℕ) → Type 0
AreWhole state p groups = (classes : List ℕ) → IsPossibleAt state p groups classes
    → All (λ group. (q r : ℕ) → Contains group q → Contains group r → Same classes q r) groups

-- every such partition joins the point with all of the group of this number
pub record IsPlaceOf (state : RigState) (p : ℕ) (groups : List (List ℕ)) (k : ℕ) : Type 0 where
  pub inside : k < length groups
  pub joined : (classes : List ℕ) → IsPossibleAt state p groups classes → (q : ℕ) → Contains (slice_index_or groups k []) q → Same classes q p

-- no such partition joins the point with any point of a group
abbrev pub HasNoPlace : RigState → ℕ → List (List ℕ) → Type 0
HasNoPlace state p groups = (classes : List ℕ) → IsPossibleAt state p groups classes → All (λ group. (q : ℕ) → Contains group q → Same classes q p → ⊥) groups
