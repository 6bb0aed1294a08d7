-- The first net of a group of points.
use Rattle.std.specs.Prelude.{◌≡◌, ℕ, ◌≤◌, List, Contains}
use Rattle.partition.specs.NetTable.{NetTable, net_at}

-- the least number of a net that holds a point of the group
pub record IsFirstNet (t : NetTable) (group : List ℕ) (net : ℕ) : Type 0 where
  pub least : (q : ℕ) → Contains group q → net ≤ net_at t q
  pub one : (q : ℕ) × Contains group q × (net ≡ net_at t q)
