-- The numbers of the rows of one kind.
use Rattle.std.specs.Prelude.{◌≡◌, ◌⊎◌, ◌↔◌, IsTrue, ℕ}
use Rattle.std.specs.Ordering.{nat_cmp}
use Rattle.std.specs.BTreeSet.{BTreeSet, contains, IsOrdered}
use Rattle.harness.specs.declared.row.HarnessRow.{HarnessRow}

-- the set has one more number where the row is of the kind
pub record AddsNumber (kind : ℕ → HarnessRow) (old new : BTreeSet ℕ) (row : HarnessRow) : Type 0 where
  pub ordered : IsOrdered nat_cmp new
  pub listed : (k : ℕ) → IsTrue (contains nat_cmp new k) ↔ (IsTrue (contains nat_cmp old k) ⊎ (row ≡ kind k))
