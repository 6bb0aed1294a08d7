-- A harness file is read in one way.
use Rattle.std.specs.Prelude.{◌≡◌, ℕ, List}
use Rattle.harness.specs.declared.row.HarnessRow.{HarnessRow}
use Rattle.harness.specs.declared.refusal.HarnessRefusal.{HarnessRefusal}
use Rattle.harness.specs.Harness.{IsHarness, IsRefused}

-- it has one list of rows at most, is refused for one cause at most, and never both
pub record HarnessLaw (bytes : List ℕ) : Type 0 where
  pub one_reading : (rows others : List HarnessRow) → IsHarness bytes rows → IsHarness bytes others → rows ≡ others
  pub apart : (rows : List HarnessRow) (refusal : HarnessRefusal) → IsHarness bytes rows → IsRefused bytes refusal → ⊥
  pub one_refusal : (refusal other : HarnessRefusal) → IsRefused bytes refusal → IsRefused bytes other → refusal ≡ other
