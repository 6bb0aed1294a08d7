-- Pairs of classes that elements lie between.
use Rattle.std.specs.Prelude.{◌≤◌, ◌+◌, ◌*◌, ℕ, min, max, List, Option, MatchOption}
use Rattle.rig.specs.declared.unit.Row.{Row}
use Rattle.harness.specs.Units.{IsRepeat}

-- two numbers below 65,536 as one, whichever is first
abbrev pub pair_of : ℕ → ℕ → ℕ
pair_of a b = min a b * 65536 + max a b

-- the place of the first row that repeats an element, where one does
abbrev pub IsFirstRepeat : List ℕ → List Row → Option ℕ → Type 0
IsFirstRepeat classes rows found =
    MatchOption found ((j : ℕ) → IsRepeat classes rows j → ⊥) (λ j. IsRepeat classes rows j × ((k : ℕ) → IsRepeat classes rows k → j ≤ k))
