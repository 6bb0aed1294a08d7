-- How often something was counted, and the numbers at which it goes another way.
use Rattle.std.specs.Prelude.{◌≤◌, ◌<◌, ◌^◌, ◌+◌, ◌-◌, ℕ, min, nat_le, List, [], ◌∷◌, All, Contains, if◌then◌else◌}
use Rattle.harness.specs.Rows.{most_call}

-- the numbers, and how often it was counted
pub record Counted : Type 0 where
  pub listed : List ℕ
  pub count : ℕ

-- counted once more
abbrev pub next_count : Counted → Counted
next_count c = record c { count = min (c.count + 1) (2 ^ 64 - 1) }

-- the next one is listed
abbrev pub IsNext : Counted → Type 0
IsNext c = Contains c.listed (c.count + 1)

-- how many of the numbers are at most n
abbrev pub numbers_to : ℕ → List ℕ → ℕ
numbers_to n [] = 0
numbers_to n (k ∷ ks) = (if nat_le k n then 1 else 0) + numbers_to n ks

-- numbers of a harness file, and a count that fits its counter
pub record IsCounter (listed : List ℕ) (count : ℕ) : Type 0 where
  pub small : All (λ k. k ≤ most_call) listed
  pub fits : count < 2 ^ 64
