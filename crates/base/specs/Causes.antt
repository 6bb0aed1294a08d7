-- When a device may answer that it failed.
use Rattle.std.specs.Prelude.{◌≡◌, ℕ, ◌+◌, ◌-◌, ◌^◌, ◌≤◌, min, Option, Some}

-- a count of faults is greater than before, or stands at the last value of its counter
abbrev pub Rose : ℕ → ℕ → Type 0
Rose before now = min (before + 1) (2 ^ 64 - 1) ≤ now

-- A count of faults does not fall, and of the refusals the one that means a failure comes only where the count rose.
-- `stop` is the refusal, if there was one: `result_err result` of a call.
pub record HasCause {E : Type 0} (before now : ℕ) (stop : Option E) (failed : E) : Type 0 where
  pub later : before ≤ now
  pub rose : stop ≡ Some failed → Rose before now
