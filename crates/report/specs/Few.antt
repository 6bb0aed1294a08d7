-- Counts that one more does not overflow.
use Rattle.std.specs.Prelude.{ℕ, ◌+◌, ◌<◌, ◌^◌}

-- fewer than 2 ^ 64 - 1 all together
abbrev pub AreFew : ℕ → ℕ → ℕ → ℕ → ℕ → Type 0
AreFew pass wiring parts insulation withstand = pass + wiring + parts + insulation + withstand + 1 < 2 ^ 64
