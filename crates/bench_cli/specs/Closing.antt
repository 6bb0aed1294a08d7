-- What a run writes last.
--     Sunk                       what a sink had got and how often it had failed, before and after
--     sunk_by got faults o p     that of a sink o that became p, by its two meanings
--     Wrote sunk bytes           the sink got these bytes
--     WroteSome sunk bytes       it got a front of them, and not all
--     Closes sunk line           it got the line, or not all of it where a write failed
--     LacksMemory sunk bytes     memory ran out before all of the bytes were written
use Rattle.std.specs.Prelude.{◌≡◌, ◌⊎◌, ℕ, List, Option, codes}
use Rattle.std.specs.Io.KnownBytes.{Appends}
use Rattle.base.specs.Causes.{Rose}
use Rattle.bench_edge.specs.Whole.{WrotePart}

pub record Sunk : Type 0 where
  pub got : Option (List ℕ)
  pub got_after : Option (List ℕ)
  pub faults : ℕ
  pub faults_after : ℕ

abbrev pub sunk_by : {O : Type 0} → (O → Option (List ℕ)) → (O → ℕ) → O → O → Sunk
sunk_by got faults old new = record { got = got old; got_after = got new; faults = faults old; faults_after = faults new }

abbrev pub Wrote : Sunk → List ℕ → Type 0
Wrote sunk bytes = Appends sunk.got sunk.got_after bytes

abbrev pub WroteSome : Sunk → List ℕ → Type 0
WroteSome sunk bytes = WrotePart sunk.got sunk.got_after bytes

-- no failed write was counted
abbrev pub CountsNone : Sunk → Type 0
CountsNone sunk = sunk.faults_after ≡ sunk.faults

-- the sink was not asked
pub record IsUnasked (sunk : Sunk) : Type 0 where
  pub got : sunk.got_after ≡ sunk.got
  pub faults : CountsNone sunk

-- a failed write does not change how the run ended, but the line is then cut
abbrev pub Closes : Sunk → List ℕ → Type 0
Closes sunk line = Wrote sunk line ⊎ (Rose sunk.faults sunk.faults_after × WroteSome sunk line)

-- Memory ran out, in the making of the bytes or as they were written. They are not whole, and no failed write was counted.
abbrev pub LacksMemory : Sunk → List ℕ → Type 0
LacksMemory sunk bytes = IsUnasked sunk ⊎ (CountsNone sunk × WroteSome sunk bytes)

-- a closing line and the status, which is 9 where memory ran out in the line
abbrev pub ClosesWith : Sunk → List ℕ → ℕ → ℕ → Type 0
ClosesWith sunk line status result = ((result ≡ status) × Closes sunk line) ⊎ ((result ≡ 9) × LacksMemory sunk line)

abbrev pub usage_line : List ℕ
usage_line = codes "usage: bench continuity|learn|run|serve|report|unit|import|export|soak [options]\n"

abbrev pub read_fault_line : List ℕ
read_fault_line = codes "read fault\n"

abbrev pub rig_fault_line : List ℕ
rig_fault_line = codes "rig fault\n"

abbrev pub fixture_empty_line : List ℕ
fixture_empty_line = codes "fixture empty\n"
