-- A disk in memory as clauses see it, and what one call does to it.
use Rattle.std.specs.Prelude.{◌≡◌, ℕ, ◌+◌, ◌-◌, ◌^◌, min, Bool, true, false, List, [], ◌∷◌, ◌++◌, length, Contains, Result, Ok, Err, ⊤}
use Rattle.disk_edge.specs.Disk.{DiskState}
use Rattle.disk_edge.specs.MemDisk.{after_calls, state_of}
use Rattle.disk_edge.specs.declared.disk.DiskStop.{DiskStop}
use Rattle.disk_edge.specs.declared.disk.DiskStop.TheVariants.{Failed, Memory}
use Rattle.disk_edge.specs.declared.mem_disk.Call.{Call}
use Rattle.disk_edge.specs.declared.mem_disk.MemDisk.{MemDisk}

abbrev pub mem_state : MemDisk → DiskState
mem_state disk = state_of (after_calls disk.first disk.calls.items) disk.faults

-- all calls that were made, the oldest first
abbrev pub calls_of : MemDisk → List Call
calls_of disk = disk.calls.items

-- the numbers of the calls that fail, counted from 1
abbrev pub failing_of : MemDisk → List ℕ
failing_of disk = disk.failing

-- the number of the next call
abbrev pub next_number : MemDisk → ℕ
next_number disk = length (calls_of disk) + 1

-- The call is listed behind the others, as done or as failed. One that found no memory is not listed.
abbrev pub IsListed : {T : Type 0} → (Bool → Call) → List Call → List Call → Result T DiskStop → Type 0
IsListed call before now (Ok x) = now ≡ before ++ call true ∷ []
IsListed call before now (Err Failed) = now ≡ before ++ call false ∷ []
IsListed call before now (Err Memory) = now ≡ before

-- a call fails exactly where its number is one of those that fail, but for want of memory
abbrev pub FailsAt : {T : Type 0} → List ℕ → ℕ → Result T DiskStop → Type 0
FailsAt failing number (Ok x) = Contains failing number → ⊥
FailsAt failing number (Err Failed) = Contains failing number
FailsAt failing number (Err Memory) = ⊤

-- one more, but never past the last number of 64 bits
abbrev pub one_more : ℕ → ℕ
one_more count = min (count + 1) (2 ^ 64 - 1)

-- a failure is counted, and nothing else is
abbrev pub CountsFailure : {T : Type 0} → ℕ → ℕ → Result T DiskStop → Type 0
CountsFailure before now (Ok x) = now ≡ before
CountsFailure before now (Err Failed) = now ≡ one_more before
CountsFailure before now (Err Memory) = now ≡ before

-- One call of it: it is listed, it fails by its number, a failure alone is counted, and the numbers that fail stay.
pub record MakesCall {T : Type 0} (call : Bool → Call) (old new : MemDisk) (result : Result T DiskStop) : Type 0 where
  pub listed : IsListed call (calls_of old) (calls_of new) result
  pub fails : FailsAt (failing_of old) (next_number old) result
  pub counted : CountsFailure old.faults new.faults result
  pub kept : failing_of new ≡ failing_of old
