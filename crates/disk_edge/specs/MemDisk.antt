-- What a disk in memory means, by its first bytes and its calls.
use Rattle.std.specs.Prelude.{ℕ, max, List, [], ◌∷◌, length, true, false, Some}
use Rattle.std.specs.List.{fold}
use Rattle.disk_edge.specs.Disk.{Content, DiskState, settled, touched, overwritten}
use Rattle.disk_edge.specs.declared.mem_disk.Call.{Call}
use Rattle.disk_edge.specs.declared.mem_disk.Call.TheVariants.{Length, Read, Write, Sync}

-- what it reads as, and what a crash may leave now and might have left earlier
pub record Standing : Type 0 where
  pub bytes : List ℕ
  pub present : Content
  pub past : List Content

-- the first bytes count as synced
abbrev pub fresh : List ℕ → Standing
fresh bytes = record { bytes = bytes; present = settled bytes; past = [] }

-- a call that failed has done nothing, but a crash may leave what it tried
abbrev pub after_call : Standing → Call → Standing
after_call s Length = s
after_call s (Read at n) = s
after_call s (Write at bytes true) = record {
  bytes = overwritten s.bytes at bytes;
  present = touched s.present at (length bytes);
  past = s.present ∷ s.past;
}
after_call s (Write at bytes false) = record {
  bytes = s.bytes;
  present = touched s.present at (length bytes);
  past = s.present ∷ s.past;
}
after_call s (Sync true) = record { bytes = s.bytes; present = settled s.bytes; past = s.present ∷ s.past }
after_call s (Sync false) = s

abbrev pub after_calls : List ℕ → List Call → Standing
after_calls first calls = fold after_call (fresh first) calls

-- it tells its bytes and is honest
abbrev pub state_of : Standing → ℕ → DiskState
state_of s faults = record { reads_as = Some s.bytes; present = s.present; past = s.past; honest = true; faults = faults }

-- the length of the buffer that a call was to fill
abbrev pub buffer_of : Call → ℕ
buffer_of (Read at n) = n
buffer_of call = 0

-- the greatest length of such a buffer, 0 where there was none
abbrev pub longest_read_of : List Call → ℕ
longest_read_of calls = fold (λ longest call. max longest (buffer_of call)) 0 calls
