-- The calls of a disk in memory since its last sync.
use Rattle.std.specs.Prelude.{◌≡◌, ℕ, ◌≤◌, List, length, take, true, Some}
use Rattle.std.specs.List.{slice_get}
use Rattle.disk_edge.specs.Disk.{settled}
use Rattle.disk_edge.specs.MemDisk.{after_calls}
use Rattle.disk_edge.specs.declared.mem_disk.Call.{Call}
use Rattle.disk_edge.specs.declared.mem_disk.Call.TheVariants.{Sync}

-- So many calls there are up to and with the last sync that was done, and none where there was no such sync.
pub record IsLastSync (first : List ℕ) (calls : List Call) (number : ℕ) : Type 0 where
  pub within : number ≤ length calls
  pub settles : (after_calls first (take number calls)).present ≡ settled (after_calls first (take number calls)).bytes
  pub synced : (after_calls first calls).present.synced ≡ (after_calls first (take number calls)).bytes
  pub no_later : (k : ℕ) → number ≤ k → slice_get calls k ≡ Some (Sync true) → ⊥
