-- What entries are no records, and how their reading ends.
use Rattle.std.specs.Prelude.{◌≡◌, ℕ, ◌+◌, ◌<◌, ◌^◌, List, ◌∷◌, ◌++◌, length, ⊤}
use Rattle.base.specs.Causes.{Rose}
use Rattle.disk_edge.specs.declared.disk.DiskStop.{DiskStop}
use Rattle.disk_edge.specs.declared.disk.DiskStop.TheVariants as stop
use Rattle.journal.specs.Format.{end_after}
use Rattle.records.specs.declared.record.StationRecord.{StationRecord}
use Rattle.records.specs.RecordRanges.{Spells}
use Rattle.ledger.specs.Kept.{AreRecords, spellings}
use Rattle.ledger.specs.declared.loading.ReadStop.{ReadStop}
use Rattle.ledger.specs.declared.loading.ReadStop.TheVariants as read

-- No record spells the entry with this number, the entries before it are records, and its gate stands at this place.
pub record IsFirstWrong (bodies : List (List ℕ)) (number place : ℕ) : Type 0 where
  pub R : List StationRecord
  pub body : List ℕ
  pub more : List (List ℕ)
  pub in_range : AreRecords R
  pub bodies_are : bodies ≡ spellings R ++ body ∷ more
  pub no_record : (r : StationRecord) → Spells body r → ⊥
  pub counts : number ≡ length R + 1
  pub stands : place ≡ end_after (spellings R)

-- entries in a file that a place of 64 bits can name
abbrev pub IsWrongEntry : List (List ℕ) → ReadStop → Type 0
IsWrongEntry bodies (read.NoRecord number place) = end_after bodies < 2 ^ 64 → IsFirstWrong bodies number place
IsWrongEntry bodies read.Disk = ⊤
IsWrongEntry bodies read.Memory = ⊤

-- a reading of the disk failed
abbrev pub read_stop_of : DiskStop → ReadStop
read_stop_of stop.Failed = read.Disk
read_stop_of stop.Memory = read.Memory

-- only a disk whose count rose has failed
abbrev pub ReadCause : ℕ → ℕ → ReadStop → Type 0
ReadCause before now (read.NoRecord number place) = ⊤
ReadCause before now read.Disk = Rose before now
ReadCause before now read.Memory = ⊤
