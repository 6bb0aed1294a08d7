-- What contracts see of a ledger.
use Rattle.std.specs.Prelude.{◌≡◌, ℕ, ◌+◌, ◌<◌, ◌^◌, Bool, nat_lt, List, length, IsTrue, is_some}
use Rattle.disk_edge.specs.Disk.{DiskState, EachImage}
use Rattle.journal.specs.Format.{AtRest}
use Rattle.journal.specs.Journal.{HasEntries}
use Rattle.records.specs.declared.record.StationRecord.{StationRecord}
use Rattle.journal.specs.declared.TheConstants.{LONGEST_FILE}
use Rattle.ledger.specs.Kept.{AreRecords, IsImageOf, is_full, spellings}

-- the disk, the records that it keeps, and whether the journal has no room for a longest record more
pub record LedgerState : Type 0 where
  pub disk : DiskState
  pub records : List StationRecord
  pub full : Bool

-- the disk tells its content
abbrev pub Tells : DiskState → Type 0
Tells disk = IsTrue (is_some disk.reads_as)

-- a journal of so many entries has these records, and each image of its disk is these at rest
pub record IsBooked (disk : DiskState) (count : ℕ) (R : List StationRecord) : Type 0 where
  pub in_range : AreRecords R
  pub counted : length R ≡ count
  pub entries : HasEntries disk (spellings R)
  pub images : EachImage disk (λ image. AtRest image (spellings R))

-- behind a gate at this place the journal has no room
abbrev pub is_full_at : ℕ → Bool
is_full_at end = nat_lt LONGEST_FILE (end + 262144)

-- What holds of every ledger: its records are in range and few, where its disk tells they alone say whether it is full, and each
-- image of the disk keeps just these.
pub record IsStored (l : LedgerState) : Type 0 where
  pub in_range : AreRecords l.records
  pub few : length l.records < 2 ^ 32
  pub room : Tells l.disk → l.full ≡ is_full l.records
  pub images : EachImage l.disk (IsImageOf l.records)
