-- What a script leaves on the disk, whatever the rig tells.
use Rattle.std.specs.Prelude.{ℕ, List, IsTrue}
use Rattle.disk_edge.specs.Disk.{DiskState, LeavesOnly, EachImage}
use Rattle.records.specs.declared.record.StationRecord.{StationRecord}
use Rattle.ledger.specs.Kept.{IsImageOf, IsImageOfEither}
use Rattle.station.specs.View.{StationState}
use Rattle.script.specs.Growth.{IsPrefix, KeepsBetween}
use Rattle.script.specs.Headline.{is_at_rest}

-- The records behind the lines that were answered, and behind the line that was under way. Stopped at any moment, the call leaves what
-- might have been left before it, or a sound image that keeps the records found and a front of those that were added; and at the exit
-- each image keeps the records of the lines that were answered, or those and the next.
pub record ScriptKeeps (began : StationState) (status : ℕ) (ended : DiskState) : Type 0 where
  pub records : List StationRecord
  pub later : List StationRecord
  pub from : IsPrefix began.records records
  pub to : IsPrefix records later
  pub stopped : LeavesOnly began.disk ended (KeepsBetween began.records later)
  pub kept : EachImage ended (IsImageOfEither records later)
  pub at_rest : IsTrue (is_at_rest status) → EachImage ended (IsImageOf records)
