-- What the serving leaves on the disk and of the rig.
use Rattle.std.specs.Prelude.{◌≡◌, ℕ, ◌≤◌, Bool, ◌||◌, ◌==◌, List, IsTrue}
use Rattle.base.specs.Causes.{Rose}
use Rattle.disk_edge.specs.Disk.{DiskState, LeavesOnly, EachImage}
use Rattle.partition.specs.NetTable.{programmed_of}
use Rattle.rig.specs.RigState.{RigState}
use Rattle.wirelist.specs.Clusters.{cluster_classes}
use Rattle.wirelist.specs.declared.program.Program.{Program}
use Rattle.applications.specs.Ordered.{IsStuckInOrder}
use Rattle.unit_outcome.specs.Tested.{IsInOrderOf}
use Rattle.records.specs.declared.record.StationRecord.{StationRecord}
use Rattle.ledger.specs.Kept.{IsImageOf, IsImageOfEither}
use Rattle.station.specs.View.{StationState}
use Rattle.script.specs.Growth.{IsPrefix, KeepsBetween}

-- with these statuses no command was under way
abbrev pub is_at_rest : ℕ → Bool
is_at_rest status = status == 0 || status == 7 || status == 10 || status == 11

-- The records behind the connections that were finished, and behind the one with which the station stopped. Stopped at any moment, the
-- call leaves what might have been left before it, or a sound image that keeps the records found and a front of those that were added;
-- and at the exit each image keeps the records behind the finished connections, or those and the next.
pub record ServingKeeps (began : StationState) (status : ℕ) (ended : DiskState) : Type 0 where
  pub records : List StationRecord
  pub later : List StationRecord
  pub from : IsPrefix began.records records
  pub to : IsPrefix records later
  pub stopped : LeavesOnly began.disk ended (KeepsBetween began.records later)
  pub kept : EachImage ended (IsImageOfEither records later)
  pub at_rest : IsTrue (is_at_rest status) → EachImage ended (IsImageOf records)

-- how often a write of the lines, the disk, the rig and the door failed
pub record Counts : Type 0 where
  pub out : ℕ
  pub disk : ℕ
  pub rig : ℕ
  pub door : ℕ

-- No count fell, and each of these statuses comes only where its count rose.
pub record Causes (before now : Counts) (status : ℕ) : Type 0 where
  pub out : before.out ≤ now.out
  pub disk : before.disk ≤ now.disk
  pub rig : before.rig ≤ now.rig
  pub door : before.door ≤ now.door
  pub write_fault : status ≡ 7 → Rose before.out now.out
  pub disk_fault : status ≡ 8 → Rose before.disk now.disk
  pub not_at_zero : status ≡ 10 → Rose before.rig now.rig
  pub network_fault : status ≡ 11 → Rose before.door now.door

-- The trail is in the order of high voltage and ended at zero; with status 10 it is in this order, and ended with three zero calls that failed.
pub record InOrderAt (p : Program) (status : ℕ) (rig : RigState) : Type 0 where
  pub at_zero : (status ≡ 10 → ⊥) → IsInOrderOf p rig
  pub stuck : status ≡ 10 → IsStuckInOrder (programmed_of p.nets) (cluster_classes p) rig
