-- What contracts see of a station.
use Rattle.std.specs.Prelude.{◌≡◌, ◌<◌, ◌^◌, Bool, List, length, Some}
use Rattle.disk_edge.specs.Disk.{DiskState, EachImage}
use Rattle.rig.specs.RigState.{RigState}
use Rattle.wirelist.specs.declared.program.Program.{Program}
use Rattle.wirelist.specs.Programs.{IsProgram}
use Rattle.unit_outcome.specs.Found.{Findings, told_by}
use Rattle.records.specs.declared.record.StationRecord.{StationRecord}
use Rattle.ledger.specs.Kept.{AreRecords, IsImageOf, is_full}
use Rattle.ledger.specs.Ledger.{Tells}

-- the rig, the disk, the program, the records, and whether the journal has no room for a longest record more
pub record StationState : Type 0 where
  pub rig : RigState
  pub disk : DiskState
  pub program : Program
  pub records : List StationRecord
  pub full : Bool

-- a rig at zero, and a program that a wirelist can give, of as many points
pub record IsManned (rig : RigState) (p : Program) : Type 0 where
  pub unpowered : rig.volts ≡ 0
  pub program : IsProgram p
  pub fits : p.nets.points ≡ rig.points

-- What holds of every station: it is manned, its records are in range and few, where its disk tells they alone say whether it is full,
-- and each image of the disk keeps just these.
pub record IsStanding (s : StationState) : Type 0 where
  pub manned : IsManned s.rig s.program
  pub in_range : AreRecords s.records
  pub few : length s.records < 2 ^ 32
  pub room : Tells s.disk → s.full ≡ is_full s.records
  pub images : EachImage s.disk (IsImageOf s.records)

-- the program, and what the rig tells of each unit, stay
pub record Same (old new : StationState) : Type 0 where
  pub program : new.program ≡ old.program
  pub told : told_by new.program new.rig ≡ told_by old.program old.rig

-- the rig tells this of each unit, and the disk tells its content
pub record IsTold (s : StationState) (findings : Findings) : Type 0 where
  pub disk : Tells s.disk
  pub findings_are : told_by s.program s.rig ≡ Some findings
