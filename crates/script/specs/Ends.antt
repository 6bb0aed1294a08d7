-- How a call ends within a line.
use Rattle.std.specs.Prelude.{◌≡◌, ◌⊎◌, ℕ, true, false, List, Option}
use Rattle.std.specs.Io.KnownBytes.{Appends}
use Rattle.base.specs.Causes.{Rose}
use Rattle.partition.specs.NetTable.{programmed_of}
use Rattle.bench_edge.specs.Clocks.{Ticks}
use Rattle.disk_edge.specs.Disk.{DiskState, EachImage}
use Rattle.rig.specs.RigState.{RigState}
use Rattle.wirelist.specs.Clusters.{cluster_classes}
use Rattle.applications.specs.Ordered.{IsStuckInOrder}
use Rattle.records.specs.declared.record.StationRecord.{StationRecord}
use Rattle.ledger.specs.Kept.{IsImageOf}
use Rattle.ledger.specs.Ledger.{Tells}
use Rattle.station.specs.RigAfter.{Bears, StaysInOrder}
use Rattle.station.specs.View.{StationState}
use Rattle.script.specs.Closing.{Closing, write_fault, disk_fault, memory, not_at_zero, status_of, closing_line}
use Rattle.script.specs.Said.{Asked, Said, said_line, written, is_stuck}
use Rattle.script.specs.Saying.{WritesFront}
use Rattle.script.specs.Turns.{RigGoesOn, DiskGoesOn, Steps, IsTurn}

-- The answer was not written whole: a write failed, or memory ran out.
pub record EndsUnsaid (old : StationState) (asked : Asked) (now : ℕ) (closing : Closing) (rig : RigState) (disk : DiskState)
    (got got' : Option (List ℕ)) : Type 0 where
  pub why : (closing ≡ write_fault) ⊎ (closing ≡ memory)
  pub said : Said
  pub new : StationState
  pub turn : IsTurn old asked now said new
  pub rig_is : rig ≡ new.rig
  pub disk_is : disk ≡ new.disk
  pub wrote : WritesFront (said_line said) got got'

-- What a command that was not answered might have been answered, and the records behind it, which a crash may leave. What they say of a
-- unit the rig shows.
pub record MayEnd (old : StationState) (asked : Asked) (now : ℕ) (rig : RigState) (disk : DiskState) : Type 0 where
  pub said : Said
  pub later : List StationRecord
  pub step : Steps old asked now said later disk
  pub at_zero : is_stuck said ≡ false
  pub bears : Bears old disk later rig

-- There is no answer: the disk failed, or memory ran out.
pub record EndsLost (old : StationState) (asked : Asked) (now : ℕ) (closing : Closing) (rig : RigState) (disk : DiskState)
    (got got' : Option (List ℕ)) : Type 0 where
  pub why : (closing ≡ disk_fault) ⊎ (closing ≡ memory)
  pub may : Tells old.disk → MayEnd old asked now rig disk
  pub disk_goes_on : DiskGoesOn old.disk disk
  pub rig_goes_on : RigGoesOn old asked now rig
  pub order : StaysInOrder old.program old.rig rig
  pub wrote : WritesFront (closing_line closing) got got'

-- the answer was written whole, and behind it a front of the closing line; or a front of the answer
abbrev pub StuckSays : Said → Option (List ℕ) → Option (List ℕ) → Type 0
StuckSays said got got' =
    ((mid : Option (List ℕ)) × Appends got mid (written said) × WritesFront (closing_line not_at_zero) mid got')
    ⊎ WritesFront (said_line said) got got'

-- Three zero calls failed: no record came, and each image keeps just the records before.
pub record EndsStuck (old : StationState) (asked : Asked) (now : ℕ) (closing : Closing) (rig : RigState) (disk : DiskState)
    (got got' : Option (List ℕ)) : Type 0 where
  pub why : closing ≡ not_at_zero
  pub said : Said
  pub is : is_stuck said ≡ true
  pub step : Tells old.disk → Steps old asked now said old.records disk
  pub kept : EachImage disk (IsImageOf old.records)
  pub disk_goes_on : DiskGoesOn old.disk disk
  pub rig_goes_on : RigGoesOn old asked now rig
  pub order : IsStuckInOrder (programmed_of old.program.nets) (cluster_classes old.program) rig
  pub rose : Rose old.rig.faults rig.faults
  pub wrote : StuckSays said got got'

-- The call ends in this line. The clock was asked once.
pub record EndsIn (old : StationState) (asked : Asked) (status : ℕ) (rig : RigState) (disk : DiskState)
    (got got' moments moments' : Option (List ℕ)) : Type 0 where
  pub now : ℕ
  pub ticks : Ticks moments moments' now
  pub closing : Closing
  pub status_is : status ≡ status_of closing
  pub how :
      EndsUnsaid old asked now closing rig disk got got'
      ⊎ EndsLost old asked now closing rig disk got got'
      ⊎ EndsStuck old asked now closing rig disk got got'
