-- An import: the opening of the journal, and the rows behind it.
use Rattle.std.specs.Prelude.{◌≡◌, ◌⊎◌, ℕ, List, Option}
use Rattle.std.specs.Option.{ForSome}
use Rattle.disk_edge.specs.Disk.{DiskState, LeavesOnly}
use Rattle.journal.specs.Format.{IsSound}
use Rattle.journal.specs.Journal.{KeepsLimit}
use Rattle.rig.specs.RigState.{RigState}
use Rattle.wirelist.specs.declared.program.Program.{Program}
use Rattle.records.specs.declared.record.StationRecord.{StationRecord}
use Rattle.ledger.specs.Opening.{BeginsSound, Opens, found}
use Rattle.station.specs.View.{StationState}
use Rattle.script.specs.Opened.{IsRunImage, RunBegins, RunKeeps}
use Rattle.script.specs.Said.{Asked}
use Rattle.script.specs.Scene.{Scene}
use Rattle.importing.specs.Input.{Answered, Unanswered}
use Rattle.importing.specs.RowsAnswered.{RowsHeadline}
use Rattle.importing.specs.declared.input.InputStop.{InputStop}

-- The journal was opened.
--     keeps    over a sound file, what the disk keeps at the exit, and what a stop at any moment leaves since the import began
--     limit    no image is longer than a journal may be, where none was
pub record ImportBegun (rig0 : RigState) (program : Program) (began : DiskState) (status : ℕ) (ended : DiskState) : Type 0 where
  pub station : StationState
  pub rig_is : station.rig ≡ rig0
  pub program_is : station.program ≡ program
  pub opens : Opens began station.disk (found station.records)
  pub keeps : (file : List ℕ) (R0 : List StationRecord) → BeginsSound began file R0 → RunKeeps began file R0 station status ended
  pub limit : LeavesOnly began ended (λ image. ForSome began.reads_as IsSound → KeepsLimit began image)

-- The rows' headline over a sound file, from the records that the file keeps, and what a stop at any moment leaves since the import began.
pub record ImportHeadline (began : DiskState) (file : List ℕ) (R0 : List StationRecord) (station : StationState) (scene : Scene) (rows : List Asked)
    (status : ℕ) (ended : DiskState) (got : Option (List ℕ)) : Type 0 where
  pub found : station.records ≡ R0
  pub headline : RowsHeadline scene station rows status ended got
  pub stopped : LeavesOnly began ended (IsRunImage file R0 headline.progress.later)

-- no row was answered
pub record ImportUnanswered (rig0 : RigState) (program : Program) (began : DiskState) (got moments left : Option (List ℕ)) (status : ℕ)
    (rig : RigState) (ended : DiskState) (got' moments' : Option (List ℕ)) : Type 0 where
  pub begun : ImportBegun rig0 program began status ended
  pub stop : InputStop
  pub unanswered : Unanswered begun.station stop left got got' moments moments' status rig ended

-- the rows were
pub record ImportAnswered (rig0 : RigState) (program : Program) (began : DiskState) (got moments left : Option (List ℕ)) (status : ℕ)
    (rig : RigState) (ended : DiskState) (got' left' : Option (List ℕ)) : Type 0 where
  pub begun : ImportBegun rig0 program began status ended
  pub rows : List Asked
  pub answered : Answered begun.station rows left left' got got' moments status rig ended
  pub headline : (file : List ℕ) (R0 : List StationRecord) → BeginsSound began file R0 → (scene : Scene) (input : List ℕ)
      → RunBegins rig0 program got moments left scene input
      → ImportHeadline began file R0 begun.station scene rows status ended got'

-- the journal was opened, and the input was taken in
abbrev pub ImportOpened : RigState → Program → DiskState → Option (List ℕ) → Option (List ℕ) → Option (List ℕ) → ℕ → RigState → DiskState
    → Option (List ℕ) → Option (List ℕ) → Option (List ℕ) → Type 0
ImportOpened rig0 program began got moments left status rig ended got' moments' left' =
    ImportUnanswered rig0 program began got moments left status rig ended got' moments'
    ⊎ ImportAnswered rig0 program began got moments left status rig ended got' left'
