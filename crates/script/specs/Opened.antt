-- A run: the opening of the journal, and the script behind it.
use Rattle.std.specs.Prelude.{◌≡◌, ◌⊎◌, ℕ, List, [], ◌∷◌, ◌++◌, Option, Some, ⊤}
use Rattle.std.specs.Option.{ForSome}
use Rattle.bench_edge.specs.Whole.{WroteFront}
use Rattle.disk_edge.specs.Disk.{DiskState, LeavesOnly}
use Rattle.rig.specs.RigState.{RigState}
use Rattle.wirelist.specs.declared.program.Program.{Program}
use Rattle.unit_outcome.specs.Found.{told_by}
use Rattle.records.specs.declared.record.StationRecord.{StationRecord}
use Rattle.journal.specs.Format.{IsSound}
use Rattle.journal.specs.Journal.{KeepsLimit}
use Rattle.ledger.specs.Kept.{Covers, IsImageOf}
use Rattle.ledger.specs.Opening.{Opening, found, no_journal, bad_record, failed, no_memory, Opens, BeginsSound}
use Rattle.station.specs.View.{StationState}
use Rattle.unopened.specs.Refused.{refused_status, refused_line}
use Rattle.script.specs.Growth.{KeepsBetween}
use Rattle.script.specs.Headline.{ScriptHeadline}
use Rattle.script.specs.Keeping.{ScriptKeeps}
use Rattle.script.specs.Ran.{ScriptRan}
use Rattle.script.specs.Scene.{Scene}

-- what is told as a run begins: what the rig says of each unit, what the output got, the moments, and the script
pub record RunBegins (rig : RigState) (program : Program) (got moments left : Option (List ℕ)) (scene : Scene) (script : List ℕ) : Type 0 where
  pub findings_are : told_by program rig ≡ Some scene.findings
  pub got_is : got ≡ Some scene.got
  pub moments_are : moments ≡ Some scene.moments
  pub left_is : left ≡ Some script

-- The image keeps the records found and a front of those that were added, or the records found and the one that the file's gate covered.
abbrev pub IsRunImage : List ℕ → List StationRecord → List StationRecord → List ℕ → Type 0
IsRunImage file R0 later image = KeepsBetween R0 later image ⊎ ((r : StationRecord) × Covers file R0 r × IsImageOf (R0 ++ r ∷ []) image)

-- The headline of a run over a sound file: the script's, from the records that the file keeps, and what a stop at any moment leaves since
-- the run began.
pub record RunHeadline (began : DiskState) (file : List ℕ) (R0 : List StationRecord) (station : StationState) (scene : Scene) (script : List ℕ)
    (left : Option (List ℕ)) (status : ℕ) (ended : DiskState) (got : Option (List ℕ)) : Type 0 where
  pub found : station.records ≡ R0
  pub headline : ScriptHeadline scene station script left status ended got
  pub stopped : LeavesOnly began ended (IsRunImage file R0 headline.progress.later)

-- the same of the disk alone, whatever the rig tells
pub record RunKeeps (began : DiskState) (file : List ℕ) (R0 : List StationRecord) (station : StationState) (status : ℕ) (ended : DiskState) : Type 0 where
  pub found : station.records ≡ R0
  pub keeps : ScriptKeeps station status ended
  pub stopped : LeavesOnly began ended (IsRunImage file R0 keeps.later)

-- The journal was opened, and the script was run.
pub record RunOpened (rig0 : RigState) (program : Program) (began : DiskState) (got moments left : Option (List ℕ)) (status : ℕ) (rig : RigState)
    (ended : DiskState) (got' left' : Option (List ℕ)) : Type 0 where
  pub station : StationState
  pub rig_is : station.rig ≡ rig0
  pub program_is : station.program ≡ program
  pub opens : Opens began station.disk (found station.records)
  pub headline : (file : List ℕ) (R0 : List StationRecord) → BeginsSound began file R0 → (scene : Scene) (script : List ℕ)
      → RunBegins rig0 program got moments left scene script
      → RunHeadline began file R0 station scene script left' status ended got'
  pub ran : ScriptRan station got got' status rig ended
  pub keeps : (file : List ℕ) (R0 : List StationRecord) → BeginsSound began file R0 → RunKeeps began file R0 station status ended
  pub limit : LeavesOnly began ended (λ image. ForSome began.reads_as IsSound → KeepsLimit began image)

-- it is no list of records
abbrev pub IsRefusal : Opening → Type 0
IsRefusal (found R) = ⊥
IsRefusal (no_journal why) = ⊤
IsRefusal (bad_record number place) = ⊤
IsRefusal failed = ⊤
IsRefusal no_memory = ⊤

-- The journal was not opened: the status and a front of the closing line say why, nothing was read, and the clock was not asked.
pub record RunRefused (began : DiskState) (got moments left : Option (List ℕ)) (status : ℕ) (ended : DiskState)
    (got' moments' left' : Option (List ℕ)) : Type 0 where
  pub why : Opening
  pub refusal : IsRefusal why
  pub opens : Opens began ended why
  pub status_is : status ≡ refused_status why
  pub wrote : WroteFront got got' (refused_line why)
  pub left_is : left' ≡ left
  pub moments_are : moments' ≡ moments
