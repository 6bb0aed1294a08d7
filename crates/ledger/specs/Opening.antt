-- How a disk is opened.
--     Opening              what is answered: the records found, or why none are
--     Says file answer     the file is answered so
--     Opens old new answer what is so of the disk after each answer
use Rattle.std.specs.Prelude.{◌≡◌, ◌⊎◌, ℕ, ◌≤◌, List, [], ◌∷◌, ◌++◌, length, Some, ⊤}
use Rattle.std.specs.Option.{ForSome}
use Rattle.base.specs.Causes.{Rose}
use Rattle.disk_edge.specs.Disk.{DiskState, LeavesOnly, EachImage}
use Rattle.journal.specs.Format.{Holds, AtRest, IsSound}
use Rattle.journal.specs.Journal.{HasEntries, KeepsLimit}
use Rattle.journal.specs.Opening.{MayOpen}
use Rattle.journal.specs.Refusal.{IsWrong, IsUntouched}
use Rattle.journal.specs.declared.refusal.Refusal.{Refusal}
use Rattle.journal.specs.declared.refusal.Refusal.TheVariants as why
use Rattle.journal.specs.declared.refusal.OpenStop.{OpenStop}
use Rattle.journal.specs.declared.refusal.OpenStop.TheVariants as opening
use Rattle.journal.specs.declared.TheConstants.{LONGEST_FILE}
use Rattle.records.specs.declared.record.StationRecord.{StationRecord}
use Rattle.ledger.specs.declared.stop.MountStop.{MountStop}
use Rattle.ledger.specs.declared.stop.MountStop.TheVariants as mount
use Rattle.ledger.specs.Kept.{Keeps, Covers, Sound, IsImageOf}
use Rattle.ledger.specs.Reading.{IsFirstWrong}

-- the records that were found; what is wrong with the journal; an entry that is no record, by its number and the place of its gate;
-- the disk failed; memory ran out
pub data Opening : Type 0 where
  found : List StationRecord → Opening
  no_journal : Refusal → Opening
  bad_record : ℕ → ℕ → Opening
  failed : Opening
  no_memory : Opening

-- a file that is no longer than a journal may be, whose entries are whole, and the first of them that is no record
pub record HasNoRecord (file : List ℕ) (number place : ℕ) : Type 0 where
  pub within : length file ≤ LONGEST_FILE
  pub bodies : List (List ℕ)
  pub holds : Holds file bodies
  pub first : IsFirstWrong bodies number place

-- the answer that a file gives, where the disk does not fail and memory does not run out
abbrev pub Says : List ℕ → Opening → Type 0
Says file (found R) = (length file ≤ LONGEST_FILE) × Keeps file R
Says file (no_journal why) = IsWrong file why
Says file (bad_record number place) = HasNoRecord file number place
Says file failed = ⊥
Says file no_memory = ⊥

-- it speaks of the file, and neither of the disk nor of memory
abbrev pub IsOfTheFile : Opening → Type 0
IsOfTheFile failed = ⊥
IsOfTheFile no_memory = ⊥
IsOfTheFile answer = ⊤

-- the journal was opened, and its end is closed
abbrev pub WasClosed : Opening → Type 0
WasClosed (found R) = ⊤
WasClosed (bad_record number place) = ⊤
WasClosed answer = ⊥

-- the journal was refused for what is wrong with it
abbrev pub WasNoJournal : Opening → Type 0
WasNoJournal (no_journal why) = ⊤
WasNoJournal answer = ⊥

-- these entries are at rest, and a crash leaves nothing else
pub record IsClosed (disk : DiskState) (bodies : List (List ℕ)) : Type 0 where
  pub entries : HasEntries disk bodies
  pub images : EachImage disk (λ image. AtRest image bodies)

-- the file that a disk reads as is sound, and keeps these records
pub record BeginsSound (disk : DiskState) (file : List ℕ) (R : List StationRecord) : Type 0 where
  pub reads : disk.reads_as ≡ Some file
  pub keeps : Keeps file R
  pub sound : Sound file

-- What a stop within an opening may leave: the records of the file, or these and the one that its gate covered.
abbrev pub MountLeaves : List ℕ → List StationRecord → List ℕ → Type 0
MountLeaves file R image = IsImageOf R image ⊎ ((r : StationRecord) × Covers file R r × IsImageOf (R ++ r ∷ []) image)

-- What is so after an opening, whatever it answers.
--     says, only      where told, an answer that speaks of the file is the one that the file gives
--     cause           the disk failed only where its count of faults rose
--     any_moment      a crash at any moment leaves what an opening may make of a sound file
--     records         in records: those that the file keeps, or these and the one that is covered
--     limit           where no image of a sound file was longer than a journal may be, none is
--     closes          a journal that was opened is closed at its end
--     untouched       one that was not is as it was
pub record Opens (old new : DiskState) (answer : Opening) : Type 0 where
  pub says : IsOfTheFile answer → ForSome old.reads_as (λ file. Says file answer)
  pub only : IsOfTheFile answer → ForSome old.reads_as (λ file. (other : Opening) → Says file other → answer ≡ other)
  pub cause : answer ≡ failed → Rose old.faults new.faults
  pub later : old.faults ≤ new.faults
  pub any_moment : LeavesOnly old new (MayOpen old)
  pub records : (file : List ℕ) (R : List StationRecord) → BeginsSound old file R → LeavesOnly old new (MountLeaves file R)
  pub limit : LeavesOnly old new (λ image. ForSome old.reads_as IsSound → KeepsLimit old image)
  pub closes : WasClosed answer → ForSome old.reads_as (λ file. (bodies : List (List ℕ)) → Holds file bodies → IsClosed new bodies)
  pub untouched : WasNoJournal answer → IsUntouched old new

-- what the journal refuses
abbrev pub mount_stop_of : {D : Type 0} → OpenStop D → MountStop D
mount_stop_of (opening.NotJournal disk first) = mount.NotJournal disk first
mount_stop_of (opening.BadEntry disk number place) = mount.BadEntry disk number place
mount_stop_of (opening.TooLong disk len) = mount.TooLong disk len
mount_stop_of (opening.Disk disk) = mount.Disk disk
mount_stop_of (opening.Memory disk) = mount.Memory disk

-- the disk that a refusal hands back
abbrev pub disk_of_stop : {D : Type 0} → MountStop D → D
disk_of_stop (mount.NotJournal disk first) = disk
disk_of_stop (mount.BadEntry disk number place) = disk
disk_of_stop (mount.TooLong disk len) = disk
disk_of_stop (mount.BadRecord disk number place) = disk
disk_of_stop (mount.Disk disk) = disk
disk_of_stop (mount.Memory disk) = disk

-- what a refusal answers
abbrev pub refused : {D : Type 0} → MountStop D → Opening
refused (mount.NotJournal disk first) = no_journal (why.NotJournal first)
refused (mount.BadEntry disk number place) = no_journal (why.BadEntry number place)
refused (mount.TooLong disk len) = no_journal (why.TooLong len)
refused (mount.BadRecord disk number place) = bad_record number place
refused (mount.Disk disk) = failed
refused (mount.Memory disk) = no_memory
