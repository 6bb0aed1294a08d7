-- Why an opening is refused.
use Rattle.std.specs.Prelude.{◌≡◌, ℕ, ◌<◌, List, length, ⊤}
use Rattle.std.specs.Option.{ForSome}
use Rattle.base.specs.Causes.{Rose}
use Rattle.disk_edge.specs.Disk.{DiskState, LeavesOnly}
use Rattle.disk_edge.specs.declared.disk.DiskStop.{DiskStop}
use Rattle.disk_edge.specs.declared.disk.DiskStop.TheVariants as stop
use Rattle.journal.specs.Opening.{IsForeign, IsBad}
use Rattle.journal.specs.declared.refusal.Refusal.{Refusal}
use Rattle.journal.specs.declared.refusal.Refusal.TheVariants.{NotJournal, BadEntry, TooLong, Failed, Memory}
use Rattle.journal.specs.declared.TheConstants.{LONGEST_FILE}

abbrev pub refusal_of : DiskStop → Refusal
refusal_of stop.Failed = Failed
refusal_of stop.Memory = Memory

-- what is wrong with a file
abbrev pub IsWrong : List ℕ → Refusal → Type 0
IsWrong file (NotJournal first) = IsForeign file first
IsWrong file (BadEntry number place) = IsBad file number place
IsWrong file (TooLong len) = (len ≡ length file) × (LONGEST_FILE < len)
IsWrong file Failed = ⊥
IsWrong file Memory = ⊥

-- it speaks of the file, and neither of the disk nor of memory
abbrev pub IsOfTheFile : Refusal → Type 0
IsOfTheFile (NotJournal first) = ⊤
IsOfTheFile (BadEntry number place) = ⊤
IsOfTheFile (TooLong len) = ⊤
IsOfTheFile Failed = ⊥
IsOfTheFile Memory = ⊥

-- it reads as before, and a crash at any moment leaves nothing but what it might have left before
pub record IsUntouched (old new : DiskState) : Type 0 where
  pub reads_as : new.reads_as ≡ old.reads_as
  pub images : LeavesOnly old new (λ image. ⊥)

-- what is so where it is refused
abbrev pub IsRefused : DiskState → DiskState → Refusal → Type 0
IsRefused old new Failed = Rose old.faults new.faults
IsRefused old new Memory = ⊤
IsRefused old new why = ForSome old.reads_as (λ file. IsWrong file why)
