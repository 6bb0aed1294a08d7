-- What a mounting hands back.
use Rattle.std.specs.Prelude.{Result, Ok, Err}
use Rattle.disk_edge.specs.Disk.{DiskState}
use Rattle.disk_edge.specs.declared.disk.Disk.{Ghosts}
use Rattle.journal.specs.declared.journal.Journal.{Journal}
use Rattle.journal.specs.declared.refusal.Refusal.{Refusal}
use Rattle.journal.specs.declared.refusal.Refusal.TheVariants as why
use Rattle.journal.specs.declared.refusal.OpenStop.{OpenStop}
use Rattle.journal.specs.declared.refusal.OpenStop.TheVariants.{NotJournal, BadEntry, TooLong, Disk, Memory}

abbrev pub disk_of_stop : {D : Type 0} → OpenStop D → D
disk_of_stop (NotJournal disk first) = disk
disk_of_stop (BadEntry disk number place) = disk
disk_of_stop (TooLong disk len) = disk
disk_of_stop (Disk disk) = disk
disk_of_stop (Memory disk) = disk

abbrev pub why_of : {D : Type 0} → OpenStop D → Refusal
why_of (NotJournal disk first) = why.NotJournal first
why_of (BadEntry disk number place) = why.BadEntry number place
why_of (TooLong disk len) = why.TooLong len
why_of (Disk disk) = why.Failed
why_of (Memory disk) = why.Memory

-- what the disk that a mounting hands back means
abbrev pub state_after_mount : {D : Type 0} {g : Ghosts D} → Result (Journal D g) (OpenStop D) → DiskState
state_after_mount {D} {g} (Ok journal) = g.state journal.disk
state_after_mount {D} {g} (Err stop) = g.state (disk_of_stop stop)
