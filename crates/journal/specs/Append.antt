-- What the calls of a journal hand back.
use Rattle.std.specs.Prelude.{◌≡◌, ℕ, ◌-◌, List, Bool, true, false, length, Result, Ok, Err, ⊤}
use Rattle.disk_edge.specs.Disk.{DiskState}
use Rattle.base.specs.Causes.{Rose}
use Rattle.disk_edge.specs.declared.disk.Disk.{Ghosts}
use Rattle.journal.specs.Gates.{last_gate}
use Rattle.journal.specs.declared.journal.Journal.{Journal}
use Rattle.journal.specs.declared.journal.AppendStop.{AppendStop}
use Rattle.journal.specs.declared.journal.AppendStop.TheVariants.{Full, Disk, DiskMemory, Memory}

-- what a journal's disk means
abbrev pub state_of : {D : Type 0} {g : Ghosts D} → Journal D g → DiskState
state_of {D} {g} journal = g.state journal.disk

-- its disk
abbrev pub disk_of : {D : Type 0} {g : Ghosts D} → Journal D g → D
disk_of journal = journal.disk

-- the places of its gates, the closed one last
abbrev pub gates_of : {D : Type 0} {g : Ghosts D} → Journal D g → List ℕ
gates_of journal = journal.gates.items

-- the place of the closed gate
abbrev pub end_of : {D : Type 0} {g : Ghosts D} → Journal D g → ℕ
end_of journal = last_gate journal.gates.items

-- how many entries there are
abbrev pub count_of : {D : Type 0} {g : Ghosts D} → Journal D g → ℕ
count_of journal = length journal.gates.items - 1

-- what the disk that an append hands back means
abbrev pub state_after : {D : Type 0} {g : Ghosts D} → Result (Journal D g) (AppendStop D g) → DiskState
state_after {D} {g} (Ok journal) = g.state journal.disk
state_after {D} {g} (Err (Full journal)) = g.state journal.disk
state_after {D} {g} (Err (Disk disk)) = g.state disk
state_after {D} {g} (Err (DiskMemory disk)) = g.state disk
state_after {D} {g} (Err (Memory journal)) = g.state journal.disk

-- the same disk and the same places
pub record IsUnchanged {D : Type 0} {g : Ghosts D} (old new : Journal D g) : Type 0 where
  pub disk : disk_of new ≡ disk_of old
  pub gates : gates_of new ≡ gates_of old

-- a full journal and one that had no memory come back as they were, and a fault was counted
abbrev pub IsAnswered : {D : Type 0} {g : Ghosts D} → Journal D g → AppendStop D g → Type 0
IsAnswered old (Full journal) = IsUnchanged old journal
IsAnswered {D} {g} old (Disk disk) = Rose (state_of old).faults (g.state disk).faults
IsAnswered old (DiskMemory disk) = ⊤
IsAnswered old (Memory journal) = IsUnchanged old journal

abbrev pub is_full : {D : Type 0} {g : Ghosts D} → Result (Journal D g) (AppendStop D g) → Bool
is_full (Err (Full journal)) = true
is_full result = false
