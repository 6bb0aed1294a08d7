-- What adding a record hands back.
use Rattle.std.specs.Prelude.{◌≡◌, ◌⊎◌, Result, Ok, Err, true, false}
use Rattle.base.specs.Causes.{Rose}
use Rattle.disk_edge.specs.Disk.{DiskState}
use Rattle.ledger.specs.Kept.{is_full}
use Rattle.ledger.specs.Ledger.{LedgerState, Tells}
use Rattle.ledger.specs.declared.kept.AddStop.{AddStop}
use Rattle.ledger.specs.declared.kept.AddStop.TheVariants.{Full, Disk, Memory}

-- what the disk that comes back means
abbrev pub state_after : {D : Type 0} → (D → DiskState) → Result LedgerState (AddStop D) → DiskState
state_after state (Ok ledger) = ledger.disk
state_after state (Err (Full ledger)) = ledger.disk
state_after state (Err (Disk disk)) = state disk
state_after state (Err (Memory disk)) = state disk

-- there was room
abbrev pub HadRoom : LedgerState → Type 0
HadRoom old = (old.full ≡ false) × (Tells old.disk → is_full old.records ≡ false)

-- A full ledger comes back as it was. A disk that failed has counted a fault, and there was room. Memory ran out before the disk was
-- touched, or there was room.
abbrev pub StopsAdding : {D : Type 0} → (D → DiskState) → LedgerState → AddStop D → Type 0
StopsAdding state old (Full ledger) = (ledger ≡ old) × (old.full ≡ true) × (Tells old.disk → is_full old.records ≡ true)
StopsAdding state old (Disk disk) = Rose old.disk.faults (state disk).faults × HadRoom old
StopsAdding state old (Memory disk) = (state disk ≡ old.disk) ⊎ HadRoom old
