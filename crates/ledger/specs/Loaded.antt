-- What a loading hands back.
use Rattle.std.specs.Prelude.{◌<◌, ◌^◌, length, Result, Ok, Err}
use Rattle.disk_edge.specs.Disk.{DiskState}
use Rattle.disk_edge.specs.declared.disk.Disk.{Ghosts}
use Rattle.journal.specs.Append.{state_of, count_of}
use Rattle.ledger.specs.declared.loading.Loaded.{Loaded}
use Rattle.ledger.specs.declared.stop.MountStop.{MountStop}
use Rattle.ledger.specs.Ledger.{IsBooked}
use Rattle.ledger.specs.Opening.{Opening, found, refused, disk_of_stop}

-- what the disk that comes back means
abbrev pub state_loaded : {D : Type 0} {g : Ghosts D} → Result (Loaded D g) (MountStop D) → DiskState
state_loaded (Ok loaded) = state_of loaded.journal
state_loaded {D} {g} (Err stop) = g.state (disk_of_stop stop)

-- what is answered
abbrev pub opening_loaded : {D : Type 0} {g : Ghosts D} → Result (Loaded D g) (MountStop D) → Opening
opening_loaded (Ok loaded) = found loaded.records
opening_loaded (Err stop) = refused stop

-- the records are those of the journal, in range and few, and each image of its disk is these at rest
pub record IsLoaded {D : Type 0} {g : Ghosts D} (loaded : Loaded D g) : Type 0 where
  pub booked : IsBooked (state_of loaded.journal) (count_of loaded.journal) loaded.records
  pub few : length loaded.records < 2 ^ 32
