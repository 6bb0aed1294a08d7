-- What a mounting hands back.
use Rattle.std.specs.Prelude.{Result, Ok, Err}
use Rattle.disk_edge.specs.Disk.{DiskState}
use Rattle.ledger.specs.declared.stop.MountStop.{MountStop}
use Rattle.ledger.specs.Opening.{Opening, found, refused, disk_of_stop}
use Rattle.station.specs.View.{StationState}

-- what the disk that comes back means
abbrev pub state_mounted : {D : Type 0} → (D → DiskState) → Result StationState (MountStop D) → DiskState
state_mounted state (Ok station) = station.disk
state_mounted state (Err stop) = state (disk_of_stop stop)

-- what is answered
abbrev pub opening_mounted : {D : Type 0} → Result StationState (MountStop D) → Opening
opening_mounted (Ok station) = found station.records
opening_mounted (Err stop) = refused stop
