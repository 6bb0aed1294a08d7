-- A file of the system as clauses see it.
use Rattle.disk_edge.specs.Disk.{DiskState}
use Rattle.disk_edge.specs.FileDisk.{untold}
use Rattle.disk_edge.specs.declared.file_disk.FileDisk.{FileDisk}

abbrev pub file_state : {R F : Type 0} → FileDisk R F → DiskState
file_state disk = untold disk.faults
