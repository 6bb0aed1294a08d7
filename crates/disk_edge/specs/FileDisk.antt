-- A disk of which nothing is told.
use Rattle.std.specs.Prelude.{◌≡◌, ℕ, List, [], true, false, None, Some}
use Rattle.disk_edge.specs.Disk.{DiskState, IsImage, settled}

abbrev pub untold : ℕ → DiskState
untold faults = record { reads_as = None; present = settled []; past = []; honest = false; faults = faults }

pub untold_law : (faults : ℕ) (all : List ℕ) → false ≡ true → None ≡ Some all → IsImage (settled []) all
untold_law faults all honest told = absurd (cc)
