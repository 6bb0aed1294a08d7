-- The order of high voltage behind a connection.
use Rattle.std.specs.Prelude.{Result, Ok, Err}
use Rattle.rig.specs.RigState.{RigState}
use Rattle.partition.specs.NetTable.{programmed_of}
use Rattle.wirelist.specs.Clusters.{cluster_classes}
use Rattle.applications.specs.Ordered.{IsStuckInOrder}
use Rattle.station.specs.declared.stops.StepStop.{StepStop}
use Rattle.station.specs.declared.stops.StepStop.TheVariants.{Disk, NotZero, Memory}
use Rattle.station.specs.RigAfter.{StaysInOrder}
use Rattle.station.specs.View.{StationState}
use Rattle.station_http.specs.declared.serve.ServeDone.{ServeDone}

-- No seat answered, and the trail is that before; or it is in the order of high voltage and ended at zero. Where three zero calls failed
-- it is in this order and ended with them.
abbrev pub LeavesInOrder : {R D : Type 0} → (R → RigState) → StationState → Result (ServeDone R D) (StepStop R D) → Type 0
LeavesInOrder state old (Ok done) = StaysInOrder old.program old.rig done.station.rig
LeavesInOrder state old (Err (Disk rig disk)) = StaysInOrder old.program old.rig (state rig)
LeavesInOrder state old (Err (NotZero rig disk)) = IsStuckInOrder (programmed_of old.program.nets) (cluster_classes old.program) (state rig)
LeavesInOrder state old (Err (Memory rig disk)) = StaysInOrder old.program old.rig (state rig)
