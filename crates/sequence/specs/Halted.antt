-- The stops of a unit's test that stops of its stages are.
--     seat_stop stop     that of a seat
--     unit_stop stop     that of a test at high voltage
--     parts_stop stop    that of a check of components
use Rattle.applications.specs.declared.stop.HvStop.{HvStop}
use Rattle.applications.specs.declared.stop.HvStop.TheVariants as hv
use Rattle.parts_check.specs.declared.check.PartsStop.{PartsStop}
use Rattle.parts_check.specs.declared.check.PartsStop.TheVariants as parts
use Rattle.rig.specs.declared.seated.SeatStop.{SeatStop}
use Rattle.rig.specs.declared.seated.SeatStop.TheVariants as seat
use Rattle.unit_outcome.specs.declared.run.UnitStop.{UnitStop}
use Rattle.unit_outcome.specs.declared.run.UnitStop.TheVariants.{Empty, InterlockOpen, NotDischarged, RigFault, NotZero, Memory}

abbrev pub seat_stop : {R : Type 0} → SeatStop R → UnitStop R
seat_stop (seat.Absent rig) = Empty rig
seat_stop (seat.Rig rig) = RigFault rig
seat_stop (seat.Memory rig) = Memory rig

abbrev pub unit_stop : {R : Type 0} → HvStop R → UnitStop R
unit_stop (hv.InterlockOpen safe) = InterlockOpen safe.rig
unit_stop (hv.NotDischarged safe volts) = NotDischarged safe.rig volts
unit_stop (hv.RigWhileSafe safe) = RigFault safe.rig
unit_stop (hv.RigBefore proven) = RigFault proven.rig
unit_stop (hv.NotZero stuck) = NotZero stuck
unit_stop (hv.Memory rig) = Memory rig

abbrev pub parts_stop : {R : Type 0} → PartsStop R → UnitStop R
parts_stop (parts.Rig proven) = RigFault proven.rig
parts_stop (parts.Memory proven) = Memory proven.rig
