-- The order of high voltage at every exit. Below, `classes` is the partition that was proven, and `bonds` the one whose classes
-- no voltage may stand across.
--     IsInOrder classes bonds state        the trail is in the order of high voltage and ended at zero
--     IsStuckInOrder classes bonds state   it is in this order and ended with three zero calls that failed
--     StopsInOrder ..                      so it is after a stop
--     StopsAtZero state stop               the source is at zero, told or not
use Rattle.std.specs.Prelude.{◌≡◌, ℕ, List, IfSome, ⊤}
use Rattle.rig.specs.RigState.{RigState}
use Rattle.rig.specs.HvOrder.{HvOrder}
use Rattle.rig.specs.Source.{Ends, StuckEnd}
use Rattle.applications.specs.declared.stop.HvStop.{HvStop}
use Rattle.applications.specs.declared.stop.HvStop.TheVariants.{InterlockOpen, NotDischarged, RigWhileSafe, RigBefore, NotZero, Memory}

-- where a trail is told, it is in the order of high voltage, and the last Raise or Zero was a Zero that was done
abbrev pub IsInOrder : List ℕ → List ℕ → RigState → Type 0
IsInOrder classes bonds state = IfSome state.trail (λ trail. HvOrder classes bonds trail × Ends trail)

-- or the last three Raises and Zeros were Zeros that failed
abbrev pub IsStuckInOrder : List ℕ → List ℕ → RigState → Type 0
IsStuckInOrder classes bonds state = IfSome state.trail (λ trail. HvOrder classes bonds trail × StuckEnd trail)

abbrev pub StopsInOrder : {R : Type 0} → (R → RigState) → List ℕ → List ℕ → HvStop R → Type 0
StopsInOrder state classes bonds (InterlockOpen safe) = IsInOrder classes bonds (state safe.rig)
StopsInOrder state classes bonds (NotDischarged safe v) = IsInOrder classes bonds (state safe.rig)
StopsInOrder state classes bonds (RigWhileSafe safe) = IsInOrder classes bonds (state safe.rig)
StopsInOrder state classes bonds (RigBefore proven) = IsInOrder classes bonds (state proven.rig)
StopsInOrder state classes bonds (NotZero stuck) = IsStuckInOrder classes bonds (state stuck)
StopsInOrder state classes bonds (Memory rig) = IsInOrder classes bonds (state rig)

-- the rig is at zero after each stop but one after three zero calls that failed
abbrev pub StopsAtZero : {R : Type 0} → (R → RigState) → HvStop R → Type 0
StopsAtZero state (InterlockOpen safe) = (state safe.rig).volts ≡ 0
StopsAtZero state (NotDischarged safe v) = (state safe.rig).volts ≡ 0
StopsAtZero state (RigWhileSafe safe) = (state safe.rig).volts ≡ 0
StopsAtZero state (RigBefore proven) = (state proven.rig).volts ≡ 0
StopsAtZero state (NotZero stuck) = ⊤
StopsAtZero state (Memory rig) = (state rig).volts ≡ 0
