-- A call that did nothing.
use Rattle.std.specs.Prelude.{◌≡◌}
use Rattle.applications.specs.declared.stop.HvStop.{HvStop}
use Rattle.applications.specs.declared.stop.HvStop.TheVariants.{InterlockOpen, NotDischarged, RigWhileSafe, RigBefore, NotZero, Memory}

-- memory ran out, and the rig is as it was
abbrev pub IsUntouched : {R : Type 0} → R → HvStop R → Type 0
IsUntouched rig (Memory now) = now ≡ rig
IsUntouched rig (InterlockOpen safe) = ⊥
IsUntouched rig (NotDischarged safe v) = ⊥
IsUntouched rig (RigWhileSafe safe) = ⊥
IsUntouched rig (RigBefore proven) = ⊥
IsUntouched rig (NotZero stuck) = ⊥
