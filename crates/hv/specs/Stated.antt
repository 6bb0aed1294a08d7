-- The reading that a fault states.
use Rattle.std.specs.Prelude.{ℕ, Option, Some, None}
use Rattle.rig.specs.declared.event.Leak.{Leak}
use Rattle.rig.specs.declared.event.Leak.TheVariants.{Arc, PicoSiemens}

-- the picosiemens of a leak, and none for an arc
abbrev pub stated_leak : Leak → Option ℕ
stated_leak Arc = None
stated_leak (PicoSiemens g) = Some g
