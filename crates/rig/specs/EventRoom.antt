-- A list of events with room set aside.
use Rattle.std.specs.Prelude.{ℕ, List}
use Rattle.rig.specs.declared.event.Event.{Event}

-- the events, and how many more may be appended without memory
pub record EventRoom : Type 0 where
  pub list : List Event
  pub spare : ℕ
