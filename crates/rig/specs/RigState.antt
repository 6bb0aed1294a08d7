-- What a rig is, as contracts see it.
use Rattle.std.specs.Prelude.{ℕ, Bool, List, Option}
use Rattle.rig.specs.declared.event.Event.{Event}
use Rattle.rig.specs.declared.event.Tally.{Tally}
use Rattle.rig.specs.declared.path.Path.{Path}
use Rattle.rig.specs.declared.unit.Row.{Row}
use Rattle.rig.specs.declared.unit.Unit.{Unit}

-- the two groups of points that a route connects to the source
pub record Groups : Type 0 where
  pub left : List ℕ
  pub right : List ℕ

-- `faults` counts the calls that failed, `opens` the interlock readings that were open, `spent` the group readings and `seats` the
-- seat calls; each stops at the last value of its counter.
-- `volts` is the last commanded voltage, `route` the groups of the route that stands, `closed_now` whether the interlock was read
-- closed with no tick since, `spare` the number of zero calls that there is room for, `states_left` how often the unit can still move.
-- The parts under `Option` are there where the rig tells them: bounds of its faults and open readings, its units, the rows of the
-- seated unit, the events since the last seat that answered, one tally for each seating, the resistances read since that seat, the
-- states of each unit, and those that the seated unit has still to come.
pub record RigState : Type 0 where
  pub points : ℕ
  pub honest : Bool
  pub faults : ℕ
  pub opens : ℕ
  pub spent : ℕ
  pub seats : ℕ
  pub volts : ℕ
  pub seated : Bool
  pub route : Option Groups
  pub closed_now : Bool
  pub spare : ℕ
  pub states_left : ℕ
  pub most_faults : Option ℕ
  pub most_opens : Option ℕ
  pub units : Option (List Unit)
  pub truth : Option (List Row)
  pub trail : Option (List Event)
  pub tallies : Option (List Tally)
  pub measured : Option (List (ℕ × ℕ × Path))
  pub states : Option (List (List (List Row)))
  pub coming : Option (List (List Row))
