-- The small units of the examples.
use Rattle.std.specs.Prelude.{List, ◌∷◌}
use Rattle.rig.specs.declared.unit.Row.{Row}
use Rattle.rig.specs.declared.unit.Row.TheVariants.{Wire}

-- wires from 0 to 1 and from 2 to 3, and more rows
abbrev pub two_wires_and : List Row → List Row
two_wires_and rows = Wire 0 1 ∷ Wire 2 3 ∷ rows
