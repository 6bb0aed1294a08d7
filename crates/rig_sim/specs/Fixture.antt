-- What is read of a unit in the fixture.
use Rattle.std.specs.Prelude.{◌≡◌, ◌<◌, ℕ, Bool, false, List, [], ◌∷◌, Option, Some, slice_get, slice_index_or, sum_by, length, map, if◌then◌else◌}
use Rattle.std.specs.List.{list_any}
use Rattle.partition.specs.Classes.{class_at}
use Rattle.rig.specs.declared.unit.Row.{Row}
use Rattle.rig.specs.declared.unit.Unit.{Unit as HarnessUnit}
use Rattle.rig.specs.Joins.{unit_rows}
use Rattle.rig.specs.Values.{touches, same_class, resistance_of, drop_of, element_at, row_arcs, row_conductance}
use Rattle.rig.specs.declared.event.Leak.{Leak as LeakReading}
use Rattle.rig.specs.declared.event.Leak.TheVariants.{Arc as ArcRead, PicoSiemens}

-- the unit stands there, and is the first with this serial and attempt
pub record IsPlaceOf (units : List HarnessUnit) (serial : List ℕ) (attempt i : ℕ) (unit : HarnessUnit) : Type 0 where
  pub stands : slice_get units i ≡ Some unit
  pub first : unit_rows units serial attempt ≡ Some unit.rows

-- A mark stands at the number of each class that the group touches.
pub record AreMarks (classes group : List ℕ) (marks : List Bool) : Type 0 where
  pub size : length marks ≡ length classes
  pub marked : (p : ℕ) → p < length classes → slice_index_or marks (class_at classes p) false ≡ touches classes p group

-- whether some point of the one group has one class with some point of the other
abbrev pub met_by : List ℕ → List ℕ → List ℕ → Bool
met_by classes a b = list_any (λ q. touches classes q a) b

-- the states of units that never move: each the unit itself
abbrev pub states_alone : List HarnessUnit → List (List (List Row))
states_alone units = map (λ (u : HarnessUnit). u.rows ∷ []) units

-- the readings of a resistor, of a diode and of a leak, where the joined classes are these
abbrev pub ohms_by : List ℕ → List Row → ℕ → ℕ → Option ℕ
ohms_by classes rows a b = if same_class classes a b then Some 0 else resistance_of (element_at rows classes a b)

abbrev pub junction_by : List ℕ → List Row → ℕ → ℕ → Option ℕ
junction_by classes rows a b = if same_class classes a b then Some 0 else drop_of classes a b (element_at rows classes a b)

abbrev pub leak_by : List ℕ → List Row → List ℕ → List ℕ → ℕ → LeakReading
leak_by classes rows a b v = if list_any (row_arcs classes a b v) rows then ArcRead else PicoSiemens (sum_by (row_conductance classes a b) rows)
