-- The joins of a unit's rows.
--     joins_of rows            wires, and resistors of at most 10,000 milliohms
--     IsRowBelow n row         a row lies between points below n
--     Joined rows a b          a is b, or a walk of joins leads from a to b
--     joined_classes rows n    the classes of `Joined` among n points
--     truth_of rows js n       these classes, cut down to the points js
--     unit_rows units s a      the rows of the first unit with this serial and attempt, if there is one
use Rattle.std.specs.Prelude.{ℕ, ◌<◌, ⊤, Bool, nat_le, List, Option, Some, None, filter_map, find, ◌==◌, ◌&&◌, option_map, if◌then◌else◌, bytes_eq}
use Rattle.partition.specs.Classes.{class_at, classes_by, Walk, joined_by}
use Rattle.rig.specs.declared.unit.Row.{Row}
use Rattle.rig.specs.declared.unit.Row.TheVariants.{Wire, Resistor, Diode, Leak, Arc, Charge}
use Rattle.rig.specs.declared.unit.Unit.{Unit}

-- a resistor of at most so many milliohms is a join
abbrev pub most_join : ℕ
most_join = 10000

-- the ends of a row that is a join
abbrev pub join_of : Row → Option (ℕ × ℕ)
join_of (Wire a b) = Some (a, b)
join_of (Resistor a b r) = if nat_le r most_join then Some (a, b) else None
join_of (Diode a b d) = None
join_of (Leak a b g) = None
join_of (Arc a b v) = None
join_of (Charge v x) = None

abbrev pub joins_of : List Row → List (ℕ × ℕ)
joins_of rows = filter_map join_of rows

-- a row lies between points below n
abbrev pub IsRowBelow : ℕ → Row → Type 0
IsRowBelow n (Wire a b) = (a < n) × (b < n)
IsRowBelow n (Resistor a b r) = (a < n) × (b < n)
IsRowBelow n (Diode a b d) = (a < n) × (b < n)
IsRowBelow n (Leak a b g) = (a < n) × (b < n)
IsRowBelow n (Arc a b v) = (a < n) × (b < n)
IsRowBelow n (Charge v x) = ⊤

-- a is b, or a walk of joins leads from a to b
abbrev pub Joined : List Row → ℕ → ℕ → Type 0
Joined rows a b = Walk (joins_of rows) a b

-- the classes of the joined points among n points: two points have one class exactly where they are joined
abbrev pub joined_classes : List Row → ℕ → List ℕ
joined_classes rows n = joined_by (joins_of rows) n

-- the classes of the joined points, cut down to the points js; walks may pass through any point
abbrev pub truth_of : List Row → List ℕ → ℕ → List ℕ
truth_of rows js n = classes_by js n (class_at (joined_classes rows n))

-- whether a unit has this serial and attempt
abbrev pub is_unit : List ℕ → ℕ → Unit → Bool
is_unit serial attempt unit = bytes_eq unit.serial serial && unit.attempt == attempt

-- the rows of the first unit with this serial and attempt
abbrev pub unit_rows : List Unit → List ℕ → ℕ → Option (List Row)
unit_rows units serial attempt = option_map (λ (u : Unit). u.rows) (find (is_unit serial attempt) units)
