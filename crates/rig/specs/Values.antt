-- What a rig reads of a unit beside its joins. Below, `classes` are the joined classes of the unit's n points.
--     element_at rows classes a b    the first element between the classes of two points
--     ohms_of, junction_of           the readings of a resistor and of a diode
--     crosses classes a b p q        an element between p and q crosses the groups a and b
--     conductance rows n a b         the conductance between two groups, in picosiemens
--     arcs rows n a b v              two groups arc at v volts
--     leak_of rows n a b v           the reading of a leak at v volts
--     charge_of rows                 the volts and ticks of the unit's charge
use Rattle.std.specs.Prelude.{ℕ, ◌/◌, ◌^◌, ◌==◌, ◌&&◌, ◌||◌, Bool, false, nat_le, nat_lt, List, Option, Some, None, find, sum_by, if◌then◌else◌}
use Rattle.std.specs.Prelude.{filter_map, [], ◌∷◌}
use Rattle.std.specs.List.{list_any}
use Rattle.partition.specs.Classes.{class_at}
use Rattle.rig.specs.Joins.{joined_classes, most_join}
use Rattle.rig.specs.declared.unit.Row.{Row}
use Rattle.rig.specs.declared.unit.Row.TheVariants.{Wire, Resistor, Diode, Leak, Arc, Charge}
use Rattle.rig.specs.declared.event.Leak.{Leak as LeakReading}
use Rattle.rig.specs.declared.event.Leak.TheVariants.{Arc as ArcRead, PicoSiemens}

-- whether two points have one class
abbrev pub same_class : List ℕ → ℕ → ℕ → Bool
same_class classes p q = class_at classes p == class_at classes q

-- whether a point has one class with some point of the group
abbrev pub touches : List ℕ → ℕ → List ℕ → Bool
touches classes p group = list_any (λ q. same_class classes p q) group

-- whether an element from p to q goes from the class of a to the class of b
abbrev pub leads : List ℕ → ℕ → ℕ → ℕ → ℕ → Bool
leads classes a b p q = same_class classes p a && same_class classes q b

-- whether a row is a diode or a resistor that is no join, between the classes of a and b
abbrev pub is_element_at : List ℕ → ℕ → ℕ → Row → Bool
is_element_at classes a b (Resistor p q r) = nat_lt most_join r && (leads classes a b p q || leads classes b a p q)
is_element_at classes a b (Diode p q d) = leads classes a b p q || leads classes b a p q
is_element_at classes a b (Wire p q) = false
is_element_at classes a b (Leak p q g) = false
is_element_at classes a b (Arc p q v) = false
is_element_at classes a b (Charge v x) = false

-- the element between the classes of two points: that of the least line
abbrev pub element_at : List Row → List ℕ → ℕ → ℕ → Option Row
element_at rows classes a b = find (is_element_at classes a b) rows

-- the milliohms of an element that is a resistor
abbrev pub resistance_of : Option Row → Option ℕ
resistance_of None = None
resistance_of (Some (Resistor p q r)) = Some r
resistance_of (Some (Wire p q)) = None
resistance_of (Some (Diode p q d)) = None
resistance_of (Some (Leak p q g)) = None
resistance_of (Some (Arc p q v)) = None
resistance_of (Some (Charge v x)) = None

-- the drop of an element that is a diode from the class of a to that of b
abbrev pub drop_of : List ℕ → ℕ → ℕ → Option Row → Option ℕ
drop_of classes a b None = None
drop_of classes a b (Some (Diode p q d)) = if leads classes a b p q then Some d else None
drop_of classes a b (Some (Wire p q)) = None
drop_of classes a b (Some (Resistor p q r)) = None
drop_of classes a b (Some (Leak p q g)) = None
drop_of classes a b (Some (Arc p q v)) = None
drop_of classes a b (Some (Charge v x)) = None

-- 0 for joined points, else the resistor between their classes, else none
abbrev pub ohms_of : List Row → ℕ → ℕ → ℕ → Option ℕ
ohms_of rows n a b =
    let classes = joined_classes rows n in
    if same_class classes a b then Some 0 else resistance_of (element_at rows classes a b)

-- 0 for joined points, else the drop of the diode from the first class to the second, else none
abbrev pub junction_of : List Row → ℕ → ℕ → ℕ → Option ℕ
junction_of rows n a b =
    let classes = joined_classes rows n in
    if same_class classes a b then Some 0 else drop_of classes a b (element_at rows classes a b)

-- whether an element between p and q crosses the groups a and b: one end is joined with a point of one group, the other with a point of the other
abbrev pub crosses : List ℕ → List ℕ → List ℕ → ℕ → ℕ → Bool
crosses classes a b p q = (touches classes p a && touches classes q b) || (touches classes p b && touches classes q a)

-- the picosiemens of a row between the groups
abbrev pub row_conductance : List ℕ → List ℕ → List ℕ → Row → ℕ
row_conductance classes a b (Leak p q g) = if crosses classes a b p q then g else 0
row_conductance classes a b (Resistor p q r) = if nat_lt most_join r && crosses classes a b p q then 10 ^ 15 / r else 0
row_conductance classes a b (Wire p q) = 0
row_conductance classes a b (Diode p q d) = 0
row_conductance classes a b (Arc p q v) = 0
row_conductance classes a b (Charge v x) = 0

-- the conductance between the groups
abbrev pub conductance : List Row → ℕ → List ℕ → List ℕ → ℕ
conductance rows n a b =
    let classes = joined_classes rows n in
    sum_by (row_conductance classes a b) rows

-- whether a row arcs between the groups at v volts
abbrev pub row_arcs : List ℕ → List ℕ → List ℕ → ℕ → Row → Bool
row_arcs classes a b v (Arc p q w) = nat_le w v && crosses classes a b p q
row_arcs classes a b v (Diode p q d) = crosses classes a b p q
row_arcs classes a b v (Wire p q) = false
row_arcs classes a b v (Resistor p q r) = false
row_arcs classes a b v (Leak p q g) = false
row_arcs classes a b v (Charge w x) = false

-- whether the groups arc at v volts
abbrev pub arcs : List Row → ℕ → List ℕ → List ℕ → ℕ → Bool
arcs rows n a b v =
    let classes = joined_classes rows n in
    list_any (row_arcs classes a b v) rows

-- an arc where the groups arc, else their conductance
abbrev pub leak_of : List Row → ℕ → List ℕ → List ℕ → ℕ → LeakReading
leak_of rows n a b v = if arcs rows n a b v then ArcRead else PicoSiemens (conductance rows n a b)

-- the volts and ticks of a row that is a charge
abbrev pub charge_in : Row → Option (ℕ × ℕ)
charge_in (Charge v x) = Some (v, x)
charge_in (Wire p q) = None
charge_in (Resistor p q r) = None
charge_in (Diode p q d) = None
charge_in (Leak p q g) = None
charge_in (Arc p q v) = None

-- the first charge of the rows; a unit has one at most
abbrev pub first_charge : List (ℕ × ℕ) → Option (ℕ × ℕ)
first_charge [] = None
first_charge (x ∷ xs) = Some x

abbrev pub charge_of : List Row → Option (ℕ × ℕ)
charge_of rows = first_charge (filter_map charge_in rows)
