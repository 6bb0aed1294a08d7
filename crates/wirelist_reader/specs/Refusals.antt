-- Why a wirelist is refused: all of its faults, in the order in which they are told.
--     row_faults rows i      the faults of record i, below those before it
--     refusals bytes         the faults of a file; it is refused for the first of them
use Rattle.std.specs.Prelude.{is_some, ◌≡◌, ◌⊎◌, Result, Ok, Err, ℕ, ◌+◌, Bool, true, false, ◌&&◌, ◌||◌, ◌==◌, not, min, nat_lt, nat_le, bytes_eq}
use Rattle.std.specs.Prelude.{List, [], ◌∷◌, ◌++◌, Option, None, Some, length, take, filter, map, slice_get, slice_index_or, if◌then◌else◌}
use Rattle.std.specs.List.{flat_map, list_any, list_all}
use Rattle.wirelist_rows.specs.Filled.{rows_in}
use Rattle.partition.specs.Classes.{points_below, has}
use Rattle.partition.specs.NetTable.{NetTable, judged_points, net_at}
use Rattle.partition.specs.NetFaults.{all_faults}
use Rattle.wirelist.specs.Clusters.{cluster_count}
use Rattle.wirelist.specs.Numbers.{points}
use Rattle.wirelist.specs.Ranges.{most_parts, most_clusters}
use Rattle.wirelist.specs.declared.program.Program.{Program}
use Rattle.wirelist.specs.declared.refusal.WireRefusal.{WireRefusal}
use Rattle.wirelist.specs.declared.refusal.WireRefusal.TheVariants as wire
use Rattle.wirelist_reader.specs.Kinds.{kind_of, number, is_number, bad_fields}
use Rattle.wirelist_reader.specs.Rows.{field_at, is_kind, is_named, is_component, row_at, number_at, points_in, listed_nets, listed_ignored, ends_of}
use Rattle.wirelist_reader.specs.Rows.{program_of}
use Rattle.wirelist_reader.specs.declared.parts.PartEnds.{PartEnds}
use Rattle.wirelist_reader.specs.declared.kind.Kind.{Kind}
use Rattle.wirelist_reader.specs.declared.kind.Kind.TheVariants.{Part, Points, Net, Ignore, Resistor, Diode, Insulation, Withstand, Attempts}

-- the greatest number of bytes
abbrev pub most_bytes : ℕ
most_bytes = 1048576

-- a fault where the condition holds
abbrev pub fault_if : Bool → WireRefusal → List WireRefusal
fault_if condition fault = if condition then fault ∷ [] else []

-- a byte that is no printable ASCII
abbrev pub is_text : List ℕ → Bool
is_text field = list_all (λ byte. nat_le 32 byte && nat_le byte 126) field

-- rows of which a file has one at most
abbrev pub is_single : Kind → Bool
is_single Part = true
is_single Points = true
is_single Net = false
is_single Ignore = true
is_single Resistor = false
is_single Diode = false
is_single Insulation = true
is_single Withstand = true
is_single Attempts = true

-- the names that are given to nets and components
abbrev pub names_in : List (List (List ℕ)) → List (List ℕ)
names_in rows = map (λ row. field_at row 1) (filter is_named rows)

-- the field is the number of a `points` row, and is too great by less than 2^32
abbrev pub is_too_many : List (List ℕ) → ℕ → Bool
is_too_many row place = is_kind Points row && ((place == 1) && is_number (points.most + 1) 4294967295 (field_at row 1))

-- a bad field of row n is told with its number, which is one more than its place; too many points are told as such
abbrev pub bad_field : List (List ℕ) → ℕ → ℕ → WireRefusal
bad_field row n place = if is_too_many row place then wire.TooManyPoints (number (field_at row 1)) else wire.BadField n (place + 1)

-- the faults of the fields of row n
abbrev pub field_faults : Kind → List (List ℕ) → ℕ → List WireRefusal
field_faults kind row n = map (bad_field row n) (bad_fields kind row)

-- a field is to be printable ASCII
abbrev pub text_faults : List (List ℕ) → ℕ → List WireRefusal
text_faults row n = fault_if (not (list_all is_text row)) (wire.NotText n)

-- a file has one such row at most
abbrev pub single_faults : Kind → List (List (List ℕ)) → ℕ → List WireRefusal
single_faults kind before n = fault_if (is_single kind && list_any (is_kind kind) before) (wire.SecondRow n)

-- a name is given once
abbrev pub name_faults : List (List (List ℕ)) → List (List ℕ) → ℕ → List WireRefusal
name_faults before row n =
    fault_if (is_named row && list_any (bytes_eq (field_at row 1)) (names_in before)) (wire.SameName n)

-- the least value of a window is not above the greatest
abbrev pub window_faults : List (List ℕ) → ℕ → List WireRefusal
window_faults row n = fault_if (is_component row && nat_lt (number_at row 5) (number_at row 4)) (wire.BadWindow n)

-- components are 512 at most
abbrev pub count_faults : List (List (List ℕ)) → List (List ℕ) → ℕ → List WireRefusal
count_faults before row n =
    fault_if (is_component row && nat_le most_parts (length (filter is_component before))) (wire.TooManyParts n)

-- the faults of a row whose fields are what they may be
abbrev pub late_faults : List (List (List ℕ)) → List (List ℕ) → ℕ → List WireRefusal
late_faults before row n = name_faults before row n ++ (window_faults row n ++ count_faults before row n)

-- the faults of row n, which is of this kind, below the rows before it
abbrev pub kind_faults : Option Kind → List (List (List ℕ)) → List (List ℕ) → ℕ → List WireRefusal
kind_faults None before row n = wire.UnknownKind n ∷ []
kind_faults (Some kind) before row n = single_faults kind before n ++ (field_faults kind row n ++ late_faults before row n)

-- the faults of the row at a place; a row without fields has none
abbrev pub row_faults : List (List (List ℕ)) → ℕ → List WireRefusal
row_faults rows i =
    if length (row_at rows i) == 0 then []
    else text_faults (row_at rows i) (i + 1) ++ kind_faults (kind_of (field_at (row_at rows i) 0)) (take i rows) (row_at rows i) (i + 1)

-- the faults of all rows
abbrev pub all_row_faults : List (List (List ℕ)) → List WireRefusal
all_row_faults rows = flat_map (row_faults rows) (points_below (length rows))

-- two components lie between the same two nets
abbrev pub joins_same : NetTable → PartEnds → PartEnds → Bool
joins_same t x y =
    ((net_at t x.a == net_at t y.a) && (net_at t x.b == net_at t y.b))
    || ((net_at t x.a == net_at t y.b) && (net_at t x.b == net_at t y.a))

-- The faults of a component, below those before it: an end that is no judged point, or what it has with the nets and with others.
-- It is told by the number of its record.
abbrev pub component_faults : NetTable → List PartEnds → PartEnds → List WireRefusal
component_faults t before part =
    if has (judged_points t) part.a && has (judged_points t) part.b
    then fault_if (net_at t part.a == net_at t part.b) (wire.PartInsideNet part.record_number)
    ++ fault_if (list_any (joins_same t part) before) (wire.SecondPart part.record_number)
    else wire.PartPoint part.record_number ∷ []

-- no component
abbrev pub no_ends : PartEnds
no_ends = record { record_number = 0; a = 0; b = 0 }

-- the faults of all components, in order of component number
abbrev pub part_faults : NetTable → List PartEnds → List WireRefusal
part_faults t parts = flat_map (λ c. component_faults t (take c parts) (slice_index_or parts c no_ends)) (points_below (length parts))

-- clusters of judged points that are too many to have their insulation tested
abbrev pub cluster_faults : Program → List WireRefusal
cluster_faults p = fault_if (is_some p.insulation && nat_lt most_clusters (cluster_count p)) (wire.TooManyClusters (cluster_count p))

-- a part and a number of points are named
abbrev pub head_faults : List (List (List ℕ)) → List WireRefusal
head_faults rows = fault_if (not (list_any (is_kind Part) rows && list_any (is_kind Points) rows)) wire.NoPart

-- the nets are nets, the ignored points are points of none of them, and some point is judged
abbrev pub net_faults : List (List (List ℕ)) → List WireRefusal
net_faults rows = map wire.Nets (all_faults (points_in rows) (listed_nets rows) (listed_ignored rows))

-- the faults of the components, then of the clusters
abbrev pub later_faults : List (List (List ℕ)) → List WireRefusal
later_faults rows = part_faults (program_of rows).nets (ends_of rows) ++ cluster_faults (program_of rows)

-- the faults of rows: of each by itself, that a row is missing, of the nets, of the components, of the clusters
abbrev pub rows_refusals : List (List (List ℕ)) → List WireRefusal
rows_refusals rows = all_row_faults rows ++ (head_faults rows ++ (net_faults rows ++ later_faults rows))

-- The faults of a file. One that is too long is refused for that alone; a length above 2^32 - 1 is told as that.
abbrev pub refusals : List ℕ → List WireRefusal
refusals bytes =
    if nat_lt most_bytes (length bytes) then wire.TooLong (min (length bytes) 4294967295) ∷ []
    else rows_refusals (rows_in bytes)

-- a check finds the first of some faults, or that there is none
abbrev pub Finds : {A : Type 0} → List WireRefusal → Result A WireRefusal → Type 0
Finds faults (Ok x) = faults ≡ []
Finds faults (Err e) = slice_get faults 0 ≡ Some e

-- the same, but that memory may run out
abbrev pub FindsOrMemory : {A : Type 0} → List WireRefusal → Result A WireRefusal → Type 0
FindsOrMemory faults (Ok x) = faults ≡ []
FindsOrMemory faults (Err e) = (e ≡ wire.Memory) ⊎ (slice_get faults 0 ≡ Some e)
