-- The one spelling of each record. Numbers have their high byte first.
--     outcome_bytes o     a tag, and what belongs to it
--     body_bytes b        the fields of a record's kind
--     record_bytes r      the kind, the moment, the id, and the fields
use Rattle.std.specs.Prelude.{ℕ, List, [], ◌∷◌, ◌++◌, length, Option, Some, None}
use Rattle.std.specs.List.{flat_map}
use Rattle.std.specs.Int.{to_be_bytes, w16, w32, w64}
use Rattle.difference.specs.declared.wiring.Piece.{Piece}
use Rattle.difference.specs.declared.wiring.Short.{Short}
use Rattle.difference.specs.declared.wiring.Difference.{Difference}
use Rattle.wirelist.specs.declared.faults.PartFault.{PartFault}
use Rattle.wirelist.specs.declared.faults.PartFaultKind.{PartFaultKind}
use Rattle.wirelist.specs.declared.faults.PartFaultKind.TheVariants.{Low, High, OpenPart, WrongWay, Leaky}
use Rattle.wirelist.specs.declared.faults.LeakFault.{LeakFault}
use Rattle.wirelist.specs.declared.outcome.Outcome.{Outcome}
use Rattle.wirelist.specs.declared.outcome.Outcome.TheVariants.{Pass, Wiring, Parts, Insulation, Withstand}
use Rattle.wirelist.specs.declared.program.Program.{Program}
use Rattle.wirelist.specs.Canonical.{canonical}
use Rattle.records.specs.declared.record.Staff.{Staff}
use Rattle.records.specs.declared.record.Body.{Body}
use Rattle.records.specs.declared.record.Body.TheVariants.{Adopt, Enrol, Calibrate, Tested, Rework, Release, Scrap, Mark}
use Rattle.records.specs.declared.record.StationRecord.{StationRecord}

-- numbers of 16, 32 and 64 bits
abbrev pub two_bytes : ℕ → List ℕ
two_bytes n = to_be_bytes w16 n

abbrev pub four_bytes : ℕ → List ℕ
four_bytes n = to_be_bytes w32 n

abbrev pub eight_bytes : ℕ → List ℕ
eight_bytes n = to_be_bytes w64 n

-- one byte of length, and the bytes of the name
abbrev pub name_bytes : List ℕ → List ℕ
name_bytes name = length name ∷ name

-- two bytes of count, and each item
unfoldable pub counted : {X : Type 0} → (X → List ℕ) → List X → List ℕ
counted bytes items = two_bytes (length items) ++ flat_map bytes items

-- net, class, and the counted points
abbrev pub piece_bytes : Piece → List ℕ
piece_bytes p = two_bytes p.net ++ (two_bytes p.class ++ counted two_bytes p.points)

-- class, and the counted nets
abbrev pub short_bytes : Short → List ℕ
short_bytes s = two_bytes s.class ++ counted two_bytes s.nets

-- the counted opens, shorts and miswires
abbrev pub difference_bytes : Difference → List ℕ
difference_bytes d = counted piece_bytes d.opens ++ (counted short_bytes d.shorts ++ counted piece_bytes d.miswires)

-- one byte of kind, and the reading; 0 where there is none
abbrev pub kind_bytes : PartFaultKind → List ℕ
kind_bytes (Low v) = 0 ∷ eight_bytes v
kind_bytes (High v) = 1 ∷ eight_bytes v
kind_bytes OpenPart = 2 ∷ eight_bytes 0
kind_bytes (WrongWay v) = 3 ∷ eight_bytes v
kind_bytes (Leaky v) = 4 ∷ eight_bytes v

-- the component, and how it is at fault
abbrev pub part_fault_bytes : PartFault → List ℕ
part_fault_bytes f = two_bytes f.part ++ kind_bytes f.kind

-- no reading is an arc
abbrev pub leak_bytes : Option ℕ → List ℕ
leak_bytes None = 0 ∷ eight_bytes 0
leak_bytes (Some g) = 1 ∷ eight_bytes g

-- the cluster, and its reading
abbrev pub leak_fault_bytes : LeakFault → List ℕ
leak_fault_bytes f = two_bytes f.cluster ++ leak_bytes f.reading

-- one byte of tag, and what belongs to it
abbrev pub outcome_bytes : Outcome → List ℕ
outcome_bytes Pass = 0 ∷ []
outcome_bytes (Wiring d) = 1 ∷ difference_bytes d
outcome_bytes (Parts faults) = 2 ∷ counted part_fault_bytes faults
outcome_bytes (Insulation faults) = 3 ∷ counted leak_fault_bytes faults
outcome_bytes (Withstand bit volts leak) = 4 ∷ bit ∷ (two_bytes volts ++ leak_bytes leak)

-- a test has another kind where it names who made it and where
abbrev pub test_kind : Option Staff → ℕ
test_kind None = 4
test_kind (Some staff) = 9

-- the first byte of a record
abbrev pub kind_of : Body → ℕ
kind_of (Adopt p) = 1
kind_of (Enrol serial) = 2
kind_of (Calibrate day) = 3
kind_of (Tested serial attempt staff outcome) = test_kind staff
kind_of (Rework serial) = 5
kind_of (Release serial) = 6
kind_of (Scrap serial) = 7
kind_of Mark = 8

-- four bytes of length, and the program's canonical text
abbrev pub program_bytes : Program → List ℕ
program_bytes p = four_bytes (length (canonical p)) ++ canonical p

-- who made a test, and where
abbrev pub staff_bytes : Option Staff → List ℕ
staff_bytes None = []
staff_bytes (Some staff) = name_bytes staff.operator ++ name_bytes staff.fixture

-- a unit's serial, the number of its test, who made it and where, and what was found
abbrev pub tested_bytes : List ℕ × ℕ × Option Staff × Outcome → List ℕ
tested_bytes t = name_bytes t.0 ++ (t.1 ∷ (staff_bytes t.2 ++ outcome_bytes t.3))

-- the fields of each kind
abbrev pub body_bytes : Body → List ℕ
body_bytes (Adopt p) = program_bytes p
body_bytes (Enrol serial) = name_bytes serial
body_bytes (Calibrate day) = four_bytes day
body_bytes (Tested serial attempt staff outcome) = tested_bytes (serial, attempt, staff, outcome)
body_bytes (Rework serial) = name_bytes serial
body_bytes (Release serial) = name_bytes serial
body_bytes (Scrap serial) = name_bytes serial
body_bytes Mark = []

-- the kind, the moment, the id, and the fields
abbrev pub record_bytes : StationRecord → List ℕ
record_bytes r = kind_of r.body ∷ (eight_bytes r.moment ++ (name_bytes r.id ++ body_bytes r.body))
