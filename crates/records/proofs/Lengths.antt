-- Records are short.
use Rattle.std.proofs.Common.{◌≡◌, ℕ, ◌+◌, ◌*◌, ◌^◌, ◌<◌, ◌≤◌, ◌&&◌, nat_le, List, [], ◌∷◌, ◌++◌, length, Option, None, Some, IfSome, refl, arith, length-append}
use Rattle.std.specs.List.{flat_map, list_all}
use Rattle.std.specs.Char.{is_ascii_alphanumeric}
use Rattle.std.proofs.lemmas.Bool.{and_parts, leb-true}
use Rattle.std.proofs.lemmas.List.Sums.{sum_by-cons}
use Rattle.partition.specs.Names.{IsName, is_name_byte}
use Rattle.difference.specs.declared.wiring.Piece.{Piece}
use Rattle.difference.specs.declared.wiring.Short.{Short}
use Rattle.difference.specs.declared.wiring.Difference.{Difference}
use Rattle.wirelist.specs.declared.faults.PartFault.{PartFault}
use Rattle.wirelist.specs.declared.faults.PartFaultKind.{PartFaultKind}
use Rattle.wirelist.specs.declared.faults.PartFaultKind.TheVariants.{Low, High, OpenPart, WrongWay, Leaky}
use Rattle.wirelist.specs.declared.faults.LeakFault.{LeakFault}
use Rattle.wirelist.specs.declared.outcome.Outcome.{Outcome}
use Rattle.wirelist.specs.declared.outcome.Outcome.TheVariants.{Pass, Wiring, Parts, Insulation, Withstand}
use Rattle.wirelist.specs.declared.program.Program.{Program}
use Rattle.wirelist.specs.Canonical.{canonical}
use Rattle.wirelist.specs.Programs.{IsProgram}
use Rattle.difference.specs.DifferenceRanges.{piece_points, short_nets}
use Rattle.wirelist.specs.Ranges.{most_points, DifferenceInRange, OutcomeInRange}
use Rattle.printed_rows.proofs.Lengths.{canonical_short}
use Rattle.records.specs.declared.record.Staff.{Staff}
use Rattle.records.specs.declared.record.Body.{Body}
use Rattle.records.specs.declared.record.Body.TheVariants.{Adopt, Enrol, Calibrate, Tested, Rework, Release, Scrap, Mark}
use Rattle.records.specs.declared.record.StationRecord.{StationRecord}
use Rattle.records.specs.RecordBytes.{two_bytes, counted, piece_bytes, short_bytes, difference_bytes, kind_bytes, part_fault_bytes, leak_bytes, leak_fault_bytes, outcome_bytes, name_bytes, staff_bytes, body_bytes, record_bytes}
use Rattle.records.specs.RecordRanges.{IsStaff, IsBody, IsRecord, most_bytes}

-- a program's text has fewer than 2^32 bytes
pub text_short : (p : Program) → IsProgram p → length (canonical p) < 2 ^ 32
text_short p is = let short = canonical_short p is in omega arith

name_few : (name : List ℕ) → IsName name → length name ≤ 24
name_few [] is = absurd cc
name_few (b ∷ bs) is =
    let parts = and_parts (is_ascii_alphanumeric b && nat_le (length bs) 23) (list_all is_name_byte bs) is in
    let few = leb-true (length bs) 23 (and_parts (is_ascii_alphanumeric b) (nat_le (length bs) 23) parts.0).1 in
    omega arith

-- ---- lists

pairs_length : (xs : List ℕ) → length (flat_map two_bytes xs) ≡ 2 * length xs
pairs_length [] = refl
pairs_length (x ∷ xs) = let rest = pairs_length xs in omega arith

pub piece_length : (p : Piece) → length (piece_bytes p) ≡ 6 + 2 * length p.points
unfolding counted
piece_length p = let points = pairs_length p.points in omega arith

pub short_length : (s : Short) → length (short_bytes s) ≡ 4 + 2 * length s.nets
unfolding counted
short_length s = let nets = pairs_length s.nets in omega arith

pieces_length : (ps : List Piece) → length (flat_map piece_bytes ps) ≡ 6 * length ps + 2 * piece_points ps
pieces_length [] = refl
pieces_length (p ∷ ps) =
    let rest = pieces_length ps in
    let one = piece_length p in
    let sum = sum_by-cons (λ (x : Piece). length x.points) p ps in
    omega (arith, length-append (piece_bytes p) (flat_map piece_bytes ps))

shorts_length : (ss : List Short) → length (flat_map short_bytes ss) ≡ 4 * length ss + 2 * short_nets ss
shorts_length [] = refl
shorts_length (s ∷ ss) =
    let rest = shorts_length ss in
    let one = short_length s in
    let sum = sum_by-cons (λ (x : Short). length x.nets) s ss in
    omega (arith, length-append (short_bytes s) (flat_map short_bytes ss))

counted_length : {X : Type 0} (bytes : X → List ℕ) (xs : List X) → length (counted bytes xs) ≡ 2 + length (flat_map bytes xs)
unfolding counted
counted_length bytes xs = omega arith

difference_few : (d : Difference) → DifferenceInRange d → length (difference_bytes d) ≤ 20 * most_points + 6
difference_few d fits =
    let opens = pieces_length d.opens in
    let shorts = shorts_length d.shorts in
    let miswires = pieces_length d.miswires in
    let few_opens = fits.opens_in.0 in
    let few_shorts = fits.shorts_in.0 in
    let few_miswires = fits.miswires_in.0 in
    let points = fits.all_points in
    let nets = fits.all_nets in
    omega (
      arith,
      length-append (counted piece_bytes d.opens) (counted short_bytes d.shorts ++ counted piece_bytes d.miswires),
      length-append (counted short_bytes d.shorts) (counted piece_bytes d.miswires),
      counted_length piece_bytes d.opens,
      counted_length short_bytes d.shorts,
      counted_length piece_bytes d.miswires,
    )

kind_length : (kind : PartFaultKind) → length (kind_bytes kind) ≡ 9
kind_length (Low n) = refl
kind_length (High n) = refl
kind_length OpenPart = refl
kind_length (WrongWay n) = refl
kind_length (Leaky n) = refl

part_faults_length : (fs : List PartFault) → length (flat_map part_fault_bytes fs) ≡ 11 * length fs
part_faults_length [] = refl
part_faults_length (f ∷ fs) =
    let rest = part_faults_length fs in
    let one = kind_length f.kind in
    omega (arith, length-append (part_fault_bytes f) (flat_map part_fault_bytes fs))

leak_length : (leak : Option ℕ) → length (leak_bytes leak) ≡ 9
leak_length None = refl
leak_length (Some n) = refl

leak_faults_length : (fs : List LeakFault) → length (flat_map leak_fault_bytes fs) ≡ 11 * length fs
leak_faults_length [] = refl
leak_faults_length (f ∷ fs) =
    let rest = leak_faults_length fs in
    let one = leak_length f.reading in
    omega (arith, length-append (leak_fault_bytes f) (flat_map leak_fault_bytes fs))

outcome_few : (o : Outcome) → OutcomeInRange o → length (outcome_bytes o) ≤ 20 * most_points + 14
unfolding counted
outcome_few Pass fits = omega arith
outcome_few (Wiring d) fits = let few = difference_few d fits in omega arith
outcome_few (Parts fs) fits = let all = part_faults_length fs in let few = fits.1 in omega arith
outcome_few (Insulation fs) fits = let all = leak_faults_length fs in let few = fits.1 in omega arith
outcome_few (Withstand bit volts leak) fits = let last = leak_length leak in omega arith

-- ---- records

staff_few : (staff : Option Staff) → IfSome staff IsStaff → length (staff_bytes staff) ≤ 50
staff_few None fits = omega arith
staff_few (Some staff) fits =
    let operator = name_few staff.operator fits.operator in
    let fixture = name_few staff.fixture fits.fixture in
    omega (arith, length-append staff.operator (name_bytes staff.fixture))

body_few : (b : Body) → IsBody b → length (body_bytes b) ≤ 200004
body_few (Adopt p) fits = let few = canonical_short p fits in omega arith
body_few (Enrol serial) fits = let few = name_few serial fits in omega arith
body_few (Calibrate day) fits = omega arith
body_few (Tested serial attempt staff outcome) fits =
    let few = name_few serial fits.serial in
    let names = staff_few staff fits.staff in
    let most = outcome_few outcome fits.outcome in
    omega (arith, length-append serial (attempt ∷ (staff_bytes staff ++ outcome_bytes outcome)), length-append (staff_bytes staff) (outcome_bytes outcome))
body_few (Rework serial) fits = let few = name_few serial fits in omega arith
body_few (Release serial) fits = let few = name_few serial fits in omega arith
body_few (Scrap serial) fits = let few = name_few serial fits in omega arith
body_few Mark fits = omega arith

-- so an entry of the journal has room for a record
pub record_few : (r : StationRecord) → IsRecord r → length (record_bytes r) ≤ most_bytes
record_few r is =
    let few = name_few r.id is.id in
    let most = body_few r.body is.body in
    omega (arith, length-append r.id (body_bytes r.body))
