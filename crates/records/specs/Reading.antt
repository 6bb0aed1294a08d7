-- Reading values from the front of bytes: the value and the bytes after it, or none where no value is spelled there.
--     Gives view result read     what a function answers, seen by view, is what is read, unless memory ran out
--     byte_at, number_at, name_at, counted_at, outcome_at     what is read at the front
use Rattle.std.specs.Prelude.{◌≡◌, ℕ, zero, suc, ◌==◌, Bool, true, false, List, [], ◌∷◌, length, take, drop, Option, Some, None, Result, Ok, Err}
use Rattle.std.specs.Prelude.{nat_lt, if◌then◌else◌}
use Rattle.std.specs.Int.{Width, w16, w64, byte_len, from_be_bytes}
use Rattle.partition.specs.Names.{is_name}
use Rattle.difference.specs.declared.wiring.Piece.{Piece}
use Rattle.difference.specs.declared.wiring.Short.{Short}
use Rattle.difference.specs.declared.wiring.Difference.{Difference}
use Rattle.wirelist.specs.declared.faults.PartFault.{PartFault}
use Rattle.wirelist.specs.declared.faults.PartFaultKind.{PartFaultKind}
use Rattle.wirelist.specs.declared.faults.PartFaultKind.TheVariants.{Low, High, OpenPart, WrongWay, Leaky}
use Rattle.wirelist.specs.declared.faults.LeakFault.{LeakFault}
use Rattle.wirelist.specs.declared.outcome.Outcome.{Outcome}
use Rattle.wirelist.specs.declared.outcome.Outcome.TheVariants.{Pass, Wiring, Parts, Insulation, Withstand}
use Rattle.records.specs.declared.record.Staff.{Staff}
use Rattle.records.specs.declared.stop.DecodeStop.{DecodeStop}
use Rattle.records.specs.declared.stop.DecodeStop.TheVariants.{NotARecord, Memory}

-- the refusal is what is read, unless memory ran out
abbrev pub Refuses : {Y : Type 0} → DecodeStop → Option Y → Type 0
Refuses Memory read = Unit {0}
Refuses NotARecord read = read ≡ None

-- what a function answers, seen by view, is what is read, unless memory ran out
abbrev pub Gives : {X Y : Type 0} → (X → Y) → Result X DecodeStop → Option Y → Type 0
Gives view (Ok x) read = read ≡ Some (view x)
Gives view (Err e) read = Refuses e read

-- how values are read
abbrev pub Reader : Type 0 → Type 0
Reader X = List ℕ → Option (X × List ℕ)

infixl 10 ◌>>=◌
abbrev pub ◌>>=◌ : {X Y : Type 0} → Option X → (X → Option Y) → Option Y
(Some x) >>= f = f x
None >>= f = None

-- one value, and one after it
abbrev pub both_at : {X Y : Type 0} → Reader X → Reader Y → Reader (X × Y)
both_at first second bytes = first bytes >>= λ x. second x.1 >>= λ y. Some ((x.0, y.0), y.1)

-- a value as what it stands for
abbrev pub made_at : {X Y : Type 0} → (X → Y) → Reader X → Reader Y
made_at made read bytes = read bytes >>= λ x. Some (made x.0, x.1)

-- a value as what it stands for, where it stands for something
abbrev pub chosen_at : {X Y : Type 0} → (X → Option Y) → Reader X → Reader Y
chosen_at chosen read bytes = read bytes >>= λ x. chosen x.0 >>= λ y. Some (y, x.1)

abbrev pub byte_at : Reader ℕ
byte_at [] = None
byte_at (b ∷ rest) = Some (b, rest)

unfoldable pub number_at : Width → Reader ℕ
number_at w bytes = if nat_lt (length bytes) (byte_len w) then None else Some (from_be_bytes w (take (byte_len w) bytes), drop (byte_len w) bytes)

-- so many bytes
unfoldable pub bytes_at : ℕ → Reader (List ℕ)
bytes_at n bytes = if nat_lt (length bytes) n then None else Some (take n bytes, drop n bytes)

-- the bytes as a name, where they are one
abbrev pub name_from : List ℕ → Option (List ℕ)
name_from bytes = if is_name bytes then Some bytes else None

-- a byte of length, and a name of so many bytes
unfoldable pub name_at : Reader (List ℕ)
name_at bytes = byte_at bytes >>= λ n. chosen_at name_from (bytes_at n.0) n.1

-- so many items
unfoldable pub items_at : {X : Type 0} → Reader X → ℕ → Reader (List X)
items_at read zero bytes = Some ([], bytes)
items_at read (suc n) bytes = read bytes >>= λ first. items_at read n first.1 >>= λ others. Some (first.0 ∷ others.0, others.1)

-- two bytes of count, and so many items
unfoldable pub counted_at : {X : Type 0} → Reader X → Reader (List X)
counted_at read bytes = number_at w16 bytes >>= λ n. items_at read n.0 n.1

unfoldable pub piece_at : Reader Piece
piece_at = made_at (λ p. record { net = p.0; class = p.1.0; points = p.1.1 }) (both_at (number_at w16) (both_at (number_at w16) (counted_at (number_at w16))))

unfoldable pub short_at : Reader Short
short_at = made_at (λ s. record { class = s.0; nets = s.1 }) (both_at (number_at w16) (counted_at (number_at w16)))

unfoldable pub difference_at : Reader Difference
difference_at = made_at (λ d. record { opens = d.0; shorts = d.1.0; miswires = d.1.1 })
    (both_at (counted_at piece_at) (both_at (counted_at short_at) (counted_at piece_at)))

-- a fault by its byte of kind and its reading
unfoldable pub kind_from : ℕ × ℕ → Option PartFaultKind
kind_from k =
    if k.0 == 0 then Some (Low k.1)
    else if k.0 == 1 then Some (High k.1)
    else if k.0 == 2 then (if k.1 == 0 then Some OpenPart else None)
    else if k.0 == 3 then Some (WrongWay k.1)
    else if k.0 == 4 then Some (Leaky k.1)
    else None

unfoldable pub part_fault_at : Reader PartFault
part_fault_at = made_at (λ f. record { part = f.0; kind = f.1 }) (both_at (number_at w16) (chosen_at kind_from (both_at byte_at (number_at w64))))

-- a reading of a leak by its flag
unfoldable pub leak_from : ℕ × ℕ → Option (Option ℕ)
leak_from l =
    if l.0 == 0 then (if l.1 == 0 then Some None else None)
    else if l.0 == 1 then Some (Some l.1)
    else None

unfoldable pub leak_at : Reader (Option ℕ)
leak_at = chosen_at leak_from (both_at byte_at (number_at w64))

unfoldable pub leak_fault_at : Reader LeakFault
leak_fault_at = made_at (λ f. record { cluster = f.0; reading = f.1 }) (both_at (number_at w16) leak_at)

unfoldable pub withstand_at : Reader Outcome
withstand_at = made_at (λ w. Withstand w.0 w.1.0 w.1.1) (both_at byte_at (both_at (number_at w16) leak_at))

-- what belongs to the tag
unfoldable pub tagged_at : ℕ → Reader Outcome
tagged_at tag bytes =
    if tag == 0 then Some (Pass, bytes)
    else if tag == 1 then made_at (λ d. Wiring d) difference_at bytes
    else if tag == 2 then made_at (λ faults. Parts faults) (counted_at part_fault_at) bytes
    else if tag == 3 then made_at (λ faults. Insulation faults) (counted_at leak_fault_at) bytes
    else if tag == 4 then withstand_at bytes
    else None

unfoldable pub outcome_at : Reader Outcome
outcome_at bytes = byte_at bytes >>= λ tag. tagged_at tag.0 tag.1

-- kind, moment and id
unfoldable pub header_at : Reader (ℕ × ℕ × List ℕ)
header_at = made_at (λ h. (h.0, h.1.0, h.1.1)) (both_at byte_at (both_at (number_at w64) name_at))

-- who made a test, and where, where a test names it
unfoldable pub staff_at : Bool → Reader (Option Staff)
staff_at false = λ bytes. Some (None, bytes)
staff_at true = made_at (λ s. Some (record { operator = s.0; fixture = s.1 })) (both_at name_at name_at)

-- serial, number of the test, who made it and where, and outcome
unfoldable pub tested_at : Bool → Reader (List ℕ × ℕ × Option Staff × Outcome)
tested_at has_staff = made_at (λ t. (t.0, t.1.0, t.1.1.0, t.1.1.1)) (both_at name_at (both_at byte_at (both_at (staff_at has_staff) outcome_at)))
