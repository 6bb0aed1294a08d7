-- The units of a soak are those of its harness file, and lie between its points.
use Rattle.std.proofs.Common.{◌≡◌, ◌↔◌, ℕ, zero, suc, ◌+◌, ◌*◌, ◌<◌, ◌≤◌, ◌/◌, ◌%◌, ◌==◌, Bool, true, false, List, [], ◌∷◌, ◌++◌, length, get_or, map, refl, sym, ◌∙◌, ap, subst, arith, inl, inr, All, Contains, length-append}
use Rattle.std.specs.Prelude.{if◌then◌else◌, nat_le, codes}
use Rattle.std.specs.List.{flat_map, range_with_len}
use Rattle.std.proofs.lemmas.Grind.{flat_map-append}
use Rattle.std.proofs.lemmas.List.Folds.{flat_map-map}
use Rattle.std.proofs.lemmas.List.{append-nil}
use Rattle.std.proofs.lemmas.List.FromFn.{map-range_with_len_more, length-range_with_len, get_or-range_with_len, length-map-range_with_len}
use Rattle.std.proofs.lemmas.Bool.{leb-true}
use Rattle.partition.proofs.Members.{In, In-append_cases, In-map_cases, In-flat_map_cases}
use Rattle.partition.proofs.tables.NetLaws.{In-index}
use Rattle.learned_program.proofs.ListLemmas.{index-In}
use Rattle.rig.specs.declared.unit.Row.{Row}
use Rattle.rig.specs.declared.unit.Row.TheVariants.{Wire}
use Rattle.rig.specs.declared.unit.Unit.{Unit as HarnessUnit}
use Rattle.rig.specs.Joins.{IsRowBelow}
use Rattle.harness.specs.declared.file.Harness.{Harness}
use Rattle.harness.specs.declared.row.HarnessRow.{HarnessRow}
use Rattle.harness.specs.declared.row.HarnessRow.TheVariants.{Points, Fault, Door, NewUnit, Element, End}
use Rattle.harness.specs.Harness.{IsSound, IsOfRows, IsUnitOf}
use Rattle.harness.specs.Rows.{ElementInRange}
use Rattle.harness.specs.Units.{units_of, elements_of, AreFaults, AreDoors}
use Rattle.soak_pair.specs.Pair.{net_wire, good_rows, bad_four, bad_rest, bad_rows, soak_units, soak_rows}

abbrev own : List Row → List Row
own rows = rows

as_lists : (qs : List ℕ) → flat_map own (map bad_four qs) ≡ flat_map bad_four qs
as_lists qs = flat_map-map own bad_four qs

pub fours_more : (q : ℕ) → flat_map bad_four (range_with_len 0 (q + 1)) ≡ flat_map bad_four (range_with_len 0 q) ++ bad_four q
fours_more q =
    sym (as_lists (range_with_len 0 (q + 1)))
    ∙ ap (flat_map own) (map-range_with_len_more bad_four 0 q q (omega arith))
    ∙ flat_map-append own (map bad_four (range_with_len 0 q)) (bad_four q ∷ [])
    ∙ ap (λ (rows : List Row). rows ++ flat_map own (bad_four q ∷ [])) (as_lists (range_with_len 0 q))
    ∙ ap (λ (rows : List Row). flat_map bad_four (range_with_len 0 q) ++ rows) (append-nil (bad_four q))

-- ---- each row is a wire between two points

pub record IsWireBelow (n : ℕ) (row : Row) : Type 0 where
  pub a : ℕ
  pub b : ℕ
  pub is : row ≡ Wire a b
  pub one : a < n
  pub other : b < n

wire_below : (n a b : ℕ) (row : Row) → a < n → b < n → Wire a b ≡ row → IsWireBelow n row
wire_below n a b row one other is = record { a = a; b = b; is = sym is; one = one; other = other }

range_below : (k x : ℕ) → In x (range_with_len 0 k) → x < k
range_below k x held =
    let at = In-index x (range_with_len 0 k) held in
    let l = at.1 in
    let size = length-range_with_len 0 k in
    let is = sym (at.2 0) ∙ get_or-range_with_len 0 k at.0 0 (omega arith) in
    omega arith

pub good_wires : (n : ℕ) (row : Row) → In row (good_rows n) → IsWireBelow n row
good_wires n row held =
    let from = In-map_cases net_wire row (range_with_len 0 (n / 2)) held in
    let below = range_below (n / 2) from.0 from.1 in
    wire_below n (2 * from.0) (2 * from.0 + 1) row (omega arith) (omega arith) from.2

module _ (n q : ℕ) (below : 4 * q + 3 < n) (row : Row) where
  one_wire : (a b : ℕ) → a < n → b < n → In row (Wire a b ∷ []) → IsWireBelow n row
  one_wire a b one other (inl is) = wire_below n a b row one other is
  one_wire a b one other (inr none) = absurd none

  two_wires : (a b c d : ℕ) → a < n → b < n → c < n → d < n → In row (Wire a b ∷ Wire c d ∷ []) → IsWireBelow n row
  two_wires a b c d la lb lc ld (inl is) = wire_below n a b row la lb is
  two_wires a b c d la lb lc ld (inr more) = one_wire c d lc ld more

  three_wires : In row (Wire (4 * q) (4 * q + 1) ∷ Wire (4 * q + 2) (4 * q + 3) ∷ Wire (4 * q) (4 * q + 2) ∷ []) → IsWireBelow n row
  three_wires (inl is) = wire_below n (4 * q) (4 * q + 1) row (omega arith) (omega arith) is
  three_wires (inr more) = two_wires (4 * q + 2) (4 * q + 3) (4 * q) (4 * q + 2) (omega arith) (omega arith) (omega arith) (omega arith) more

  four_wires : (opens swaps joins : Bool)
      → In row (if opens then Wire (4 * q) (4 * q + 1) ∷ [] else (if swaps then Wire (4 * q) (4 * q + 3) ∷ Wire (4 * q + 1) (4 * q + 2) ∷ [] else (if joins then Wire (4 * q) (4 * q + 1) ∷ Wire (4 * q + 2) (4 * q + 3) ∷ Wire (4 * q) (4 * q + 2) ∷ [] else Wire (4 * q) (4 * q + 1) ∷ Wire (4 * q + 2) (4 * q + 3) ∷ [])))
      → IsWireBelow n row
  four_wires true swaps joins held = one_wire (4 * q) (4 * q + 1) (omega arith) (omega arith) held
  four_wires false true joins held = two_wires (4 * q) (4 * q + 3) (4 * q + 1) (4 * q + 2) (omega arith) (omega arith) (omega arith) (omega arith) held
  four_wires false false true held = three_wires held
  four_wires false false false held = two_wires (4 * q) (4 * q + 1) (4 * q + 2) (4 * q + 3) (omega arith) (omega arith) (omega arith) (omega arith) held

  pub of_four : In row (bad_four q) → IsWireBelow n row
  of_four held = four_wires (q % 8 == 2) (q % 8 == 5) (q % 8 == 6) held

rest_wires : (n : ℕ) (row : Row) (some : Bool) → (some ≡ true → 2 ≤ n % 4) → In row (if some then Wire (4 * (n / 4)) (4 * (n / 4) + 1) ∷ [] else []) → IsWireBelow n row
rest_wires n row false there held = absurd held
rest_wires n row true there (inl is) = let two = there refl in wire_below n (4 * (n / 4)) (4 * (n / 4) + 1) row (omega arith) (omega arith) is
rest_wires n row true there (inr none) = absurd none

pub bad_wires : (n : ℕ) (row : Row) → In row (bad_rows n) → IsWireBelow n row
bad_wires n row held = elim (In-append_cases row (flat_map bad_four (range_with_len 0 (n / 4))) (bad_rest n) held) [
  | inl fours ↦
      let from = In-flat_map_cases bad_four row (range_with_len 0 (n / 4)) fours in
      let below = range_below (n / 4) from.0 from.1 in
      of_four n from.0 (omega arith) row from.2
  | inr rest ↦ rest_wires n row (nat_le 2 (n % 4)) (λ yes. leb-true 2 (n % 4) yes) rest
]

-- ---- the harness

abbrev pub soak_harness : ℕ → Harness
soak_harness n = record { points = n; faults = []; doors = []; units = soak_units n }

all_by : {X : Type 0} (P : X → Type 0) (xs : List X) → ((x : X) → In x xs → P x) → All P xs
all_by P xs each i d l = each (get_or xs i d) (index-In xs i d l)

row_below : (n : ℕ) (row : Row) → IsWireBelow n row → IsRowBelow n row
row_below n row wire = subst (IsRowBelow n) (sym wire.is) (wire.one, wire.other)

row_in_range : (n : ℕ) → n ≤ 4096 → (row : Row) → IsWireBelow n row → ElementInRange row
row_in_range n few row wire = let one = wire.one in let other = wire.other in subst ElementInRange (sym wire.is) (omega arith, omega arith)

few_fours : (k : ℕ) → length (flat_map bad_four (range_with_len 0 k)) ≤ 3 * k
few_fours zero = omega arith
few_fours (suc k) =
    let size = length-append (flat_map bad_four (range_with_len 0 k)) (bad_four k) in
    let before = few_fours k in
    let last = four_few (k % 8 == 2) (k % 8 == 5) (k % 8 == 6) in
    let step = ap length (fours_more k) in
    let on : range_with_len 0 (k + 1) ≡ range_with_len 0 (suc k) = ap (range_with_len 0) (let e : k + 1 ≡ suc k = omega arith in e) in
    let same = ap (λ (r : List ℕ). length (flat_map bad_four r)) on in
    omega arith
  where
    four_few : (opens swaps joins : Bool)
        → length (if opens then Wire (4 * k) (4 * k + 1) ∷ [] else (if swaps then Wire (4 * k) (4 * k + 3) ∷ Wire (4 * k + 1) (4 * k + 2) ∷ [] else (if joins then Wire (4 * k) (4 * k + 1) ∷ Wire (4 * k + 2) (4 * k + 3) ∷ Wire (4 * k) (4 * k + 2) ∷ [] else Wire (4 * k) (4 * k + 1) ∷ Wire (4 * k + 2) (4 * k + 3) ∷ []))) ≤ 3
    four_few true swaps joins = omega arith
    four_few false true joins = omega arith
    four_few false false true = omega arith
    four_few false false false = omega arith

rest_few : (n : ℕ) (some : Bool) → length (if some then Wire (4 * (n / 4)) (4 * (n / 4) + 1) ∷ [] else []) ≤ 1
rest_few n true = omega arith
rest_few n false = omega arith

module _ (n : ℕ) (few : n ≤ 4096) where
  good_few : length (good_rows n) ≤ 200000
  good_few = let size = length-map-range_with_len net_wire 0 (n / 2) in omega arith

  bad_few : length (bad_rows n) ≤ 200000
  bad_few =
      let size = length-append (flat_map bad_four (range_with_len 0 (n / 4))) (bad_rest n) in
      let fours = few_fours (n / 4) in
      let rest = rest_few n (nat_le 2 (n % 4)) in
      omega arith

  unit_of : (unit : HarnessUnit) → In unit (soak_units n) → IsUnitOf n unit
  unit_of unit (inl is) = subst (IsUnitOf n) is (record {
    below = all_by (IsRowBelow n) (good_rows n) (λ row held. row_below n row (good_wires n row held));
    in_range = all_by ElementInRange (good_rows n) (λ row held. row_in_range n few row (good_wires n row held));
    few = good_few;
  })
  unit_of unit (inr (inl is)) = subst (IsUnitOf n) is (record {
    below = all_by (IsRowBelow n) (bad_rows n) (λ row held. row_below n row (bad_wires n row held));
    in_range = all_by ElementInRange (bad_rows n) (λ row held. row_in_range n few row (bad_wires n row held));
    few = bad_few;
  })
  unit_of unit (inr (inr none)) = absurd none

  pub sound : 1 ≤ n → IsSound (soak_harness n)
  sound some = record {
    some_points = some;
    few_points = few;
    faults = λ i d l. absurd (omega arith);
    doors = λ i d l. absurd (omega arith);
    units = all_by (IsUnitOf n) (soak_units n) unit_of;
  }

-- ---- its rows

elements_behind : (rows : List Row) (behind : List HarnessRow) → elements_of behind ≡ [] → elements_of (map Element rows ++ behind) ≡ rows
elements_behind [] behind none = none
elements_behind (row ∷ rows) behind none = ap (λ (more : List Row). row ∷ more) (elements_behind rows behind none)

units_behind : (rows : List Row) (behind : List HarnessRow) → units_of (map Element rows ++ behind) ≡ units_of behind
units_behind [] behind = refl
units_behind (row ∷ rows) behind = units_behind rows behind

-- neither a `fault` row nor a `door` row
abbrev IsPlain : HarnessRow → Type 0
IsPlain (Points n) = Unit {0}
IsPlain (Fault k) = ⊥
IsPlain (Door k) = ⊥
IsPlain (NewUnit serial attempt) = Unit {0}
IsPlain (Element row) = Unit {0}
IsPlain End = Unit {0}

plain_elements : (rows : List Row) (behind : List HarnessRow) (row : HarnessRow) → (In row behind → IsPlain row) → In row (map Element rows ++ behind) → IsPlain row
plain_elements [] behind row plain held = plain held
plain_elements (r ∷ rows) behind row plain (inl is) = subst IsPlain is tt
plain_elements (r ∷ rows) behind row plain (inr more) = plain_elements rows behind row plain more

module _ (n : ℕ) where
  abbrev behind_bad : List HarnessRow
  behind_bad = End ∷ []

  abbrev behind_good : List HarnessRow
  behind_good = NewUnit (codes "BAD") 1 ∷ (map Element (bad_rows n) ++ behind_bad)

  plain_end : (row : HarnessRow) → In row behind_bad → IsPlain row
  plain_end row (inl is) = subst IsPlain is tt
  plain_end row (inr none) = absurd none

  plain_bad : (row : HarnessRow) → In row behind_good → IsPlain row
  plain_bad row (inl is) = subst IsPlain is tt
  plain_bad row (inr more) = plain_elements (bad_rows n) behind_bad row (plain_end row) more

  plain_rows : (row : HarnessRow) → In row (soak_rows n) → IsPlain row
  plain_rows row (inl is) = subst IsPlain is tt
  plain_rows row (inr (inl is)) = subst IsPlain is tt
  plain_rows row (inr (inr more)) = plain_elements (good_rows n) behind_good row (plain_bad row) more

  no_numbers : (kind : ℕ → HarnessRow) → ((k : ℕ) → IsPlain (kind k) → ⊥) → (k : ℕ) → Contains [] k ↔ Contains (soak_rows n) (kind k)
  no_numbers kind other k =
      (λ (i, l, is). absurd (omega arith), λ (i, l, is). absurd (other k (plain_rows (kind k) (subst (λ (row : HarnessRow). In row (soak_rows n)) is (index-In (soak_rows n) i (kind k) l)))))

  pub units_are : soak_units n ≡ units_of (soak_rows n)
  units_are = sym (
      ap (λ (us : List HarnessUnit). record { serial = codes "GOOD"; attempt = 1; rows = elements_of (map Element (good_rows n) ++ behind_good) } ∷ us) (units_behind (good_rows n) behind_good)
      ∙ ap (λ (rows : List Row). record { serial = codes "GOOD"; attempt = 1; rows = rows } ∷ units_of behind_good) (elements_behind (good_rows n) behind_good refl)
      ∙ ap (λ (us : List HarnessUnit). record { serial = codes "GOOD"; attempt = 1; rows = good_rows n } ∷ record { serial = codes "BAD"; attempt = 1; rows = elements_of (map Element (bad_rows n) ++ behind_bad) } ∷ us) (units_behind (bad_rows n) behind_bad)
      ∙ ap (λ (rows : List Row). record { serial = codes "GOOD"; attempt = 1; rows = good_rows n } ∷ record { serial = codes "BAD"; attempt = 1; rows = rows } ∷ []) (elements_behind (bad_rows n) behind_bad refl)
      )

  pub of_rows : IsOfRows (soak_rows n) (soak_harness n)
  of_rows = record {
    points = refl;
    faults = record { ascending = λ k l. absurd (omega arith); listed = no_numbers Fault (λ k plain. plain) };
    doors = record { ascending = λ k l. absurd (omega arith); listed = no_numbers Door (λ k plain. plain) };
    units = units_are;
  }

-- no interlock reading is open
pub no_doors : (n : ℕ) (listed : List ℕ) → AreDoors (soak_rows n) listed → listed ≡ []
no_doors n [] are = refl
no_doors n (k ∷ ks) are =
    let held = (no_numbers n Door (λ j plain. plain) k).1 ((are.listed k).0 (0, omega arith, refl)) in
    let l = held.1 in
    absurd (omega arith)

-- no call fails
pub no_faults : (n : ℕ) (listed : List ℕ) → AreFaults (soak_rows n) listed → listed ≡ []
no_faults n [] are = refl
no_faults n (k ∷ ks) are =
    let held = (no_numbers n Fault (λ j plain. plain) k).1 ((are.listed k).0 (0, omega arith, refl)) in
    let l = held.1 in
    absurd (omega arith)
