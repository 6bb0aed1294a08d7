-- A line is one row at most.
use Rattle.std.proofs.Common.{◌≡◌, ℕ, ◌+◌, ◌*◌, ◌<◌, ◌≤◌, ◌^◌, Bool, true, false, List, [], get_or, refl, sym, ◌∙◌, ap, arith}
use Rattle.std.specs.Fmt.{decimal}
use Rattle.std.proofs.lemmas.Fmt.{decimal_injective}
use Rattle.rig.specs.declared.unit.Row.{Row}
use Rattle.rig.specs.declared.unit.Row.TheVariants.{Wire, Resistor, Diode, Leak, Arc, Charge}
use Rattle.harness.specs.declared.row.HarnessRow.{HarnessRow}
use Rattle.harness.specs.declared.row.HarnessRow.TheVariants.{Points, Fault, Door, NewUnit, Element, End}
use Rattle.harness.specs.Rows.{element_words, row_words, most_point, most_value, most_call, ElementInRange, InRange, AreElement, AreRow}

-- the first two bytes of the first word, which tell the kinds apart
abbrev kind_of : List (List ℕ) → ℕ
kind_of words = get_or (get_or words 0 []) 0 0 * 256 + get_or (get_or words 0 []) 1 0

word_at : (i : ℕ) (words others : List (List ℕ)) → words ≡ others → get_or words i [] ≡ get_or others i []
word_at i words others e = ap (λ (ws : List (List ℕ)). get_or ws i []) e

same_number : (m n most : ℕ) → m ≤ most → n ≤ most → most < 2 ^ 64 → decimal m ≡ decimal n → m ≡ n
same_number m n most low high few e = decimal_injective m n (omega arith) (omega arith) e

element_words_tell : (row other : Row) → ElementInRange row → ElementInRange other → element_words row ≡ element_words other → row ≡ other
element_words_tell (Wire a b) (Wire c d) r o e =
    let from : a ≡ c = same_number a c most_point r.0 o.0 (omega arith) (word_at 1 _ _ e) in
    let to : b ≡ d = same_number b d most_point r.1 o.1 (omega arith) (word_at 2 _ _ e) in
    cc
element_words_tell (Resistor a b m) (Resistor c d n) r o e =
    let from : a ≡ c = same_number a c most_point r.0 o.0 (omega arith) (word_at 1 _ _ e) in
    let to : b ≡ d = same_number b d most_point r.1 o.1 (omega arith) (word_at 2 _ _ e) in
    let value : m ≡ n = same_number m n most_value r.3 o.3 (omega arith) (word_at 3 _ _ e) in
    cc
element_words_tell (Diode a b m) (Diode c d n) r o e =
    let from : a ≡ c = same_number a c most_point r.0 o.0 (omega arith) (word_at 1 _ _ e) in
    let to : b ≡ d = same_number b d most_point r.1 o.1 (omega arith) (word_at 2 _ _ e) in
    let value : m ≡ n = same_number m n 5000 r.3 o.3 (omega arith) (word_at 3 _ _ e) in
    cc
element_words_tell (Leak a b m) (Leak c d n) r o e =
    let from : a ≡ c = same_number a c most_point r.0 o.0 (omega arith) (word_at 1 _ _ e) in
    let to : b ≡ d = same_number b d most_point r.1 o.1 (omega arith) (word_at 2 _ _ e) in
    let value : m ≡ n = same_number m n most_value r.3 o.3 (omega arith) (word_at 3 _ _ e) in
    cc
element_words_tell (Arc a b m) (Arc c d n) r o e =
    let from : a ≡ c = same_number a c most_point r.0 o.0 (omega arith) (word_at 1 _ _ e) in
    let to : b ≡ d = same_number b d most_point r.1 o.1 (omega arith) (word_at 2 _ _ e) in
    let value : m ≡ n = same_number m n 2000 r.3 o.3 (omega arith) (word_at 3 _ _ e) in
    cc
element_words_tell (Charge v x) (Charge w y) r o e =
    let volts : v ≡ w = same_number v w 2000 r.0 o.0 (omega arith) (word_at 1 _ _ e) in
    let ticks : x ≡ y = same_number x y 1000 r.1 o.1 (omega arith) (word_at 2 _ _ e) in
    cc
element_words_tell row other r o e = let kinds : kind_of (element_words row) ≡ kind_of (element_words other) = ap kind_of e in absurd (omega (arith, kinds))

pub AreElement-unique : {words : List (List ℕ)} {row other : Row} → AreElement words row → AreElement words other → row ≡ other
AreElement-unique {words} {row} {other} h k = element_words_tell row other h.in_range k.in_range (sym h.printed ∙ k.printed)

abbrev is_element : HarnessRow → Bool
is_element (Element row) = true
is_element (Points n) = false
is_element (Fault k) = false
is_element (Door k) = false
is_element (NewUnit s a) = false
is_element End = false

element_alone : (row : Row) (other : HarnessRow) → is_element other ≡ false → kind_of (element_words row) ≡ kind_of (row_words other) → ⊥
element_alone (Wire a b) (Element o) other_kind k = cc
element_alone (Wire a b) (Points n) other_kind k = omega arith
element_alone (Wire a b) (Fault n) other_kind k = omega arith
element_alone (Wire a b) (Door n) other_kind k = omega arith
element_alone (Wire a b) (NewUnit s c) other_kind k = omega arith
element_alone (Wire a b) End other_kind k = omega arith
element_alone (Resistor a b m) (Element o) other_kind k = cc
element_alone (Resistor a b m) (Points n) other_kind k = omega arith
element_alone (Resistor a b m) (Fault n) other_kind k = omega arith
element_alone (Resistor a b m) (Door n) other_kind k = omega arith
element_alone (Resistor a b m) (NewUnit s c) other_kind k = omega arith
element_alone (Resistor a b m) End other_kind k = omega arith
element_alone (Diode a b m) (Element o) other_kind k = cc
element_alone (Diode a b m) (Points n) other_kind k = omega arith
element_alone (Diode a b m) (Fault n) other_kind k = omega arith
element_alone (Diode a b m) (Door n) other_kind k = omega arith
element_alone (Diode a b m) (NewUnit s c) other_kind k = omega arith
element_alone (Diode a b m) End other_kind k = omega arith
element_alone (Leak a b m) (Element o) other_kind k = cc
element_alone (Leak a b m) (Points n) other_kind k = omega arith
element_alone (Leak a b m) (Fault n) other_kind k = omega arith
element_alone (Leak a b m) (Door n) other_kind k = omega arith
element_alone (Leak a b m) (NewUnit s c) other_kind k = omega arith
element_alone (Leak a b m) End other_kind k = omega arith
element_alone (Arc a b m) (Element o) other_kind k = cc
element_alone (Arc a b m) (Points n) other_kind k = omega arith
element_alone (Arc a b m) (Fault n) other_kind k = omega arith
element_alone (Arc a b m) (Door n) other_kind k = omega arith
element_alone (Arc a b m) (NewUnit s c) other_kind k = omega arith
element_alone (Arc a b m) End other_kind k = omega arith
element_alone (Charge v x) (Element o) other_kind k = cc
element_alone (Charge v x) (Points n) other_kind k = omega arith
element_alone (Charge v x) (Fault n) other_kind k = omega arith
element_alone (Charge v x) (Door n) other_kind k = omega arith
element_alone (Charge v x) (NewUnit s c) other_kind k = omega arith
element_alone (Charge v x) End other_kind k = omega arith

pub row_words_tell : (row other : HarnessRow) → InRange row → InRange other → row_words row ≡ row_words other → row ≡ other
row_words_tell (Points n) (Points m) r o e = ap Points (same_number n m 4096 r.1 o.1 (omega arith) (word_at 1 _ _ e))
row_words_tell (Fault k) (Fault m) r o e = ap Fault (same_number k m most_call r.1 o.1 (omega arith) (word_at 1 _ _ e))
row_words_tell (Door k) (Door m) r o e = ap Door (same_number k m most_call r.1 o.1 (omega arith) (word_at 1 _ _ e))
row_words_tell (NewUnit s a) (NewUnit t b) r o e =
    let serial : s ≡ t = word_at 1 _ _ e in
    let attempt : a ≡ b = same_number a b 9 r.2 o.2 (omega arith) (word_at 2 _ _ e) in
    cc
row_words_tell (Element row) (Element other) r o e = ap Element (element_words_tell row other r o e)
row_words_tell End End r o e = refl
row_words_tell (Element row) other r o e = absurd (element_alone row other refl (ap kind_of e))
row_words_tell row (Element other) r o e = absurd (element_alone other row refl (sym (ap kind_of e)))
row_words_tell row other r o e = let kinds : kind_of (row_words row) ≡ kind_of (row_words other) = ap kind_of e in absurd (omega (arith, kinds))

pub AreRow-unique : {words : List (List ℕ)} {row other : HarnessRow} → AreRow words row → AreRow words other → row ≡ other
AreRow-unique {words} {row} {other} h k = row_words_tell row other h.in_range k.in_range (sym h.printed ∙ k.printed)
