-- What well placed rows give a harness.
use Rattle.std.proofs.Common.{◌≡◌, ◌⊎◌, inl, inr, ℕ, zero, suc, ◌+◌, ◌-◌, ◌<◌, ◌≤◌, Bool, true, false, List, [], ◌∷◌, ◌++◌, Some, None, length, get_or, drop, refl, sym, ◌∙◌, ap, subst, ⊎_elim, arith, drop-cons}
use Rattle.std.specs.Prelude.{All, IsTrue, slice_get, ◌&&◌, not, nat_lt, ◌==◌, filter}
use Rattle.std.proofs.lemmas.Bool.Decides.{nat_tests, eqb_tells}
use Rattle.std.proofs.lemmas.List.{append-nil, append_assoc, drop_all, length-map}
use Rattle.std.proofs.lemmas.List.Elements.{All-cons, All-nil}
use Rattle.std.proofs.lemmas.Option.{slice_get_within, slice_get_read}
use Rattle.lines.specs.Words.{words_of, is_passed_over}
use Rattle.rig.specs.declared.unit.Row.{Row}
use Rattle.rig.specs.declared.unit.Row.TheVariants.{Wire, Resistor, Diode, Leak, Arc, Charge}
use Rattle.rig.specs.declared.unit.Unit.{Unit as HarnessUnit}
use Rattle.rig.specs.Joins.{IsRowBelow, joined_classes}
use Rattle.harness.specs.declared.row.HarnessRow.{HarnessRow}
use Rattle.harness.specs.declared.row.HarnessRow.TheVariants.{Points, Fault, Door, NewUnit, Element, End}
use Rattle.harness.specs.Rows.{row_words, ElementInRange, InRange}
use Rattle.harness.specs.Places.{is_first, has_end, points_in, ends_of, are_ends, is_on_points, StandBelow}
use Rattle.harness.specs.Units.{elements_of, units_of, elements_at, IsRepeat, IsSecond, IsLeastSecond}
use Rattle.harness.specs.Pairs.{IsFirstRepeat}
use Rattle.harness.specs.Harness.{most_lines, row_lines, row_numbers, AreRows, IsUnitOf, LeastSecond}
use Rattle.harness.proofs.PlaceLemmas.{and_left, points_in-push}

pub all_in_range : (above rows : List HarnessRow) → StandBelow above rows → All InRange rows
all_in_range above [] stand = All-nil InRange
all_in_range above (row ∷ rows) stand = All-cons InRange row rows stand.0.in_range (all_in_range (above ++ (row ∷ [])) rows stand.1)

pub first_points : (rows : List HarnessRow) → StandBelow [] rows → IsTrue (has_end rows) → (1 ≤ points_in rows) × (points_in rows ≤ 4096)
first_points [] stand ends = cc
first_points (Points n ∷ rows) stand ends = stand.0.in_range
first_points (Fault k ∷ rows) stand ends = let h = stand.0.in_place in cc
first_points (Door k ∷ rows) stand ends = let h = stand.0.in_place in cc
first_points (NewUnit s a ∷ rows) stand ends = let h = stand.0.in_place in cc
first_points (Element r ∷ rows) stand ends = let h = stand.0.in_place in cc
first_points (End ∷ rows) stand ends = let h = stand.0.in_place in cc

-- no more points than a rig can have
pub few_points : (rows : List HarnessRow) → StandBelow [] rows → points_in rows ≤ 4096
few_points [] stand = omega arith
few_points (Points n ∷ rows) stand = stand.0.in_range.1
few_points (Fault k ∷ rows) stand = omega arith
few_points (Door k ∷ rows) stand = omega arith
few_points (NewUnit s a ∷ rows) stand = omega arith
few_points (Element r ∷ rows) stand = omega arith
few_points (End ∷ rows) stand = omega arith

-- a row of a unit lies between points, and its values are in range
abbrev pub SoundRow : ℕ → HarnessRow → Type 0
SoundRow n (Points m) = Unit {0}
SoundRow n (Fault k) = Unit {0}
SoundRow n (Door k) = Unit {0}
SoundRow n (NewUnit s a) = Unit {0}
SoundRow n (Element row) = IsRowBelow n row × ElementInRange row
SoundRow n End = Unit {0}

abbrev pub SoundRows : ℕ → List HarnessRow → Type 0
SoundRows n [] = Unit {0}
SoundRows n (row ∷ rows) = SoundRow n row × SoundRows n rows

and_right : (a b : Bool) → (a && b) ≡ true → b ≡ true
and_right true b h = h
and_right false b h = cc

lt_true : (a b : ℕ) → nat_lt a b ≡ true → a < b
lt_true a b h = grind (arith, nat_tests)

both_below : (n a b : ℕ) → are_ends n (Some (a, b)) ≡ true → (a < n) × (b < n)
both_below n a b on =
    let rest = and_right (nat_lt a n) (nat_lt b n && not (a == b)) on in
    (lt_true a n (and_left (nat_lt a n) (nat_lt b n && not (a == b)) on), lt_true b n (and_left (nat_lt b n) (not (a == b)) rest))

ends_below : (n : ℕ) (row : Row) → are_ends n (ends_of row) ≡ true → IsRowBelow n row
ends_below n (Wire a b) on = both_below n a b on
ends_below n (Resistor a b r) on = both_below n a b on
ends_below n (Diode a b v) on = both_below n a b on
ends_below n (Leak a b g) on = both_below n a b on
ends_below n (Arc a b v) on = both_below n a b on
ends_below n (Charge v x) on = tt

sound_row : (n : ℕ) (above : List HarnessRow) (row : HarnessRow) → points_in above ≡ n → InRange row → is_on_points above row ≡ true → SoundRow n row
sound_row n above (Points m) is in_range on = tt
sound_row n above (Fault k) is in_range on = tt
sound_row n above (Door k) is in_range on = tt
sound_row n above (NewUnit s a) is in_range on = tt
sound_row n above (Element row) is in_range on = (ends_below n row (subst (λ k. are_ends k (ends_of row) ≡ true) is on), in_range)
sound_row n above End is in_range on = tt

push_some : (above : List HarnessRow) (row : HarnessRow) → is_first (above ++ (row ∷ [])) ≡ false
push_some [] row = refl
push_some (r ∷ above) row = refl

sound_below : (n : ℕ) (above rows : List HarnessRow) → points_in above ≡ n → is_first above ≡ false → StandBelow above rows → SoundRows n rows
sound_below n above [] is some stand = tt
sound_below n above (row ∷ rows) is some stand = (
  sound_row n above row is stand.0.in_range stand.0.on_points,
  sound_below n (above ++ (row ∷ [])) rows (points_in-push above row some ∙ is) (push_some above row) stand.1,
)

pub sound_rows : (rows : List HarnessRow) → StandBelow [] rows → SoundRows (points_in rows) rows
sound_rows [] stand = tt
sound_rows (Points n ∷ rows) stand = (tt, sound_below n (Points n ∷ []) rows refl refl stand.1)
sound_rows (Fault k ∷ rows) stand = let h = stand.0.in_place in cc
sound_rows (Door k ∷ rows) stand = let h = stand.0.in_place in cc
sound_rows (NewUnit s a ∷ rows) stand = let h = stand.0.in_place in cc
sound_rows (Element r ∷ rows) stand = let h = stand.0.in_place in cc
sound_rows (End ∷ rows) stand = let h = stand.0.in_place in cc

SoundRows-drop : (n k : ℕ) (rows : List HarnessRow) → SoundRows n rows → SoundRows n (drop k rows)
SoundRows-drop n zero rows sound = sound
SoundRows-drop n (suc k) [] sound = tt
SoundRows-drop n (suc k) (row ∷ rows) sound = SoundRows-drop n k rows sound.1

elements_below : (n : ℕ) (rows : List HarnessRow) → SoundRows n rows → All (IsRowBelow n) (elements_of rows)
elements_below n [] sound = All-nil (IsRowBelow n)
elements_below n (Points m ∷ rows) sound = All-nil (IsRowBelow n)
elements_below n (Fault k ∷ rows) sound = All-nil (IsRowBelow n)
elements_below n (Door k ∷ rows) sound = All-nil (IsRowBelow n)
elements_below n (NewUnit s a ∷ rows) sound = All-nil (IsRowBelow n)
elements_below n (Element row ∷ rows) sound = All-cons (IsRowBelow n) row (elements_of rows) sound.0.0 (elements_below n rows sound.1)
elements_below n (End ∷ rows) sound = All-nil (IsRowBelow n)

elements_in_range : (n : ℕ) (rows : List HarnessRow) → SoundRows n rows → All ElementInRange (elements_of rows)
elements_in_range n [] sound = All-nil ElementInRange
elements_in_range n (Points m ∷ rows) sound = All-nil ElementInRange
elements_in_range n (Fault k ∷ rows) sound = All-nil ElementInRange
elements_in_range n (Door k ∷ rows) sound = All-nil ElementInRange
elements_in_range n (NewUnit s a ∷ rows) sound = All-nil ElementInRange
elements_in_range n (Element row ∷ rows) sound = All-cons ElementInRange row (elements_of rows) sound.0.1 (elements_in_range n rows sound.1)
elements_in_range n (End ∷ rows) sound = All-nil ElementInRange

elements_few : (rows : List HarnessRow) → length (elements_of rows) ≤ length rows
elements_few [] = omega arith
elements_few (Points m ∷ rows) = omega arith
elements_few (Fault k ∷ rows) = omega arith
elements_few (Door k ∷ rows) = omega arith
elements_few (NewUnit s a ∷ rows) = omega arith
elements_few (Element row ∷ rows) = let h = elements_few rows in omega arith
elements_few (End ∷ rows) = omega arith

-- the rows of a unit at a place lie between the points
pub elements_at_below : (rows : List HarnessRow) (k : ℕ) → StandBelow [] rows → All (IsRowBelow (points_in rows)) (elements_of (drop k rows))
elements_at_below rows k stand = elements_below (points_in rows) (drop k rows) (SoundRows-drop (points_in rows) k rows (sound_rows rows stand))

units_sound : (n : ℕ) (rows : List HarnessRow) → length rows ≤ most_lines → SoundRows n rows → All (IsUnitOf n) (units_of rows)
units_sound n [] few sound = All-nil (IsUnitOf n)
units_sound n (Points m ∷ rows) few sound = units_sound n rows (omega arith) sound.1
units_sound n (Fault k ∷ rows) few sound = units_sound n rows (omega arith) sound.1
units_sound n (Door k ∷ rows) few sound = units_sound n rows (omega arith) sound.1
units_sound n (NewUnit s a ∷ rows) few sound =
    All-cons (IsUnitOf n) (record { serial = s; attempt = a; rows = elements_of rows }) (units_of rows)
    (record { below = elements_below n rows sound.1; in_range = elements_in_range n rows sound.1; few = let h = elements_few rows in omega arith })
    (units_sound n rows (omega arith) sound.1)
units_sound n (Element row ∷ rows) few sound = units_sound n rows (omega arith) sound.1
units_sound n (End ∷ rows) few sound = units_sound n rows (omega arith) sound.1

pub all_units_sound : (rows : List HarnessRow) (points : ℕ) (units : List HarnessUnit) → StandBelow [] rows → length rows ≤ most_lines → points ≡ points_in rows → units ≡ units_of rows → All (IsUnitOf points) units
all_units_sound rows points units stand few points_are units_are = rw units_are (rw points_are (units_sound (points_in rows) rows few (sound_rows rows stand)))

-- ---- units one after another

-- how far the units were made
pub record Making (rows : List HarnessRow) (place : ℕ) (units : List HarnessUnit) : Type 0 where
  pub units_are : units ++ units_of (drop place rows) ≡ units_of rows
  pub single : (u j : ℕ) → u < place → IsSecond rows u j → ⊥

pub making_start : (rows : List HarnessRow) → Making rows 0 []
making_start rows = record { units_are = refl; single = λ u j short. absurd (omega arith) }

other_units : (row : HarnessRow) (rows : List HarnessRow) → ((s : List ℕ) (a : ℕ) → row ≡ NewUnit s a → ⊥) → units_of (row ∷ rows) ≡ units_of rows
other_units (Points n) rows other = refl
other_units (Fault k) rows other = refl
other_units (Door k) rows other = refl
other_units (NewUnit s a) rows other = absurd (other s a refl)
other_units (Element row) rows other = refl
other_units End rows other = refl

here_is : (rows : List HarnessRow) (place u : ℕ) (row other : HarnessRow) → place < length rows → row ≡ get_or rows place row → u ≡ place → slice_get rows u ≡ Some other → other ≡ row
here_is rows place u row other short at same found =
    let here : slice_get rows place ≡ Some row = slice_get_read rows (length rows) place row refl short at in
    let there : slice_get rows place ≡ Some other = subst (λ k. slice_get rows k ≡ Some other) same found in cc

earlier_or : (u place : ℕ) → u < place + 1 → (u < place) ⊎ (u ≡ place)
earlier_or u place less = elim (eqb_tells u place) [ inl e ↦ inr e.1 | inr e ↦ inl (let apart = e.1 in omega arith) ]

-- a row that is no unit
pub making_other : (rows : List HarnessRow) (row : HarnessRow) (place : ℕ) (units : List HarnessUnit) → place < length rows → row ≡ get_or rows place row → ((s : List ℕ) (a : ℕ) → row ≡ NewUnit s a → ⊥) →
    Making rows place units → Making rows (place + 1) units
making_other rows row place units short at other m = record {
  units_are =
      ap (λ (us : List HarnessUnit). units ++ us)
      (sym (ap units_of (drop-cons rows place row short) ∙ ap (λ (r : HarnessRow). units_of (r ∷ drop (suc place) rows)) (sym at) ∙ other_units row (drop (suc place) rows) other ∙ ap (λ k. units_of (drop k rows)) (let e : suc place ≡ place + 1 = omega arith in e)))
      ∙ m.units_are;
  single = λ u j less second.
      ⊎_elim (λ before. m.single u j before second)
      (λ here. other second.serial second.attempt (sym (here_is rows place u row (NewUnit second.serial second.attempt) short at here second.unit)))
      (earlier_or u place less);
}

-- a unit without a second element
pub making_unit : (rows : List HarnessRow) (s : List ℕ) (a place n : ℕ) (elements : List Row) (units new : List HarnessUnit) → place < length rows → NewUnit s a ≡ get_or rows place (NewUnit s a) →
    n ≡ points_in rows → elements ≡ elements_of (drop (place + 1) rows) → IsFirstRepeat (joined_classes elements n) elements None →
    new ≡ units ++ (record { serial = s; attempt = a; rows = elements } ∷ []) → Making rows place units → Making rows (place + 1) new
making_unit rows s a place n elements units new short at n_is elements_are single new_is m =
    let one : HarnessUnit = record { serial = s; attempt = a; rows = elements } in record {
      units_are =
          ap (λ (us : List HarnessUnit). us ++ units_of (drop (place + 1) rows)) new_is
          ∙ append_assoc units (one ∷ []) (units_of (drop (place + 1) rows))
          ∙ ap (λ (us : List HarnessUnit). units ++ us)
          (sym (ap units_of (drop-cons rows place (NewUnit s a) short) ∙ ap (λ (r : HarnessRow). units_of (r ∷ drop (suc place) rows)) (sym at)
          ∙ ap (λ (k : ℕ). record { serial = s; attempt = a; rows = elements_of (drop k rows) } ∷ units_of (drop k rows)) (let e : suc place ≡ place + 1 = omega arith in e)
          ∙ ap (λ (es : List Row). record { serial = s; attempt = a; rows = es } ∷ units_of (drop (place + 1) rows)) (sym elements_are)))
          ∙ m.units_are;
      single = λ u j less second.
          ⊎_elim (λ before. m.single u j before second)
          (λ here. single j (subst (λ (es : List Row). IsRepeat (joined_classes es n) es j) (sym elements_are)
          (subst (λ k. IsRepeat (joined_classes (elements_of (drop (place + 1) rows)) k) (elements_of (drop (place + 1) rows)) j) (sym n_is)
          (subst (λ k. IsRepeat (joined_classes (elements_at rows k) (points_in rows)) (elements_at rows k) j) here second.repeat))))
          (earlier_or u place less);
    }

-- the elements below a row of a harness
elements_stand : (rows : List HarnessRow) (i : ℕ) → i < length (elements_of rows) → (row : Row) × (slice_get rows i ≡ Some (Element row))
elements_stand [] i short = absurd (omega arith)
elements_stand (Points m ∷ rows) i short = absurd (omega arith)
elements_stand (Fault k ∷ rows) i short = absurd (omega arith)
elements_stand (Door k ∷ rows) i short = absurd (omega arith)
elements_stand (NewUnit s a ∷ rows) i short = absurd (omega arith)
elements_stand (Element row ∷ rows) zero short = (row, refl)
elements_stand (Element row ∷ rows) (suc i) short = elements_stand rows i (omega arith)
elements_stand (End ∷ rows) i short = absurd (omega arith)

slice_get-drop : (rows : List HarnessRow) (k i : ℕ) → slice_get (drop k rows) i ≡ slice_get rows (k + i)
slice_get-drop rows zero i = ap (slice_get rows) (let e : i ≡ 0 + i = omega arith in e)
slice_get-drop [] (suc k) i = refl
slice_get-drop (row ∷ rows) (suc k) i = slice_get-drop rows k i ∙ ap (slice_get (row ∷ rows)) (let e : suc (k + i) ≡ suc k + i = omega arith in e)

-- a second element stands among the rows
pub second_inside : (rows : List HarnessRow) (place j : ℕ) (elements : List Row) → elements ≡ elements_of (drop (place + 1) rows) → j < length elements → place + 1 + j < length rows
second_inside rows place j elements is short =
    let e = elements_stand (drop (place + 1) rows) j (subst (λ (es : List Row). j < length es) is short) in
    let at : slice_get rows (place + 1 + j) ≡ Some (Element e.0) = sym (slice_get-drop rows (place + 1) j) ∙ e.1 in
    slice_get_within rows (place + 1 + j) (Element e.0) at

-- the first second element of a unit, below units without one
pub least_second : (rows : List HarnessRow) (s : List ℕ) (a place n j : ℕ) (elements : List Row) (units : List HarnessUnit) → place < length rows → NewUnit s a ≡ get_or rows place (NewUnit s a) →
    n ≡ points_in rows → elements ≡ elements_of (drop (place + 1) rows) → IsFirstRepeat (joined_classes elements n) elements (Some j) → Making rows place units → IsLeastSecond rows place j
least_second rows s a place n j elements units short at n_is elements_are found m =
    let here : slice_get rows place ≡ Some (NewUnit s a) = slice_get_read rows (length rows) place (NewUnit s a) refl short at in
    let inside : j < length elements = slice_get_within elements j found.0.row found.0.stands in record {
      second = record {
        serial = s;
        attempt = a;
        unit = here;
        repeat = subst (λ k. IsRepeat (joined_classes (elements_at rows place) k) (elements_at rows place) j) n_is (subst (λ (es : List Row). IsRepeat (joined_classes es n) es j) elements_are found.0);
      };
      least = λ v k second.
          elim (eqb_tells v place) [
            | inl e ↦
                let first : j ≤ k = found.1 k (subst (λ (es : List Row). IsRepeat (joined_classes es n) es k) (sym elements_are)
                (subst (λ p. IsRepeat (joined_classes (elements_at rows place) p) (elements_at rows place) k) (sym n_is)
                (subst (λ u. IsRepeat (joined_classes (elements_at rows u) (points_in rows)) (elements_at rows u) k) e.1 second.repeat))) in
                let same = e.1 in omega arith
            | inr e ↦ later v k second e.1 (elim (nat_cases v (place + 1 + j)) [ inl less ↦ inl less | inr more ↦ inr more ])
          ];
    }
  where
    nat_cases : (x y : ℕ) → (x < y) ⊎ (y ≤ x)
    nat_cases x y = elim (eqb_tells (x - y) 0) [ inl e ↦ (let d = e.1 in elim (eqb_tells x y) [ inl f ↦ inr (let g = f.1 in omega arith) | inr f ↦ inl (let g = f.1 in omega arith) ]) | inr e ↦ inr (let d = e.1 in omega arith) ]

    later : (v k : ℕ) → IsSecond rows v k → (v ≡ place → ⊥) → (v < place + 1 + j) ⊎ (place + 1 + j ≤ v) → place + 1 + j ≤ v + 1 + k
    later v k second apart (inr more) = omega arith
    later v k second apart (inl less) =
        elim (nat_cases v place) [
          | inl before ↦ absurd (m.single v k before second)
          | inr after ↦
              let i : ℕ = v - (place + 1) in
              let is : place + 1 + i ≡ v = omega arith in
              let inside : j < length elements = slice_get_within elements j found.0.row found.0.stands in
              let e = elements_stand (drop (place + 1) rows) i (subst (λ (es : List Row). i < length es) elements_are (omega arith)) in
              let at_v : slice_get rows v ≡ Some (Element e.0) = ap (slice_get rows) (sym is) ∙ sym (slice_get-drop rows (place + 1) i) ∙ e.1 in
              let unit = second.unit in cc
        ]

pub making_end : (rows : List HarnessRow) (place : ℕ) (units : List HarnessUnit) → length rows ≤ place → Making rows place units → (u j : ℕ) → IsSecond rows u j → ⊥
making_end rows place units all m u j second = m.single u j (let h = slice_get_within rows u (NewUnit second.serial second.attempt) second.unit in omega arith) second

pub making_units : (rows : List HarnessRow) (place : ℕ) (units : List HarnessUnit) → length rows ≤ place → Making rows place units → units ≡ units_of rows
making_units rows place units all m = sym (append-nil units) ∙ ap (λ (rs : List HarnessRow). units ++ units_of rs) (sym (drop_all place rows all)) ∙ m.units_are

-- ---- lines of rows

length-filter : (p : List ℕ → Bool) (lines : List (List ℕ)) → length (filter p lines) ≤ length lines
length-filter p [] = omega arith
length-filter p (line ∷ lines) = go (p line) refl (length-filter p lines)
  where
    go : (b : Bool) → p line ≡ b → length (filter p lines) ≤ length lines → length (filter p (line ∷ lines)) ≤ length (line ∷ lines)
    go true e h = rw e (omega arith)
    go false e h = rw e (omega arith)

pub rows_few : (lines : List (List ℕ)) (rows : List HarnessRow) → AreRows lines rows → length rows ≤ most_lines
rows_few lines rows are =
    let few = are.few in
    let same : length (row_lines lines) ≡ length rows = sym (length-map (row_lines lines) words_of) ∙ ap length are.words ∙ length-map rows row_words in
    let less = length-filter (λ line. not (is_passed_over line)) lines in
    omega arith

-- the numbers ascend
from_on : (from : ℕ) (lines : List (List ℕ)) (i n : ℕ) → slice_get (row_numbers from lines) i ≡ Some n → from ≤ n
from_on from [] i n e = cc
from_on from (line ∷ lines) i n e = go (is_passed_over line) refl e (λ j m f. from_on (from + 1) lines j m f)
  where
    at : (i : ℕ) → slice_get (from ∷ row_numbers (from + 1) lines) i ≡ Some n → ((j m : ℕ) → slice_get (row_numbers (from + 1) lines) j ≡ Some m → from + 1 ≤ m) → from ≤ n
    at zero g later = let same : from ≡ n = cc in omega arith
    at (suc j) g later = let h = later j n g in omega arith

    passing : is_passed_over line ≡ true → row_numbers from (line ∷ lines) ≡ row_numbers (from + 1) lines
    passing passed = rw passed refl

    adding : is_passed_over line ≡ false → row_numbers from (line ∷ lines) ≡ from ∷ row_numbers (from + 1) lines
    adding passed = rw passed refl

    go : (b : Bool) → is_passed_over line ≡ b → slice_get (row_numbers from (line ∷ lines)) i ≡ Some n → ((j m : ℕ) → slice_get (row_numbers (from + 1) lines) j ≡ Some m → from + 1 ≤ m) → from ≤ n
    go true passed f later = let rest : slice_get (row_numbers (from + 1) lines) i ≡ Some n = subst (λ (ns : List ℕ). slice_get ns i ≡ Some n) (passing passed) f in let h = later i n rest in omega arith
    go false passed f later = at i (subst (λ (ns : List ℕ). slice_get ns i ≡ Some n) (adding passed) f) later

pub numbers_ascend : (from : ℕ) (lines : List (List ℕ)) (i j n m : ℕ) → slice_get (row_numbers from lines) i ≡ Some n → slice_get (row_numbers from lines) j ≡ Some m → i ≤ j → n ≤ m
numbers_ascend from [] i j n m e f less = cc
numbers_ascend from (line ∷ lines) i j n m e f less = go (is_passed_over line) refl e f (λ k l a b g h under. numbers_ascend (from + 1) lines k l a b g h under)
  where
    at : (i j : ℕ) → i ≤ j → slice_get (from ∷ row_numbers (from + 1) lines) i ≡ Some n → slice_get (from ∷ row_numbers (from + 1) lines) j ≡ Some m →
        ((k l a b : ℕ) → slice_get (row_numbers (from + 1) lines) k ≡ Some a → slice_get (row_numbers (from + 1) lines) l ≡ Some b → k ≤ l → a ≤ b) → n ≤ m
    at zero zero under g h later = let one : from ≡ n = cc in let other : from ≡ m = cc in omega arith
    at zero (suc j) under g h later = let one : from ≡ n = cc in let more = from_on (from + 1) lines j m h in omega arith
    at (suc i) zero under g h later = absurd (omega arith)
    at (suc i) (suc j) under g h later = later i j n m g h (omega arith)

    go : (b : Bool) → is_passed_over line ≡ b → slice_get (row_numbers from (line ∷ lines)) i ≡ Some n → slice_get (row_numbers from (line ∷ lines)) j ≡ Some m →
        ((k l a b : ℕ) → slice_get (row_numbers (from + 1) lines) k ≡ Some a → slice_get (row_numbers (from + 1) lines) l ≡ Some b → k ≤ l → a ≤ b) → n ≤ m
    go true passed g h later =
        let same : row_numbers from (line ∷ lines) ≡ row_numbers (from + 1) lines = rw passed refl in
        later i j n m (subst (λ (ns : List ℕ). slice_get ns i ≡ Some n) same g) (subst (λ (ns : List ℕ). slice_get ns j ≡ Some m) same h) less
    go false passed g h later =
        let same : row_numbers from (line ∷ lines) ≡ from ∷ row_numbers (from + 1) lines = rw passed refl in
        at i j less (subst (λ (ns : List ℕ). slice_get ns i ≡ Some n) same g) (subst (λ (ns : List ℕ). slice_get ns j ≡ Some m) same h) later

-- the line of the least second element
pub least_line : (lines : List (List ℕ)) (rows : List HarnessRow) (numbers : List ℕ) (number u j : ℕ) → AreRows lines rows → IsTrue (has_end rows) → numbers ≡ row_numbers 1 lines →
    IsLeastSecond rows u j → slice_get numbers (u + 1 + j) ≡ Some number → LeastSecond lines number
least_line lines rows numbers number u j are ends numbers_are least line =
    let here : slice_get (row_numbers 1 lines) (u + 1 + j) ≡ Some number = subst (λ (ns : List ℕ). slice_get ns (u + 1 + j) ≡ Some number) numbers_are line in record {
      rows = rows;
      rows_are = are;
      ends = ends;
      second = record { unit = u; place = j; second = least.second; line = here };
      least = λ other second. numbers_ascend 1 lines (u + 1 + j) (second.unit + 1 + second.place) number other here second.line (least.least second.unit second.place second.second);
    }
