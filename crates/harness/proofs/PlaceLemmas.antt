-- One more row.
use Rattle.std.proofs.Common.{◌≡◌, ℕ, ◌+◌, Bool, true, false, cond, List, [], ◌∷◌, ◌++◌, String, length, refl, sym, ◌∙◌, ap, subst, inl, inr, arith}
use Rattle.std.specs.Prelude.{◌||◌, ◌&&◌, not, bytes_eq, ◌==◌}
use Rattle.std.specs.List.{list_any}
use Rattle.std.specs.BTreeSet.{BTreeSet, contains_text}
use Rattle.std.specs.declared.alloc.Global.{Global}
use mathlib.Core.List.{append_assoc}
use Rattle.std.proofs.lemmas.Bool.{ne_eqb, eq-eqb}
use Rattle.std.proofs.lemmas.Bool.Decides.{eqb_tells}
use Rattle.std.proofs.lemmas.List.{append-nil, length-append}
use Rattle.std.proofs.lemmas.List.Sums.{fold-append}
use Rattle.harness.specs.declared.row.HarnessRow.{HarnessRow}
use Rattle.harness.specs.declared.row.HarnessRow.TheVariants.{Points, Fault, Door, NewUnit, Element, End}
use Rattle.harness.specs.Places.{is_first, is_unit_row, has_unit, is_end, has_end, charge_after, has_charge, is_open, points_in, is_unit_of, Stands, StandBelow}
use Rattle.harness.specs.Above.{unit_key, IsSummary}

-- the rows stand well with one more that stands well below them
pub StandBelow-push : (above rows : List HarnessRow) (row : HarnessRow) → StandBelow above rows → Stands (above ++ rows) row → StandBelow above (rows ++ (row ∷ []))
StandBelow-push above [] row rest here = let P : List HarnessRow → Type 0 = λ rows. Stands rows row in (subst P (append-nil above) here, tt)
StandBelow-push above (r ∷ rows) row rest here =
    (rest.0, StandBelow-push (above ++ (r ∷ [])) rows row rest.1 (rw (append_assoc above (r ∷ []) rows) here))

-- a test of one more row
pub list_any-push : {X : Type 0} (p : X → Bool) (rows : List X) (row : X) → list_any p (rows ++ (row ∷ [])) ≡ (list_any p rows || p row)
list_any-push p [] row = go (p row)
  where
    go : (b : Bool) → (b || false) ≡ (false || b)
    go true = refl
    go false = refl
list_any-push p (r ∷ rows) row = go (p r) (list_any-push p rows row)
  where
    go : (b : Bool) → list_any p (rows ++ (row ∷ [])) ≡ (list_any p rows || p row) → (b || list_any p (rows ++ (row ∷ []))) ≡ ((b || list_any p rows) || p row)
    go true e = refl
    go false e = e

-- below a first row the number of points stays
pub points_in-push : (rows : List HarnessRow) (row : HarnessRow) → is_first rows ≡ false → points_in (rows ++ (row ∷ [])) ≡ points_in rows
points_in-push [] row some = cc
points_in-push (r ∷ rows) row some = refl

pub or-false : (b : Bool) → (b || false) ≡ b
or-false true = refl
or-false false = refl

pub or-true : (b : Bool) → (b || true) ≡ true
or-true true = refl
or-true false = refl

pub and_left : (a b : Bool) → (a && b) ≡ true → a ≡ true
and_left true b h = refl
and_left false b h = cc

pub not_true : (a : Bool) → not a ≡ true → a ≡ false
not_true true h = cc
not_true false h = refl

-- an open list has a first row
pub open_some : (rows : List HarnessRow) → is_open rows ≡ true → is_first rows ≡ false
open_some rows h = not_true (is_first rows) (and_left (not (is_first rows)) (not (has_end rows)) h)

and_assoc : (a b c : Bool) → (a && (b && c)) ≡ ((a && b) && c)
and_assoc true b c = refl
and_assoc false b c = refl

and-false : (a : Bool) → (a && false) ≡ false
and-false true = refl
and-false false = refl

empty_first : (s : List ℕ) (x : ℕ) → bytes_eq [] (s ++ (x ∷ [])) ≡ false
empty_first [] x = refl
empty_first (y ∷ s) x = refl

empty_last : (s : List ℕ) (x : ℕ) → bytes_eq (s ++ (x ∷ [])) [] ≡ false
empty_last [] x = refl
empty_last (y ∷ s) x = refl

shifted_eq : (b a : ℕ) → ((48 + b == 48 + a) && true) ≡ (b == a)
shifted_eq b a =
    elim (eqb_tells b a) [
      | inl e ↦ rw e.1 (rw (eq-eqb (48 + a) (48 + a) refl) (sym (eq-eqb a a refl)))
      | inr e ↦ rw (ne_eqb (48 + b) (48 + a) (λ h. e.1 (let k = h in omega arith))) (sym e.0)
    ]

-- two keys are one where serials and attempts are
pub key_eq : (t s : List ℕ) (b a : ℕ) → bytes_eq (unit_key t b) (unit_key s a) ≡ (bytes_eq t s && (b == a))
key_eq [] [] b a = shifted_eq b a
key_eq [] (y ∷ s) b a = ap (λ r. (48 + b == y) && r) (empty_first s (48 + a)) ∙ and-false (48 + b == y)
key_eq (x ∷ t) [] b a = ap (λ r. (x == 48 + a) && r) (empty_last t (48 + b)) ∙ and-false (x == 48 + a)
key_eq (x ∷ t) (y ∷ s) b a = ap (λ r. (x == y) && r) (key_eq t s b a) ∙ and_assoc (x == y) (bytes_eq t s) (b == a)

charge-push : (rows : List HarnessRow) (row : HarnessRow) → has_charge (rows ++ (row ∷ [])) ≡ charge_after (has_charge rows) row
charge-push rows row = fold-append charge_after false rows (row ∷ [])

-- one more row, and what is kept of it
pub summary-push : (rows items : List HarnessRow) (row : HarnessRow) (numbers numbers' : List ℕ) (number points points' : ℕ) (unit unit' charge charge' end end' : Bool) (units units' : BTreeSet (String Global)) →
    IsSummary rows numbers points unit charge end units → Stands rows row → items ≡ rows ++ (row ∷ []) → numbers' ≡ numbers ++ (number ∷ []) →
    points' ≡ points_in (rows ++ (row ∷ [])) → unit' ≡ (unit || is_unit_row row) → charge' ≡ charge_after charge row → end' ≡ (end || is_end row) →
    ((serial : List ℕ) (attempt : ℕ) → contains_text units' (unit_key serial attempt) ≡ (contains_text units (unit_key serial attempt) || is_unit_of serial attempt row)) →
    IsSummary items numbers' points' unit' charge' end' units'
summary-push rows items row numbers numbers' number points points' unit unit' charge charge' end end' units units' kept here items_are numbers_are points_are unit_is charge_is end_is units_are = rw items_are (record {
  stand = StandBelow-push [] rows row kept.stand here;
  numbered = let n = kept.numbered in ap length numbers_are ∙ length-append numbers (number ∷ []) ∙ ap (λ k. k + 1) n ∙ sym (length-append rows (row ∷ []));
  points_are = points_are;
  unit_is = unit_is ∙ ap (λ (b : Bool). b || is_unit_row row) kept.unit_is ∙ sym (list_any-push is_unit_row rows row);
  charge_is = charge_is ∙ ap (λ (b : Bool). charge_after b row) kept.charge_is ∙ sym (charge-push rows row);
  end_is = end_is ∙ ap (λ (b : Bool). b || is_end row) kept.end_is ∙ sym (list_any-push is_end rows row);
  units_are = λ serial attempt.
      units_are serial attempt ∙ ap (λ (b : Bool). b || is_unit_of serial attempt row) (kept.units_are serial attempt) ∙ sym (list_any-push (is_unit_of serial attempt) rows row);
})

-- a row that is no unit adds no unit
no_unit_of : (row : HarnessRow) → is_unit_row row ≡ false → (serial : List ℕ) (attempt : ℕ) → is_unit_of serial attempt row ≡ false
no_unit_of (NewUnit s a) plain serial attempt = cc
no_unit_of (Points n) plain serial attempt = refl
no_unit_of (Fault k) plain serial attempt = refl
no_unit_of (Door k) plain serial attempt = refl
no_unit_of (Element row) plain serial attempt = refl
no_unit_of End plain serial attempt = refl

-- a row that is neither the first nor a unit
pub summary-other : (rows items : List HarnessRow) (row : HarnessRow) (numbers numbers' : List ℕ) (number points : ℕ) (unit charge charge' end end' : Bool) (units : BTreeSet (String Global)) →
    IsSummary rows numbers points unit charge end units → Stands rows row → items ≡ rows ++ (row ∷ []) → numbers' ≡ numbers ++ (number ∷ []) → is_first rows ≡ false →
    is_unit_row row ≡ false → charge' ≡ charge_after charge row → end' ≡ (end || is_end row) →
    IsSummary items numbers' points unit charge' end' units
summary-other rows items row numbers numbers' number points unit charge charge' end end' units kept here items_are numbers_are below no_unit charge_is end_is =
    summary-push rows items row numbers numbers' number points points unit unit charge charge' end end' units units kept here items_are numbers_are
    (kept.points_are ∙ sym (points_in-push rows row below))
    (rw no_unit (sym (or-false unit))) charge_is end_is
    (λ serial attempt. rw (no_unit_of row no_unit serial attempt) (sym (or-false (contains_text units (unit_key serial attempt)))))

-- a row that stands below the first
pub later_row : (rows : List HarnessRow) (row : HarnessRow) → Stands rows row → points_in (row ∷ []) ≡ 0 → is_first rows ≡ false
later_row rows (Points n) here below = let some = here.in_range.0 in absurd (omega arith)
later_row rows (Fault k) here below = open_some rows (and_left (is_open rows) (not (has_unit rows)) here.in_place)
later_row rows (Door k) here below = open_some rows (and_left (is_open rows) (not (has_unit rows)) here.in_place)
later_row rows (NewUnit s a) here below = open_some rows here.in_place
later_row rows (Element row) here below = open_some rows (and_left (is_open rows) _ here.in_place)
later_row rows End here below = open_some rows here.in_place

-- the first row
pub summary-first : (rows items : List HarnessRow) (numbers numbers' : List ℕ) (number n points : ℕ) (unit charge end : Bool) (units : BTreeSet (String Global)) →
    IsSummary rows numbers points unit charge end units → Stands rows (Points n) → items ≡ rows ++ (Points n ∷ []) → numbers' ≡ numbers ++ (number ∷ []) →
    IsSummary items numbers' n unit charge end units
summary-first [] items numbers numbers' number n points unit charge end units kept here items_are numbers_are =
    summary-push [] items (Points n) numbers numbers' number points n unit unit charge charge end end units units kept here items_are numbers_are refl (sym (or-false unit)) refl (sym (or-false end))
    (λ serial attempt. sym (or-false (contains_text units (unit_key serial attempt))))
summary-first (r ∷ rows) items numbers numbers' number n points unit charge end units kept here items_are numbers_are = let h = here.in_place in cc

cond_or : (c b : Bool) → cond c true b ≡ (b || c)
cond_or true b = sym (or-true b)
cond_or false b = sym (or-false b)

-- a unit
pub summary-unit : (rows items : List HarnessRow) (t : List ℕ) (numbers numbers' : List ℕ) (number b points : ℕ) (unit charge end : Bool) (units units' : BTreeSet (String Global)) (key : List ℕ) →
    IsSummary rows numbers points unit charge end units → Stands rows (NewUnit t b) → items ≡ rows ++ (NewUnit t b ∷ []) → numbers' ≡ numbers ++ (number ∷ []) → key ≡ unit_key t b →
    ((cs : List ℕ) → contains_text units' cs ≡ cond (bytes_eq key cs) true (contains_text units cs)) →
    IsSummary items numbers' points true false end units'
summary-unit rows items t numbers numbers' number b points unit charge end units units' key kept here items_are numbers_are key_is updates =
    summary-push rows items (NewUnit t b) numbers numbers' number points points unit true charge false end end units units' kept here items_are numbers_are
    (kept.points_are ∙ sym (points_in-push rows (NewUnit t b) (open_some rows here.in_place)))
    (sym (or-true unit)) refl (sym (or-false end))
    (λ serial attempt.
    updates (unit_key serial attempt)
    ∙ cond_or (bytes_eq key (unit_key serial attempt)) (contains_text units (unit_key serial attempt))
    ∙ ap (λ (k : List ℕ). contains_text units (unit_key serial attempt) || bytes_eq k (unit_key serial attempt)) key_is
    ∙ ap (λ (c : Bool). contains_text units (unit_key serial attempt) || c) (key_eq t serial b attempt))
