-- A search over units and over rows.
use Rattle.std.proofs.Common.{◌≡◌, ℕ, zero, suc, ◌+◌, ◌<◌, ◌≤◌, Bool, true, false, List, [], ◌∷◌, Some, None, length, get_or, take, drop, refl, sym, ◌∙◌, ap, subst, arith, drop-cons}
use Rattle.std.specs.Prelude.{All, find, option_map, ◌||◌}
use Rattle.std.specs.List.{list_any, filter_map, cons_option}
use Rattle.std.proofs.lemmas.List.{drop_all, take_more}
use Rattle.std.proofs.lemmas.List.Elements.{All-head, All-tail}
use Rattle.std.proofs.lemmas.Option.{slice_get_read}
use Rattle.rig.specs.declared.unit.Row.{Row}
use Rattle.rig.specs.declared.unit.Unit.{Unit as HarnessUnit}
use Rattle.rig.specs.Joins.{is_unit}
use Rattle.rig.specs.Values.{charge_in, first_charge, charge_of}
use Rattle.harness.proofs.PlaceLemmas.{list_any-push}
use Rattle.rig_sim.specs.Fixture.{IsPlaceOf}

drop_here : {X : Type 0} (xs : List X) (i : ℕ) (x : X) → i < length xs → x ≡ get_or xs i x → drop i xs ≡ x ∷ drop (suc i) xs
drop_here xs i x short at = drop-cons xs i x short ∙ ap (λ y. y ∷ drop (suc i) xs) (sym at)

suc_one : (i : ℕ) → suc i ≡ i + 1
suc_one i = omega arith

find_first : {X : Type 0} (p : X → Bool) (x : X) (rest : List X) → p x ≡ true → find p (x ∷ rest) ≡ Some x
find_first p x rest holds = rw holds refl

find_later : {X : Type 0} (p : X → Bool) (x : X) (rest : List X) → p x ≡ false → find p (x ∷ rest) ≡ find p rest
find_later p x rest fails = rw fails refl

-- a search that has come to place i
pub find_here : {X : Type 0} (p : X → Bool) (xs : List X) (i : ℕ) (x : X) → i < length xs → x ≡ get_or xs i x → p x ≡ true → find p (drop i xs) ≡ find p xs → find p xs ≡ Some x
find_here p xs i x short at holds so_far = sym so_far ∙ ap (find p) (drop_here xs i x short at) ∙ find_first p x (drop (suc i) xs) holds

pub find_next : {X : Type 0} (p : X → Bool) (xs : List X) (i : ℕ) (x : X) → i < length xs → x ≡ get_or xs i x → p x ≡ false → find p (drop i xs) ≡ find p xs → find p (drop (i + 1) xs) ≡ find p xs
find_next p xs i x short at fails so_far =
    ap (λ k. find p (drop k xs)) (sym (suc_one i)) ∙ sym (find_later p x (drop (suc i) xs) fails) ∙ sym (ap (find p) (drop_here xs i x short at)) ∙ so_far

pub find_none : {X : Type 0} (p : X → Bool) (xs : List X) (i : ℕ) → length xs ≤ i → find p (drop i xs) ≡ find p xs → find p xs ≡ None
find_none p xs i all so_far = sym so_far ∙ ap (find p) (drop_all i xs all)

pub place_found : (units : List HarnessUnit) (serial : List ℕ) (attempt i : ℕ) (unit : HarnessUnit) → i < length units → unit ≡ get_or units i unit →
    is_unit serial attempt unit ≡ true → find (is_unit serial attempt) (drop i units) ≡ find (is_unit serial attempt) units → IsPlaceOf units serial attempt i unit
place_found units serial attempt i unit short at holds so_far = record {
  stands = slice_get_read units (length units) i unit refl short at;
  first = ap (option_map (λ (u : HarnessUnit). u.rows)) (find_here (is_unit serial attempt) units i unit short at holds so_far);
}

-- one more element of which none passes
pub none_more : {X : Type 0} (p : X → Bool) (xs : List X) (x : X) (i : ℕ) → i < length xs → x ≡ get_or xs i x → p x ≡ false → list_any p (take i xs) ≡ false → list_any p (take (i + 1) xs) ≡ false
none_more p xs x i short at fails none =
    ap (list_any p) (take_more xs i x short) ∙ list_any-push p (take i xs) (get_or xs i x) ∙ ap (λ y. list_any p (take i xs) || p y) (sym at) ∙ ap (λ b. b || p x) none ∙ fails

-- one that does
pub one_passes : {X : Type 0} (p : X → Bool) (xs : List X) (i : ℕ) (x : X) → i < length xs → x ≡ get_or xs i x → p x ≡ true → list_any p xs ≡ true
one_passes p [] i x short at holds = absurd (omega arith)
one_passes p (y ∷ xs) zero x short at holds = rw (ap p (sym at) ∙ holds) refl
one_passes p (y ∷ xs) (suc i) x short at holds = go (p y) (one_passes p xs i x (omega arith) at holds)
  where
    go : (b : Bool) → list_any p xs ≡ true → (b || list_any p xs) ≡ true
    go true h = refl
    go false h = h

-- the first charge from place i on
pub charge_here : (rows : List Row) (i : ℕ) (row : Row) (charge : ℕ × ℕ) → i < length rows → row ≡ get_or rows i row → charge_in row ≡ Some charge → charge_of (drop i rows) ≡ charge_of rows → charge_of rows ≡ Some charge
charge_here rows i row charge short at is so_far =
    sym so_far ∙ ap charge_of (drop_here rows i row short at) ∙ ap (λ c. first_charge (cons_option c (filter_map charge_in (drop (suc i) rows)))) is

pub charge_next : (rows : List Row) (i : ℕ) (row : Row) → i < length rows → row ≡ get_or rows i row → charge_in row ≡ None → charge_of (drop i rows) ≡ charge_of rows → charge_of (drop (i + 1) rows) ≡ charge_of rows
charge_next rows i row short at is so_far =
    ap (λ k. charge_of (drop k rows)) (sym (suc_one i)) ∙ sym (ap (λ c. first_charge (cons_option c (filter_map charge_in (drop (suc i) rows)))) is) ∙ sym (ap charge_of (drop_here rows i row short at)) ∙ so_far

pub charge_none : (rows : List Row) (i : ℕ) → length rows ≤ i → charge_of (drop i rows) ≡ charge_of rows → charge_of rows ≡ None
charge_none rows i all so_far = sym so_far ∙ ap charge_of (drop_all i rows all)

-- what is found is one of the list
pub find_all : {X : Type 0} (p : X → Bool) (P : X → Type 0) (xs : List X) (x : X) → find p xs ≡ Some x → All P xs → P x
find_all p P [] x found all = cc
find_all p P (y ∷ xs) x found all = go (p y) refl found (λ later. find_all p P xs x later (All-tail P y xs all))
  where
    go : (b : Bool) → p y ≡ b → find p (y ∷ xs) ≡ Some x → (find p xs ≡ Some x → P x) → P x
    go true e f rest = let same : y ≡ x = cc (find_first p y xs e) in subst P same (All-head P y xs all)
    go false e f rest = rest (sym (find_later p y xs e) ∙ f)
