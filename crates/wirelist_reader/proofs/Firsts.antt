-- The first of a list that passes a test, and the first of some lists of faults.
use Rattle.std.proofs.Common.{◌≡◌, ℕ, zero, suc, ◌+◌, ◌<◌, ◌≤◌, Bool, true, false, List, [], ◌∷◌, ◌++◌, length, get_or, take, drop, Some, slice_get, refl, sym, ◌∙◌, ap, arith, cond}
use Rattle.std.specs.Prelude.{◌&&◌, filter}
use Rattle.std.specs.List.{list_all}
use Rattle.std.proofs.lemmas.List.{take_more, take_all, take-append-drop}
use Rattle.std.proofs.lemmas.List.Elements.{filter-append}
use Rattle.wirelist.specs.declared.refusal.WireRefusal.{WireRefusal}

module _ {X : Type 0} (p : X → Bool) where
  filter_one : (x : X) (b : Bool) → p x ≡ b → filter p (x ∷ []) ≡ cond b (x ∷ []) []
  filter_one x b e = rw e refl

  -- one more item
  pub filter_more : (xs : List X) (i : ℕ) (d : X) (b : Bool) → i < length xs → p (get_or xs i d) ≡ b → filter p (take (i + 1) xs) ≡ filter p (take i xs) ++ cond b (get_or xs i d ∷ []) []
  filter_more xs i d b lt e =
      ap (filter p) (take_more xs i d lt) ∙ filter-append p (take i xs) (get_or xs i d ∷ [])
      ∙ ap (λ (l : List X). filter p (take i xs) ++ l) (filter_one (get_or xs i d) b e)

  -- none of the first items passes
  pub none_more : (xs : List X) (i : ℕ) (d : X) → i < length xs → filter p (take i xs) ≡ [] → p (get_or xs i d) ≡ false → filter p (take (i + 1) xs) ≡ []
  none_more xs i d lt none e = filter_more xs i d false lt e ∙ rw none refl

  -- none does, and the next one does
  pub first_is : (xs : List X) (i : ℕ) (d : X) → i < length xs → filter p (take i xs) ≡ [] → p (get_or xs i d) ≡ true → slice_get (filter p xs) 0 ≡ Some (get_or xs i d)
  first_is xs i d lt none e =
      let parts = ap (filter p) (sym (take-append-drop (i + 1) xs)) ∙ filter-append p (take (i + 1) xs) (drop (i + 1) xs) in
      let more = filter_more xs i d true lt e in
      rw (parts, more, none) refl

  -- none of all passes
  pub none_of_all : (xs : List X) (i : ℕ) → length xs ≤ i → filter p (take i xs) ≡ [] → filter p xs ≡ []
  none_of_all xs i le none = ap (filter p) (sym (take_all i xs le)) ∙ none

-- the first fault of two lists is that of the first, or that of the second where the first has none
pub first_in_left : (xs ys : List WireRefusal) (e : WireRefusal) → slice_get xs 0 ≡ Some e → slice_get (xs ++ ys) 0 ≡ Some e
first_in_left [] ys e is = cc
first_in_left (x ∷ xs) ys e is = is

pub first_in_right : (xs ys : List WireRefusal) (e : WireRefusal) → xs ≡ [] → slice_get ys 0 ≡ Some e → slice_get (xs ++ ys) 0 ≡ Some e
first_in_right xs ys e none is = rw none is

pub none_in_both : {A : Type 0} (xs ys : List A) → xs ≡ [] → ys ≡ [] → xs ++ ys ≡ []
none_in_both xs ys none also = rw (none, also) refl

-- a test of all
module _ {X : Type 0} (p : X → Bool) where
  all_push : (xs : List X) (x : X) → list_all p xs ≡ true → p x ≡ true → list_all p (xs ++ x ∷ []) ≡ true
  all_push [] x all here = rw here refl
  all_push (y ∷ ys) x all here = go (p y) all (λ rest. all_push ys x rest here)
    where
      go : (b : Bool) → (b && list_all p ys) ≡ true → (list_all p ys ≡ true → list_all p (ys ++ x ∷ []) ≡ true) → (b && list_all p (ys ++ x ∷ [])) ≡ true
      go true rest later = later rest
      go false rest later = rest

  pub all_more : (xs : List X) (i : ℕ) (d : X) → i < length xs → list_all p (take i xs) ≡ true → p (get_or xs i d) ≡ true → list_all p (take (i + 1) xs) ≡ true
  all_more xs i d lt all here = ap (list_all p) (take_more xs i d lt) ∙ all_push (take i xs) (get_or xs i d) all here

  pub all_of_all : (xs : List X) (i : ℕ) → length xs ≤ i → list_all p (take i xs) ≡ true → list_all p xs ≡ true
  all_of_all xs i le all = ap (list_all p) (sym (take_all i xs le)) ∙ all

  and_false : (b : Bool) → (b && false) ≡ false
  and_false true = refl
  and_false false = refl

  pub not_all : (xs : List X) (i : ℕ) (d : X) → i < length xs → p (get_or xs i d) ≡ false → list_all p xs ≡ false
  not_all [] i d lt here = absurd (omega arith)
  not_all (x ∷ xs) zero d lt here = rw here refl
  not_all (x ∷ xs) (suc i) d lt here = ap (λ (b : Bool). p x && b) (not_all xs i d (omega arith) here) ∙ and_false (p x)
