-- The rows of a kind, one after another.
use Rattle.std.proofs.Common.{◌≡◌, ℕ, suc, ◌+◌, ◌-◌, ◌<◌, ◌≤◌, Bool, true, false, List, [], ◌∷◌, ◌++◌, None, Some, length, get_or, take, drop, map, refl, sym, ◌∙◌, ap, subst, arith}
use Rattle.std.specs.Prelude.{All, IsTrue, filter, slice_get}
use Rattle.std.proofs.lemmas.List.{get_or-drop, length-drop, map_more}
use Rattle.std.proofs.lemmas.List.Elements.{All-get_or}
use Rattle.wirelist_reader.specs.Reading.{IsFit}
use Rattle.wirelist_reader.specs.Kinds.{number}
use Rattle.wirelist_reader.specs.Rows.{is_kind, listed_ignored, rows_of_kind}
use Rattle.wirelist_reader.specs.declared.kind.Kind.{Kind}
use Rattle.wirelist_reader.specs.declared.kind.Kind.TheVariants.{Ignore}
use Rattle.wirelist_reader.proofs.Firsts.{first_is}

-- each of some fit rows is fit
pub row_fits : (rows : List (List (List ℕ))) (i : ℕ) (row : List (List ℕ)) → All IsFit rows → i < length rows → row ≡ get_or rows i row → IsFit row
row_fits rows i row all inside is = subst IsFit (sym is) (All-get_or IsFit rows i row inside all)

-- the first of a kind
pub first_row : (kind : Kind) (rows : List (List (List ℕ))) (i : ℕ) (row : List (List ℕ)) → rows_of_kind kind (take i rows) ≡ [] → i < length rows → row ≡ get_or rows i row → is_kind kind row ≡ true →
    Some row ≡ slice_get (rows_of_kind kind rows) 0
first_row kind rows i row none inside is kind_is = ap Some is ∙ sym (first_is (is_kind kind) rows i row inside none (ap (is_kind kind) (sym is) ∙ kind_is))

module _ {X : Type 0} (p : X → Bool) (P : X → Type 0) where
  first_case : (y : X) (ys : List X) (x : X) (b : Bool) → p y ≡ b → All P (y ∷ ys) → Some x ≡ slice_get (filter p (y ∷ ys)) 0 →
      (All P ys → Some x ≡ slice_get (filter p ys) 0 → (p x ≡ true) × P x) → (p x ≡ true) × P x
  first_case y ys x true e all is later =
      let first : Some x ≡ Some y = is ∙ rw e refl in
      let same : x ≡ y = cc in
      (ap p same ∙ e, subst P (sym same) (all 0 y (omega arith)))
  first_case y ys x false e all is later = later (λ k d inside. all (suc k) d (omega arith)) (is ∙ rw e refl)

  -- what is first of those that pass passes, and has what all have
  pub first_has : (xs : List X) (x : X) → All P xs → Some x ≡ slice_get (filter p xs) 0 → (p x ≡ true) × P x
  first_has [] x all is = absurd cc
  first_has (y ∷ ys) x all is = first_case y ys x (p y) refl all is (first_has ys x)

-- the first row of a kind is of the kind, and fit
pub first_fits : (kind : Kind) (rows : List (List (List ℕ))) (row : List (List ℕ)) → All IsFit rows → Some row ≡ slice_get (rows_of_kind kind rows) 0 → IsTrue (is_kind kind row) × IsFit row
first_fits kind rows row all is = first_has (is_kind kind) IsFit rows row all is

-- where no row has ignored points, there are none
pub none_ignored : (rows : List (List (List ℕ))) → None ≡ slice_get (rows_of_kind Ignore rows) 0 → listed_ignored rows ≡ []
none_ignored rows none = go (rows_of_kind Ignore rows) none
  where
    go : (found : List (List (List ℕ))) → None ≡ slice_get found 0 → map number (drop 1 (get_or found 0 [])) ≡ []
    go [] e = refl
    go (x ∷ xs) e = cc

-- one more of the points that the fields from a place on are
pub point_more : (row : List (List ℕ)) (first place : ℕ) (list next : List ℕ) (p : ℕ) → first ≤ place → place < length row → list ≡ map number (take (place - first) (drop first row)) →
    next ≡ list ++ p ∷ [] → p ≡ number (get_or row place []) → next ≡ map number (take ((place + 1) - first) (drop first row))
point_more row first place list next p low high is step value =
    let k = place - first in
    let later : (place + 1) - first ≡ k + 1 = omega arith in
    let there : first + k ≡ place = omega arith in
    let inside : k < length (drop first row) = omega (arith, length-drop first row) in
    step
    ∙ ap (λ (xs : List ℕ). xs ++ p ∷ []) is
    ∙ ap (λ (x : ℕ). map number (take k (drop first row)) ++ x ∷ []) (value ∙ ap (λ (i : ℕ). number (get_or row i [])) (sym there) ∙ ap number (sym (get_or-drop first row k [])))
    ∙ sym (map_more number (drop first row) k [] inside)
    ∙ ap (λ (n : ℕ). map number (take n (drop first row))) (sym later)
