-- Lists of faults that are empty, and what a filter keeps.
use Rattle.std.proofs.Common.{◌≡◌, ◌&&◌, ℕ, zero, suc, ◌<◌, Bool, true, false, cond, List, [], ◌∷◌, ◌++◌, length, get_or, map, filter, refl, ◌∙◌, ap, arith, All, inl, inr}
use Rattle.std.specs.List.{flat_map}
use Rattle.std.proofs.lemmas.Bool.{cases_eq}
use Rattle.std.proofs.lemmas.List.Elements.{All-filter, filter_passes, All-from_get_or}
use Rattle.partition.specs.Classes.{points_below}
use Rattle.partition.proofs.tables.ClaimLemmas.{none_before}

-- ---- nothing

pub append_none : {A : Type 0} (xs ys : List A) → xs ++ ys ≡ [] → (xs ≡ []) × (ys ≡ [])
append_none [] ys h = (refl, h)
append_none (x ∷ xs) ys h = cc

pub map_none : {A B : Type 0} (f : A → B) (xs : List A) → map f xs ≡ [] → xs ≡ []
map_none f [] h = refl
map_none f (x ∷ xs) h = cc

pub flat_none : {A : Type 0} (f : ℕ → List A) (m k : ℕ) → flat_map f (points_below m) ≡ [] → k < m → f k ≡ []
flat_none f zero k none l = absurd (omega arith)
flat_none f (suc m) k none l =
    let parts = none_before f m none in
    elim (cases_eq k m) [ inl same ↦ ap f same ∙ parts.1 | inr ne ↦ flat_none f m k parts.0 (omega arith) ]

-- the second part of a list that is empty
pub second_none : {A : Type 0} (b : Bool) (xs ys : List A) → b ≡ false → cond b [] (xs ++ ys) ≡ [] → ys ≡ []
second_none true xs ys e h = cc
second_none false xs ys e h = (append_none xs ys h).1

pub conjunct : (a b : Bool) → (a && b) ≡ false → a ≡ true → b ≡ false
conjunct true b h e = h
conjunct false b h e = cc

-- ---- what a filter keeps

-- what holds of each element that passes holds of all that are kept
pub All-kept : {X : Type 0} (t : X → Bool) (P : X → Type 0) (xs : List X) (d : X) → ((i : ℕ) → i < length xs → t (get_or xs i d) ≡ true → P (get_or xs i d)) → All P (filter t xs)
All-kept t P xs d h k e l =
    let kept = All-filter t (λ x. t x ≡ true → P x) xs (All-from_get_or (λ x. t x ≡ true → P x) xs d h) in
    kept k e l (filter_passes t xs k e l)
