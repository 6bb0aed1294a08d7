-- Members and pairs of lists.
use Rattle.std.proofs.Common.{◌≡◌, ℕ, zero, suc, ◌<◌, List, [], ◌∷◌, length, get_or, map, filter, Contains, refl, sym, ◌∙◌, ap, subst, arith, inl, inr}
use Rattle.std.specs.Prelude.{AllPairs}
use Rattle.std.proofs.lemmas.List.{get_or-map, length-map}
use Rattle.partition.specs.Classes.{has}
use Rattle.partition.proofs.Members.{In}
use Rattle.partition.proofs.tables.NetLaws.{In-index}

pub index-In : {X : Type 0} (xs : List X) (i : ℕ) (d : X) → i < length xs → In (get_or xs i d) xs
index-In [] i d l = absurd (omega arith)
index-In (x ∷ xs) zero d l = inl refl
index-In (x ∷ xs) (suc i) d l = inr (index-In xs i d (omega arith))

pub In-Contains : (p : ℕ) (xs : List ℕ) → In p xs → Contains xs p
In-Contains p xs i = let k = In-index p xs i in (k.0, k.1, k.2 p)

pub AllPairs-map : {X Y : Type 0} (R : Y → Y → Type 0) (f : X → Y) (xs : List X) → AllPairs (λ x y. R (f x) (f y)) xs → AllPairs R (map f xs)
AllPairs-map R f [] all i j d less l = absurd (omega arith)
AllPairs-map R f (x ∷ xs) all i j d less l =
    let size = length-map (x ∷ xs) f in
    subst (λ (u : _). R u (get_or (map f (x ∷ xs)) j d)) (sym (get_or-map f (x ∷ xs) i x d (omega arith)))
    (subst (λ (v : _). R (f (get_or (x ∷ xs) i x)) v) (sym (get_or-map f (x ∷ xs) j x d (omega arith))) (all i j x less (omega arith)))

-- a map that keeps each member keeps the list
pub map-kept : {X : Type 0} (f : X → X) (xs : List X) → ((x : X) → In x xs → f x ≡ x) → map f xs ≡ xs
map-kept f [] each = refl
map-kept f (x ∷ xs) each = ap (λ (y : _). y ∷ map f xs) (each x (inl refl)) ∙ ap (λ (ys : List _). x ∷ ys) (map-kept f xs (λ y i. each y (inr i)))

-- no number is in the empty list
pub none_listed : (xs : List ℕ) → filter (has []) xs ≡ []
none_listed [] = refl
none_listed (x ∷ xs) = none_listed xs
