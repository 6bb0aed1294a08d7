-- Lists that ascend.
use Rattle.std.proofs.Common.{◌≡◌, inl, inr, ℕ, ◌+◌, ◌<◌, ◌≤◌, Bool, true, false, cond, ◌&&◌, List, [], ◌∷◌, filter, refl, ap, arith, ◌∙◌}
use Rattle.std.specs.List.Sorted.{IsStrictlyIncreasing}
use Rattle.partition.specs.Classes.{points_below, has, AscendsFrom}
use Rattle.partition.proofs.classes.ClassLaws.{has-head, has-tail, has-cases, has-above, has-points_below, range-ascends}
use Rattle.partition.proofs.classes.FirstPoint.{tail_rises}
use Rattle.partition.proofs.Members.{In-filter, In-filter_cases, has-In, In-has}
use Rattle.partition.proofs.tables.NetLaws.{filter-ascends}

pub filter-filter : {X : Type 0} (s r : X → Bool) (xs : List X) → filter s (filter r xs) ≡ filter (λ x. r x && s x) xs
filter-filter s r [] = refl
filter-filter {X} s r (x ∷ xs) = go (r x) refl (filter-filter s r xs)
  where
    go : (b : Bool) → r x ≡ b → filter s (filter r xs) ≡ filter (λ y. r y && s y) xs → filter s (filter r (x ∷ xs)) ≡ filter (λ y. r y && s y) (x ∷ xs)
    go true e ih = rw e (ap (λ (zs : List X). cond (s x) (x ∷ zs) zs) ih)
    go false e ih = rw e ih

-- two lists that ascend and have the same members are one
pub same_ascending : (a b : ℕ) (xs ys : List ℕ) → AscendsFrom a xs → AscendsFrom b ys → ((p : ℕ) → has xs p ≡ true → has ys p ≡ true) → ((p : ℕ) → has ys p ≡ true → has xs p ≡ true) → xs ≡ ys
same_ascending a b [] [] u v f g = refl
same_ascending a b [] (y ∷ ys) u v f g = absurd (let e : false ≡ true = g y (has-head y ys) in cc)
same_ascending a b (x ∷ xs) [] u v f g = absurd (let e : false ≡ true = f x (has-head x xs) in cc)
same_ascending a b (x ∷ xs) (y ∷ ys) u v f g =
    let low : y ≤ x = has-above y x (y ∷ ys) (omega arith, v.1) (f x (has-head x xs)) in
    let high : x ≤ y = has-above x y (x ∷ xs) (omega arith, u.1) (g y (has-head y ys)) in
    let same : x ≡ y = omega arith in
    let down : (p : ℕ) → has xs p ≡ true → has ys p ≡ true = λ p h. elim (has-cases y p ys (f p (has-tail x p xs h))) [
      | inl e ↦ absurd (let above = has-above (x + 1) p xs u.1 h in omega arith)
      | inr k ↦ k
    ] in
    let up : (p : ℕ) → has ys p ≡ true → has xs p ≡ true = λ p h. elim (has-cases x p xs (g p (has-tail y p ys h))) [
      | inl e ↦ absurd (let above = has-above (y + 1) p ys v.1 h in omega arith)
      | inr k ↦ k
    ] in
    ap (λ (z : ℕ). z ∷ xs) same ∙ ap (λ (zs : List ℕ). y ∷ zs) (same_ascending (x + 1) (y + 1) xs ys u.1 v.1 down up)

increasing-ascends : (x : ℕ) (xs : List ℕ) → IsStrictlyIncreasing (x ∷ xs) → AscendsFrom (x + 1) xs
increasing-ascends x [] h = tt
increasing-ascends x (y ∷ ys) h = let less : x < y = h 0 (omega arith) in (omega arith, increasing-ascends y ys (tail_rises x (y ∷ ys) h))

pub increasing-from0 : (xs : List ℕ) → IsStrictlyIncreasing xs → AscendsFrom 0 xs
increasing-from0 [] h = tt
increasing-from0 (x ∷ xs) h = (omega arith, increasing-ascends x xs h)

-- the points of an ascending net, read off all points
pub ascending_is : (n : ℕ) (net : List ℕ) → IsStrictlyIncreasing net → ((p : ℕ) → has net p ≡ true → p < n) → net ≡ filter (has net) (points_below n)
ascending_is n net up below =
    same_ascending 0 0 net (filter (has net) (points_below n)) (increasing-from0 net up) (filter-ascends (has net) 0 0 (points_below n) (omega arith) (range-ascends 0 n))
    (λ p h. In-has p (filter (has net) (points_below n)) (In-filter (has net) p (points_below n) (has-In p (points_below n) (has-points_below n p (below p h))) h))
    (λ p h. (In-filter_cases (has net) p (points_below n) (has-In p (filter (has net) (points_below n)) h)).1)
