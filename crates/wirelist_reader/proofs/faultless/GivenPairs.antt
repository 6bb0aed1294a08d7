-- Pairs of elements, of lists that are joined, mapped and filtered.
use Rattle.std.proofs.Common.{◌≡◌, inl, inr, ℕ, zero, suc, ◌+◌, ◌<◌, ◌≤◌, ◌||◌, Bool, true, false, cond, List, [], ◌∷◌, ◌++◌, length, get_or, refl, sym, ◌∙◌, ap, subst, arith, take, map, filter, All, AllPairs}
use Rattle.std.specs.List.{list_any}
use Rattle.std.proofs.lemmas.List.{take_all, get_or-take, length-take}
use Rattle.std.proofs.lemmas.List.Elements.{All-append, All-map}
use Rattle.std.proofs.lemmas.List.Filters.{length-filter_more}
use Rattle.std.proofs.lemmas.List.Folds.{list_any_at}
use Rattle.std.proofs.lemmas.List.FromFn.{fill_by_all}
use Rattle.std.proofs.lemmas.List.Kept.{AllPairs-cons}
use Rattle.partition.specs.Classes.{points_below}
use Rattle.partition.proofs.Members.{In}
use Rattle.partition.proofs.tables.NetLaws.{In-index, All-In}

-- ---- members

pub index-In : {X : Type 0} (k : ℕ) (d : X) (xs : List X) → k < length xs → In (get_or xs k d) xs
index-In k d [] h = absurd (omega arith)
index-In zero d (x ∷ xs) h = inl refl
index-In (suc k) d (x ∷ xs) h = inr (index-In k d xs (omega arith))

pub take-In : {X : Type 0} (i j : ℕ) (d : X) (xs : List X) → i < j → j ≤ length xs → In (get_or xs i d) (take j xs)
take-In i j d xs before inside =
    let size = length-take j xs in
    subst (λ x. In x (take j xs)) (get_or-take j xs i d before) (index-In i d (take j xs) (omega arith))

pub any-In : {X : Type 0} (t : X → Bool) (x : X) (xs : List X) → In x xs → t x ≡ true → list_any t xs ≡ true
any-In t x xs i e = let k = In-index x xs i in list_any_at t xs k.0 x k.1 (ap t (k.2 x) ∙ e)

-- ---- pairs

pub pairs_head : {X : Type 0} (R : X → X → Type 0) (x : X) (xs : List X) → AllPairs R (x ∷ xs) → All (R x) xs
pairs_head R x xs h k d l = h 0 (suc k) d (omega arith) (omega arith)

pub pairs_tail : {X : Type 0} (R : X → X → Type 0) (x : X) (xs : List X) → AllPairs R (x ∷ xs) → AllPairs R xs
pairs_tail R x xs h i j d before l = h (suc i) (suc j) d (omega arith) (omega arith)

pub AllPairs-append : {X : Type 0} (R : X → X → Type 0) (xs ys : List X) → AllPairs R xs → AllPairs R ys → ((x y : X) → In x xs → In y ys → R x y) → AllPairs R (xs ++ ys)
AllPairs-append R [] ys a b c = b
AllPairs-append R (x ∷ xs) ys a b c =
    AllPairs-cons R x (xs ++ ys)
    (All-append (R x) xs ys (pairs_head R x xs a) (λ k d l. c x (get_or ys k d) (inl refl) (index-In k d ys l)))
    (AllPairs-append R xs ys (pairs_tail R x xs a) b (λ y z i j. c y z (inr i) j))

pub AllPairs-map : {X Y : Type 0} (R : Y → Y → Type 0) (f : X → Y) (xs : List X) → AllPairs (λ x y. R (f x) (f y)) xs → AllPairs R (map f xs)
AllPairs-map R f [] h = λ i j d before l. absurd (omega arith)
AllPairs-map R f (x ∷ xs) h =
    AllPairs-cons R (f x) (map f xs) (All-map (R (f x)) f xs (pairs_head (λ x y. R (f x) (f y)) x xs h)) (AllPairs-map R f xs (pairs_tail (λ x y. R (f x) (f y)) x xs h))

-- two different elements, in whatever order they stand
pub pair-In : {X : Type 0} (R : X → X → Type 0) (p : X → Bool) (x y : X) (xs : List X) → ((a b : X) → R a b → R b a) → AllPairs R xs → In x xs → In y xs → p x ≡ true → p y ≡ false → R x y
pair-In R p x y [] turn h i j yes_x not_y = absurd i
pair-In R p x y (z ∷ zs) turn h (inl e) (inl f) yes_x not_y = absurd (let g : false ≡ true = sym not_y ∙ ap p (sym f ∙ e) ∙ yes_x in cc)
pair-In R p x y (z ∷ zs) turn h (inl e) (inr j) yes_x not_y = subst (λ w. R w y) e (All-In (R z) y zs (pairs_head R z zs h) j)
pair-In R p x y (z ∷ zs) turn h (inr i) (inl f) yes_x not_y = turn y x (subst (λ w. R w x) f (All-In (R z) x zs (pairs_head R z zs h) i))
pair-In R p x y (z ∷ zs) turn h (inr i) (inr j) yes_x not_y = pair-In R p x y zs turn (pairs_tail R z zs h) i j yes_x not_y

-- ---- how many pass

module _ {X : Type 0} (p q : X → Bool) (other : (x : X) → p x ≡ true → q x ≡ false) where
  counted : (x : X) (xs : List X) (a b : Bool) → p x ≡ a → q x ≡ b → (a ≡ true → b ≡ false) → length (filter p xs) + length (filter q xs) ≡ length (filter (λ y. p y || q y) xs) →
      length (filter p (x ∷ xs)) + length (filter q (x ∷ xs)) ≡ length (filter (λ y. p y || q y) (x ∷ xs))
  counted x xs true true e f o h = absurd (let g : true ≡ false = o refl in cc)
  counted x xs true false e f o h = rw (e, f) (omega (arith, h))
  counted x xs false true e f o h = rw (e, f) (omega (arith, h))
  counted x xs false false e f o h = rw (e, f) h

  -- elements that pass one of two tests
  pub length-filter_or : (xs : List X) → length (filter p xs) + length (filter q xs) ≡ length (filter (λ y. p y || q y) xs)
  length-filter_or [] = refl
  length-filter_or (x ∷ xs) = counted x xs (p x) (q x) refl refl (other x) (length-filter_or xs)

module _ {X : Type 0} (p : X → Bool) (m : ℕ) (d : X) (xs : List X) (room : (i : ℕ) → i < length xs → p (get_or xs i d) ≡ true → length (filter p (take i xs)) < m) where
  one_more : (n : ℕ) (b : Bool) → p (get_or xs n d) ≡ b → n < length xs → length (filter p (take n xs)) ≤ m → length (filter p (take n xs)) + cond b 1 0 ≤ m
  one_more n true e l h = omega (arith, room n l e)
  one_more n false e l h = omega (arith, h)

  few_before : (n : ℕ) → n ≤ length xs → length (filter p (take n xs)) ≤ m
  few_before zero l = omega arith
  few_before (suc n) l =
      let more : length (filter p (take (n + 1) xs)) ≡ length (filter p (take n xs)) + cond (p (get_or xs n d)) 1 0 = length-filter_more p xs n d (omega arith) in
      let same : suc n ≡ n + 1 = omega arith in
      subst (λ (k : ℕ). length (filter p (take k xs)) ≤ m) (sym same) (omega (arith, more, one_more n (p (get_or xs n d)) refl (omega arith) (few_before n (omega arith))))

  -- where each that passes has fewer than m before it, no more than m pass
  pub few_pass : length (filter p xs) ≤ m
  few_pass = subst (λ (ys : List X). length (filter p ys) ≤ m) (take_all (length xs) xs (omega arith)) (few_before (length xs) (omega arith))

-- ---- maps

pub map-map : {X Y Z : Type 0} (g : Y → Z) (f : X → Y) (xs : List X) → map g (map f xs) ≡ map (λ x. g (f x)) xs
map-map g f [] = refl
map-map g f (x ∷ xs) = ap (λ ys. g (f x) ∷ ys) (map-map g f xs)

filter_mapped : {X Y : Type 0} (p : Y → Bool) (f : X → Y) (x : X) (xs : List X) (b : Bool) → p (f x) ≡ b → filter p (map f xs) ≡ map f (filter (λ y. p (f y)) xs) → filter p (map f (x ∷ xs)) ≡ map f (filter (λ y. p (f y)) (x ∷ xs))
filter_mapped p f x xs true e h = rw e (ap (λ ys. f x ∷ ys) h)
filter_mapped p f x xs false e h = rw e h

pub filter-map : {X Y : Type 0} (p : Y → Bool) (f : X → Y) (xs : List X) → filter p (map f xs) ≡ map f (filter (λ x. p (f x)) xs)
filter-map p f [] = refl
filter-map p f (x ∷ xs) = filter_mapped p f x xs (p (f x)) refl (filter-map p f xs)

-- a filter by places
pub filter-places : {X : Type 0} (p : X → Bool) (d : X) (xs : List X) → map (λ i. get_or xs i d) (filter (λ i. p (get_or xs i d)) (points_below (length xs))) ≡ filter p xs
filter-places p d xs =
    sym (filter-map p (λ i. get_or xs i d) (points_below (length xs))) ∙ ap (filter p) (sym (fill_by_all (λ i. get_or xs i d) xs (length xs) d refl (λ k l. refl)))
