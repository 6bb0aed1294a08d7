-- Lists in which each item stands in a relation to all later ones, and how many different numbers a list can have.
use Rattle.std.proofs.Common.{◌≡◌, ◌≢◌, ℕ, zero, suc, ◌+◌, ◌<◌, ◌≤◌, Bool, true, false, not, List, [], ◌∷◌, ◌++◌, map, length, eqb, refl, sym, ◌∙◌, ap, subst, inl, inr, arith, filter, get_or, Option, Some, None, All, AllPairs, sum_by}
use Rattle.std.specs.List.{enumerate_from, flat_map, filter_map, list_any}
use Rattle.std.specs.List.Sorted.{IsStrictlyIncreasing}
use Rattle.std.proofs.lemmas.Bool.{eq-eqb}
use Rattle.std.proofs.lemmas.List.Kept.{AllPairs-cons, AllPairs-from_increasing}
use Rattle.std.proofs.lemmas.List.Sums.{sum_by-cons}
use Rattle.partition.specs.Classes.{AscendsFrom}
use Rattle.partition.proofs.Members.{In, In-append_cases, In-map_cases, In-filter, In-filter_cases, In-flat_map_cases, In-filter_map_cases, In-has, In-enumerate}
use Rattle.partition.proofs.classes.ClassLaws.{has-above}
use Rattle.partition.proofs.classes.Labels.{false_not, neq-eqb}
use Rattle.partition.proofs.tables.NetLaws.{In-index}

-- R holds of each item and each later one
abbrev pub InTurn : {X : Type 0} → (X → X → Type 0) → List X → Type 0
InTurn R [] = Unit {0}
InTurn {X} R (x ∷ xs) = ((y : X) → In y xs → R x y) × InTurn R xs

-- ---- from and to facts on places

pub In-get_or : {X : Type 0} (k : ℕ) (d : X) (xs : List X) → k < length xs → In (get_or xs k d) xs
In-get_or k d [] h = absurd (omega arith)
In-get_or zero d (y ∷ ys) h = inl refl
In-get_or (suc k) d (y ∷ ys) h = inr (In-get_or k d ys (omega arith))

pub All-from_In : {X : Type 0} (P : X → Type 0) (xs : List X) → ((x : X) → In x xs → P x) → All P xs
All-from_In P xs h k d l = h (get_or xs k d) (In-get_or k d xs l)

pub AllPairs-from_InTurn : {X : Type 0} (R : X → X → Type 0) (xs : List X) → InTurn R xs → AllPairs R xs
AllPairs-from_InTurn R [] h = λ i j d l within. absurd (omega arith)
AllPairs-from_InTurn R (x ∷ xs) h = AllPairs-cons R x xs (All-from_In (R x) xs h.0) (AllPairs-from_InTurn R xs h.1)

pub InTurn-from_AllPairs : {X : Type 0} (R : X → X → Type 0) (xs : List X) → AllPairs R xs → InTurn R xs
InTurn-from_AllPairs R [] h = tt
InTurn-from_AllPairs R (x ∷ xs) h = (
  λ y i. let k = In-index y xs i in let l = k.1 in subst (R x) (k.2 x) (h 0 (suc k.0) x (omega arith) (omega arith)),
  InTurn-from_AllPairs R xs (λ i j d l within. h (suc i) (suc j) d (omega arith) (omega arith)),
)

-- ---- how it is made

-- a relation that follows, of items of the list
pub InTurn-weaken : {X : Type 0} (R S : X → X → Type 0) (xs : List X) → ((x y : X) → In x xs → In y xs → R x y → S x y) → InTurn R xs → InTurn S xs
InTurn-weaken R S [] h i = tt
InTurn-weaken R S (x ∷ xs) h i = (λ y j. h x y (inl refl) (inr j) (i.0 y j), InTurn-weaken R S xs (λ a b j k. h a b (inr j) (inr k)) i.1)

pub InTurn-append : {X : Type 0} (R : X → X → Type 0) (xs ys : List X) → InTurn R xs → InTurn R ys → ((x y : X) → In x xs → In y ys → R x y) → InTurn R (xs ++ ys)
InTurn-append R [] ys a b c = b
InTurn-append R (x ∷ xs) ys a b c = (
  λ y i. elim (In-append_cases y xs ys i) [ inl l ↦ a.0 y l | inr r ↦ c x y (inl refl) r ],
  InTurn-append R xs ys a.1 b (λ z y i j. c z y (inr i) j),
)

pub InTurn-map : {X Y : Type 0} (f : X → Y) (R : Y → Y → Type 0) (xs : List X) → InTurn (λ x y. R (f x) (f y)) xs → InTurn R (map f xs)
InTurn-map f R [] h = tt
InTurn-map f R (x ∷ xs) h = (λ y i. let j = In-map_cases f y xs i in subst (R (f x)) j.2 (h.0 j.0 j.1), InTurn-map f R xs h.1)

module _ {X : Type 0} (t : X → Bool) (R : X → X → Type 0) where
  kept_in_turn : (x : X) (xs : List X) (b : Bool) → t x ≡ b → ((y : X) → In y xs → R x y) → InTurn R (filter t xs) → InTurn R (filter t (x ∷ xs))
  kept_in_turn x xs true e h ih = rw e (λ y i. h y (In-filter_cases t y xs i).0, ih)
  kept_in_turn x xs false e h ih = rw e ih

  pub InTurn-filter : (xs : List X) → InTurn R xs → InTurn R (filter t xs)
  InTurn-filter [] h = tt
  InTurn-filter (x ∷ xs) h = kept_in_turn x xs (t x) refl h.0 (InTurn-filter xs h.1)

-- of lists joined: each list is, and items of a list and of a later one are related
pub InTurn-flat_map : {X Y : Type 0} (f : X → List Y) (S : X → X → Type 0) (R : Y → Y → Type 0) (xs : List X) → InTurn S xs →
    ((x : X) → In x xs → InTurn R (f x)) →
    ((x z : X) (u v : Y) → In x xs → In z xs → S x z → In u (f x) → In v (f z) → R u v) → InTurn R (flat_map f xs)
InTurn-flat_map f S R [] s one two = tt
InTurn-flat_map f S R (x ∷ xs) s one two =
    InTurn-append R (f x) (flat_map f xs) (one x (inl refl))
    (InTurn-flat_map f S R xs s.1 (λ z i. one z (inr i)) (λ z w u v i j. two z w u v (inr i) (inr j)))
    (λ u v i j. let k = In-flat_map_cases f v xs j in two x k.0 u v (inl refl) (inr k.1) (s.0 k.0 k.1) i k.2)

module _ {X Y : Type 0} (f : X → Option Y) (S : X → X → Type 0) (R : Y → Y → Type 0) where
  given_in_turn : (x : X) (xs : List X) (o : Option Y) → f x ≡ o → ((z : X) (u v : Y) → In z xs → f x ≡ Some u → f z ≡ Some v → R u v) →
      InTurn R (filter_map f xs) → InTurn R (filter_map f (x ∷ xs))
  given_in_turn x xs None e h ih = rw e ih
  given_in_turn x xs (Some u) e h ih = rw e (λ v i. let k = In-filter_map_cases f v xs i in h k.0 u v k.1 e k.2, ih)

  pub InTurn-filter_map : (xs : List X) → InTurn S xs → ((x z : X) (u v : Y) → In x xs → In z xs → S x z → f x ≡ Some u → f z ≡ Some v → R u v) →
      InTurn R (filter_map f xs)
  InTurn-filter_map [] s two = tt
  InTurn-filter_map (x ∷ xs) s two =
      given_in_turn x xs (f x) refl (λ z u v i. two x z u v (inl refl) (inr i) (s.0 z i)) (InTurn-filter_map xs s.1 (λ z w u v i j. two z w u v (inr i) (inr j)))

-- numbered items stand in order of their numbers
pub InTurn-enumerate : {X : Type 0} (s : ℕ) (xs : List X) → InTurn (λ (n o : ℕ × X). n.0 < o.0) (enumerate_from s xs)
InTurn-enumerate s [] = tt
InTurn-enumerate s (x ∷ xs) = (λ o i. let k = In-enumerate (s + 1) o.0 o.1 xs i in let e = k.1 in omega arith, InTurn-enumerate (s + 1) xs)

-- what numbered items give, where each thing given tells its item's number: it stands in order of these numbers, which are the items'
module _ {X Y : Type 0} (f : ℕ × X → Option Y) (number : Y → ℕ) (told : (n : ℕ × X) (y : Y) → f n ≡ Some y → number y ≡ n.0) where
  pub InTurn-found : (s : ℕ) (xs : List X) → InTurn (λ x y. number x < number y) (filter_map f (enumerate_from s xs))
  InTurn-found s xs =
      InTurn-filter_map f (λ (n o : ℕ × X). n.0 < o.0) (λ x y. number x < number y) (enumerate_from s xs) (InTurn-enumerate s xs)
      (λ n o x y i j l e g. let a = told n x e in let b = told o y g in omega arith)

  pub found-within : (s : ℕ) (xs : List X) (y : Y) → In y (filter_map f (enumerate_from s xs)) → (s ≤ number y) × (number y < s + length xs)
  found-within s xs y i =
      let j = In-filter_map_cases f y (enumerate_from s xs) i in
      let k = In-enumerate s (j.0).0 (j.0).1 xs j.1 in
      let e = told j.0 y j.2 in
      let n = k.1 in
      let l = k.2 in
      (omega arith, omega arith)

-- ---- numbers that ascend

pub InTurn-from_increasing : (xs : List ℕ) → IsStrictlyIncreasing xs → InTurn (λ x y. x < y) xs
InTurn-from_increasing xs h = InTurn-from_AllPairs (λ x y. x < y) xs (AllPairs-from_increasing xs h)

pub increasing-from_InTurn : (xs : List ℕ) → InTurn (λ x y. x < y) xs → IsStrictlyIncreasing xs
increasing-from_InTurn xs h k l = AllPairs-from_InTurn (λ x y. x < y) xs h k (k + 1) 0 (omega arith) l

pub InTurn-from_ascends : (a : ℕ) (xs : List ℕ) → AscendsFrom a xs → InTurn (λ x y. x < y) xs
InTurn-from_ascends a [] h = tt
InTurn-from_ascends a (x ∷ xs) h = (λ y i. let l = has-above (x + 1) y xs h.1 (In-has y xs i) in omega arith, InTurn-from_ascends (x + 1) xs h.1)

pub InTurn-apart : (xs : List ℕ) → InTurn (λ x y. x < y) xs → InTurn (λ x y. x ≢ y) xs
InTurn-apart xs h = InTurn-weaken (λ x y. x < y) (λ x y. x ≢ y) xs (λ x y i j l e. omega arith) h

-- ---- how many

module _ {X : Type 0} (t : X → Bool) where
  filter_step : (x : X) (xs : List X) (b : Bool) → t x ≡ b → length (filter t xs) ≤ length xs → length (filter t (x ∷ xs)) ≤ length (x ∷ xs)
  filter_step x xs true e ih = rw e (omega arith)
  filter_step x xs false e ih = rw e (omega arith)

  length-filter_le : (xs : List X) → length (filter t xs) ≤ length xs
  length-filter_le [] = omega arith
  length-filter_le (x ∷ xs) = filter_step x xs (t x) refl (length-filter_le xs)

  drop_step : (x : X) (xs : List X) (b : Bool) → t x ≡ b → length (filter t xs) < length xs → length (filter t (x ∷ xs)) < length (x ∷ xs)
  drop_step x xs true e ih = rw e (omega arith)
  drop_step x xs false e ih = rw e (omega arith)

  -- a filter that leaves a member out is shorter
  pub length-filter_lt : (x : X) (xs : List X) → In x xs → t x ≡ false → length (filter t xs) < length xs
  length-filter_lt x [] i e = absurd i
  length-filter_lt x (y ∷ ys) (inl s) e = let l = length-filter_le ys in rw (ap t s ∙ e) (omega arith)
  length-filter_lt x (y ∷ ys) (inr i) e = drop_step y ys (t y) refl (length-filter_lt x ys i e)

  any_step : (x : X) (xs : List X) (b : Bool) → t x ≡ b → (list_any t xs ≡ true → 1 ≤ length (filter t xs)) → list_any t (x ∷ xs) ≡ true → 1 ≤ length (filter t (x ∷ xs))
  any_step x xs true e ih h = rw e (omega arith)
  any_step x xs false e ih h = rw e (ih (rw e at h))

  -- where some item passes, a filter has an item
  pub length-filter_any : (xs : List X) → list_any t xs ≡ true → 1 ≤ length (filter t xs)
  length-filter_any [] h = absurd (let r : false ≡ true = h in cc)
  length-filter_any (x ∷ xs) h = any_step x xs (t x) refl (λ k. length-filter_any xs k) h

given_step : {X Y : Type 0} (f : X → Option Y) (x : X) (xs : List X) (o : Option Y) → f x ≡ o → length (filter_map f xs) ≤ length xs → length (filter_map f (x ∷ xs)) ≤ length (x ∷ xs)
given_step f x xs None e ih = rw e (omega arith)
given_step f x xs (Some y) e ih = rw e (omega arith)

pub length-filter_map_le : {X Y : Type 0} (f : X → Option Y) (xs : List X) → length (filter_map f xs) ≤ length xs
length-filter_map_le f [] = omega arith
length-filter_map_le f (x ∷ xs) = given_step f x xs (f x) refl (length-filter_map_le f xs)

-- different members of a list are no more than it has items
pub length-distinct_le : (xs ys : List ℕ) → InTurn (λ x y. x ≢ y) xs → ((x : ℕ) → In x xs → In x ys) → length xs ≤ length ys
length-distinct_le [] ys d h = omega arith
length-distinct_le (x ∷ xs) ys d h =
    let less = length-filter_lt (λ y. not (eqb y x)) x ys (h x (inl refl)) (ap not (eq-eqb x x refl)) in
    let rest =
    length-distinct_le xs (filter (λ y. not (eqb y x)) ys) d.1
    (λ y i. In-filter (λ z. not (eqb z x)) y ys (h y (inr i)) (false_not _ (neq-eqb y x (λ e. d.0 y i (sym e))))) in
    omega arith

-- a list is no longer than the sum of what its items have, where each has one at least
pub length-le-sum_by : {X : Type 0} (f : X → ℕ) (xs : List X) → ((x : X) → In x xs → 1 ≤ f x) → length xs ≤ sum_by f xs
length-le-sum_by f [] h = omega arith
length-le-sum_by f (x ∷ xs) h =
    let one = h x (inl refl) in
    let rest = length-le-sum_by f xs (λ y i. h y (inr i)) in
    subst (λ n. length (x ∷ xs) ≤ n) (sym (sum_by-cons f x xs)) (omega arith)

-- the first item, whatever stands for none
pub first_of_some : {X : Type 0} (xs : List X) (d e : X) → 0 < length xs → get_or xs 0 d ≡ get_or xs 0 e
first_of_some [] d e h = absurd (omega arith)
first_of_some (x ∷ xs) d e h = refl
