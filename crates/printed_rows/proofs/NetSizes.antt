-- Nets that share no point, and the ignored points, have in all no more points than the matrix.
use Rattle.std.proofs.Common.{◌≡◌, ◌==◌, ℕ, suc, ◌+◌, ◌<◌, ◌≤◌, Bool, true, false, ◌||◌, List, [], ◌∷◌, ◌++◌, length, get_or, length-append, All, AllPairs, Contains, refl, sym, ◌∙◌, subst, arith, inl, inr, nat_eq}
use Rattle.std.specs.List.{AllByRecursion, IsDistinct, flat_map, list_any}
use Rattle.std.specs.List.Sorted.{IsStrictlyIncreasing}
use Rattle.std.proofs.lemmas.Bool.{cases_Bool, eqb-true, ne_eqb}
use Rattle.std.proofs.lemmas.Bool.Decides.{nat_tests}
use Rattle.std.proofs.lemmas.List.Folds.{list_any-append}
use Rattle.std.proofs.lemmas.Map.Keys.{IsDistinct-head, IsDistinct-tail, IsDistinct-cons, IsDistinct-from_apart, sorted_from_strictly_increasing, below_from_sorted}
use Rattle.std.proofs.lemmas.Map.Steps.{length-le_from_distinct_below}
use Rattle.partition.specs.Classes.{has}
use Rattle.partition.specs.NetTable.{NetTable, IsNetTable, Disjoint, judged_points}
use Rattle.partition.proofs.classes.ClassLaws.{has-head, has-tail}
use Rattle.partition.proofs.classes.Labels.{not_true}
use Rattle.partition.proofs.Members.{has-In, In-has}
use Rattle.partition.proofs.tables.NetLaws.{All-In, Contains-In, judged-below, judged-is}
use Rattle.printed_rows.proofs.Fields.{all_append}

-- the points of all nets
abbrev pub all_points : List (List ℕ) → List ℕ
all_points nets = flat_map (λ net. net) nets

by_recursion : {X : Type 0} (P : X → Type 0) (xs : List X) → All P xs → AllByRecursion P xs
by_recursion P [] h = tt
by_recursion P (x ∷ xs) h = (h 0 x (omega arith), by_recursion P xs (λ k d l. h (suc k) d (omega arith)))

-- a point of no net is none of all points
in_no_net : (nets : List (List ℕ)) (p : ℕ) → AllByRecursion (λ net. has net p ≡ false) nets → has (all_points nets) p ≡ false
in_no_net [] p h = refl
in_no_net (net ∷ nets) p h = let first = h.0 in let rest = in_no_net nets p h.1 in list_any-append (λ y. y == p) net (all_points nets) ∙ rw (first, rest) refl

-- a point of a net is in none that is disjoint from it
in_no_other : (net : List ℕ) (nets : List (List ℕ)) (p : ℕ) → AllByRecursion (Disjoint net) nets → has net p ≡ true
    → AllByRecursion (λ other. has other p ≡ false) nets
in_no_other net [] p h i = tt
in_no_other net (other ∷ nets) p h i = (All-In (λ x. has other x ≡ false) p net h.0 (has-In p net i), in_no_other net nets p h.1 i)

turned : (x y : ℕ) → (y == x) ≡ false → nat_eq x y ≡ false
turned x y h = ne_eqb x y (λ e. let same : (y == x) ≡ true = rw e (grind (arith, nat_tests)) in let no : false ≡ true = sym h ∙ same in cc)

or_left : (a b : Bool) → (a || b) ≡ false → a ≡ false
or_left false b h = refl
or_left true b h = h

or_right : (a b : Bool) → (a || b) ≡ false → b ≡ false
or_right false b h = h
or_right true b h = cc

differs : (x : ℕ) (ys : List ℕ) → has ys x ≡ false → AllByRecursion (λ y. nat_eq x y ≡ false) ys
differs x [] h = tt
differs x (y ∷ ys) h = (turned x y (or_left (y == x) (has ys x) h), differs x ys (or_right (y == x) (has ys x) h))

distinct_append : (xs ys : List ℕ) → IsDistinct nat_eq xs → IsDistinct nat_eq ys → ((p : ℕ) → has xs p ≡ true → has ys p ≡ false) → IsDistinct nat_eq (xs ++ ys)
distinct_append [] ys d e apart = e
distinct_append (x ∷ xs) ys d e apart = IsDistinct-cons nat_eq x (xs ++ ys)
    (all_append (λ y. nat_eq x y ≡ false) xs ys (IsDistinct-head nat_eq x xs d) (differs x ys (apart x (has-head x xs))))
    (distinct_append xs ys (IsDistinct-tail nat_eq x xs d) e (λ p h. apart p (has-tail x p xs h)))

distinct_net : (net : List ℕ) → IsStrictlyIncreasing net → IsDistinct nat_eq net
distinct_net net h = IsDistinct-from_apart nat_eq net
    (λ i j d before inside. let below = below_from_sorted net i j d (sorted_from_strictly_increasing net h) before inside in ne_eqb (get_or net i d) (get_or net j d) (λ e. omega arith))

-- no point stands twice in disjoint nets that ascend
distinct_nets : (nets : List (List ℕ)) → AllByRecursion IsStrictlyIncreasing nets → AllPairs Disjoint nets → IsDistinct nat_eq (all_points nets)
unfolding IsDistinct
distinct_nets [] up apart = tt
distinct_nets (net ∷ nets) up apart =
    let others = by_recursion (Disjoint net) nets (λ k d l. apart 0 (suc k) d (omega arith) (omega arith)) in
    distinct_append net (all_points nets) (distinct_net net up.0)
    (distinct_nets nets up.1 (λ i j d l m. apart (suc i) (suc j) d (omega arith) (omega arith)))
    (λ p h. in_no_net nets p (in_no_other net nets p others h))

-- what holds of each point of each net holds of all points
points_all : (P : ℕ → Type 0) (nets : List (List ℕ)) → AllByRecursion (λ net. AllByRecursion P net) nets → AllByRecursion P (all_points nets)
points_all P [] h = tt
points_all P (net ∷ nets) h = all_append P net (all_points nets) h.0 (points_all P nets h.1)

found_all : (P : ℕ → Type 0) (q : ℕ) (xs : List ℕ) → AllByRecursion P xs → list_any (nat_eq q) xs ≡ true → P q
found_all P q [] h i = cc
found_all P q (x ∷ xs) h i = elim (cases_Bool (nat_eq q x)) as (λ _. P q) [
  | inl same ↦ subst P (sym (eqb-true q x same)) h.0
  | inr other ↦ found_all P q xs h.1 (rw other at i)
]

has_all : (P : ℕ → Type 0) (q : ℕ) (xs : List ℕ) → AllByRecursion P xs → has xs q ≡ true → P q
has_all P q [] h i = cc
has_all P q (x ∷ xs) h i = elim (cases_Bool (x == q)) as (λ _. P q) [
  | inl same ↦ subst P (eqb-true x q same) h.0
  | inr other ↦ has_all P q xs h.1 (rw other at i)
]

-- a judged point is a point, and is not ignored
pub judged_below : (t : NetTable) (p : ℕ) → Contains (judged_points t) p → p < t.points
judged_below t p c = judged-below t p (In-has p (judged_points t) (Contains-In p (judged_points t) c))

judged_other : (t : NetTable) (p : ℕ) → Contains (judged_points t) p → has t.ignored p ≡ false
judged_other t p c = not_true (has t.ignored p) (sym (judged-is t p (judged_below t p c)) ∙ In-has p (judged_points t) (Contains-In p (judged_points t) c))

module _ (t : NetTable) (ok : IsNetTable t) where
  -- what holds of the judged points holds of the points of all nets
  of_nets : (P : ℕ → Type 0) → ((p : ℕ) → Contains (judged_points t) p → P p) → AllByRecursion P (all_points t.named)
  of_nets P each =
      points_all P t.named
      (by_recursion (λ net. AllByRecursion P net) t.named (λ k d h. by_recursion P (get_or t.named k d) (λ j e l. each (get_or (get_or t.named k d) j e) (ok.in_range k d h j e l))))

  apart : (p : ℕ) → has (all_points t.named) p ≡ true → has t.ignored p ≡ false
  apart p h = has_all (λ q. has t.ignored q ≡ false) p (all_points t.named) (of_nets (λ q. has t.ignored q ≡ false) (judged_other t)) h

  distinct : IsDistinct nat_eq (all_points t.named ++ t.ignored)
  distinct =
      distinct_append (all_points t.named) t.ignored (distinct_nets t.named (by_recursion IsStrictlyIncreasing t.named ok.ascending) ok.disjoint) (distinct_net t.ignored ok.ignored_ascending) apart

  -- the nets of a table and the ignored points have in all no more points than the matrix
  pub points_few : length (all_points t.named) + length t.ignored ≤ t.points
  points_few =
      let inside = all_append (λ x. x < t.points) (all_points t.named) t.ignored (of_nets (λ x. x < t.points) (judged_below t)) (by_recursion (λ x. x < t.points) t.ignored ok.ignored_in_range) in
      let few = length-le_from_distinct_below (all_points t.named ++ t.ignored) t.points distinct (λ q i. found_all (λ x. x < t.points) q (all_points t.named ++ t.ignored) inside i) in
      omega (arith, length-append (all_points t.named) t.ignored)

some_each : (nets : List (List ℕ)) → AllByRecursion (λ net. 0 < length net) nets → length nets ≤ length (all_points nets)
some_each [] h = omega arith
some_each (net ∷ nets) h = let some = h.0 in let rest = some_each nets h.1 in omega (arith, length-append net (all_points nets))

-- a table has no more nets than these have points
pub nets_few : (t : NetTable) → IsNetTable t → length t.named ≤ length (all_points t.named)
nets_few t ok = some_each t.named (by_recursion (λ net. 0 < length net) t.named ok.nonempty)
