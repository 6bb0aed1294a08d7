-- What a table says of its nets: each judged point is in one net, and a net has its head.
use Rattle.std.proofs.Common.{◌≡◌, ◌⊎◌, ℕ, zero, suc, ◌+◌, ◌<◌, ◌≤◌, Bool, true, false, not, List, [], ◌∷◌, ◌++◌, map, length, min, refl, sym, ◌∙◌, ap, subst, inl, inr, arith, filter, slice_index_or, get_or, All, AllPairs, Contains, zero-add, one-add}
use Rattle.std.specs.List.{enumerate_from, list_any, position_or_len}
use Rattle.std.proofs.Math.Bool.{or-true}
use Rattle.std.proofs.lemmas.Bool.Decides.{eqb_tells}
use Rattle.partition.specs.Classes.{points_below, has, AllBelow, AscendsFrom}
use Rattle.partition.specs.NetTable.{NetTable, all_nets, head_of, net_at, judged_points, IsNetTable, Disjoint}
use Rattle.partition.specs.NetTable.{numbered_nets}
use Rattle.partition.proofs.Members.{In, In-append_left, In-append_right, In-append_cases, In-map, In-map_cases, In-filter, In-filter_cases, has-In, In-has, In-enumerate, enumerate-In}
use Rattle.partition.proofs.classes.ClassLaws.{has-head, has-cases, has-above, has-points_below, points_below-AllBelow, range-ascends}
use Rattle.partition.proofs.classes.Labels.{not_true, false_not}

-- what the law asks of the nets: each judged point is in one net, and a net has its head
pub record NetFacts (t : NetTable) : Type 0 where
  pub below : AllBelow (judged_points t) t.points
  pub numbered_at : (p : ℕ) → has (judged_points t) p ≡ true → In (net_at t p, slice_index_or (all_nets t) (net_at t p) []) (numbered_nets t)
  pub has_at : (p : ℕ) → has (judged_points t) p ≡ true → has (slice_index_or (all_nets t) (net_at t p) []) p ≡ true
  pub one_net : (n o : ℕ × List ℕ) (p : ℕ) → In n (numbered_nets t) → In o (numbered_nets t) → has n.1 p ≡ true → has o.1 p ≡ true → n.0 ≡ o.0
  pub head_in : (n : ℕ × List ℕ) → In n (numbered_nets t) → has n.1 (head_of n.1) ≡ true
  pub judged_in : (n : ℕ × List ℕ) (p : ℕ) → In n (numbered_nets t) → has n.1 p ≡ true → has (judged_points t) p ≡ true

-- the number of a net tells it
pub same_net : (t : NetTable) (n o : ℕ × List ℕ) → In n (numbered_nets t) → In o (numbered_nets t) → n.0 ≡ o.0 → n.1 ≡ o.1
same_net t n o i j e =
    let a = In-enumerate 0 n.0 n.1 (all_nets t) i in
    let b = In-enumerate 0 o.0 o.1 (all_nets t) j in
    let k : a.0 ≡ b.0 = let x = a.1 in let y = b.1 in omega arith in
    sym (a.3 []) ∙ ap (λ z. slice_index_or (all_nets t) z []) k ∙ b.3 []

-- ---- places

pub In-index : {X : Type 0} (x : X) (xs : List X) → In x xs → (k : ℕ) × (k < length xs) × ((d : X) → get_or xs k d ≡ x)
In-index x [] h = absurd h
In-index x (y ∷ ys) (inl e) = (0, omega arith, λ d. e)
In-index x (y ∷ ys) (inr h) = let i = In-index x ys h in let l = i.1 in (suc i.0, omega arith, i.2)

pub All-In : {X : Type 0} (P : X → Type 0) (x : X) (xs : List X) → All P xs → In x xs → P x
All-In P x xs h i = let k = In-index x xs i in subst P (k.2 x) (h k.0 x k.1)

pub index-In : {X : Type 0} (k : ℕ) (d : X) (xs : List X) → k < length xs → In (get_or xs k d) xs
index-In k d [] h = absurd (omega arith)
index-In zero d (y ∷ ys) h = inl refl
index-In (suc k) d (y ∷ ys) h = inr (index-In k d ys (omega arith))

pub Contains-In : (x : ℕ) (xs : List ℕ) → Contains xs x → In x xs
Contains-In x xs h = subst (λ z. In z xs) h.2 (index-In h.0 x xs h.1)

-- the place of the first item that passes
position_at : (t : List ℕ → Bool) (x y : List ℕ) (ys : List (List ℕ)) (b : Bool) → t y ≡ b → t x ≡ true →
    (In x ys → (position_or_len t ys < length ys) × (t (get_or ys (position_or_len t ys) []) ≡ true)) → (y ≡ x) ⊎ In x ys →
    (position_or_len t (y ∷ ys) < length (y ∷ ys)) × (t (get_or (y ∷ ys) (position_or_len t (y ∷ ys)) []) ≡ true)
position_at t x y ys true e p ih h =
    let now : position_or_len t (y ∷ ys) ≡ 0 = rw e refl in
    (omega (arith, now), subst (λ k. t (get_or (y ∷ ys) k []) ≡ true) (sym now) e)
position_at t x y ys false e p ih (inl s) = absurd (let r : false ≡ true = sym e ∙ ap t s ∙ p in cc)
position_at t x y ys false e p ih (inr h) =
    let i = ih h in
    let l = i.0 in
    let now : position_or_len t (y ∷ ys) ≡ suc (position_or_len t ys) = rw e (one-add _) in
    (omega (arith, now), subst (λ k. t (get_or (y ∷ ys) k []) ≡ true) (sym now) i.1)

pub position_found : (t : List ℕ → Bool) (x : List ℕ) (xs : List (List ℕ)) → In x xs → t x ≡ true →
    (position_or_len t xs < length xs) × (t (get_or xs (position_or_len t xs) []) ≡ true)
position_found t x [] h p = absurd h
position_found t x (y ∷ ys) h p = position_at t x y ys (t y) refl p (λ i. position_found t x ys i p) h

-- ---- lists of which no two share a point

abbrev pub Apart : List (List ℕ) → Type 0
Apart [] = Unit {0}
Apart (x ∷ xs) = ((y : List ℕ) (p : ℕ) → In y xs → has x p ≡ true → has y p ≡ true → ⊥) × Apart xs

Apart-append : (xs ys : List (List ℕ)) → Apart xs → Apart ys →
    ((x y : List ℕ) (p : ℕ) → In x xs → In y ys → has x p ≡ true → has y p ≡ true → ⊥) → Apart (xs ++ ys)
Apart-append [] ys a b c = b
Apart-append (x ∷ xs) ys a b c = (
  λ y p i h k. elim (In-append_cases y xs ys i) [ inl l ↦ a.0 y p l h k | inr r ↦ c x y p (inl refl) r h k ],
  Apart-append xs ys a.1 b (λ z y p i j h k. c z y p (inr i) j h k),
)

false_true : (b : Bool) → b ≡ false → b ≡ true → ⊥
false_true true e f = cc
false_true false e f = cc

-- from the fact on pairs of places
pairs-Apart : (xs : List (List ℕ)) → AllPairs Disjoint xs → Apart xs
pairs-Apart [] h = tt
pairs-Apart (x ∷ xs) h = (
  λ y p i hx hy.
      let k = In-index y xs i in
      let l = k.1 in
      let d : Disjoint x y = subst (λ z. Disjoint x z) (k.2 []) (h 0 (suc k.0) [] (omega arith) (omega arith)) in
      false_true (has y p) (All-In (λ z. has y z ≡ false) p x d (has-In p x hx)) hy,
  pairs-Apart xs (λ i j d l m. h (suc i) (suc j) d (omega arith) (omega arith)),
)

one_point : (x p : ℕ) → has (x ∷ []) p ≡ true → x ≡ p
one_point x p h = elim (has-cases x p [] h) [ inl e ↦ e | inr k ↦ absurd (let r : false ≡ true = k in cc) ]

abbrev single : ℕ → List ℕ
single p = p ∷ []

-- points alone, of a list that ascends
singles-Apart : (t : ℕ → Bool) (a : ℕ) (js : List ℕ) → AscendsFrom a js → Apart (map single (filter t js))
singles-Apart t a [] s = tt
singles-Apart t a (x ∷ xs) s = go (t x) refl (singles-Apart t (x + 1) xs s.1)
  where
    go : (b : Bool) → t x ≡ b → Apart (map single (filter t xs)) → Apart (map single (filter t (x ∷ xs)))
    go false e ih = rw e ih
    go true e ih =
        rw e (
          λ y p i h k.
              let j = In-map_cases single y (filter t xs) i in
              let f = In-filter_cases t j.0 xs j.1 in
              let low = has-above (x + 1) j.0 xs s.1 (In-has j.0 xs f.0) in
              let q = one_point x p h in
              let r = one_point j.0 p (subst (λ (z : List ℕ). has z p ≡ true) (sym j.2) k) in
              omega arith,
          ih,
        )

-- a numbered item is an item
numbered-In : (s i : ℕ) (x : List ℕ) (xs : List (List ℕ)) → In (i, x) (enumerate_from s xs) → In x xs
numbered-In s i x [] h = absurd h
numbered-In s i x (y ∷ ys) (inl e) = inl (ap (λ (z : _ × _). z.1) e)
numbered-In s i x (y ∷ ys) (inr h) = inr (numbered-In (s + 1) i x ys h)

apart-number : (s : ℕ) (xs : List (List ℕ)) (n o : ℕ × List ℕ) (p : ℕ) → Apart xs → In n (enumerate_from s xs) → In o (enumerate_from s xs) →
    has n.1 p ≡ true → has o.1 p ≡ true → n.0 ≡ o.0
apart-number s [] n o p a i j h k = absurd i
apart-number s (x ∷ xs) n o p a (inl e) (inl f) h k = sym (ap (λ (z : _ × _). z.0) e) ∙ ap (λ (z : _ × _). z.0) f
apart-number s (x ∷ xs) n o p a (inl e) (inr j) h k =
    absurd (a.0 o.1 p (numbered-In (s + 1) o.0 o.1 xs j) (subst (λ (z : List ℕ). has z p ≡ true) (sym (ap (λ (z : _ × _). z.1) e)) h) k)
apart-number s (x ∷ xs) n o p a (inr i) (inl f) h k =
    absurd (a.0 n.1 p (numbered-In (s + 1) n.0 n.1 xs i) (subst (λ (z : List ℕ). has z p ≡ true) (sym (ap (λ (z : _ × _). z.1) f)) k) h)
apart-number s (x ∷ xs) n o p a (inr i) (inr j) h k = apart-number (s + 1) xs n o p a.1 i j h k

-- ---- heads

pub head-In : (p : ℕ) (ps : List ℕ) → In (head_of (p ∷ ps)) (p ∷ ps)
head-In p [] = inl refl
head-In p (q ∷ ps) =
    let i = head-In q ps in
    elim (eqb_tells p (min p (head_of (q ∷ ps)))) [
      | inl e ↦ inl e.1
      | inr e ↦ let d = e.1 in let s : head_of (q ∷ ps) ≡ min p (head_of (q ∷ ps)) = omega arith in inr (subst (λ z. In z (q ∷ ps)) s i)
    ]

nonempty_head : (net : List ℕ) → 0 < length net → has net (head_of net) ≡ true
nonempty_head [] h = absurd (omega arith)
nonempty_head (p ∷ ps) h = In-has _ (p ∷ ps) (head-In p ps)

-- ---- the points that count: what follows rests on these two facts alone

pub judged-below : (t : NetTable) → AllBelow (judged_points t) t.points
judged-below t p h = points_below-AllBelow t.points p (In-has p _ (In-filter_cases (λ q. not (has t.ignored q)) p (points_below t.points) (has-In p _ h)).0)

pub filter-ascends : (t : ℕ → Bool) (a b : ℕ) (js : List ℕ) → a ≤ b → AscendsFrom b js → AscendsFrom a (filter t js)
filter-ascends t a b [] l s = tt
filter-ascends t a b (x ∷ xs) l s = go (t x) refl (filter-ascends t (x + 1) (x + 1) xs (omega arith) s.1) (filter-ascends t a (x + 1) xs (let o = s.0 in omega arith) s.1)
  where
    go : (c : Bool) → t x ≡ c → AscendsFrom (x + 1) (filter t xs) → AscendsFrom a (filter t xs) → AscendsFrom a (filter t (x ∷ xs))
    go true e kept left = rw e (let o = s.0 in omega arith, kept)
    go false e kept left = rw e left

pub judged-ascends : (t : NetTable) → AscendsFrom 0 (judged_points t)
judged-ascends t = filter-ascends (λ q. not (has t.ignored q)) 0 0 (points_below t.points) (omega arith) (range-ascends 0 t.points)

-- a point counts where it is not ignored
pub judged-is : (t : NetTable) (p : ℕ) → p < t.points → has (judged_points t) p ≡ not (has t.ignored p)
judged-is t p l = go (not (has t.ignored p)) refl (has (judged_points t) p) refl
  where
    go : (b : Bool) → not (has t.ignored p) ≡ b → (c : Bool) → has (judged_points t) p ≡ c → has (judged_points t) p ≡ not (has t.ignored p)
    go true e c f = In-has p (judged_points t) (In-filter (λ q. not (has t.ignored q)) p (points_below t.points) (has-In p (points_below t.points) (has-points_below t.points p l)) e) ∙ sym e
    go false e true f = f ∙ sym (In-filter_cases (λ q. not (has t.ignored q)) p (points_below t.points) (has-In p (judged_points t) f)).1
    go false e false f = f ∙ sym e

-- ---- the table

any_In : (t : List ℕ → Bool) (x : List ℕ) (xs : List (List ℕ)) → In x xs → t x ≡ true → list_any t xs ≡ true
any_In t x [] h e = absurd h
any_In t x (y ∷ ys) (inl s) e = rw (ap t s ∙ e) refl
any_In t x (y ∷ ys) (inr h) e = rw (any_In t x ys h e) (or-true _)

module _ (t : NetTable) (ok : IsNetTable t) where
  abbrev in_no_net : ℕ → Bool
  in_no_net p = not (list_any (λ net. has net p) t.named)

  abbrev alone : List (List ℕ)
  alone = map single (filter in_no_net (judged_points t))

  -- some net has each judged point
  covered : (p : ℕ) → has (judged_points t) p ≡ true → (net : List ℕ) × In net (all_nets t) × (has net p ≡ true)
  covered p k = go (list_any (λ net. has net p) t.named) refl
    where
      any_from : (xs : List (List ℕ)) → list_any (λ net. has net p) xs ≡ true → (net : List ℕ) × In net xs × (has net p ≡ true)
      any_from [] e = absurd (false_true false refl e)
      any_from (x ∷ xs) e = at (has x p) refl (λ f. any_from xs f)
        where
          at : (b : Bool) → has x p ≡ b → (list_any (λ net. has net p) xs ≡ true → (net : List ℕ) × In net xs × (has net p ≡ true)) →
              (net : List ℕ) × In net (x ∷ xs) × (has net p ≡ true)
          at true f ih = (x, inl refl, f)
          at false f ih = let i = ih (rw f at e) in (i.0, inr i.1, i.2)

      go : (b : Bool) → list_any (λ net. has net p) t.named ≡ b → (net : List ℕ) × In net (all_nets t) × (has net p ≡ true)
      go true e = let i = any_from t.named e in (i.0, In-append_left i.0 t.named alone i.1, i.2)
      go false e = (
        single p,
        In-append_right (single p) t.named alone (In-map single p _ (In-filter in_no_net p (judged_points t) (has-In p (judged_points t) k) (false_not _ e))),
        has-head p [],
      )

  nets-Apart : Apart (all_nets t)
  nets-Apart =
      Apart-append t.named alone (pairs-Apart t.named ok.disjoint) (singles-Apart in_no_net 0 (judged_points t) (judged-ascends t))
      (λ x y p i j h k.
      let s = In-map_cases single y (filter in_no_net (judged_points t)) j in
      let f = In-filter_cases in_no_net s.0 (judged_points t) s.1 in
      let q = one_point s.0 p (subst (λ (z : List ℕ). has z p ≡ true) (sym s.2) k) in
      false_true _ (not_true _ f.1) (any_In (λ net. has net s.0) x t.named i (subst (λ z. has x z ≡ true) (sym q) h)))

  pub net_facts : NetFacts t
  net_facts = record {
    below = judged-below t;
    numbered_at = λ p k.
        let c = covered p k in
        let f = position_found (λ net. has net p) c.0 (all_nets t) c.1 c.2 in
        subst (λ i. In (i, slice_index_or (all_nets t) (net_at t p) []) (numbered_nets t)) (zero-add (net_at t p)) (enumerate-In 0 (net_at t p) [] (all_nets t) f.0);
    has_at = λ p k. let c = covered p k in (position_found (λ net. has net p) c.0 (all_nets t) c.1 c.2).1;
    one_net = λ n o p i j h k. apart-number 0 (all_nets t) n o p nets-Apart i j h k;
    head_in = λ n i. elim (In-append_cases n.1 t.named alone (numbered-In 0 n.0 n.1 (all_nets t) i)) [
      | inl l ↦ nonempty_head n.1 (All-In (λ net. 0 < length net) n.1 t.named ok.nonempty l)
      | inr r ↦
          let s = In-map_cases single n.1 (filter in_no_net (judged_points t)) r in
          subst (λ (z : List ℕ). has z (head_of z) ≡ true) s.2 (has-head s.0 [])
    ];
    judged_in = λ n p i h. elim (In-append_cases n.1 t.named alone (numbered-In 0 n.0 n.1 (all_nets t) i)) [
      | inl l ↦
          let r = All-In (λ net. All (Contains (judged_points t)) net) n.1 t.named ok.in_range l in
          In-has p (judged_points t) (Contains-In p (judged_points t) (All-In (Contains (judged_points t)) p n.1 r (has-In p n.1 h)))
      | inr r ↦
          let s = In-map_cases single n.1 (filter in_no_net (judged_points t)) r in
          let f = In-filter_cases in_no_net s.0 (judged_points t) s.1 in
          let q = one_point s.0 p (subst (λ (z : List ℕ). has z p ≡ true) (sym s.2) h) in
          subst (λ z. has (judged_points t) z ≡ true) q (In-has s.0 (judged_points t) f.0)
    ];
  }
