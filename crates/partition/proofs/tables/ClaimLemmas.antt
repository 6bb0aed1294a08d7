-- Which net holds each point, while the nets are read.
use Rattle.std.proofs.Common.{◌≡◌, ◌≢◌, ◌⊎◌, inl, inr, ℕ, zero, suc, ◌+◌, ◌<◌, ◌≤◌, Bool, true, false, cond, not, List, [], ◌∷◌, ◌++◌, length, get_or, set, take, filter, refl, sym, ◌∙◌, ap, subst, arith, add-one, add-zero, eqb, ltb, length-append, append_assoc, Some, get_or-set_other, get_or-set_same}
use Rattle.std.specs.Prelude.{slice_get}
use Rattle.std.specs.List.{concat, flat_map, range_with_len}
use Rattle.std.proofs.lemmas.List.{append-nil, get_or_append_left, get_or_push, length_push, take_more, take_all, length-take, get_or_read, get_or_default}
use Rattle.std.proofs.lemmas.Grind.{flat_map-append}
use Rattle.std.proofs.lemmas.List.Sums.{length-filter, count_by-le-length}
use Rattle.std.proofs.lemmas.Bool.{cases_lt, cases_eq, eq-eqb, ne_eqb}
use borrow.Author.Tests.{lt-ltb, le-ltb}
use Rattle.std.proofs.Math.ListN.{length-set}
use Rattle.partition.specs.Classes.{points_below, has}
use Rattle.partition.specs.NetFaults.{listed, listed_before, point_faults, net_faults}
use Rattle.partition.specs.Claims.{nobody, owner_at, Claimed, ClaimedTo, ClaimedIn, ClaimedAll, faults_in, faults_to}
use Rattle.partition.specs.declared.nets.NetsRefusal.{NetsRefusal}
use Rattle.partition.specs.declared.nets.NetsRefusal.TheVariants.{OutOfRange, Twice, EmptyNet}
use Rattle.partition.proofs.classes.ClassLaws.{has-head}
use Rattle.partition.proofs.classes.HeadLemmas.{points_below-suc}
use Rattle.partition.proofs.Members.{In-append_left, In-append_right, In-append_cases, has-In, In-has}

-- ---- members of joined lists

pub has-append_left : (p : ℕ) (xs ys : List ℕ) → has xs p ≡ true → has (xs ++ ys) p ≡ true
has-append_left p xs ys h = In-has p (xs ++ ys) (In-append_left p xs ys (has-In p xs h))

pub has-append_right : (p : ℕ) (xs ys : List ℕ) → has ys p ≡ true → has (xs ++ ys) p ≡ true
has-append_right p xs ys h = In-has p (xs ++ ys) (In-append_right p xs ys (has-In p ys h))

pub has-append_cases : (p : ℕ) (xs ys : List ℕ) → has (xs ++ ys) p ≡ true → (has xs p ≡ true) ⊎ (has ys p ≡ true)
has-append_cases p xs ys h = elim (In-append_cases p xs ys (has-In p (xs ++ ys) h)) [ inl i ↦ inl (In-has p xs i) | inr i ↦ inr (In-has p ys i) ]

has-concat : (xss : List (List ℕ)) (k p : ℕ) → k < length xss → has (get_or xss k []) p ≡ true → has (concat xss) p ≡ true
has-concat [] k p l h = absurd (omega arith)
has-concat (x ∷ xss) zero p l h = has-append_left p x (concat xss) h
has-concat (x ∷ xss) (suc k) p l h = has-append_right p x (concat xss) (has-concat xss k p (omega arith) h)

concat-has : (xss : List (List ℕ)) (p : ℕ) → has (concat xss) p ≡ true → (k : ℕ) × (k < length xss) × (has (get_or xss k []) p ≡ true)
concat-has [] p h = absurd (let e : false ≡ true = h in cc)
concat-has (x ∷ xss) p h =
    elim (has-append_cases p x (concat xss) h) [
      | inl a ↦ (0, omega arith, a)
      | inr b ↦ let r = concat-has xss p b in let l = r.1 in (suc r.0, omega arith, r.2)
    ]

pub concat-push : (xss : List (List ℕ)) (x : List ℕ) → concat (xss ++ x ∷ []) ≡ concat xss ++ x
concat-push [] x = append-nil x
concat-push (y ∷ xss) x = ap (λ (zs : List ℕ). y ++ zs) (concat-push xss x) ∙ sym (append_assoc y (concat xss) x)

-- ---- one more that passes

module _ (t : ℕ → Bool) where
  filter_yes : (x : ℕ) (xs : List ℕ) → t x ≡ true → length (filter t (x ∷ xs)) ≡ length (filter t xs) + 1
  filter_yes x xs h = let e : filter t (x ∷ xs) ≡ x ∷ filter t xs = rw h refl in omega (arith, ap length e)

  filter_no : (x : ℕ) (xs : List ℕ) → t x ≡ false → length (filter t (x ∷ xs)) ≡ length (filter t xs)
  filter_no x xs h = let e : filter t (x ∷ xs) ≡ filter t xs = rw h refl in ap length e

  filter_under : (x : ℕ) (xs ys : List ℕ) (b : Bool) → t x ≡ b → length (filter t xs) ≡ length (filter t ys) + 1 → length (filter t (x ∷ xs)) ≡ length (filter t (x ∷ ys)) + 1
  filter_under x xs ys true h e = omega (arith, e, filter_yes x xs h, filter_yes x ys h)
  filter_under x xs ys false h e = omega (arith, e, filter_no x xs h, filter_no x ys h)

  length-filter-set : (xs : List ℕ) (i y d : ℕ) → i < length xs → t (get_or xs i d) ≡ false → t y ≡ true → length (filter t (set xs i y)) ≡ length (filter t xs) + 1
  length-filter-set [] i y d l a b = absurd (omega arith)
  length-filter-set (x ∷ xs) zero y d l a b = omega (arith, filter_yes y xs b, filter_no x xs a)
  length-filter-set (x ∷ xs) (suc i) y d l a b = filter_under x (set xs i y) xs (t x) refl (length-filter-set xs i y d (omega arith) a b)

-- ---- the first of what a list of numbers gives

pub append_none : {A : Type 0} (xs ys : List A) → xs ++ ys ≡ [] → (xs ≡ []) × (ys ≡ [])
append_none [] ys h = (refl, h)
append_none (x ∷ xs) ys h = cc

pub none_append : {A : Type 0} (xs ys : List A) → xs ≡ [] → ys ≡ [] → xs ++ ys ≡ []
none_append xs ys e f = ap (λ (zs : List _). zs ++ ys) e ∙ f

pub first_append : {A : Type 0} (x : A) (xs ys : List A) → slice_get xs 0 ≡ Some x → slice_get (xs ++ ys) 0 ≡ Some x
first_append x [] ys h = cc
first_append x (y ∷ xs) ys h = h

module _ {A : Type 0} (f : ℕ → List A) where
  first_in : (a i m : ℕ) (e : A) (rest : List A) → flat_map f (range_with_len a i) ≡ [] → i < m → f (a + i) ≡ e ∷ rest →
      slice_get (flat_map f (range_with_len a m)) 0 ≡ Some e
  first_in a i zero e rest none l is = absurd (omega arith)
  first_in a zero (suc m) e rest none l is =
      let here : f a ≡ e ∷ rest = ap f (sym (add-zero a)) ∙ is in
      ap (λ (xs : List A). slice_get (xs ++ flat_map f (range_with_len (a + 1) m)) 0) here
  first_in a (suc i) (suc m) e rest none l is =
      let parts = append_none (f a) (flat_map f (range_with_len (a + 1) i)) none in
      let place : a + suc i ≡ (a + 1) + i = omega arith in
      ap (λ (xs : List A). slice_get (xs ++ flat_map f (range_with_len (a + 1) m)) 0) parts.0
      ∙ first_in (a + 1) i m e rest parts.1 (omega arith) (ap f (sym place) ∙ is)

  pub first_below : (i m : ℕ) (e : A) (rest : List A) → flat_map f (points_below i) ≡ [] → i < m → f i ≡ e ∷ rest → slice_get (flat_map f (points_below m)) 0 ≡ Some e
  first_below i m e rest none l is = let place : 0 + i ≡ i = omega arith in first_in 0 i m e rest none l (ap f place ∙ is)

  pub none_more : (i : ℕ) → flat_map f (points_below i) ≡ [] → f i ≡ [] → flat_map f (points_below (i + 1)) ≡ []
  none_more i none here =
      ap (λ (k : ℕ). flat_map f (points_below k)) (add-one i)
      ∙ ap (flat_map f) (points_below-suc i)
      ∙ flat_map-append f (points_below i) (i ∷ [])
      ∙ ap (λ (xs : List A). xs ++ (f i ++ [])) none
      ∙ ap (λ (xs : List A). xs ++ []) here

  pub none_before : (i : ℕ) → flat_map f (points_below (suc i)) ≡ [] → (flat_map f (points_below i) ≡ []) × (f i ≡ [])
  none_before i none =
      let both : flat_map f (points_below i) ++ flat_map f (i ∷ []) ≡ [] =
      sym (flat_map-append f (points_below i) (i ∷ [])) ∙ sym (ap (flat_map f) (points_below-suc i)) ∙ none in
      let parts = append_none (flat_map f (points_below i)) (f i ++ []) both in
      (parts.0, (append_none (f i) [] parts.1).0)

-- ---- claims

module _ (xs : List (List ℕ)) (owners : List ℕ) where
  pub claims-open : Claimed xs owners → Claimed (xs ++ [] ∷ []) owners
  claims-open c = record {
    marked = λ k p l h.
        let size = length_push xs (let e : List ℕ = [] in e) in
        elim (cases_lt k (length xs)) as (λ _. (p < length owners) × (owner_at owners p ≡ k)) [
          | inl inside ↦ c.marked k p inside (subst (λ (z : List ℕ). has z p ≡ true) (get_or_append_left xs ([] ∷ []) [] k inside) h)
          | inr end ↦
              absurd (
              let last : get_or (xs ++ [] ∷ []) k [] ≡ [] = get_or_push xs [] [] k (omega arith) in
              let e : false ≡ true = subst (λ (z : List ℕ). has z p ≡ true) last h in
              cc
              )
        ];
    owned = λ p l ne.
        let was = c.owned p l ne in
        let below = was.0 in
        let size = length_push xs (let e : List ℕ = [] in e) in
        (omega arith, subst (λ (z : List ℕ). has z p ≡ true) (sym (get_or_append_left xs ([] ∷ []) [] (owner_at owners p) below)) was.1);
    counted = ap length (concat-push xs [] ∙ append-nil (concat xs)) ∙ c.counted;
  }

module _ (xs : List (List ℕ)) (ys owners : List ℕ) (p : ℕ) where
  abbrev grown : List (List ℕ)
  grown = xs ++ (ys ++ p ∷ []) ∷ []

  abbrev heard : List (List ℕ)
  heard = xs ++ ys ∷ []

  -- a free point goes to the last net
  pub claims-more : Claimed heard owners → p < length owners → owner_at owners p ≡ nobody → length xs < nobody → Claimed grown (set owners p (length xs))
  claims-more c inside free small =
      let size = length_push xs ys in
      let grown_size = length_push xs (ys ++ p ∷ []) in
      let kept = length-set owners p (length xs) in
      record {
        marked = λ k q l h.
            elim (cases_lt k (length xs)) as (λ _. (q < length (set owners p (length xs))) × (owner_at (set owners p (length xs)) q ≡ k)) [
              | inl before ↦
                  let here = subst (λ (z : List ℕ). has z q ≡ true) (get_or_append_left xs ((ys ++ p ∷ []) ∷ []) [] k before ∙ sym (get_or_append_left xs (ys ∷ []) [] k before)) h in
                  old k q (omega arith) here (omega arith) kept
              | inr end ↦
                  let e : length xs ≡ k = omega arith in
                  let here : has (ys ++ p ∷ []) q ≡ true = subst (λ (z : List ℕ). has z q ≡ true) (get_or_push xs (ys ++ p ∷ []) [] k e) h in
                  elim (has-append_cases q ys (p ∷ []) here) as (λ _. (q < length (set owners p (length xs))) × (owner_at (set owners p (length xs)) q ≡ k)) [
                    | inl in_ys ↦
                        let was : has (get_or heard k []) q ≡ true = subst (λ (z : List ℕ). has z q ≡ true) (sym (get_or_push xs ys [] k e)) in_ys in
                        old k q (omega arith) was (omega arith) kept
                    | inr is_p ↦
                        let same : p ≡ q = one q is_p in
                        (omega arith, subst (λ (z : ℕ). owner_at (set owners p (length xs)) z ≡ k) same (get_or-set_same owners p (length xs) nobody inside ∙ e))
                  ]
            ];
        owned = λ q l ne.
            elim (cases_eq q p) as (λ _. (owner_at (set owners p (length xs)) q < length grown) × (has (get_or grown (owner_at (set owners p (length xs)) q) []) q ≡ true)) [
              | inl same ↦
                  let is : owner_at (set owners p (length xs)) q ≡ length xs = ap (owner_at (set owners p (length xs))) same ∙ get_or-set_same owners p (length xs) nobody inside in
                  let at : has (get_or grown (length xs) []) q ≡ true =
                  subst (λ (z : List ℕ). has z q ≡ true) (sym (get_or_push xs (ys ++ p ∷ []) [] (length xs) refl))
                  (has-append_right q ys (p ∷ []) (subst (λ (z : ℕ). has (z ∷ []) q ≡ true) same (has-head q []))) in
                  (omega arith, subst (λ (k : ℕ). has (get_or grown k []) q ≡ true) (sym is) at)
              | inr other ↦
                  let is : owner_at (set owners p (length xs)) q ≡ owner_at owners q = get_or-set_other owners p q (length xs) nobody other in
                  let was = c.owned q (omega arith) (λ e. ne (is ∙ e)) in
                  let below = was.0 in
                  let there = further (owner_at owners q) q below was.1 in
                  (omega arith, subst (λ (k : ℕ). has (get_or grown k []) q ≡ true) (sym is) there)
            ];
        counted =
            let passes : not (eqb (length xs) nobody) ≡ true = ap not (ne_eqb (length xs) nobody (λ e. omega arith)) in
            let fails : not (eqb (owner_at owners p) nobody) ≡ false = ap not (eq-eqb (owner_at owners p) nobody free) in
            let before : length (concat xs ++ ys) ≡ length (filter (λ o. not (eqb o nobody)) owners) = ap length (sym (concat-push xs ys)) ∙ c.counted in
            omega (
              arith,
              ap length (concat-push xs (ys ++ p ∷ [])),
              length-append (concat xs) (ys ++ p ∷ []),
              length-append ys (p ∷ []),
              length-append (concat xs) ys,
              before,
              length-filter-set (λ o. not (eqb o nobody)) owners p (length xs) nobody inside fails passes,
            );
      }
    where
      one : (q : ℕ) → has (p ∷ []) q ≡ true → p ≡ q
      one q h = elim (has-In q (p ∷ []) h) [ inl e ↦ e | inr a ↦ absurd a ]

      old : (k q : ℕ) → k < length heard → has (get_or heard k []) q ≡ true → k < nobody → length (set owners p (length xs)) ≡ length owners →
          (q < length (set owners p (length xs))) × (owner_at (set owners p (length xs)) q ≡ k)
      old k q l h k_small kept =
          let was = c.marked k q l h in
          let below = was.0 in
          let owner = was.1 in
          let other : q ≢ p = λ e. let f : k ≡ nobody = sym owner ∙ ap (owner_at owners) e ∙ free in omega arith in
          (omega arith, get_or-set_other owners p q (length xs) nobody other ∙ owner)

      further : (k q : ℕ) → k < length heard → has (get_or heard k []) q ≡ true → has (get_or grown k []) q ≡ true
      further k q l h =
          let size = length_push xs ys in
          elim (cases_lt k (length xs)) as (λ _. has (get_or grown k []) q ≡ true) [
            | inl before ↦ subst (λ (z : List ℕ). has z q ≡ true) (get_or_append_left xs (ys ∷ []) [] k before ∙ sym (get_or_append_left xs ((ys ++ p ∷ []) ∷ []) [] k before)) h
            | inr end ↦
                let e : length xs ≡ k = omega arith in
                subst (λ (z : List ℕ). has z q ≡ true) (sym (get_or_push xs (ys ++ p ∷ []) [] k e))
                (has-append_left q ys (p ∷ []) (subst (λ (z : List ℕ). has z q ≡ true) (get_or_push xs ys [] k e) h))
          ]

-- ---- faults of points

module _ (lists : List (List ℕ)) (i j p : ℕ) (points owners : List ℕ) (is : points ≡ listed lists i) (here : get_or points j 0 ≡ p) where
  abbrev heard_to : List (List ℕ)
  heard_to = take i lists ++ take j points ∷ []

  the_point : get_or (listed lists i) j 0 ≡ p
  the_point = ap (λ (xs : List ℕ). get_or xs j 0) (sym is) ∙ here

  before_is : concat heard_to ≡ listed_before lists i j
  before_is = concat-push (take i lists) (take j points) ∙ ap (λ (xs : List ℕ). concat (take i lists) ++ take j xs) is

  faults_at : (a b : Bool) → ltb p (length owners) ≡ a → has (listed_before lists i j) p ≡ b →
      point_faults (length owners) lists i j ≡ cond a (cond b (Twice p ∷ []) []) (OutOfRange p ∷ [])
  faults_at a b e f =
      let at : ℕ → List NetsRefusal = λ q. cond (ltb q (length owners)) (cond (has (listed_before lists i j) q) (Twice q ∷ []) []) (OutOfRange q ∷ []) in
      let there : point_faults (length owners) lists i j ≡ at p = ap at the_point in
      there
      ∙ ap (λ (c : Bool). cond c (cond (has (listed_before lists i j) p) (Twice p ∷ []) []) (OutOfRange p ∷ [])) e
      ∙ ap (λ (d : Bool). cond a (cond d (Twice p ∷ []) []) (OutOfRange p ∷ [])) f

  pub fault_outside : length owners ≤ p → point_faults (length owners) lists i j ≡ OutOfRange p ∷ []
  fault_outside l = faults_at false (has (listed_before lists i j) p) (le-ltb p (length owners) l) refl

  pub fault_twice : p < length owners → Claimed heard_to owners → owner_at owners p ≢ nobody → point_faults (length owners) lists i j ≡ Twice p ∷ []
  fault_twice l c ne =
      let was = c.owned p l ne in
      faults_at true true (lt-ltb p (length owners) l) (subst (λ (xs : List ℕ). has xs p ≡ true) before_is (has-concat heard_to (owner_at owners p) p was.0 was.1))

  pub fault_none : p < length owners → Claimed heard_to owners → owner_at owners p ≡ nobody → length (take i lists) < nobody → point_faults (length owners) lists i j ≡ []
  fault_none l c free small = faults_at true false (lt-ltb p (length owners) l) (no_owner (has (listed_before lists i j) p) refl)
    where
      no_owner : (b : Bool) → has (listed_before lists i j) p ≡ b → has (listed_before lists i j) p ≡ false
      no_owner false e = e
      no_owner true e =
          let k = concat-has heard_to p (subst (λ (xs : List ℕ). has xs p ≡ true) (sym before_is) e) in
          let was = c.marked k.0 p k.1 k.2 in
          let owner = was.1 in
          let below = k.1 in
          let size = length_push (take i lists) (take j points) in
          absurd (omega arith)

  -- the point goes to net i
  pub claim_point : j < length points → p < length owners → Claimed heard_to owners → owner_at owners p ≡ nobody → length (take i lists) ≡ i → i < nobody →
      Claimed (take i lists ++ take (j + 1) points ∷ []) (set owners p i)
  claim_point inside l c free size small =
      let more : take (j + 1) points ≡ take j points ++ p ∷ [] = take_more points j 0 inside ∙ ap (λ (q : ℕ). take j points ++ q ∷ []) here in
      let made = claims-more (take i lists) (take j points) owners p c l free (omega arith) in
      subst (λ (ys : List ℕ). Claimed (take i lists ++ ys ∷ []) (set owners p i)) (sym more)
      (subst (λ (k : ℕ). Claimed (take i lists ++ (take j points ++ p ∷ []) ∷ []) (set owners p k)) size made)

-- ---- faults of nets

module _ (n : ℕ) (lists : List (List ℕ)) (i : ℕ) where
  pub net_empty : length (listed lists i) ≡ 0 → net_faults n lists i ≡ EmptyNet i ∷ []
  net_empty e = rw (eq-eqb (length (listed lists i)) 0 e) refl

  pub net_some : 0 < length (listed lists i) → net_faults n lists i ≡ flat_map (point_faults n lists i) (points_below (length (listed lists i)))
  net_some l = rw (ne_eqb (length (listed lists i)) 0 (λ e. omega arith)) refl

  pub net_not_empty : net_faults n lists i ≡ [] → 0 < length (listed lists i)
  net_not_empty none = elim (cases_eq (length (listed lists i)) 0) [
    | inl e ↦ absurd (let f : EmptyNet i ∷ [] ≡ [] = sym (net_empty e) ∙ none in cc)
    | inr ne ↦ omega arith
  ]

-- nets without a fault have a point each
pub points_of_nets : (n : ℕ) (lists : List (List ℕ)) (i : ℕ) → flat_map (net_faults n lists) (points_below i) ≡ [] → i ≤ length lists → i ≤ length (concat (take i lists))
points_of_nets n lists zero none l = omega arith
points_of_nets n lists (suc i) none l =
    let parts = none_before (net_faults n lists) i none in
    let more : take (suc i) lists ≡ take i lists ++ get_or lists i [] ∷ [] = ap (λ (k : ℕ). take k lists) (sym (add-one i)) ∙ take_more lists i [] (omega arith) in
    omega (arith, points_of_nets n lists i parts.0 (omega arith), net_not_empty n lists i parts.1, ap length (ap concat more ∙ concat-push (take i lists) (get_or lists i [])), length-append (concat (take i lists)) (get_or lists i []))

pub nets_few : (lists : List (List ℕ)) (i : ℕ) (owners : List ℕ) → ClaimedTo lists i owners → i ≤ length lists →
    i ≤ length (filter (λ o. not (eqb o nobody)) owners)
nets_few lists i owners c l = omega (arith, points_of_nets (length owners) lists i c.faultless l, c.claimed.counted)

pub nets_below : (lists : List (List ℕ)) (i : ℕ) (owners : List ℕ) → ClaimedTo lists i owners → i ≤ length lists → i ≤ length owners
nets_below lists i owners c l =
    omega (arith, nets_few lists i owners c l, length-filter (λ o. not (eqb o nobody)) owners, count_by-le-length (λ o. not (eqb o nobody)) owners)

-- ---- one more net

module _ (lists : List (List ℕ)) (i : ℕ) (owners : List ℕ) where
  pub before_net : i < length lists → length (take i lists) ≡ i
  before_net l = omega (arith, length-take i lists)

  -- a net without points is the first fault of its own
  pub empty_first : (n : ℕ) → length (listed lists i) ≡ 0 → slice_get (net_faults n lists i) 0 ≡ Some (EmptyNet i)
  empty_first n e = ap (λ (xs : List NetsRefusal). slice_get xs 0) (net_empty n lists i e)

  -- the first point with a fault
  pub point_first : (n j : ℕ) (e : NetsRefusal) → j < length (listed lists i) → flat_map (point_faults n lists i) (points_below j) ≡ [] →
      point_faults n lists i j ≡ e ∷ [] → slice_get (faults_in n lists i) 0 ≡ Some e
  point_first n j e l none here = first_below (point_faults n lists i) j (length (listed lists i)) e [] none l here

  -- a list whose points are free is claimed whole
  pub claimed_list : (points : List ℕ) (j : ℕ) → points ≡ listed lists i → i < length lists → length points ≤ j →
      Claimed (take i lists ++ take j points ∷ []) owners →
      flat_map (point_faults (length owners) lists i) (points_below j) ≡ [] → j ≤ length points → ClaimedIn lists i owners
  claimed_list points j is l end c clean inside =
      let all : j ≡ length (listed lists i) = omega (arith, ap length is) in
      let points_all : take j points ≡ listed lists i = take_all j points end ∙ is in
      record {
        claimed = subst (λ (xs : List (List ℕ)). Claimed xs owners) (ap (λ (xs : List ℕ). take i lists ++ xs ∷ []) points_all ∙ sym (take_more lists i [] l)) c;
        faultless = ap (λ (k : ℕ). flat_map (point_faults (length owners) lists i) (points_below k)) (sym all) ∙ clean;
      }

  -- where it has a point, it is one more net
  pub claimed_net : 0 < length (listed lists i) → flat_map (net_faults (length owners) lists) (points_below i) ≡ [] → ClaimedIn lists i owners → ClaimedTo lists (i + 1) owners
  claimed_net some none c = record {
    claimed = c.claimed;
    faultless = none_more (net_faults (length owners) lists) i none (net_some (length owners) lists i some ∙ c.faultless);
  }

  -- its first fault is that of the net
  pub net_first : (n : ℕ) (e : NetsRefusal) → 0 < length (listed lists i) → slice_get (faults_in n lists i) 0 ≡ Some e → slice_get (net_faults n lists i) 0 ≡ Some e
  net_first n e some here = ap (λ (xs : List NetsRefusal). slice_get xs 0) (net_some n lists i some) ∙ here

  -- as the last list it ends the claims
  pub claimed_last : flat_map (net_faults (length owners) lists) (points_below i) ≡ [] → ClaimedIn lists i owners → ClaimedAll lists i owners
  claimed_last none c = record { claimed = c.claimed; faultless = none_append _ _ none c.faultless }

  -- its first fault is the first of all
  pub last_first : (n : ℕ) (e : NetsRefusal) → flat_map (net_faults n lists) (points_below i) ≡ [] → slice_get (faults_in n lists i) 0 ≡ Some e → slice_get (faults_to n lists i) 0 ≡ Some e
  last_first n e none here = ap (λ (xs : List NetsRefusal). slice_get (xs ++ faults_in n lists i) 0) none ∙ here

-- ---- the steps of the loop over a net's points

module _ (lists : List (List ℕ)) (i j at item : ℕ) (points owners : List ℕ) (is : points ≡ listed lists i) (read : item ≡ get_or points j item)
    (inside : j < length points) (same : at ≡ item) (c : Claimed (take i lists ++ take j points ∷ []) owners)
    (clean : flat_map (point_faults (length owners) lists i) (points_below j) ≡ []) where
  here_at : get_or points j 0 ≡ at
  here_at = sym (get_or_read points j item inside read 0) ∙ sym same

  inside_listed : j < length (listed lists i)
  inside_listed = omega (arith, ap length is)

  owner_read : at < length owners → get_or owners at 0 ≡ owner_at owners at
  owner_read l = get_or_default owners at 0 nobody l

  pub step_outside : length owners ≤ at → slice_get (faults_in (length owners) lists i) 0 ≡ Some (OutOfRange item)
  step_outside l =
      point_first lists i owners (length owners) j (OutOfRange item) inside_listed clean
      (subst (λ (q : ℕ). point_faults (length owners) lists i j ≡ OutOfRange q ∷ []) same (fault_outside lists i j at points owners is here_at l))

  pub step_twice : at < length owners → get_or owners at 0 ≢ nobody → slice_get (faults_in (length owners) lists i) 0 ≡ Some (Twice item)
  step_twice l ne =
      point_first lists i owners (length owners) j (Twice item) inside_listed clean
      (subst (λ (q : ℕ). point_faults (length owners) lists i j ≡ Twice q ∷ []) same (fault_twice lists i j at points owners is here_at l c (λ e. ne (owner_read l ∙ e))))

  pub step_claimed : at < length owners → get_or owners at 0 ≡ nobody → i < length lists → i < nobody →
      Claimed (take i lists ++ take (j + 1) points ∷ []) (set owners at i)
  step_claimed l free net small = claim_point lists i j at points owners is here_at inside l c (sym (owner_read l) ∙ free) (before_net lists i owners net) small

  pub step_clean : at < length owners → get_or owners at 0 ≡ nobody → i < length lists → i < nobody →
      flat_map (point_faults (length (set owners at i)) lists i) (points_below (j + 1)) ≡ []
  step_clean l free net small =
      subst (λ (n : ℕ). flat_map (point_faults n lists i) (points_below (j + 1)) ≡ []) (sym (length-set owners at i))
      (none_more (point_faults (length owners) lists i) j clean (fault_none lists i j at points owners is here_at l c (sym (owner_read l) ∙ free) (omega (arith, before_net lists i owners net))))

-- the first net with a fault, below net m
pub first_fault-at : (lists : List (List ℕ)) (n i m : ℕ) (e : NetsRefusal) → i < m → flat_map (net_faults n lists) (points_below i) ≡ [] →
    slice_get (net_faults n lists i) 0 ≡ Some e → slice_get (faults_to n lists m) 0 ≡ Some e
first_fault-at lists n i m e l none here = from_net (net_faults n lists i) refl here
  where
    from_net : (xs : List NetsRefusal) → net_faults n lists i ≡ xs → slice_get xs 0 ≡ Some e → slice_get (faults_to n lists m) 0 ≡ Some e
    from_net [] is at = cc
    from_net (x ∷ xs) is at = first_append e (flat_map (net_faults n lists) (points_below m)) (faults_in n lists m) (first_below (net_faults n lists) i m x xs none l is ∙ at)

-- the lists so far, joined, and one more
pub joined_more : (items : List (List ℕ)) (points next item slice : List ℕ) (i : ℕ) → points ≡ concat (take i items) → i < length items → item ≡ get_or items i item → slice ≡ item → next ≡ points ++ slice →
    next ≡ concat (take (i + 1) items)
joined_more items points next item slice i was inside read same is =
    is
    ∙ ap (λ (xs : List ℕ). xs ++ slice) was
    ∙ ap (λ (xs : List ℕ). concat (take i items) ++ xs) same
    ∙ sym (ap concat (take_more items i item inside ∙ ap (λ (y : List ℕ). take i items ++ y ∷ []) (sym read)) ∙ concat-push (take i items) item)
