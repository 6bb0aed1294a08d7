-- The nets of a table, listed: they have no fault, and they give the table back.
use Rattle.std.proofs.Common.{◌≡◌, inl, inr, ℕ, zero, suc, ◌+◌, ◌<◌, ◌≤◌, Bool, true, false, cond, not, List, [], ◌∷◌, ◌++◌, length, get_or, take, filter, flat_map, All, AllPairs, Contains, refl, sym, ◌∙◌, ap, subst, arith, lt-ltb, ne_eqb}
use Rattle.std.specs.Prelude.{◌==◌}
use Rattle.std.specs.List.{range_with_len, concat, list_all}
use Rattle.std.specs.List.Sorted.{IsStrictlyIncreasing}
use Rattle.std.proofs.Math.Seq.{get_or-append_seam}
use Rattle.std.proofs.lemmas.Bool.{cases_eq}
use Rattle.std.proofs.lemmas.List.{get_or_append_left, length-append}
use Rattle.std.proofs.lemmas.List.Folds.{map_fixed}
use Rattle.partition.specs.Classes.{points_below, has, AscendsFrom}
use Rattle.partition.specs.NetTable.{NetTable, IsNetTable, judged_points, Disjoint}
use Rattle.partition.specs.NetFaults.{all_faults, ascending_net, ignored_faults, net_faults, none_judged, point_fault, table_of}
use Rattle.partition.specs.declared.nets.NetsRefusal.{NetsRefusal}
use Rattle.partition.specs.declared.nets.NetsRefusal.TheVariants.{OutOfRange, Twice, EmptyNet, NoneJudged}
use Rattle.partition.proofs.classes.ClassLaws.{has-head, has-above, range-has}
use Rattle.partition.proofs.Members.{has-In, In-has, In-append_right, In-filter_cases}
use Rattle.partition.proofs.tables.NetLaws.{In-index, index-In, All-In, Contains-In, judged-below, judged-is}
use Rattle.partition.proofs.tables.KeptLemmas.{filter-agree}
use Rattle.partition.proofs.PickedLemmas.{increasing_below}
use Rattle.partition.proofs.tables.ClaimLemmas.{has-append_cases}
use Rattle.wirelist_reader.proofs.faultless.BuildFacts.{all_pass}
use Rattle.wirelist_reader.proofs.Firsts.{none_in_both}
use Rattle.wirelist_reader.proofs.Numbers.{not_true}
use Rattle.wirelist_reader.proofs.printed.PrintedLists.{none_of_splits}

-- ---- a net that ascends is given back

ascends : (xs : List ℕ) → IsStrictlyIncreasing xs → (a : ℕ) → (0 < length xs → a ≤ get_or xs 0 0) → AscendsFrom a xs
ascends [] up a low = tt
ascends (x ∷ xs) up a low =
    let first : a ≤ x = low (omega arith) in
    let later : IsStrictlyIncreasing xs = λ k l.
    let e : suc k + 1 ≡ suc (k + 1) = omega arith in subst (λ (j : ℕ). get_or (x ∷ xs) (suc k) 0 < get_or (x ∷ xs) j 0) e (up (suc k) (omega arith)) in
    (first, ascends xs later (x + 1) (λ l. let next : x < get_or xs 0 0 = up 0 (omega arith) in omega arith))

has_cons_other : (x q : ℕ) (xs : List ℕ) → x < q → has (x ∷ xs) q ≡ has xs q
has_cons_other x q xs l = rw (ne_eqb x q (λ e. omega arith)) refl

kept : (n a : ℕ) (net : List ℕ) → AscendsFrom a net → ((p : ℕ) → has net p ≡ true → p < a + n) → filter (has net) (range_with_len a n) ≡ net
kept zero a [] s below = refl
kept zero a (x ∷ xs) s below = let low = s.0 in let high = below x (has-head x xs) in absurd (omega arith)
kept (suc n) a [] s below = kept n (a + 1) [] tt (λ p h. absurd (let e : false ≡ true = h in cc))
kept (suc n) a (x ∷ xs) s below =
    let low = s.0 in
    let rest = range_with_len (a + 1) n in
    elim (cases_eq x a) as (λ _. filter (has (x ∷ xs)) (range_with_len a (suc n)) ≡ x ∷ xs) [
      | inl same ↦
          let here : has (x ∷ xs) a ≡ true = subst (λ (q : ℕ). has (x ∷ xs) q ≡ true) same (has-head x xs) in
          let from : AscendsFrom (a + 1) xs = subst (λ (q : ℕ). AscendsFrom (q + 1) xs) same s.1 in
          let others : filter (has (x ∷ xs)) rest ≡ filter (has xs) rest =
          filter-agree (has (x ∷ xs)) (has xs) rest (λ q i. let r = (range-has (a + 1) n q (In-has q rest i)).0 in has_cons_other x q xs (omega arith)) in
          let later : filter (has xs) rest ≡ xs = kept n (a + 1) xs from (λ p h. let b = below p (tail_has x p xs h) in omega arith) in
          ap (λ (b : Bool). cond b (a ∷ filter (has (x ∷ xs)) rest) (filter (has (x ∷ xs)) rest)) here
          ∙ ap (λ (q : ℕ). q ∷ filter (has (x ∷ xs)) rest) (sym same)
          ∙ ap (λ (ys : List ℕ). x ∷ ys) (others ∙ later)
      | inr other ↦
          let above : a + 1 ≤ x = omega arith in
          let from : AscendsFrom (a + 1) (x ∷ xs) = (above, s.1) in
          let none : has (x ∷ xs) a ≡ false = not_true (has (x ∷ xs) a) (λ h. let b = has-above (a + 1) a (x ∷ xs) from h in omega arith) in
          ap (λ (b : Bool). cond b (a ∷ filter (has (x ∷ xs)) rest) (filter (has (x ∷ xs)) rest)) none
          ∙ kept n (a + 1) (x ∷ xs) from (λ p h. let b = below p h in omega arith)
    ]
  where
    tail_has : (y p : ℕ) (ys : List ℕ) → has ys p ≡ true → has (y ∷ ys) p ≡ true
    tail_has y p ys h = In-has p (y ∷ ys) (inr (has-In p ys h))

pub ascending_is : (n : ℕ) (net : List ℕ) → IsStrictlyIncreasing net → ((p : ℕ) → has net p ≡ true → p < n) → ascending_net n net ≡ net
ascending_is n net up below = kept n 0 net (ascends net up 0 (λ l. omega arith)) (λ p h. let b = below p h in omega arith)

-- the points of a table's net are judged points, and so points of the matrix that are not ignored
module _ (t : NetTable) (net : List ℕ) (inside : All (Contains (judged_points t)) net) (p : ℕ) (h : has net p ≡ true) where
  net_judged : has (judged_points t) p ≡ true
  net_judged = In-has p (judged_points t) (Contains-In p (judged_points t) (All-In (Contains (judged_points t)) p net inside (has-In p net h)))

  net_below : p < t.points
  net_below = judged-below t p net_judged

  net_other : has t.ignored p ≡ false
  net_other = not_from (sym (judged-is t p net_below) ∙ net_judged)
    where
      not_from : {b : Bool} → not b ≡ true → b ≡ false
      not_from {b = true} e = cc
      not_from {b = false} e = refl

-- an ignored point is a point of the matrix
pub ignored_below : (t : NetTable) → IsNetTable t → (p : ℕ) → has t.ignored p ≡ true → p < t.points
ignored_below t ok p h = All-In (λ q. q < t.points) p t.ignored ok.ignored_in_range (has-In p t.ignored h)

pub table_back : (t : NetTable) → IsNetTable t → table_of t.points t.named t.ignored ≡ t
table_back t ok =
    let table : List (List ℕ) → List ℕ → NetTable = λ named ignored. record { points = t.points; named = named; ignored = ignored } in
    ap (λ named. table named (ascending_net t.points t.ignored))
    (map_fixed (ascending_net t.points) t.named (λ k d l. ascending_is t.points (get_or t.named k d) (ok.ascending k d l) (net_below t (get_or t.named k d) (ok.in_range k d l))))
    ∙ ap (table t.named) (ascending_is t.points t.ignored ok.ignored_ascending (ignored_below t ok))

-- ---- nets of a table have no fault

concat_in : (xss : List (List ℕ)) (p : ℕ) → has (concat xss) p ≡ true → (k : ℕ) × (k < length xss) × (has (get_or xss k []) p ≡ true)
concat_in [] p h = absurd (let e : false ≡ true = h in cc)
concat_in (x ∷ xss) p h = elim (has-append_cases p x (concat xss) h) [
  | inl a ↦ (0, omega arith, a)
  | inr b ↦ let r = concat_in xss p b in let l = r.1 in (suc r.0, omega arith, r.2)
]

point_none : (n : ℕ) (before : List ℕ) (p : ℕ) → p < n → (has before p ≡ true → ⊥) → point_fault n before p ≡ []
point_none n before p inside new =
    ap (λ (b : Bool). cond b (cond (has before p) (Twice p ∷ []) []) (OutOfRange p ∷ [])) (lt-ltb p n inside)
    ∙ ap (λ (b : Bool). cond b (Twice p ∷ []) []) (not_true (has before p) new)

-- a point of an ascending net does not stand before itself
once : (before after : List ℕ) (p : ℕ) → IsStrictlyIncreasing (before ++ p ∷ after) → has before p ≡ true → ⊥
once before after p up h =
    let net = before ++ p ∷ after in
    let place = In-index p before (has-In p before h) in
    let inside = place.1 in
    let there : get_or net place.0 0 ≡ p = get_or_append_left before (p ∷ after) 0 place.0 inside ∙ place.2 0 in
    let here : get_or net (length before) 0 ≡ p = get_or-append_seam before p after 0 in
    let less = increasing_below net up place.0 (length before) inside (omega (arith, length-append before (p ∷ after))) in
    omega arith

-- nor in a net before
elsewhere : (before after : List (List ℕ)) (net : List ℕ) (p : ℕ) → AllPairs Disjoint (before ++ net ∷ after) → has net p ≡ true → has (concat before) p ≡ true → ⊥
elsewhere before after net p apart own h =
    let lists = before ++ net ∷ after in
    let place = concat_in before p h in
    let inside = place.1 in
    let there : get_or lists place.0 [] ≡ get_or before place.0 [] = get_or_append_left before (net ∷ after) [] place.0 inside in
    let here : get_or lists (length before) [] ≡ net = get_or-append_seam before net after [] in
    let pair : Disjoint (get_or before place.0 []) net =
    subst (λ (x : List ℕ). Disjoint x net) there (subst (λ (y : List ℕ). Disjoint (get_or lists place.0 []) y) here (apart place.0 (length before) [] inside (omega (arith, length-append before (net ∷ after))))) in
    let free : has net p ≡ false = All-In (λ x. has net x ≡ false) p (get_or before place.0 []) pair (has-In p (get_or before place.0 []) place.2) in
    absurd (let e : false ≡ true = sym free ∙ own in cc)

middle_has : (before after : List ℕ) (p : ℕ) → has (before ++ p ∷ after) p ≡ true
middle_has before after p = In-has p (before ++ p ∷ after) (In-append_right p before (p ∷ after) (inl refl))

module _ (t : NetTable) where
  abbrev n : ℕ
  n = t.points

  -- the faults of a net behind these
  abbrev faults_behind : ℕ → List (List ℕ) → List ℕ → List NetsRefusal
  faults_behind i before net =
      cond (length net == 0) (EmptyNet i ∷ []) (flat_map (λ j. point_fault n (concat before ++ take j net) (get_or net j 0)) (points_below (length net)))

  net_none : (i : ℕ) (before after : List (List ℕ)) (net : List ℕ) → 0 < length net → IsStrictlyIncreasing net → All (Contains (judged_points t)) net →
      AllPairs Disjoint (before ++ net ∷ after) → faults_behind i before net ≡ []
  net_none i before after net some up inside apart =
      ap (λ (b : Bool). cond b (EmptyNet i ∷ []) (flat_map (λ j. point_fault n (concat before ++ take j net) (get_or net j 0)) (points_below (length net)))) (ne_eqb (length net) 0 (λ e. omega arith))
      ∙ none_of_splits (λ (j : ℕ) (b : List ℕ) (p : ℕ). point_fault n (concat before ++ b) p) 0 net (λ b a p j e.
      let own : has net p ≡ true = subst (λ (ys : List ℕ). has ys p ≡ true) (sym e) (middle_has b a p) in
      point_none n (concat before ++ b) p (net_below t net inside p own) (λ h.
      elim (has-append_cases p (concat before) b h) [
        | inl other ↦ elsewhere before after net p apart own other
        | inr again ↦ once b a p (subst IsStrictlyIncreasing e up) again
      ]))

module _ {X : Type 0} (P : X → Type 0) where
  pub All-middle : (before after : List X) (x : X) → All P (before ++ x ∷ after) → P x
  All-middle before after x h =
      subst P (get_or-append_seam before x after x) (h (length before) x (omega (arith, length-append before (x ∷ after))))

  pub All-split : (xs before after : List X) (x : X) → xs ≡ before ++ x ∷ after → All P xs → P x
  All-split xs before after x e h = All-middle before after x (subst (All P) e h)

module _ (t : NetTable) (ok : IsNetTable t) where
  named_none : flat_map (net_faults t.points t.named) (points_below (length t.named)) ≡ []
  named_none =
      none_of_splits (faults_behind t) [] t.named (λ before after net i e.
      net_none t i before after net
      (All-split (λ (x : List ℕ). 0 < length x) t.named before after net e ok.nonempty)
      (All-split IsStrictlyIncreasing t.named before after net e ok.ascending)
      (All-split (λ (x : List ℕ). All (Contains (judged_points t)) x) t.named before after net e ok.in_range)
      (subst (AllPairs Disjoint) e ok.disjoint))

  -- an ignored point stands in no net
  in_no_net : (p : ℕ) → has t.ignored p ≡ true → has (concat t.named) p ≡ true → ⊥
  in_no_net p own h =
      let place = concat_in t.named p h in
      let other = net_other t (get_or t.named place.0 []) (ok.in_range place.0 [] place.1) p place.2 in
      absurd (let e : false ≡ true = sym other ∙ own in cc)

  ignored_none : flat_map (ignored_faults t.points t.named t.ignored) (points_below (length t.ignored)) ≡ []
  ignored_none =
      none_of_splits (λ (j : ℕ) (b : List ℕ) (p : ℕ). point_fault t.points (concat t.named ++ b) p) 0 t.ignored (λ b a p j e.
      let own : has t.ignored p ≡ true = subst (λ (ys : List ℕ). has ys p ≡ true) (sym e) (middle_has b a p) in
      point_none t.points (concat t.named ++ b) p (ignored_below t ok p own) (λ h.
      elim (has-append_cases p (concat t.named) b h) [
        | inl other ↦ in_no_net p own other
        | inr again ↦ once b a p (subst IsStrictlyIncreasing e ok.ignored_ascending) again
      ]))

  -- some point is not ignored
  some_judged : list_all (has t.ignored) (points_below t.points) ≡ false
  some_judged =
      let p = get_or (judged_points t) 0 0 in
      let kept = In-filter_cases (λ q. not (has t.ignored q)) p (points_below t.points) (index-In 0 0 (judged_points t) ok.some_point) in
      let place = In-index p (points_below t.points) kept.0 in
      not_true (list_all (has t.ignored) (points_below t.points)) (λ all.
      let passes : has t.ignored p ≡ true = subst (λ (q : ℕ). has t.ignored q ≡ true) (place.2 0) (all_pass (has t.ignored) (points_below t.points) place.0 0 all place.1) in
      let e : not true ≡ true = ap not (sym passes) ∙ kept.1 in
      cc)

  pub nets_none : all_faults t.points t.named t.ignored ≡ []
  nets_none =
      let rest = flat_map (ignored_faults t.points t.named t.ignored) (points_below (length t.ignored)) in
      none_in_both (flat_map (net_faults t.points t.named) (points_below (length t.named))) (rest ++ none_judged t.points t.ignored) named_none
      (none_in_both rest (none_judged t.points t.ignored) ignored_none (ap (λ (b : Bool). cond b (NoneJudged ∷ []) []) some_judged))
