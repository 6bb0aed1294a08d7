-- The ignored points, claimed as one further list after the nets.
use Rattle.std.proofs.Common.{◌≡◌, ◌≢◌, ℕ, zero, suc, ◌+◌, ◌<◌, ◌≤◌, Bool, true, false, cond, not, List, [], ◌∷◌, ◌++◌, length, get_or, take, filter, refl, sym, ◌∙◌, ap, subst, arith, eqb, append_assoc, length-append, Some, None, ◌^◌}
use Rattle.std.specs.Prelude.{slice_get}
use Rattle.std.specs.List.{concat, flat_map, list_all}
use Rattle.std.proofs.lemmas.List.{get_or_append_left, get_or_push, take-append-le, take_all, length_push}
use Rattle.std.proofs.lemmas.List.FromFn.{length-range_with_len}
use Rattle.std.proofs.lemmas.List.Sums.{length-filter, count_by-le-length}
use Rattle.std.proofs.lemmas.Grind.{flat_map-append}
use Rattle.partition.specs.Classes.{points_below, has}
use Rattle.partition.specs.NetFaults.{all_faults, ascending_net, first_fault, ignored_faults, listed, net_faults, none_judged, point_fault}
use Rattle.partition.specs.Claims.{nobody, Claimed, ClaimedAll, faults_in, faults_to}
use Rattle.partition.specs.declared.nets.NetsRefusal.{NetsRefusal}
use Rattle.partition.specs.declared.nets.NetsRefusal.TheVariants.{EmptyNet, NoneJudged}
use Rattle.partition.proofs.classes.HeadLemmas.{points_below-suc}
use Rattle.partition.proofs.tables.ClaimLemmas.{append_none, first_append, points_of_nets, concat-push}

flat_agree : {A : Type 0} (f g : ℕ → List A) (m : ℕ) → ((i : ℕ) → i < m → f i ≡ g i) → flat_map f (points_below m) ≡ flat_map g (points_below m)
flat_agree f g zero h = refl
flat_agree f g (suc m) h =
    ap (flat_map f) (points_below-suc m)
    ∙ flat_map-append f (points_below m) (m ∷ [])
    ∙ ap (λ (xs : List _). xs ++ (f m ++ [])) (flat_agree f g m (λ i l. h i (omega arith)))
    ∙ ap (λ (xs : List _). flat_map g (points_below m) ++ (xs ++ [])) (h m (omega arith))
    ∙ sym (flat_map-append g (points_below m) (m ∷ []))
    ∙ sym (ap (flat_map g) (points_below-suc m))

module _ (n : ℕ) (lists : List (List ℕ)) (ignored : List ℕ) where
  abbrev all : List (List ℕ)
  all = lists ++ ignored ∷ []

  before : (i : ℕ) → i ≤ length lists → take i all ≡ take i lists
  before i l = take-append-le i lists (ignored ∷ []) l

  net_same : (i : ℕ) → i < length lists → net_faults n all i ≡ net_faults n lists i
  net_same i l =
      let of : List (List ℕ) → List ℕ → List NetsRefusal = λ heard points.
      cond (eqb (length points) 0) (EmptyNet i ∷ []) (flat_map (λ j. point_fault n (concat heard ++ take j points) (get_or points j 0)) (points_below (length points))) in
      let heard : of (take i all) (listed all i) ≡ of (take i lists) (listed all i) = ap (λ (h : List (List ℕ)). of h (listed all i)) (before i (omega arith)) in
      heard ∙ ap (of (take i lists)) (get_or_append_left lists (ignored ∷ []) [] i l)

  last_same : faults_in n all (length lists) ≡ flat_map (ignored_faults n lists ignored) (points_below (length ignored))
  last_same =
      let of : List (List ℕ) → List ℕ → List NetsRefusal = λ heard points.
      flat_map (λ j. point_fault n (concat heard ++ take j points) (get_or points j 0)) (points_below (length points)) in
      let heard : of (take (length lists) all) (listed all (length lists)) ≡ of lists (listed all (length lists)) =
      ap (λ (h : List (List ℕ)). of h (listed all (length lists))) (before (length lists) (omega arith) ∙ take_all (length lists) lists (omega arith)) in
      heard ∙ ap (of lists) (get_or_push lists ignored [] (length lists) refl)

  -- the faults of all lists are those of the nets and of the ignored points
  pub nets_clean : flat_map (net_faults n all) (points_below (length lists)) ≡ [] → flat_map (net_faults n lists) (points_below (length lists)) ≡ []
  nets_clean none = sym (flat_agree (net_faults n all) (net_faults n lists) (length lists) net_same) ∙ none

  faults_are : faults_to n all (length lists) ≡ flat_map (net_faults n lists) (points_below (length lists)) ++ flat_map (ignored_faults n lists ignored) (points_below (length ignored))
  faults_are =
      ap (λ (xs : List NetsRefusal). xs ++ faults_in n all (length lists)) (flat_agree (net_faults n all) (net_faults n lists) (length lists) net_same)
      ∙ ap (λ (ys : List NetsRefusal). flat_map (net_faults n lists) (points_below (length lists)) ++ ys) last_same

  all_are : all_faults n lists ignored ≡ faults_to n all (length lists) ++ none_judged n ignored
  all_are =
      sym (append_assoc (flat_map (net_faults n lists) (points_below (length lists))) (flat_map (ignored_faults n lists ignored) (points_below (length ignored))) (none_judged n ignored))
      ∙ ap (λ (xs : List NetsRefusal). xs ++ none_judged n ignored) (sym faults_are)

  first_of_all : (xs : List NetsRefusal) → all_faults n lists ignored ≡ xs → first_fault n lists ignored ≡ slice_get xs 0
  first_of_all xs e = ap (λ (ys : List NetsRefusal). slice_get ys 0) e

  -- the first fault of a list is the first of all
  pub listed_first : (e : NetsRefusal) → slice_get (faults_to n all (length lists)) 0 ≡ Some e → first_fault n lists ignored ≡ Some e
  listed_first e h = first_of_all _ all_are ∙ first_append e (faults_to n all (length lists)) (none_judged n ignored) h

  after_lists : faults_to n all (length lists) ≡ [] → all_faults n lists ignored ≡ none_judged n ignored
  after_lists none = all_are ∙ ap (λ (xs : List NetsRefusal). xs ++ none_judged n ignored) none

  few_kept : (t : ℕ → Bool) (xs : List ℕ) → length (filter t xs) ≤ length xs
  few_kept t xs = omega (arith, length-filter t xs, count_by-le-length t xs)

  all_pass : (t : ℕ → Bool) (xs : List ℕ) → length (filter t xs) ≡ length xs → list_all t xs ≡ true
  all_pass t [] e = refl
  all_pass t (x ∷ xs) e = go (t x) refl (λ f. all_pass t xs f)
    where
      go : (b : Bool) → t x ≡ b → (length (filter t xs) ≡ length xs → list_all t xs ≡ true) → list_all t (x ∷ xs) ≡ true
      go true is ih =
          let kept : filter t (x ∷ xs) ≡ x ∷ filter t xs = rw is refl in
          rw is (ih (omega (arith, e, ap length kept)))
      go false is ih =
          let kept : filter t (x ∷ xs) ≡ filter t xs = rw is refl in
          absurd (omega (arith, e, ap length kept, few_kept t xs))

  whole_kept : (t : ℕ → Bool) (xs : List ℕ) → list_all t xs ≡ true → length (filter t xs) ≡ length xs
  whole_kept t [] e = refl
  whole_kept t (x ∷ xs) e = go (t x) refl (λ f. whole_kept t xs f)
    where
      go : (b : Bool) → t x ≡ b → (list_all t xs ≡ true → length (filter t xs) ≡ length xs) → length (filter t (x ∷ xs)) ≡ length (x ∷ xs)
      go true is ih =
          let kept : filter t (x ∷ xs) ≡ x ∷ filter t xs = rw is refl in
          let later : list_all t xs ≡ true = rw is at e in
          omega (arith, ap length kept, ih later)
      go false is ih = absurd (let no : false ≡ true = rw is at e in cc)

  size : length (points_below n) ≡ n
  size = length-range_with_len 0 n

  -- that no point counts is the only fault
  pub none_first : faults_to n all (length lists) ≡ [] → length (ascending_net n ignored) ≡ n → first_fault n lists ignored ≡ Some NoneJudged
  none_first none every =
      let whole = all_pass (has ignored) (points_below n) (omega (arith, every, size)) in
      first_of_all _ (after_lists none) ∙ ap (λ (b : Bool). slice_get (cond b (NoneJudged ∷ []) []) 0) whole

  -- nothing is wrong
  pub no_fault : faults_to n all (length lists) ≡ [] → length (ascending_net n ignored) ≢ n → first_fault n lists ignored ≡ None
  no_fault none some = first_of_all _ (after_lists none) ∙ go (list_all (has ignored) (points_below n)) refl
    where
      go : (b : Bool) → list_all (has ignored) (points_below n) ≡ b → slice_get (none_judged n ignored) 0 ≡ None
      go true is = absurd (some (omega (arith, whole_kept (has ignored) (points_below n) is, size)))
      go false is = ap (λ (b : Bool). slice_get (cond b (NoneJudged ∷ []) []) 0) is

-- ---- all claims

-- the points are claimed by the nets and, as one further list, by the ignored points
pub record IsClaimed (lists : List (List ℕ)) (ignored owners : List ℕ) : Type 0 where
  pub claimed : Claimed (lists ++ ignored ∷ []) owners
  pub faultless : faults_to (length owners) (lists ++ ignored ∷ []) (length lists) ≡ []
  pub small : length owners < 2 ^ 16

module _ (lists : List (List ℕ)) (ignored owners : List ℕ) (joined : List (List ℕ)) (count : ℕ) (is : joined ≡ lists ++ ignored ∷ []) (place : count ≡ length lists) where
  pub claimed_is : length owners < 2 ^ 16 → ClaimedAll joined count owners → IsClaimed lists ignored owners
  claimed_is small c = record {
    claimed = subst (λ (xs : List (List ℕ)). Claimed xs owners) (take_all (count + 1) joined (omega (arith, ap length is, length_push lists ignored)) ∙ is) c.claimed;
    faultless =
        subst (λ (k : ℕ). faults_to (length owners) (lists ++ ignored ∷ []) k ≡ []) place
        (subst (λ (xs : List (List ℕ)). faults_to (length owners) xs count ≡ []) is c.faultless);
    small = small;
  }

  pub fault_is : (n : ℕ) (e : NetsRefusal) → slice_get (faults_to n joined count) 0 ≡ Some e → first_fault n lists ignored ≡ Some e
  fault_is n e h =
      listed_first n lists ignored e
      (subst (λ (k : ℕ). slice_get (faults_to n (lists ++ ignored ∷ []) k) 0 ≡ Some e) place
      (subst (λ (xs : List (List ℕ)). slice_get (faults_to n xs count) 0 ≡ Some e) is h))

module _ (lists : List (List ℕ)) (ignored owners : List ℕ) (ok : IsClaimed lists ignored owners) where
  pub nets_faultless : flat_map (net_faults (length owners) lists) (points_below (length lists)) ≡ []
  nets_faultless = nets_clean (length owners) lists ignored (append_none _ _ ok.faultless).0

  pub claimed_few : length lists ≤ length (filter (λ o. not (eqb o nobody)) owners)
  claimed_few =
      omega (
        arith,
        points_of_nets (length owners) lists (length lists) nets_faultless (omega arith),
        ap (λ (xs : List (List ℕ)). length (concat xs)) (take_all (length lists) lists (omega arith)),
        ap length (concat-push lists ignored),
        length-append (concat lists) ignored,
        ok.claimed.counted,
      )

  pub lists_few : length lists ≤ length owners
  lists_few = omega (arith, claimed_few, length-filter (λ o. not (eqb o nobody)) owners, count_by-le-length (λ o. not (eqb o nobody)) owners)
