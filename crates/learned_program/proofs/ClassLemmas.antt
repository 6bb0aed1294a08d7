-- The points of a class, and the nets that the classes give.
use Rattle.std.proofs.Common.{◌≡◌, ◌≢◌, ℕ, ◌+◌, ◌<◌, Bool, true, false, cond, List, [], ◌∷◌, ◌++◌, length, get_or, map, filter, refl, sym, ◌∙◌, ap, subst, arith, eqb, ltb, eqb-true, All, Contains, add-one}
use Rattle.std.specs.Prelude.{AllPairs}
use Rattle.std.specs.List.Sorted.{IsStrictlyIncreasing}
use Rattle.std.proofs.lemmas.List.{append-nil}
use Rattle.std.proofs.lemmas.List.Elements.{filter-append}
use Rattle.std.proofs.lemmas.List.FromFn.{length-range_with_len, get_or-range_with_len}
use Rattle.std.proofs.lemmas.List.Kept.{IsStrictlyIncreasing-filter, AllPairs-filter, AllPairs-from_increasing}
use Rattle.std.proofs.lemmas.Bool.{eq-eqb, ne_eqb, ltb-true, lt-ltb, false_from_ne_true}
use Rattle.partition.specs.Classes.{points_below, has, class_at}
use Rattle.partition.specs.Heads.{heads}
use Rattle.partition.specs.NetTable.{IsNetTable, Disjoint}
use Rattle.partition.specs.NetFaults.{ascending_net}
use Rattle.partition.proofs.classes.HeadLemmas.{points_below-suc}
use Rattle.partition.proofs.tables.KeptLemmas.{all_judged, filter-agree, In-points_below, points_below-In}
use Rattle.partition.proofs.Members.{In, In-filter, In-filter_cases, In-map, In-map_cases, has-In, In-has}
use Rattle.learned_program.proofs.ListLemmas.{index-In, In-Contains, AllPairs-map, map-kept}
use Rattle.learned_program.specs.LearnedProgram.{class_points, learned_nets, learned_table}

abbrev is_of : List ℕ → ℕ → ℕ → Bool
is_of classes c p = eqb (class_at classes p) c

-- ---- the points of a class are read off in order

module _ (classes : List ℕ) (c : ℕ) where
  one_more : (n : ℕ) → filter (is_of classes c) (points_below (n + 1)) ≡ filter (is_of classes c) (points_below n) ++ cond (is_of classes c n) (n ∷ []) []
  one_more n = ap (λ (k : ℕ). filter (is_of classes c) (points_below k)) (add-one n) ∙ ap (filter (is_of classes c)) (points_below-suc n) ∙ filter-append (is_of classes c) (points_below n) (n ∷ [])

  pub point_taken : (n : ℕ) → class_at classes n ≡ c → filter (is_of classes c) (points_below (n + 1)) ≡ filter (is_of classes c) (points_below n) ++ n ∷ []
  point_taken n is = one_more n ∙ ap (λ (b : Bool). filter (is_of classes c) (points_below n) ++ cond b (n ∷ []) []) (eq-eqb (class_at classes n) c is)

  pub point_left : (n : ℕ) → class_at classes n ≢ c → filter (is_of classes c) (points_below (n + 1)) ≡ filter (is_of classes c) (points_below n)
  point_left n other =
      one_more n ∙ ap (λ (b : Bool). filter (is_of classes c) (points_below n) ++ cond b (n ∷ []) []) (ne_eqb (class_at classes n) c other) ∙ append-nil (filter (is_of classes c) (points_below n))

  -- ---- which points these are

  pub in_class : (p : ℕ) → has (class_points classes c) p ≡ true → (p < length classes) × (class_at classes p ≡ c)
  in_class p h =
      let i = In-filter_cases (is_of classes c) p (points_below (length classes)) (has-In p (class_points classes c) h) in
      (In-points_below (length classes) p i.0, eqb-true (class_at classes p) c i.1)

  pub class_has : (p : ℕ) → p < length classes → class_at classes p ≡ c → has (class_points classes c) p ≡ true
  class_has p l is =
      In-has p (class_points classes c) (In-filter (is_of classes c) p (points_below (length classes)) (points_below-In (length classes) p l) (eq-eqb (class_at classes p) c is))

points_increase : (n : ℕ) → IsStrictlyIncreasing (points_below n)
points_increase n k l =
    let size = length-range_with_len 0 n in
    omega (arith, get_or-range_with_len 0 n k 0 (omega arith), get_or-range_with_len 0 n (k + 1) 0 (omega arith))

pub class_ascends : (classes : List ℕ) (c : ℕ) → IsStrictlyIncreasing (class_points classes c)
class_ascends classes c = IsStrictlyIncreasing-filter (is_of classes c) (points_below (length classes)) (points_increase (length classes))

bools_agree : (a b : Bool) → (a ≡ true → b ≡ true) → (b ≡ true → a ≡ true) → a ≡ b
bools_agree true b f g = sym (f refl)
bools_agree false true f g = g refl
bools_agree false false f g = refl

-- a class in ascending order is that class
pub ascending-class : (classes : List ℕ) (c : ℕ) → ascending_net (length classes) (class_points classes c) ≡ class_points classes c
ascending-class classes c =
    filter-agree (has (class_points classes c)) (is_of classes c) (points_below (length classes))
    (λ q i. bools_agree (has (class_points classes c) q) (is_of classes c q)
    (λ h. let found = in_class classes c q h in eq-eqb (class_at classes q) c found.1)
    (λ h. class_has classes c q (In-points_below (length classes) q i) (eqb-true (class_at classes q) c h)))

-- ---- the nets

-- a net is a class of two points or more
pub record IsLearnedNet (classes net : List ℕ) : Type 0 where
  pub class : ℕ
  pub below : class < length classes
  pub own : class_at classes class ≡ class
  pub points : net ≡ class_points classes class
  pub two : 1 < length net

pub learned_net : (classes net : List ℕ) → In net (learned_nets classes) → IsLearnedNet classes net
learned_net classes net i =
    let f = In-filter_cases (λ (n : List ℕ). ltb 1 (length n)) net (map (class_points classes) (heads classes)) i in
    let m = In-map_cases (class_points classes) net (heads classes) f.0 in
    let h = In-filter_cases (λ p. eqb (class_at classes p) p) m.0 (points_below (length classes)) m.1 in
    record { class = m.0; below = In-points_below (length classes) m.0 h.0; own = eqb-true (class_at classes m.0) m.0 h.1; points = sym m.2; two = ltb-true 1 (length net) f.1 }

pub class_learned : (classes : List ℕ) (c : ℕ) → c < length classes → class_at classes c ≡ c → 1 < length (class_points classes c) → In (class_points classes c) (learned_nets classes)
class_learned classes c l own two =
    In-filter (λ (n : List ℕ). ltb 1 (length n)) (class_points classes c) (map (class_points classes) (heads classes))
    (In-map (class_points classes) c (heads classes) (In-filter (λ p. eqb (class_at classes p) p) c (points_below (length classes)) (points_below-In (length classes) c l) (eq-eqb (class_at classes c) c own)))
    (lt-ltb 1 (length (class_points classes c)) two)

module _ (classes : List ℕ) where
  classes_apart : (c d : ℕ) → c < d → Disjoint (class_points classes c) (class_points classes d)
  classes_apart c d less i e l =
      let p = get_or (class_points classes c) i e in
      false_from_ne_true (has (class_points classes d) p)
      (λ h.
      let one = in_class classes c p (In-has p (class_points classes c) (index-In (class_points classes c) i e l)) in
      let other = in_class classes d p h in
      let first = one.1 in
      let second = other.1 in
      omega arith)

  heads_apart : AllPairs (λ c d. Disjoint (class_points classes c) (class_points classes d)) (heads classes)
  heads_apart i j d less l =
      let ascend = IsStrictlyIncreasing-filter (λ p. eqb (class_at classes p) p) (points_below (length classes)) (points_increase (length classes)) in
      classes_apart (get_or (heads classes) i d) (get_or (heads classes) j d) (AllPairs-from_increasing (heads classes) ascend i j d less l)

  net_is : (i : ℕ) (d : List ℕ) → i < length (learned_nets classes) → IsLearnedNet classes (get_or (learned_nets classes) i d)
  net_is i d l = learned_net classes (get_or (learned_nets classes) i d) (index-In (learned_nets classes) i d l)

  -- the nets of the classes are nets
  pub learned_valid : 0 < length classes → IsNetTable (learned_table classes)
  learned_valid some = record {
    some_point = let size = ap length (all_judged (length classes)) in let all = length-range_with_len 0 (length classes) in omega arith;
    nonempty = λ i d l. let two = (net_is i d l).two in omega arith;
    ascending = λ i d l. let net = net_is i d l in subst IsStrictlyIncreasing (sym net.points) (class_ascends classes net.class);
    in_range = λ i d l.
        let net = net_is i d l in
        subst (λ (js : List ℕ). All (Contains js) (get_or (learned_nets classes) i d)) (sym (all_judged (length classes)))
        (subst (All (Contains (points_below (length classes)))) (sym net.points)
        (λ j e k.
        let p = get_or (class_points classes net.class) j e in
        let below = in_class classes net.class p (In-has p (class_points classes net.class) (index-In (class_points classes net.class) j e k)) in
        In-Contains p (points_below (length classes)) (points_below-In (length classes) p below.0)));
    disjoint = AllPairs-filter Disjoint (λ (n : List ℕ). ltb 1 (length n)) (map (class_points classes) (heads classes)) (AllPairs-map Disjoint (class_points classes) (heads classes) heads_apart);
    ignored_ascending = λ k l. absurd (omega arith);
    ignored_in_range = λ k d l. absurd (omega arith);
  }

  -- they stand as they are listed
  pub learned_ascending : map (ascending_net (length classes)) (learned_nets classes) ≡ learned_nets classes
  learned_ascending =
      map-kept (ascending_net (length classes)) (learned_nets classes)
      (λ net i. let is = learned_net classes net i in subst (λ (n : List ℕ). ascending_net (length classes) n ≡ n) (sym is.points) (ascending-class classes is.class))
