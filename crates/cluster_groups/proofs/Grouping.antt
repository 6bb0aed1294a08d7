-- The clusters as groups, and the sides of a bit.
use Rattle.std.proofs.Common.{◌≡◌, ◌≢◌, inl, inr, ℕ, ◌-◌, ◌<◌, ◌≤◌, ◌^◌, Bool, true, false, not, [], get_or, eqb, refl, sym, ◌∙◌, ap, subst, arith, filter, Contains}
use Rattle.std.specs.List.Sorted.{IsStrictlyIncreasing}
use Rattle.std.proofs.Math.Nat.{div_self}
use Rattle.std.proofs.lemmas.Bool.{cases_eq, cases_lt}
use Rattle.std.proofs.lemmas.List.{length-map}
use Rattle.std.proofs.lemmas.List.Elements.{Contains-get_or}
use Rattle.std.proofs.lemmas.List.Kept.{IsStrictlyIncreasing-filter}
use Rattle.std.proofs.lemmas.Nat.{pow_pos}
use Rattle.std.proofs.lemmas.Nat.Bits.{bit_at-zero}
use Rattle.partition.specs.Classes.{Same, class_at, has, points_below}
use Rattle.partition.specs.Digits.{bit_of, digits_of}
use Rattle.partition.specs.Heads.{heads_to}
use Rattle.partition.specs.NetTable.{all_nets, head_of, judged_points, net_at, net_count}
use Rattle.partition.proofs.classes.ClassLaws.{same-classes_by}
use Rattle.partition.proofs.DigitLaws.{bits_apart, digits_enough, digits_least}
use Rattle.partition.proofs.classes.HeadLemmas.{heads_below-are}
use Rattle.partition.proofs.tables.KeptLemmas.{net_at-is}
use Rattle.partition.proofs.classes.Labels.{false_not, not_true}
use Rattle.partition.proofs.Members.{In, In-filter, In-filter_cases, In-has, has-In}
use Rattle.partition.proofs.tables.NetClasses.{head_judged, number_at}
use Rattle.partition.proofs.tables.NetLaws.{Contains-In, judged-below, net_facts}
use Rattle.wirelist.specs.declared.program.Program.{Program}
use Rattle.wirelist.specs.Clusters.{cluster_classes, cluster_count, cluster_first_at, cluster_firsts, net_clusters, others, side}
use Rattle.cluster_groups.specs.Laws.{AreOpposite, ClustersLaw, IsClusterable, IsGroupOf, NumberLaw, RouteLaw, cluster_at}
use Rattle.cluster_groups.specs.Numbered.{cluster_number}
use Rattle.cluster_groups.proofs.Lists.{Contains-has, In-Contains, In-some, range_increasing}
use Rattle.cluster_groups.proofs.Numbering.{In-cluster, In-side, cluster-In, cluster-numbered, cluster_at-is, number-is, number-place, others-numbered, side-In, side-numbered}

judged_up : (p : Program) → IsStrictlyIncreasing (judged_points p.nets)
judged_up p = IsStrictlyIncreasing-filter (λ q. not (has p.nets.ignored q)) (points_below p.nets.points) (range_increasing p.nets.points)

-- some of the judged points, at least one, are a group
kept_group : (p : Program) (test : ℕ → Bool) (x : ℕ) → In x (filter test (judged_points p.nets)) → IsGroupOf p (filter test (judged_points p.nets))
kept_group p test x i = record {
  some = In-some x (filter test (judged_points p.nets)) i;
  ascending = IsStrictlyIncreasing-filter test (judged_points p.nets) (judged_up p);
  judged = λ q c. In-has q (judged_points p.nets) (In-filter_cases test q (judged_points p.nets) (Contains-In q (filter test (judged_points p.nets)) c)).0;
}

-- ---- binary digits

zero_bit : (j : ℕ) → bit_of 0 j ≡ false
zero_bit j = rw (bit_at-zero j) refl

power_bit : (j : ℕ) → bit_of (2 ^ j) j ≡ true
power_bit j = let some : 0 < 2 ^ j = pow_pos j in rw (div_self some) refl

-- a bit that the numbers up to n need is 1 in some of them
power_below : (n j : ℕ) → j < digits_of n → 2 ^ j ≤ n
power_below n j more = elim (cases_lt n (2 ^ j)) as (λ _. 2 ^ j ≤ n) [
  | inl less ↦ absurd (omega (arith, digits_least n j less))
  | inr le ↦ le
]

digits_some : (n j : ℕ) → j < digits_of n → 0 < n
digits_some n j more = let some : 0 < 2 ^ j = pow_pos j in let le = power_below n j more in omega arith

not_both : (a : Bool) → a ≡ false → a ≡ true → ⊥
not_both a e f = let r : false ≡ true = sym e ∙ f in cc

module _ (p : Program) (ok : IsClusterable p) where
  -- a point of each cluster: the head of its first net
  cluster_point : (k : ℕ) → k < cluster_count p → (h : ℕ) × (has (judged_points p.nets) h ≡ true) × (cluster_number p h ≡ k)
  cluster_point k lt =
      let f = get_or (cluster_firsts p) k 0 in
      let is = heads_below-are (net_clusters p) (net_count p.nets) f (Contains-get_or (cluster_firsts p) k 0 lt) in
      let net = get_or (all_nets p.nets) f [] in
      let h = head_of net in
      let judged : has (judged_points p.nets) h ≡ true = head_judged p.nets ok.nets f is.0 in
      let at : net_at p.nets h ≡ f = net_at-is p.nets ok.nets h f judged is.0 ((net_facts p.nets ok.nets).head_in (f, net) (number_at p.nets ok.nets f is.0)) in
      let first : get_or (cluster_firsts p) k 0 ≡ cluster_first_at p h = sym (ap (class_at (net_clusters p)) at ∙ is.1) in
      (h, judged, sym (number-is p ok h k judged lt first))

  pub group_of : (k : ℕ) → k < cluster_count p → IsGroupOf p (cluster_at p k)
  group_of k lt =
      let point = cluster_point k lt in
      let test : ℕ → Bool = λ q. eqb (cluster_first_at p q) (get_or (cluster_firsts p) k 0) in
      subst (IsGroupOf p) (sym (cluster_at-is p ok k lt)) (kept_group p test point.0 (subst (In point.0) (cluster_at-is p ok k lt) (In-cluster p ok k point.0 lt point.1 point.2)))

  in_cluster : (k q : ℕ) → k < cluster_count p → Contains (cluster_at p k) q → (has (judged_points p.nets) q ≡ true) × (cluster_number p q ≡ k)
  in_cluster k q lt c = cluster-In p ok k q lt (Contains-In q (cluster_at p k) c)

  pub clusters_law : ClustersLaw p
  clusters_law = record {
    groups = group_of;
    apart = λ j k q lj lk cj ck. sym (in_cluster j q lj cj).1 ∙ (in_cluster k q lk ck).1;
    all_points = λ q judged.
        let place = number-place p ok q judged in
        (cluster_number p q, place.0, In-Contains q (cluster_at p (cluster_number p q)) (In-cluster p ok (cluster_number p q) q place.0 judged refl));
  }

  pub number_law : NumberLaw p
  number_law = record {
    count = length-map (cluster_firsts p) _;
    clusters = cluster-numbered p ok;
    others = others-numbered p ok;
    sides = side-numbered p ok;
  }

  -- two judged points of one class are in one cluster
  same_number : (x y : ℕ) → has (judged_points p.nets) x ≡ true → has (judged_points p.nets) y ≡ true → Same (cluster_classes p) x y → cluster_number p x ≡ cluster_number p y
  same_number x y jx jy same =
      ap (heads_to (net_clusters p)) (same-classes_by (judged_points p.nets) p.nets.points (cluster_first_at p) x y (judged-below p.nets x jx) (judged-below p.nets y jy) jx jy same)

  -- ---- a cluster and the others

  in_others : (k q : ℕ) → Contains (others p (cluster_at p k)) q → (has (judged_points p.nets) q ≡ true) × (has (cluster_at p k) q ≡ false)
  in_others k q c =
      let f = In-filter_cases (λ x. not (has (cluster_at p k) x)) q (judged_points p.nets) (Contains-In q (others p (cluster_at p k)) c) in
      (In-has q (judged_points p.nets) f.0, not_true _ f.1)

  -- a point of another number is among the others
  other_In : (k q : ℕ) → k < cluster_count p → has (judged_points p.nets) q ≡ true → cluster_number p q ≢ k → In q (others p (cluster_at p k))
  other_In k q lt judged ne =
      In-filter (λ x. not (has (cluster_at p k) x)) q (judged_points p.nets) (has-In q (judged_points p.nets) judged)
      (false_not _ (absent (has (cluster_at p k) q) refl))
    where
      absent : (b : Bool) → has (cluster_at p k) q ≡ b → has (cluster_at p k) q ≡ false
      absent false e = e
      absent true e = absurd (ne (cluster-In p ok k q lt (has-In q (cluster_at p k) e)).1)

  another : (k : ℕ) → 2 ≤ cluster_count p → (i : ℕ) × (i < cluster_count p) × (i ≢ k)
  another k two = elim (cases_eq k 0) as (λ _. (i : ℕ) × (i < cluster_count p) × (i ≢ k)) [
    | inl is ↦ (1, omega arith, λ e. absurd (omega arith))
    | inr other ↦ (0, omega arith, λ e. other (sym e))
  ]

  others_opposite : 2 ≤ cluster_count p → (k : ℕ) → k < cluster_count p → AreOpposite p (cluster_at p k) (others p (cluster_at p k))
  others_opposite two k lt =
      let i = another k two in
      let point = cluster_point i.0 i.1 in
      record {
        left = group_of k lt;
        right = kept_group p (λ q. not (has (cluster_at p k) q)) point.0 (other_In k point.0 lt point.1 (λ e. i.2 (sym point.2 ∙ e)));
        apart = λ q a b. not_both _ (in_others k q b).1 (Contains-has q (cluster_at p k) a);
        bonds = λ m.
            let l = in_cluster k m.left lt m.in_left in
            let r = in_others k m.right m.in_right in
            not_both _ r.1 (In-has m.right (cluster_at p k) (In-cluster p ok k m.right lt r.0 (sym (same_number m.left m.right l.0 r.0 m.joined) ∙ l.1)));
      }

  -- ---- the sides of a bit

  in_side : (j : ℕ) (set : Bool) (q : ℕ) → Contains (side p j set) q → (has (judged_points p.nets) q ≡ true) × (bit_of (cluster_number p q) j ≡ set)
  in_side j set q c = side-In p ok j set q (Contains-In q (side p j set) c)

  side_group : (j : ℕ) (set : Bool) (k : ℕ) → k < cluster_count p → bit_of k j ≡ set → IsGroupOf p (side p j set)
  side_group j set k lt is =
      let point = cluster_point k lt in
      kept_group p _ point.0 (In-side p ok j set point.0 point.1 (ap (λ (n : ℕ). bit_of n j) point.2 ∙ is))

  sides_opposite : (j : ℕ) → j < digits_of (cluster_count p - 1) → AreOpposite p (side p j false) (side p j true)
  sides_opposite j more =
      let some = digits_some (cluster_count p - 1) j more in
      let top = power_below (cluster_count p - 1) j more in
      record {
        left = side_group j false 0 (omega arith) (zero_bit j);
        right = side_group j true (2 ^ j) (omega arith) (power_bit j);
        apart = λ q a b. not_both _ (in_side j false q a).1 (in_side j true q b).1;
        bonds = λ m.
            let l = in_side j false m.left m.in_left in
            let r = in_side j true m.right m.in_right in
            not_both _ l.1 (ap (λ (n : ℕ). bit_of n j) (same_number m.left m.right l.0 r.0 m.joined) ∙ r.1);
      }

  pub route_law : RouteLaw p
  route_law = record {
    others = others_opposite;
    sides = sides_opposite;
    opposite = λ j k lj lk ne. let most = digits_enough (cluster_count p - 1) in bits_apart (digits_of (cluster_count p - 1)) j k (omega arith) (omega arith) ne;
    on_side = λ k bit q lt c.
        let i = in_cluster k q lt c in
        In-Contains q (side p bit (bit_of k bit)) (In-side p ok bit (bit_of k bit) q i.0 (ap (λ (n : ℕ). bit_of n bit) i.1));
  }
