-- The numbers of clusters.
use Rattle.std.proofs.Common.{◌≡◌, ℕ, ◌+◌, ◌<◌, ◌≤◌, Bool, true, false, not, ◌&&◌, cond, List, [], length, map, get_or, eqb, refl, sym, ◌∙◌, ap, subst, arith, filter, zero-add}
use Rattle.std.specs.Bool.{beq}
use Rattle.std.specs.List.{enumerate_from}
use Rattle.std.specs.List.Sorted.{IsStrictlyIncreasing}
use Rattle.std.proofs.lemmas.Bool.{eq-eqb, ne_eqb, eqb-true}
use Rattle.std.proofs.lemmas.List.{get_or-map}
use Rattle.std.proofs.lemmas.List.FromFn.{get_or-map-range_with_len, length-map-range_with_len}
use Rattle.partition.specs.Classes.{class_at, has, no_class, points_below}
use Rattle.partition.specs.Digits.{bit_of}
use Rattle.partition.specs.Heads.{heads_below}
use Rattle.partition.specs.NetTable.{judged_points, net_at, net_count}
use Rattle.partition.specs.Partitions.{IsPartitionOfAll}
use Rattle.partition.proofs.classes.ClassLaws.{eqb-agree}
use Rattle.partition.proofs.classes.HeadLemmas.{heads_below-increasing, length-heads_below-grows}
use Rattle.partition.proofs.classes.JoinedPartition.{joined_by-own}
use Rattle.partition.proofs.tables.KeptLemmas.{In-points_below, bools_agree, net_at-below}
use Rattle.partition.proofs.Members.{In, In-enumerate, In-filter, In-filter_cases, In-has, In-map, In-map_cases, enumerate-In, has-In}
use Rattle.partition.proofs.tables.NetLaws.{judged-is}
use Rattle.partition.proofs.PickedLemmas.{increasing_same}
use Rattle.wirelist.specs.declared.program.Program.{Program}
use Rattle.wirelist.specs.Clusters.{cluster_count, cluster_first_at, cluster_firsts, component_links, net_clusters, others, side}
use Rattle.cluster_groups.specs.Laws.{IsClusterable, cluster_at}
use Rattle.cluster_groups.specs.Numbered.{cluster_number, is_cluster, is_on_side, is_other, number_at, numbers_of, points_with}
use Rattle.cluster_groups.proofs.Lists.{filter_filter, heads_place}

-- two truth values that are one
pub beq-same : (a b : Bool) → beq a b ≡ true → a ≡ b
beq-same true true e = refl
beq-same false false e = refl
beq-same true false e = absurd (let r : false ≡ true = e in cc)
beq-same false true e = absurd (let r : false ≡ true = e in cc)

pub same-beq : (a b : Bool) → a ≡ b → beq a b ≡ true
same-beq true b e = rw (← e) refl
same-beq false b e = rw (← e) refl

module _ (p : Program) (ok : IsClusterable p) where
  -- the clusters of the nets, as classes
  own : IsPartitionOfAll (net_clusters p) × (length (net_clusters p) ≡ net_count p.nets)
  own = joined_by-own (component_links p) (net_count p.nets) ok.links

  net_below : (q : ℕ) → has (judged_points p.nets) q ≡ true → net_at p.nets q < net_count p.nets
  net_below q k = net_at-below p.nets ok.nets q k

  -- the first net of a point's cluster is a first net
  pub first-own : (q : ℕ) → has (judged_points p.nets) q ≡ true → class_at (net_clusters p) (cluster_first_at p q) ≡ cluster_first_at p q
  first-own q k = let lt = net_below q k in let size = own.1 in own.0.own (net_at p.nets q) (omega arith)

  pub first-below : (q : ℕ) → has (judged_points p.nets) q ≡ true → cluster_first_at p q < net_count p.nets
  first-below q k = let lt = net_below q k in let size = own.1 in let low = own.0.least (net_at p.nets q) (omega arith) in omega arith

  pub net-least : (i : ℕ) → i < net_count p.nets → class_at (net_clusters p) i ≤ i
  net-least i lt = let size = own.1 in own.0.least i (omega arith)

  pub net-own : (i : ℕ) → i < net_count p.nets → class_at (net_clusters p) (class_at (net_clusters p) i) ≡ class_at (net_clusters p) i
  net-own i lt = let size = own.1 in own.0.own i (omega arith)

  pub number-place : (q : ℕ) → has (judged_points p.nets) q ≡ true → (cluster_number p q < cluster_count p) × (get_or (cluster_firsts p) (cluster_number p q) 0 ≡ cluster_first_at p q)
  number-place q k = heads_place (net_clusters p) (net_count p.nets) (cluster_first_at p q) (first-below q k) (first-own q k)

  pub firsts-up : IsStrictlyIncreasing (cluster_firsts p)
  firsts-up = heads_below-increasing (net_clusters p) (net_count p.nets)

  pub number-is : (q k : ℕ) → has (judged_points p.nets) q ≡ true → k < cluster_count p → get_or (cluster_firsts p) k 0 ≡ cluster_first_at p q → k ≡ cluster_number p q
  number-is q k judged lt e = let place = number-place q judged in increasing_same (cluster_firsts p) firsts-up k (cluster_number p q) lt place.0 (e ∙ sym place.1)

  clusters_few : cluster_count p ≤ net_count p.nets
  clusters_few =
      let at : 0 + net_count p.nets ≡ net_count p.nets = zero-add (net_count p.nets) in
      omega (arith, length-heads_below-grows (net_clusters p) 0 (net_count p.nets), ap (λ (n : ℕ). length (heads_below (net_clusters p) n)) at)

  -- each cluster has a number below no_class
  pub number-some : (q : ℕ) → has (judged_points p.nets) q ≡ true → cluster_number p q < no_class
  number-some q judged =
      let place = number-place q judged in
      let lt = place.0 in
      let most = clusters_few in
      let few = ok.few in
      let small = ok.small in
      omega arith

  number-test : (q k : ℕ) → has (judged_points p.nets) q ≡ true → k < cluster_count p → eqb (cluster_number p q) k ≡ eqb (cluster_first_at p q) (get_or (cluster_firsts p) k 0)
  number-test q k judged lt =
      let place = number-place q judged in
      eqb-agree (cluster_number p q) k (cluster_first_at p q) (get_or (cluster_firsts p) k 0)
      (λ e. sym place.1 ∙ ap (λ (i : ℕ). get_or (cluster_firsts p) i 0) e)
      (λ e. sym (number-is q k judged lt (sym e)))

  -- ---- the list of numbers

  pub length-numbers_of : length (numbers_of p) ≡ p.nets.points
  length-numbers_of = length-map-range_with_len (λ q. cond (has (judged_points p.nets) q) (cluster_number p q) no_class) 0 p.nets.points

  number_read : (q : ℕ) → q < p.nets.points → number_at (numbers_of p) q ≡ cond (has (judged_points p.nets) q) (cluster_number p q) no_class
  number_read q lt = get_or-map-range_with_len (λ q. cond (has (judged_points p.nets) q) (cluster_number p q) no_class) 0 p.nets.points q q no_class lt (zero-add q)

  -- ---- points by their numbers

  points_with-is : (test g : ℕ → Bool) → test no_class ≡ false → ((q : ℕ) → has (judged_points p.nets) q ≡ true → test (cluster_number p q) ≡ g q)
      → points_with test (numbers_of p) ≡ filter g (judged_points p.nets)
  points_with-is test g none same =
      ap (λ (m : ℕ). filter (λ q. test (number_at (numbers_of p) q)) (points_below m)) length-numbers_of
      ∙ filter_filter (λ q. test (number_at (numbers_of p) q)) g (λ q. not (has p.nets.ignored q)) (points_below p.nets.points)
      (λ q i.
      let lt = In-points_below p.nets.points q i in
      let is = judged-is p.nets q lt in (
        λ h. let judged = is ∙ h in ap test (number_read q lt ∙ rw judged refl) ∙ same q judged,
        λ h. let judged = is ∙ h in ap test (number_read q lt ∙ rw judged refl) ∙ none,
      ))

  abbrev group : ℕ → List ℕ
  group k = filter (λ q. eqb (cluster_first_at p q) (get_or (cluster_firsts p) k 0)) (judged_points p.nets)

  pub cluster_at-is : (k : ℕ) → k < cluster_count p → cluster_at p k ≡ group k
  cluster_at-is k lt = get_or-map (λ first. filter (λ point. eqb (cluster_first_at p point) first) (judged_points p.nets)) (cluster_firsts p) k 0 [] lt

  pub cluster-numbered : (k : ℕ) → k < cluster_count p → points_with (is_cluster k) (numbers_of p) ≡ cluster_at p k
  cluster-numbered k lt =
      points_with-is (is_cluster k) (λ q. eqb (cluster_first_at p q) (get_or (cluster_firsts p) k 0)) (ne_eqb no_class k (λ e. absurd (let few = ok.few in let small = ok.small in let most = clusters_few in omega arith)))
      (λ q judged. number-test q k judged lt) ∙ sym (cluster_at-is k lt)

  -- a judged point is in the cluster of its number
  pub In-cluster : (k q : ℕ) → k < cluster_count p → has (judged_points p.nets) q ≡ true → cluster_number p q ≡ k → In q (cluster_at p k)
  In-cluster k q lt judged is =
      subst (In q) (sym (cluster_at-is k lt))
      (In-filter (λ x. eqb (cluster_first_at p x) (get_or (cluster_firsts p) k 0)) q (judged_points p.nets) (has-In q (judged_points p.nets) judged)
      (sym (number-test q k judged lt) ∙ eq-eqb (cluster_number p q) k is))

  pub cluster-In : (k q : ℕ) → k < cluster_count p → In q (cluster_at p k) → (has (judged_points p.nets) q ≡ true) × (cluster_number p q ≡ k)
  cluster-In k q lt i =
      let f = In-filter_cases (λ x. eqb (cluster_first_at p x) (get_or (cluster_firsts p) k 0)) q (judged_points p.nets) (subst (In q) (cluster_at-is k lt) i) in
      let judged = In-has q (judged_points p.nets) f.0 in
      (judged, eqb-true (cluster_number p q) k (number-test q k judged lt ∙ f.1))

  cluster-has : (k q : ℕ) → k < cluster_count p → has (judged_points p.nets) q ≡ true → has (cluster_at p k) q ≡ eqb (cluster_number p q) k
  cluster-has k q lt judged =
      bools_agree _ _
      (λ h. eq-eqb (cluster_number p q) k (cluster-In k q lt (has-In q (cluster_at p k) h)).1)
      (λ h. In-has q (cluster_at p k) (In-cluster k q lt judged (eqb-true (cluster_number p q) k h)))

  pub others-numbered : (k : ℕ) → k < cluster_count p → points_with (is_other k) (numbers_of p) ≡ others p (cluster_at p k)
  others-numbered k lt =
      points_with-is (is_other k) (λ q. not (has (cluster_at p k) q)) refl
      (λ q judged.
      let some = number-some q judged in
      let none : eqb (cluster_number p q) no_class ≡ false = ne_eqb (cluster_number p q) no_class (λ e. absurd (omega arith)) in
      ap (λ (b : Bool). not b && not (eqb (cluster_number p q) k)) none ∙ ap not (sym (cluster-has k q lt judged)))

  -- ---- the sides of a bit

  abbrev coded : ℕ → Bool → List (ℕ × ℕ)
  coded j set = filter (λ (n : ℕ × ℕ). beq (bit_of n.0 j) set) (enumerate_from 0 (cluster_firsts p))

  abbrev chosen : ℕ → Bool → List ℕ
  chosen j set = map (λ (n : ℕ × ℕ). n.1) (coded j set)

  chosen-In : (j : ℕ) (set : Bool) (q : ℕ) → has (judged_points p.nets) q ≡ true → bit_of (cluster_number p q) j ≡ set → In (cluster_first_at p q) (chosen j set)
  chosen-In j set q judged is =
      let place = number-place q judged in
      let P : ℕ → ℕ → Type 0 = λ k f. In (k, f) (enumerate_from 0 (cluster_firsts p)) in
      let at : P (cluster_number p q) (cluster_first_at p q) =
      subst (P (cluster_number p q)) place.1 (subst (λ (k : ℕ). P k (get_or (cluster_firsts p) (cluster_number p q) 0)) (zero-add (cluster_number p q)) (enumerate-In 0 (cluster_number p q) 0 (cluster_firsts p) place.0)) in
      let kept = In-filter (λ (n : ℕ × ℕ). beq (bit_of n.0 j) set) (cluster_number p q, cluster_first_at p q) (enumerate_from 0 (cluster_firsts p)) at (same-beq (bit_of (cluster_number p q) j) set is) in
      In-map (λ (n : ℕ × ℕ). n.1) (cluster_number p q, cluster_first_at p q) (coded j set) kept

  In-chosen : (j : ℕ) (set : Bool) (q : ℕ) → has (judged_points p.nets) q ≡ true → In (cluster_first_at p q) (chosen j set) → bit_of (cluster_number p q) j ≡ set
  In-chosen j set q judged i =
      let x = In-map_cases (λ (n : ℕ × ℕ). n.1) (cluster_first_at p q) (coded j set) i in
      let f = In-filter_cases (λ (n : ℕ × ℕ). beq (bit_of n.0 j) set) x.0 (enumerate_from 0 (cluster_firsts p)) x.1 in
      let at = In-enumerate 0 x.0.0 x.0.1 (cluster_firsts p) f.0 in
      let number : at.0 ≡ cluster_number p q = number-is q at.0 judged at.2 (at.3 0 ∙ x.2) in
      let code : x.0.0 ≡ cluster_number p q = at.1 ∙ zero-add at.0 ∙ number in
      ap (λ (k : ℕ). bit_of k j) (sym code) ∙ beq-same (bit_of x.0.0 j) set f.1

  pub side-numbered : (j : ℕ) (set : Bool) → points_with (is_on_side j set) (numbers_of p) ≡ side p j set
  side-numbered j set =
      points_with-is (is_on_side j set) (λ q. has (chosen j set) (cluster_first_at p q)) refl
      (λ q judged.
      let some = number-some q judged in
      let none : eqb (cluster_number p q) no_class ≡ false = ne_eqb (cluster_number p q) no_class (λ e. absurd (omega arith)) in
      ap (λ (b : Bool). not b && beq (bit_of (cluster_number p q) j) set) none
      ∙ bools_agree (beq (bit_of (cluster_number p q) j) set) (has (chosen j set) (cluster_first_at p q))
      (λ h. In-has (cluster_first_at p q) (chosen j set) (chosen-In j set q judged (beq-same (bit_of (cluster_number p q) j) set h)))
      (λ h. same-beq (bit_of (cluster_number p q) j) set (In-chosen j set q judged (has-In (cluster_first_at p q) (chosen j set) h))))

  -- a judged point is on the side of its number's bit
  pub In-side : (j : ℕ) (set : Bool) (q : ℕ) → has (judged_points p.nets) q ≡ true → bit_of (cluster_number p q) j ≡ set → In q (side p j set)
  In-side j set q judged is =
      In-filter (λ x. has (chosen j set) (cluster_first_at p x)) q (judged_points p.nets) (has-In q (judged_points p.nets) judged)
      (In-has (cluster_first_at p q) (chosen j set) (chosen-In j set q judged is))

  pub side-In : (j : ℕ) (set : Bool) (q : ℕ) → In q (side p j set) → (has (judged_points p.nets) q ≡ true) × (bit_of (cluster_number p q) j ≡ set)
  side-In j set q i =
      let f = In-filter_cases (λ x. has (chosen j set) (cluster_first_at p x)) q (judged_points p.nets) i in
      let judged = In-has q (judged_points p.nets) f.0 in
      (judged, In-chosen j set q judged (has-In (cluster_first_at p q) (chosen j set) f.1))
