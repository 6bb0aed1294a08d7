-- Classes of nets, link by link, and the labels of points that they give.
use Rattle.std.proofs.Common.{◌≡◌, ◌<◌, ◌≤◌, ◌+◌, ◌^◌, ℕ, List, [], ◌∷◌, ◌++◌, length, get_or, map, filter, take, refl, sym, ◌∙◌, ap, inl, inr, arith, All, eqb, true, false, not, ◌==◌}
use Rattle.std.proofs.lemmas.Bool.{cases_Bool, cond-true, cond-false, eq-eqb, ne_eqb, not_from_false, not_from_true}
use Rattle.std.proofs.lemmas.List.{get_or_default, map_more}
use Rattle.std.proofs.lemmas.List.Filters.{length-filter_both}
use Rattle.std.proofs.lemmas.List.FromFn.{length-range_with_len, get_or-range_with_len, length-map-range_with_len, get_or-map-range_with_len, map-range_with_len_more}
use Rattle.partition.specs.Classes.{points_below, class_at, classes_by, merged, has, judged_in, no_class}
use Rattle.partition.specs.Partitions.{IsLabel}
use Rattle.partition.specs.NetTable.{NetTable, IsNetTable, judged_points, net_at, net_count}
use Rattle.partition.specs.Heads.{heads, heads_below}
use Rattle.partition.proofs.classes.ClassLaws.{classes_by-agree}
use Rattle.partition.proofs.classes.HeadLemmas.{singles_valid}
use Rattle.partition.proofs.classes.JudgedPartition.{merged-has_class}
use Rattle.partition.proofs.tables.KeptLemmas.{filter-agree, In-points_below, net_at-below}
use Rattle.partition.proofs.classes.MergeLemmas.{merged-valid}
use Rattle.partition.proofs.tables.NetLaws.{judged-below, judged-is}
use Rattle.partition.proofs.classes.WalkLaws.{length-merged}
use Rattle.wirelist.specs.declared.program.Program.{Program}
use Rattle.wirelist.specs.Clusters.{net_clusters, resistor_link, diode_link, cluster_classes, cluster_count}
use Rattle.wirelist.specs.Linking.{AreOfNets, linked_by, first_net_of, first_nets_of}

-- ---- links

pub linked_by-append : (classes : List ℕ) (xs ys : List (ℕ × ℕ)) → linked_by classes (xs ++ ys) ≡ linked_by (linked_by classes xs) ys
linked_by-append classes [] ys = refl
linked_by-append classes (x ∷ xs) ys = linked_by-append (merged classes x.0 x.1) xs ys

-- one more link
pub linked_more : {X : Type 0} (link : X → ℕ × ℕ) (xs : List X) (i : ℕ) (d : X) (classes now next : List ℕ) (a b : ℕ) → i < length xs →
    now ≡ linked_by classes (map link (take i xs)) → next ≡ merged now a b → a ≡ (link (get_or xs i d)).0 → b ≡ (link (get_or xs i d)).1 →
    next ≡ linked_by classes (map link (take (i + 1) xs))
linked_more link xs i d classes now next a b l is step a_is b_is =
    let x = link (get_or xs i d) in
    step
    ∙ ap (λ (cs : List ℕ). merged cs a b) is
    ∙ ap (λ (k : ℕ). merged (linked_by classes (map link (take i xs))) k b) a_is
    ∙ ap (λ (k : ℕ). merged (linked_by classes (map link (take i xs))) x.0 k) b_is
    ∙ sym (linked_by-append classes (map link (take i xs)) (x ∷ []))
    ∙ sym (ap (linked_by classes) (map_more link xs i d l))

-- all links of a program
pub links_all : (p : Program) (start one two : List ℕ) → start ≡ points_below (net_count p.nets) → one ≡ linked_by start (map (resistor_link p.nets) p.resistors) →
    two ≡ linked_by one (map (diode_link p.nets) p.diodes) → two ≡ net_clusters p
links_all p start one two is one_is two_is =
    two_is
    ∙ ap (λ (cs : List ℕ). linked_by cs (map (diode_link p.nets) p.diodes)) (one_is ∙ ap (λ (cs : List ℕ). linked_by cs (map (resistor_link p.nets) p.resistors)) is)
    ∙ sym (linked_by-append (points_below (net_count p.nets)) (map (resistor_link p.nets) p.resistors) (map (diode_link p.nets) p.diodes))

-- ---- classes of the nets

-- each net by itself
pub singles_of_nets : (t : NetTable) (classes : List ℕ) → classes ≡ points_below (net_count t) → net_count t < 2 ^ 16 → AreOfNets t classes
singles_of_nets t classes is small =
    rw is (
    record {
      size = length-range_with_len 0 (net_count t);
      valid = singles_valid (net_count t) small;
      each = λ i l. omega (arith, get_or-range_with_len 0 (net_count t) i no_class l);
    }
    )

-- two nets made one
pub merged_of_nets : (t : NetTable) (classes : List ℕ) (a b : ℕ) → AreOfNets t classes → a < net_count t → b < net_count t → AreOfNets t (merged classes a b)
merged_of_nets t classes a b of in_a in_b = record {
  size = length-merged classes a b ∙ of.size;
  valid = merged-valid classes a b (of.each a in_a) (of.each b in_b) of.valid;
  each = λ i l. (merged-has_class classes a b (of.each a in_a) (of.each b in_b) of.valid.partition i).1 (of.each i l);
}

-- ---- the labels of points

module _ (t : NetTable) (ok : IsNetTable t) (classes : List ℕ) (of : AreOfNets t classes) (few : net_count t ≤ t.points) (small : t.points < 2 ^ 16) where
  abbrev labels : List ℕ
  labels = first_nets_of t classes

  pub labels_size : length labels ≡ t.points
  labels_size = length-map-range_with_len (first_net_of t classes) 0 t.points

  label_at : (q : ℕ) → q < t.points → class_at labels q ≡ first_net_of t classes q
  label_at q l = get_or-map-range_with_len (first_net_of t classes) 0 t.points q q no_class l (omega arith)

  judged_label : (q : ℕ) → has (judged_points t) q ≡ true → class_at labels q ≡ class_at classes (net_at t q)
  judged_label q k = label_at q (judged-below t q k) ∙ cond-true (has (judged_points t) q) (class_at classes (net_at t q)) no_class k

  other_label : (q : ℕ) → q < t.points → has (judged_points t) q ≡ false → class_at labels q ≡ no_class
  other_label q l k = label_at q l ∙ cond-false (has (judged_points t) q) (class_at classes (net_at t q)) no_class k

  label_below : (q : ℕ) → has (judged_points t) q ≡ true → class_at labels q < t.points
  label_below q k =
      let number = net_at-below t ok q k in
      let least = of.valid.partition.least (net_at t q) (of.each (net_at t q) number) in
      omega (arith, judged_label q k)

  pub labels_are : All (IsLabel (length labels)) labels
  labels_are q d l =
      let size = labels_size in
      let at : get_or labels q d ≡ class_at labels q = get_or_default labels q d no_class l in
      elim (cases_Bool (has (judged_points t) q)) as (λ _. IsLabel (length labels) (get_or labels q d)) [
        | inl k ↦ let low = label_below q k in inl (omega arith)
        | inr k ↦ inr (at ∙ other_label q (omega arith) k)
      ]

  -- the points with a label are the judged ones
  labels_judged : judged_in labels ≡ judged_points t
  labels_judged =
      ap (λ (n : ℕ). filter (λ q. not (eqb (class_at labels q) no_class)) (points_below n)) labels_size
      ∙ filter-agree (λ q. not (eqb (class_at labels q) no_class)) (λ q. not (has t.ignored q)) (points_below t.points)
      (λ q i.
      let l = In-points_below t.points q i in
      elim (cases_Bool (has (judged_points t) q)) as (λ _. not (eqb (class_at labels q) no_class) ≡ not (has t.ignored q)) [
        | inl k ↦
            let low = label_below q k in
            not_from_false _ (ne_eqb (class_at labels q) no_class (λ e. omega arith)) ∙ sym k ∙ judged-is t q l
        | inr k ↦ not_from_true _ (eq-eqb (class_at labels q) no_class (other_label q l k)) ∙ sym k ∙ judged-is t q l
      ])

  -- the partition by labels is that by the first nets of clusters
  pub labels_make : classes_by (judged_in labels) (length labels) (class_at labels) ≡ classes_by (judged_points t) t.points (λ q. class_at classes (net_at t q))
  labels_make =
      ap (λ (js : List ℕ). classes_by js (length labels) (class_at labels)) labels_judged
      ∙ ap (λ (n : ℕ). classes_by (judged_points t) n (class_at labels)) labels_size
      ∙ classes_by-agree (judged_points t) t.points (class_at labels) (λ q. class_at classes (net_at t q))
      (λ x y kx ky. ap (λ (k : ℕ). eqb k (class_at labels x)) (judged_label y ky) ∙ ap (eqb (class_at classes (net_at t y))) (judged_label x kx))

-- the partition by labels is that by clusters
pub clusters_are : (p : Program) → IsNetTable p.nets → net_count p.nets ≤ p.nets.points → p.nets.points < 2 ^ 16 → (classes points : List ℕ) → AreOfNets p.nets classes →
    classes ≡ net_clusters p → points ≡ first_nets_of p.nets classes → (made : List ℕ) → made ≡ classes_by (judged_in points) (length points) (class_at points) → made ≡ cluster_classes p
clusters_are p ok few small classes points of classes_are points_are made is =
    is
    ∙ ap (λ (xs : List ℕ). classes_by (judged_in xs) (length xs) (class_at xs)) points_are
    ∙ labels_make p.nets ok classes of few small
    ∙ ap (λ (cs : List ℕ). classes_by (judged_points p.nets) p.nets.points (λ q. class_at cs (net_at p.nets q))) classes_are

-- one more label
pub label_more : (t : NetTable) (classes labels next : List ℕ) (p x : ℕ) → labels ≡ map (first_net_of t classes) (points_below p) → next ≡ labels ++ x ∷ [] →
    x ≡ first_net_of t classes p → next ≡ map (first_net_of t classes) (points_below (p + 1))
label_more t classes labels next p x is step value =
    let label : ℕ → ℕ = first_net_of t classes in
    step
    ∙ ap (λ (xs : List ℕ). xs ++ x ∷ []) is
    ∙ ap (λ (y : ℕ). map label (points_below p) ++ y ∷ []) value
    ∙ sym (map-range_with_len_more label 0 p p (omega arith))

-- ---- first nets

-- the heads of the classes of nets are the first nets of clusters
pub heads_are_firsts : (p : Program) (classes : List ℕ) → classes ≡ net_clusters p → length classes ≡ net_count p.nets → length (heads classes) ≡ cluster_count p
heads_are_firsts p classes same size = ap length (ap (heads_below classes) size ∙ ap (λ (cs : List ℕ). heads_below cs (net_count p.nets)) same)

pub heads_few : (classes : List ℕ) → length (heads classes) ≤ length classes
heads_few classes = let both = length-filter_both (λ p. class_at classes p == p) (λ p. not (class_at classes p == p)) (λ p. refl) (points_below (length classes)) in let size = length-range_with_len 0 (length classes) in omega arith
