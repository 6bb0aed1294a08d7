-- The clusters numbered net by net.
use Rattle.std.proofs.Common.{◌≡◌, ◌≢◌, inl, inr, ℕ, ◌+◌, ◌-◌, ◌<◌, ◌≤◌, ◌^◌, Bool, true, false, cond, List, [], ◌∷◌, ◌++◌, length, map, get_or, set, refl, sym, ◌∙◌, ap, subst, arith, filter, All, add-one, zero-add, get_or-set_other, get_or-set_same}
use Rattle.std.proofs.Math.ListN.{length-set}
use Rattle.std.proofs.lemmas.Bool.{cases_eq, cases_lt, ne_eqb}
use Rattle.std.proofs.lemmas.List.{append-nil, get_or_default, length_push}
use Rattle.std.proofs.lemmas.List.Elements.{All-append, All-map, filter-append}
use Rattle.std.proofs.lemmas.List.FromFn.{get_or-map-range_with_len, map-range_with_len_more}
use Rattle.partition.specs.Classes.{JoinsBelow, class_at, first_with, has, no_class, points_below}
use Rattle.partition.specs.Heads.{heads_below, heads_to}
use Rattle.partition.specs.NetTable.{IsNetTable, all_nets, head_of, judged_points, net_at, net_count}
use Rattle.partition.specs.Partitions.{HasClass, IsClassing}
use Rattle.partition.proofs.classes.ClassLaws.{classes_by-IsPartition, classes_by-same, length-classes_by, same-classes_by}
use Rattle.partition.proofs.classes.HeadLemmas.{heads_below-head, heads_below-other, length-heads_below-grows, points_below-suc}
use Rattle.partition.proofs.classes.JudgedPartition.{js-class, partition-classing}
use Rattle.partition.proofs.tables.KeptLemmas.{In-points_below, net_at-below, net_at-is}
use Rattle.partition.proofs.Members.{In}
use Rattle.partition.proofs.tables.NetClasses.{number_at as numbered_net}
use Rattle.partition.proofs.tables.NetLaws.{judged-ascends, judged-below, net_facts}
use Rattle.wirelist.specs.declared.program.Program.{Program}
use Rattle.wirelist.specs.Clusters.{ComponentsInside, cluster_classes, cluster_first_at, component_links, diode_link, net_clusters, resistor_link}
use Rattle.cluster_groups.specs.declared.clusters.Choice.{Choice}
use Rattle.cluster_groups.specs.Laws.{IsClusterable}
use Rattle.cluster_groups.specs.Numbered.{cluster_number, number_at, numbers_of, takes}
use Rattle.cluster_groups.specs.Places.{Places, number_by}
use Rattle.cluster_groups.proofs.Numbering.{first-below, first-own, net-least, number-some}

-- ---- what a program says of its clusters

-- the links of components lie between nets
links_below : (p : Program) → IsNetTable p.nets → ComponentsInside p → JoinsBelow (component_links p) (net_count p.nets)
links_below p ok inside a b there =
    let n = net_count p.nets in
    let Below : ℕ × ℕ → Type 0 = λ link. (link.0 < n) × (link.1 < n) in
    let resistors : All Below (map (resistor_link p.nets) p.resistors) =
    All-map Below (resistor_link p.nets) p.resistors
    (λ k d l. let ends = inside.resistors_in k d l in (net_at-below p.nets ok _ ends.0, net_at-below p.nets ok _ ends.1)) in
    let diodes : All Below (map (diode_link p.nets) p.diodes) =
    All-map Below (diode_link p.nets) p.diodes
    (λ k d l. let ends = inside.diodes_in k d l in (net_at-below p.nets ok _ ends.0, net_at-below p.nets ok _ ends.1)) in
    subst Below there.2 (All-append Below (map (resistor_link p.nets) p.resistors) (map (diode_link p.nets) p.diodes) resistors diodes there.0 (a, b) there.1)

pub clusterable : (p : Program) → IsNetTable p.nets → ComponentsInside p → net_count p.nets ≤ p.nets.points → p.nets.points < 2 ^ 16 → IsClusterable p
clusterable p ok inside few small = record { nets = ok; links = links_below p ok inside; few = few; small = small }

-- ---- lists that grow at their end

pub numbers-push : (classes places numbers more : List ℕ) (q number : ℕ) → numbers ≡ map (number_by classes places) (points_below q) → more ≡ numbers ++ number ∷ [] → number ≡ number_by classes places q
    → more ≡ map (number_by classes places) (points_below (q + 1))
numbers-push classes places numbers more q number is pushed value =
    pushed ∙ ap (λ (xs : List ℕ). xs ++ number ∷ []) is ∙ ap (λ (x : ℕ). map (number_by classes places) (points_below q) ++ x ∷ []) value
    ∙ sym (map-range_with_len_more (number_by classes places) 0 q q (zero-add q))

module _ (choice : Choice) (numbers list more : List ℕ) (q number : ℕ) (is : list ≡ filter (λ x. takes choice (number_at numbers x)) (points_below q)) (value : number_at numbers q ≡ number) where
  abbrev wanted : ℕ → Bool
  wanted x = takes choice (number_at numbers x)

  grown : filter wanted (points_below (q + 1)) ≡ filter wanted (points_below q) ++ cond (wanted q) (q ∷ []) []
  grown = rw add-one (ap (filter wanted) (points_below-suc q) ∙ filter-append wanted (points_below q) (q ∷ []))

  pub points-push : takes choice number ≡ true → more ≡ list ++ q ∷ [] → more ≡ filter wanted (points_below (q + 1))
  points-push passes pushed =
      pushed ∙ ap (λ (xs : List ℕ). xs ++ q ∷ []) is
      ∙ ap (λ (b : Bool). filter wanted (points_below q) ++ cond b (q ∷ []) []) (sym (ap (takes choice) value ∙ passes)) ∙ sym grown

  pub points-skip : takes choice number ≡ false → more ≡ list → more ≡ filter wanted (points_below (q + 1))
  points-skip fails same =
      same ∙ is ∙ sym (append-nil (filter wanted (points_below q)))
      ∙ ap (λ (b : Bool). filter wanted (points_below q) ++ cond b (q ∷ []) []) (sym (ap (takes choice) value ∙ fails)) ∙ sym grown

-- ---- the points' partition by cluster

module _ (p : Program) (ok : IsClusterable p) where
  classing : IsClassing (cluster_classes p)
  classing =
      partition-classing (judged_points p.nets) p.nets.points (cluster_classes p) ok.small (judged-below p.nets) (judged-ascends p.nets)
      (classes_by-IsPartition (judged_points p.nets) p.nets.points (cluster_first_at p) (judged-below p.nets))

  has_class : (q : ℕ) → has (judged_points p.nets) q ≡ true → HasClass (cluster_classes p) q
  has_class q judged =
      js-class (judged_points p.nets) p.nets.points (cluster_classes p) ok.small (judged-below p.nets) (judged-ascends p.nets)
      (classes_by-IsPartition (judged_points p.nets) p.nets.points (cluster_first_at p) (judged-below p.nets)) q judged

  no_class_at : (q : ℕ) → q < p.nets.points → has (judged_points p.nets) q ≡ false → class_at (cluster_classes p) q ≡ no_class
  no_class_at q lt other =
      get_or-map-range_with_len (λ x. cond (has (judged_points p.nets) x) (first_with (cluster_first_at p) (judged_points p.nets) (cluster_first_at p x)) no_class) 0 p.nets.points q q no_class lt (zero-add q)
      ∙ rw other refl

  pub class-below : (q : ℕ) → has (judged_points p.nets) q ≡ true → class_at (cluster_classes p) q < p.nets.points
  class-below q judged = let least = classing.least q (has_class q judged) in let lt = judged-below p.nets q judged in omega arith

  -- two points have one class exactly where their clusters have one first net
  same_first : (x y : ℕ) → has (judged_points p.nets) x ≡ true → has (judged_points p.nets) y ≡ true → class_at (cluster_classes p) x ≡ class_at (cluster_classes p) y → cluster_first_at p x ≡ cluster_first_at p y
  same_first x y jx jy = same-classes_by (judged_points p.nets) p.nets.points (cluster_first_at p) x y (judged-below p.nets x jx) (judged-below p.nets y jy) jx jy

  one_class : (x y : ℕ) → has (judged_points p.nets) x ≡ true → has (judged_points p.nets) y ≡ true → cluster_first_at p x ≡ cluster_first_at p y → class_at (cluster_classes p) x ≡ class_at (cluster_classes p) y
  one_class x y jx jy = classes_by-same (judged_points p.nets) p.nets.points (cluster_first_at p) x y (judged-below p.nets x jx) (judged-below p.nets y jy) jx jy

  -- ---- the turn of a net

  pub Places-few : {i count : ℕ} {places : List ℕ} → Places p i places count → i < net_count p.nets → count < 2 ^ 16 - 1
  Places-few {i} {count} {places} so_far less =
      let at : 0 + i ≡ i = zero-add i in
      let few = ok.few in
      let small = ok.small in
      omega (arith, so_far.counted, length-heads_below-grows (net_clusters p) 0 i, ap (λ (n : ℕ). length (heads_below (net_clusters p) n)) at)

  module _ {i count : ℕ} {places : List ℕ} (so_far : Places p i places count) (less : i < net_count p.nets) (h : ℕ) (judged : has (judged_points p.nets) h ≡ true) (head : h ≡ head_of (get_or (all_nets p.nets) i [])) where
    at_net : net_at p.nets h ≡ i
    at_net =
        net_at-is p.nets ok.nets h i judged less
        (subst (λ (x : ℕ). has (get_or (all_nets p.nets) i []) x ≡ true) (sym head) ((net_facts p.nets ok.nets).head_in (i, get_or (all_nets p.nets) i []) (numbered_net p.nets ok.nets i less)))

    first : cluster_first_at p h ≡ class_at (net_clusters p) i
    first = ap (class_at (net_clusters p)) at_net

    inside : class_at (cluster_classes p) h < length places
    inside = let lt = class-below h judged in let size = so_far.size in omega arith

    read : (x : ℕ) → get_or places (class_at (cluster_classes p) h) 0 ≡ x → number_at places (class_at (cluster_classes p) h) ≡ x
    read x is = get_or_default places (class_at (cluster_classes p) h) no_class 0 inside ∙ is

    -- the net is not the first of its cluster
    pub Places-kept : (get_or places (class_at (cluster_classes p) h) 0 ≡ no_class → ⊥) → Places p (i + 1) places count
    Places-kept numbered =
        let low = net-least p ok i less in
        let other : class_at (net_clusters p) i ≢ i =
        λ own. numbered (sym (get_or_default places (class_at (cluster_classes p) h) no_class 0 inside) ∙ so_far.unnumbered h judged (let f = first in omega arith)) in
        record {
          size = so_far.size;
          counted = so_far.counted ∙ sym (ap length (heads_below-other (net_clusters p) i other));
          numbered = λ q jq lt. elim (cases_lt (cluster_first_at p q) i) as (λ _. number_at places (class_at (cluster_classes p) q) ≡ cluster_number p q) [
            | inl before ↦ so_far.numbered q jq before
            | inr here ↦
                let is : cluster_first_at p q ≡ i = omega arith in
                absurd (other (subst (λ (x : ℕ). class_at (net_clusters p) x ≡ x) is (first-own p ok q jq)))
          ];
          unnumbered = λ q jq le. so_far.unnumbered q jq (omega arith);
        }

    -- it is
    pub Places-next : get_or places (class_at (cluster_classes p) h) 0 ≡ no_class → Places p (i + 1) (set places (class_at (cluster_classes p) h) count) (count + 1)
    Places-next none =
        let low = net-least p ok i less in
        let own : class_at (net_clusters p) i ≡ i =
        elim (cases_lt (class_at (net_clusters p) i) i) as (λ _. class_at (net_clusters p) i ≡ i) [
          | inl before ↦
              let some = number-some p ok h judged in
              let is = sym (so_far.numbered h judged (let f = first in omega arith)) ∙ read no_class none in
              absurd (omega arith)
          | inr here ↦ omega arith
        ] in
        let first_is : cluster_first_at p h ≡ i = first ∙ own in
        let apart = λ (q : ℕ) (jq : has (judged_points p.nets) q ≡ true) (ne : cluster_first_at p q ≢ i) (same : class_at (cluster_classes p) q ≡ class_at (cluster_classes p) h). ne (same_first q h jq judged same ∙ first_is) in
        record {
          size = length-set_at ∙ so_far.size;
          counted =
              ap (λ (n : ℕ). n + 1) so_far.counted
              ∙ sym (length_push (heads_below (net_clusters p) i) i) ∙ sym (ap length (heads_below-head (net_clusters p) i own));
          numbered = λ q jq lt. elim (cases_eq (cluster_first_at p q) i) as (λ _. number_at (set places (class_at (cluster_classes p) h) count) (class_at (cluster_classes p) q) ≡ cluster_number p q) [
            | inl is ↦
                let same = one_class q h jq judged (is ∙ sym first_is) in
                let lt_q : class_at (cluster_classes p) q < length places = let l = class-below q jq in let size = so_far.size in omega arith in
                subst (λ (x : ℕ). number_at (set places x count) (class_at (cluster_classes p) q) ≡ cluster_number p q) same (get_or-set_same places (class_at (cluster_classes p) q) count no_class lt_q ∙ so_far.counted ∙ ap (heads_to (net_clusters p)) (sym is))
            | inr other ↦
                let ne : class_at (cluster_classes p) q ≢ class_at (cluster_classes p) h = apart q jq other in
                rw get_or-set_other (so_far.numbered q jq (omega arith))
          ];
          unnumbered = λ q jq le.
              let ne : class_at (cluster_classes p) q ≢ class_at (cluster_classes p) h = apart q jq (λ e. absurd (omega arith)) in
              rw get_or-set_other (so_far.unnumbered q jq (omega arith));
        }
      where
        length-set_at : length (set places (class_at (cluster_classes p) h) count) ≡ length places
        length-set_at = simp length-set

  -- either way
  pub Places-turn : {i count : ℕ} {places : List ℕ} → Places p i places count → i < net_count p.nets → (h : ℕ) → has (judged_points p.nets) h ≡ true → h ≡ head_of (get_or (all_nets p.nets) i []) → (class : ℕ) → class ≡ class_at (cluster_classes p) h
      → (more : List ℕ) (grown : ℕ) → ((get_or places class 0 ≡ no_class → ⊥) → (grown ≡ count) × (more ≡ places)) → (get_or places class 0 ≡ no_class → (grown ≡ count + 1) × (more ≡ set places class count))
      → Places p (i + 1) more grown
  Places-turn {i} {count} {places} so_far less h judged head class is more grown kept next =
      let P : List ℕ → ℕ → Type 0 = Places p (i + 1) in
      elim (cases_eq (get_or places class 0) no_class) as (λ _. P more grown) [
        | inl none ↦
            let n = next none in
            let at = subst (λ (x : ℕ). get_or places x 0 ≡ no_class) is none in
            subst (P more) (sym n.0) (subst (λ (xs : List ℕ). P xs (count + 1)) (sym n.1)
            (subst (λ (x : ℕ). P (set places x count) (count + 1)) (sym is) (Places-next so_far less h judged head at)))
        | inr numbered ↦
            let k = kept numbered in
            let at = subst (λ (x : ℕ). get_or places x 0 ≡ no_class → ⊥) is numbered in
            subst (P more) (sym k.0) (subst (λ (xs : List ℕ). P xs count) (sym k.1) (Places-kept so_far less h judged head at))
      ]

  -- ---- the numbers of all points

  number_by-is : (places : List ℕ) (count q : ℕ) → Places p (net_count p.nets) places count → q < p.nets.points → number_by (cluster_classes p) places q ≡ cond (has (judged_points p.nets) q) (cluster_number p q) no_class
  number_by-is places count q all lt = go (has (judged_points p.nets) q) refl
    where
      go : (b : Bool) → has (judged_points p.nets) q ≡ b → number_by (cluster_classes p) places q ≡ cond (has (judged_points p.nets) q) (cluster_number p q) no_class
      go true judged =
          let low = has_class q judged in
          rw (ne_eqb (class_at (cluster_classes p) q) no_class (λ e. absurd (omega arith)), judged) (all.numbered q judged (first-below p ok q judged))
      go false other = rw (no_class_at q lt other, other) refl

  map_agree : (f g : ℕ → ℕ) (xs : List ℕ) → ((q : ℕ) → In q xs → f q ≡ g q) → map f xs ≡ map g xs
  map_agree f g [] e = refl
  map_agree f g (x ∷ xs) e = rw (e x (inl refl), map_agree f g xs (λ q i. e q (inr i))) refl

  pub numbered-all : (classes places numbers : List ℕ) (count : ℕ) → classes ≡ cluster_classes p → Places p (net_count p.nets) places count → numbers ≡ map (number_by classes places) (points_below (length classes))
      → numbers ≡ numbers_of p
  numbered-all classes places numbers count is all made =
      made
      ∙ ap (λ (cs : List ℕ). map (number_by cs places) (points_below (length cs))) is
      ∙ ap (λ (n : ℕ). map (number_by (cluster_classes p) places) (points_below n)) (length-classes_by (judged_points p.nets) p.nets.points (cluster_first_at p))
      ∙ map_agree (number_by (cluster_classes p) places) (λ q. cond (has (judged_points p.nets) q) (cluster_number p q) no_class) (points_below p.nets.points)
      (λ q i. number_by-is places count q all (In-points_below p.nets.points q i))

pub length-classes : (p : Program) (classes : List ℕ) → classes ≡ cluster_classes p → length classes ≡ p.nets.points
length-classes p classes is = ap length is ∙ length-classes_by (judged_points p.nets) p.nets.points (cluster_first_at p)

pub head-inside : (p : Program) (classes : List ℕ) (h : ℕ) → classes ≡ cluster_classes p → has (judged_points p.nets) h ≡ true → h < length classes
head-inside p classes h is judged =
    let lt = judged-below p.nets h judged in
    omega (arith, ap length is, length-classes_by (judged_points p.nets) p.nets.points (cluster_first_at p))
