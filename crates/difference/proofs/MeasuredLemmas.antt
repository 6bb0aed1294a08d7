-- What the steps to a difference rest on: the points of a measured partition, anchors, homes and mixed classes.
use Rattle.std.proofs.Common.{◌≡◌, ◌≢◌, inl, inr, ℕ, ◌+◌, ◌<◌, ◌≤◌, ◌^◌, Bool, true, false, cond, not, ◌&&◌, ◌||◌, ◌==◌, List, [], ◌∷◌, ◌++◌, length, get_or, set, map, filter, find, drop, replicate, All, refl, sym, ◌∙◌, ap, subst, arith, ltb, Option, Some, None, add-one, get_or-set_same, get_or-set_other}
use Rattle.std.specs.Prelude.{unwrap_or, option_map}
use Rattle.std.specs.List.{list_any, filter_map, cons_option}
use Rattle.std.proofs.lemmas.List.{append-nil, length-set, get_or-replicate, length-replicate, drop_all, drop_more, get_or_read, get_or_default}
use Rattle.std.proofs.lemmas.List.Elements.{filter_map-append}
use Rattle.std.proofs.lemmas.List.Folds.{list_any-append}
use Rattle.std.proofs.lemmas.List.FromFn.{length-range_with_len}
use Rattle.std.proofs.lemmas.Bool.{cases_eq, cases_Bool, eqb-true, eq-eqb, ne_eqb, and_from, and_parts, and_left, and_right, or_right, or_left, not-true, not_from_false, not_from_true, cond-true, cond-false, lt-ltb, le-ltb}
use Rattle.partition.specs.Classes.{points_below, has, class_at, no_class}
use Rattle.partition.specs.Partitions.{HasClass}
use Rattle.partition.specs.NetTable.{NetTable, IsNetTable, all_nets, head_of, judged_points, net_at, net_count}
use Rattle.partition.specs.NetTable.{numbered_nets}
use Rattle.difference.specs.Difference.{home_of, meets, nets_at_home, anchor_of, anchors, piece_at, has_piece, pieces_of_net, pieces_of, is_miswire, short_at, shorts_of, opens_of, miswires_of, difference_of}
use Rattle.difference.specs.Measured.{IsMeasured, CanBeMarked, AreAnchors, AreHomes, AreMixed, net_of, is_mixing, is_mixed, is_marked}
use Rattle.difference.specs.declared.wiring.Piece.{Piece}
use Rattle.difference.specs.declared.wiring.Short.{Short}
use Rattle.difference.specs.declared.wiring.Difference.{Difference}
use Rattle.partition.proofs.Members.{In, In-filter_cases, In-map_cases, In-flat_map_cases, In-has, has-In}
use Rattle.partition.proofs.classes.ClassLaws.{points_below-AllBelow, has-points_below, partition-own, length-partition}
use Rattle.partition.proofs.classes.Labels.{eqb_false}
use Rattle.partition.proofs.tables.NetLaws.{index-In, judged-below, judged-ascends}
use Rattle.partition.proofs.classes.JudgedPartition.{class-js}
use Rattle.partition.proofs.classes.WalkLaws.{point_class}
use Rattle.partition.proofs.classes.HeadLemmas.{points_below-suc}
use Rattle.partition.proofs.tables.AloneLemmas.{points_yes, points_no}
use Rattle.difference.proofs.EmptyLaw.{meets_some}
use Rattle.difference.proofs.RebuildLaw.{meets_true}
use Rattle.partition.proofs.tables.KeptLemmas.{bools_agree, net_at-below}
use Rattle.partition.proofs.tables.NetClasses.{number_at}
use Rattle.difference.proofs.PieceOrder.{numbered, numbered_is, net_point, point_net}

pub All-from_In : {X : Type 0} (P : X → Type 0) (xs : List X) → ((x : X) → In x xs → P x) → All P xs
All-from_In P xs h k d l = h (get_or xs k d) (index-In k d xs l)

-- ---- the points of a measured partition

module _ (t : NetTable) (m : List ℕ) (is : IsMeasured t m) where
  pub measured_size : length m ≡ t.points
  measured_size = length-partition (judged_points t) t.points m is

  pub judged_inside : (p : ℕ) → has (judged_points t) p ≡ true → p < length m
  judged_inside p h = let l = judged-below t p h in omega (arith, measured_size)

  pub class_judged : (p : ℕ) → has (judged_points t) p ≡ true → has (judged_points t) (class_at m p) ≡ true
  class_judged p h = (partition-own (judged_points t) t.points m p is (judged-below t) h).1

  pub class_own : (p : ℕ) → has (judged_points t) p ≡ true → class_at m (class_at m p) ≡ class_at m p
  class_own p h = (partition-own (judged_points t) t.points m p is (judged-below t) h).0

  pub class_below : (p : ℕ) → has (judged_points t) p ≡ true → class_at m p < t.points
  class_below p h = judged-below t (class_at m p) (class_judged p h)

  pub counts_judged : t.points < 2 ^ 16 → (p : ℕ) → HasClass m p → has (judged_points t) p ≡ true
  counts_judged few p h = class-js (judged_points t) t.points m few (judged-below t) (judged-ascends t) is p h

  pub none_judged : t.points < 2 ^ 16 → (p : ℕ) → class_at m p ≡ no_class → has (judged_points t) p ≡ false
  none_judged few p e = elim (cases_Bool (has (judged_points t) p)) as (λ _. has (judged_points t) p ≡ false) [
    | inl h ↦ absurd (let l = class_below p h in omega arith)
    | inr h ↦ h
  ]

-- ---- anchors, from the last net to the first

pub record AnchorsFrom (t : NetTable) (m : List ℕ) (i : ℕ) (held : List ℕ) : Type 0 where
  pub size : length held ≡ t.points
  pub anchor : (c : ℕ) → c < t.points → class_at held c ≡ unwrap_or (option_map head_of (find (λ net. home_of m net == c) (drop i (all_nets t)))) c

module _ (t : NetTable) (m : List ℕ) where
  abbrev first_home : List (List ℕ) → ℕ → ℕ
  first_home nets c = unwrap_or (option_map head_of (find (λ net. home_of m net == c) nets)) c

  pub anchors_none : (held : List ℕ) (i : ℕ) → i ≡ net_count t → held ≡ points_below t.points → AnchorsFrom t m i held
  anchors_none held i all is = record {
    size = ap length is ∙ length-range_with_len 0 t.points;
    anchor = λ c l.
        ap (λ (xs : List ℕ). class_at xs c) is
        ∙ point_class t.points c l
        ∙ sym (ap (λ (nets : List (List ℕ)). first_home nets c) (drop_all i (all_nets t) (omega (arith, all))));
  }

  first_more : (net : List ℕ) (nets : List (List ℕ)) (c : ℕ) → home_of m net ≡ c → first_home (net ∷ nets) c ≡ head_of net
  first_more net nets c e = rw (eq-eqb (home_of m net) c e) refl

  first_other : (net : List ℕ) (nets : List (List ℕ)) (c : ℕ) → home_of m net ≢ c → first_home (net ∷ nets) c ≡ first_home nets c
  first_other net nets c ne = rw (ne_eqb (home_of m net) c ne) refl

  pub anchors_more : (held next : List ℕ) (i j h at : ℕ) → AnchorsFrom t m i held → i ≡ j + 1 → j < net_count t → h ≡ head_of (net_of t j) → at ≡ class_at m h → at < t.points →
      next ≡ set held at h → AnchorsFrom t m j next
  anchors_more held next i j h at s one inside head class below is = record {
    size = ap length is ∙ length-set held at h ∙ s.size;
    anchor = λ c l.
        let home : home_of m (net_of t j) ≡ at = ap (class_at m) (sym head) ∙ sym class in
        let more : drop j (all_nets t) ≡ net_of t j ∷ drop i (all_nets t) = drop_more (all_nets t) j [] inside ∙ ap (λ (k : ℕ). net_of t j ∷ drop k (all_nets t)) (sym one) in
        elim (cases_eq c at) as (λ _. class_at next c ≡ first_home (drop j (all_nets t)) c) [
          | inl same ↦
              let size = s.size in
              ap (λ (xs : List ℕ). class_at xs c) is
              ∙ ap (class_at (set held at h)) same
              ∙ get_or-set_same held at h no_class (omega arith)
              ∙ head
              ∙ sym (ap (λ (nets : List (List ℕ)). first_home nets c) more ∙ first_more (net_of t j) (drop i (all_nets t)) c (home ∙ sym same))
          | inr ne ↦
              ap (λ (xs : List ℕ). class_at xs c) is
              ∙ get_or-set_other held at c h no_class ne
              ∙ s.anchor c l
              ∙ sym (ap (λ (nets : List (List ℕ)). first_home nets c) more ∙ first_other (net_of t j) (drop i (all_nets t)) c (λ e. ne (sym e ∙ home)))
        ];
  }

  pub anchors_all : (held : List ℕ) (i : ℕ) → i ≡ 0 → AnchorsFrom t m i held → AreAnchors t m held
  anchors_all held i first s = record {
    size = s.size;
    anchor = λ c l. s.anchor c l ∙ ap (λ (k : ℕ). first_home (drop k (all_nets t)) c) first;
  }

  -- ---- homes

  pub homes_none : (homes : List (List ℕ)) (n : ℕ) → homes ≡ replicate n [] → n ≡ t.points → AreHomes t m 0 homes
  homes_none homes n is all = record {
    size = ap length is ∙ length-replicate n [] ∙ all;
    nets = λ c l. ap (λ (xs : List (List ℕ)). get_or xs c []) is ∙ get_or-replicate n c [] [] (omega arith);
  }

  pub homes_more : (homes next : List (List ℕ)) (j at : ℕ) → AreHomes t m j homes → at ≡ home_of m (net_of t j) → at < t.points →
      next ≡ set homes at (get_or homes at [] ++ j ∷ []) → AreHomes t m (j + 1) next
  homes_more homes next j at s home below is = record {
    size = ap length is ∙ length-set homes at _ ∙ s.size;
    nets = λ c l. elim (cases_eq c at) as (λ _. get_or next c [] ≡ filter (λ i. home_of m (net_of t i) == c) (points_below (j + 1))) [
      | inl same ↦
          let size = s.size in
          ap (λ (xs : List (List ℕ)). get_or xs c []) is
          ∙ ap (λ (k : ℕ). get_or (set homes at (get_or homes at [] ++ j ∷ [])) k []) same
          ∙ get_or-set_same homes at (get_or homes at [] ++ j ∷ []) [] (omega arith)
          ∙ ap (λ (k : ℕ). get_or homes k [] ++ j ∷ []) (sym same)
          ∙ ap (λ (xs : List ℕ). xs ++ j ∷ []) (s.nets c l)
          ∙ sym (points_yes (λ i. home_of m (net_of t i) == c) j (eq-eqb (home_of m (net_of t j)) c (sym home ∙ sym same)))
      | inr ne ↦
          ap (λ (xs : List (List ℕ)). get_or xs c []) is
          ∙ get_or-set_other homes at c (get_or homes at [] ++ j ∷ []) [] ne
          ∙ s.nets c l
          ∙ sym (points_no (λ i. home_of m (net_of t i) == c) j (ne_eqb (home_of m (net_of t j)) c (λ e. ne (sym e ∙ sym home))))
    ];
  }

  pub homes_push : (homes : List (List ℕ)) (j at : ℕ) (x grown : List ℕ) → AreHomes t m j homes → at ≡ home_of m (net_of t j) → at < t.points → x ≡ get_or homes at x → grown ≡ x ++ j ∷ [] →
      AreHomes t m (j + 1) (set homes at grown)
  homes_push homes j at x grown s home below read is =
      let inside : at < length homes = omega (arith, s.size) in
      homes_more homes (set homes at grown) j at s home below (ap (set homes at) (is ∙ ap (λ (xs : List ℕ). xs ++ j ∷ []) (get_or_read homes at x inside read [])))

  -- ---- shorts

  numbers-filter : (s : ℕ × List ℕ → Bool) (xs : List ℕ) → map (λ (n : ℕ × List ℕ). n.0) (filter s (map (numbered t) xs)) ≡ filter (λ i. s (numbered t i)) xs
  numbers-filter s [] = refl
  numbers-filter s (x ∷ xs) = go (s (numbered t x)) refl (numbers-filter s xs)
    where
      go : (b : Bool) → s (numbered t x) ≡ b → map (λ (n : ℕ × List ℕ). n.0) (filter s (map (numbered t) xs)) ≡ filter (λ i. s (numbered t i)) xs →
          map (λ (n : ℕ × List ℕ). n.0) (filter s (map (numbered t) (x ∷ xs))) ≡ filter (λ i. s (numbered t i)) (x ∷ xs)
      go true e ih = rw e (ap (λ (zs : List ℕ). x ∷ zs) ih)
      go false e ih = rw e ih

  pub homes_all : (homes : List (List ℕ)) (i c : ℕ) → AreHomes t m i homes → i ≡ net_count t → c < t.points → get_or homes c [] ≡ nets_at_home t m c
  homes_all homes i c s all l =
      s.nets c l
      ∙ ap (λ (k : ℕ). filter (λ j. home_of m (net_of t j) == c) (points_below k)) all
      ∙ sym (numbers-filter (λ n. home_of m n.1 == c) (points_below (net_count t)))
      ∙ ap (λ (xs : List (ℕ × List ℕ)). map (λ (n : ℕ × List ℕ). n.0) (filter (λ n. home_of m n.1 == c) xs)) (sym (numbered_is t))

  pub homed_read : (homes : List (List ℕ)) (n i at : ℕ) (x homed : List ℕ) → AreHomes t m n homes → n ≡ net_count t → at ≡ home_of m (net_of t i) → at < t.points → x ≡ get_or homes at x → homed ≡ x →
      homed ≡ nets_at_home t m (home_of m (net_of t i))
  homed_read homes n i at x homed s all home below read is =
      is ∙ get_or_read homes at x (omega (arith, s.size)) read [] ∙ homes_all homes n at s all below ∙ ap (nets_at_home t m) home

  -- the shorts whose first net is below i
  abbrev pub shorts_to : ℕ → List Short
  shorts_to i = filter_map (λ j. short_at t m (numbered t j)) (points_below i)

  shorts_step : (i : ℕ) → shorts_to (i + 1) ≡ shorts_to i ++ cons_option (short_at t m (numbered t i)) []
  shorts_step i =
      ap (λ (k : ℕ). shorts_to k) (add-one i)
      ∙ ap (filter_map (λ j. short_at t m (numbered t j))) (points_below-suc i)
      ∙ filter_map-append (λ j. short_at t m (numbered t j)) (points_below i) (i ∷ [])

  pub shorts_push : (shorts next : List Short) (i class : ℕ) (homed : List ℕ) → shorts ≡ shorts_to i → class ≡ head_of (net_of t i) → homed ≡ nets_at_home t m (home_of m (net_of t i)) →
      1 < length homed → get_or homed 0 0 ≡ i → next ≡ shorts ++ record { class = class; nets = homed } ∷ [] → next ≡ shorts_to (i + 1)
  shorts_push shorts next i class homed was head list many first_is is =
      let first : get_or homed 0 i ≡ i = get_or_default homed 0 i 0 (omega arith) ∙ first_is in
      let made : short_at t m (numbered t i) ≡ Some (record { class = head_of (net_of t i); nets = nets_at_home t m (home_of m (net_of t i)) }) =
      cond-true _ _ None (subst (λ (xs : List ℕ). (get_or xs 0 i == i && ltb 1 (length xs)) ≡ true) list (and_from _ _ (eq-eqb (get_or homed 0 i) i first) (lt-ltb 1 (length homed) many))) in
      is
      ∙ ap (λ (xs : List Short). xs ++ record { class = class; nets = homed } ∷ []) was
      ∙ ap (λ (c : ℕ). shorts_to i ++ record { class = c; nets = homed } ∷ []) head
      ∙ ap (λ (xs : List ℕ). shorts_to i ++ record { class = head_of (net_of t i); nets = xs } ∷ []) list
      ∙ ap (λ (o : Option Short). shorts_to i ++ cons_option o []) (sym made)
      ∙ sym (shorts_step i)

  pub shorts_skip : (shorts : List Short) (i : ℕ) (homed : List ℕ) → shorts ≡ shorts_to i → homed ≡ nets_at_home t m (home_of m (net_of t i)) →
      (get_or homed 0 i == i && ltb 1 (length homed)) ≡ false → shorts ≡ shorts_to (i + 1)
  shorts_skip shorts i homed was list fails =
      let made : short_at t m (numbered t i) ≡ None =
      cond-false _ (Some (record { class = head_of (net_of t i); nets = nets_at_home t m (home_of m (net_of t i)) })) None (subst (λ (xs : List ℕ). (get_or xs 0 i == i && ltb 1 (length xs)) ≡ false) list fails) in
      was
      ∙ sym (append-nil (shorts_to i))
      ∙ ap (λ (o : Option Short). shorts_to i ++ cons_option o []) (sym made)
      ∙ sym (shorts_step i)

  -- where the net is not the first of its home, or alone there
  pub shorts_other : (shorts : List Short) (i : ℕ) (homed : List ℕ) → shorts ≡ shorts_to i → homed ≡ nets_at_home t m (home_of m (net_of t i)) → 1 < length homed → get_or homed 0 0 ≢ i →
      shorts ≡ shorts_to (i + 1)
  shorts_other shorts i homed was list many other =
      shorts_skip shorts i homed was list (and_left (get_or homed 0 i == i) _ (ne_eqb (get_or homed 0 i) i (λ e. other (get_or_default homed 0 0 i (omega arith) ∙ e))))

  pub shorts_alone : (shorts : List Short) (i : ℕ) (homed : List ℕ) → shorts ≡ shorts_to i → homed ≡ nets_at_home t m (home_of m (net_of t i)) → length homed ≤ 1 → shorts ≡ shorts_to (i + 1)
  shorts_alone shorts i homed was list few = shorts_skip shorts i homed was list (and_right (get_or homed 0 i == i) _ (le-ltb 1 (length homed) few))

  filter_map-map : (f : ℕ × List ℕ → Option Short) (xs : List ℕ) → filter_map f (map (numbered t) xs) ≡ filter_map (λ i. f (numbered t i)) xs
  filter_map-map f [] = refl
  filter_map-map f (x ∷ xs) = ap (cons_option (f (numbered t x))) (filter_map-map f xs)

  pub shorts_all : (shorts : List Short) (i : ℕ) → shorts ≡ shorts_to i → i ≡ net_count t → shorts ≡ shorts_of t m
  shorts_all shorts i is all =
      is
      ∙ ap (λ (k : ℕ). shorts_to k) all
      ∙ sym (filter_map-map (short_at t m) (points_below (net_count t)))
      ∙ ap (filter_map (short_at t m)) (sym (numbered_is t))

  -- ---- mixed classes

  pub mixed_none : (marks : List Bool) (n : ℕ) → marks ≡ replicate n false → n ≡ t.points → AreMixed t m 0 marks
  mixed_none marks n is all = record {
    size = ap length is ∙ length-replicate n false ∙ all;
    mark = λ c l. ap (λ (xs : List Bool). get_or xs c false) is ∙ get_or-replicate n c false false (omega arith);
  }

  or-false : (b : Bool) → (b || false) ≡ b
  or-false true = refl
  or-false false = refl

  mixed_step : (p c : ℕ) → is_mixed t m (p + 1) c ≡ (is_mixed t m p c || is_mixing t m c p)
  mixed_step p c =
      ap (λ (k : ℕ). is_mixed t m k c) (add-one p)
      ∙ ap (list_any (is_mixing t m c)) (points_below-suc p)
      ∙ list_any-append (is_mixing t m c) (points_below p) (p ∷ [])
      ∙ ap (λ (b : Bool). is_mixed t m p c || b) (or-false (is_mixing t m c p))

  mixed_same : (p c : ℕ) → is_mixing t m c p ≡ false → is_mixed t m p c ≡ is_mixed t m (p + 1) c
  mixed_same p c none = sym (mixed_step p c ∙ ap (λ (b : Bool). is_mixed t m p c || b) none ∙ or-false (is_mixed t m p c))

  pub mixed_skip : (p : ℕ) (marks : List Bool) → AreMixed t m p marks → has (judged_points t) p ≡ false → AreMixed t m (p + 1) marks
  mixed_skip p marks s none = record {
    size = s.size;
    mark = λ c l. s.mark c l ∙ mixed_same p c (and_left (has (judged_points t) p) _ none);
  }

  other_class : (p c : ℕ) → class_at m p ≢ c → is_mixing t m c p ≡ false
  other_class p c ne = and_right (has (judged_points t) p) _ (and_left (class_at m p == c) _ (ne_eqb (class_at m p) c ne))

  pub mixed_own : (p : ℕ) (marks : List Bool) → AreMixed t m p marks → net_at t p ≡ net_at t (class_at m p) → AreMixed t m (p + 1) marks
  mixed_own p marks s same = record {
    size = s.size;
    mark = λ c l. s.mark c l ∙ mixed_same p c (elim (cases_eq (class_at m p) c) as (λ _. is_mixing t m c p ≡ false) [
      | inl e ↦
          and_right (has (judged_points t) p) _ (and_right (class_at m p == c) _ (not_from_true _ (eq-eqb (net_at t p) (net_at t c) (same ∙ ap (net_at t) e))))
      | inr ne ↦ other_class p c ne
    ]);
  }

  pub mixed_more : (p at : ℕ) (marks next : List Bool) → AreMixed t m p marks → has (judged_points t) p ≡ true → at ≡ class_at m p → at < t.points → net_at t p ≢ net_at t at →
      next ≡ set marks at true → AreMixed t m (p + 1) next
  mixed_more p at marks next s counts class below differ is = record {
    size = ap length is ∙ length-set marks at true ∙ s.size;
    mark = λ c l. elim (cases_eq c at) as (λ _. get_or next c false ≡ is_mixed t m (p + 1) c) [
      | inl same ↦
          let size = s.size in
          let now : is_mixing t m c p ≡ true =
          and_from _ _ counts (and_from _ _ (eq-eqb (class_at m p) c (sym class ∙ sym same)) (not_from_false _ (ne_eqb (net_at t p) (net_at t c) (λ e. differ (e ∙ ap (net_at t) same))))) in
          ap (λ (xs : List Bool). get_or xs c false) is
          ∙ ap (λ (k : ℕ). get_or (set marks at true) k false) same
          ∙ get_or-set_same marks at true false (omega arith)
          ∙ sym (mixed_step p c ∙ or_right (is_mixed t m p c) (is_mixing t m c p) now)
      | inr ne ↦
          ap (λ (xs : List Bool). get_or xs c false) is
          ∙ get_or-set_other marks at c true false ne
          ∙ s.mark c l
          ∙ mixed_same p c (other_class p c (λ e. ne (sym e ∙ sym class)))
    ];
  }

-- ---- pieces whose class is mixed

abbrev pub difference_of_parts : List Piece → List Short → List Piece → Difference
difference_of_parts opens shorts miswires = record { opens = opens; shorts = shorts; miswires = miswires }

pub any_some : {X : Type 0} (s : X → Bool) (xs : List X) → list_any s xs ≡ true → (x : X) × In x xs × (s x ≡ true)
any_some s [] h = absurd (let e : false ≡ true = h in cc)
any_some {X} s (x ∷ xs) h = go (s x) refl h (λ k. any_some s xs k)
  where
    go : (b : Bool) → s x ≡ b → list_any s (x ∷ xs) ≡ true → (list_any s xs ≡ true → (y : X) × In y xs × (s y ≡ true)) → (y : X) × In y (x ∷ xs) × (s y ≡ true)
    go true e k ih = (x, inl refl, e)
    go false e k ih = let later = ih (rw e at k) in (later.0, inr later.1, later.2)

pub some_any : {X : Type 0} (s : X → Bool) (x : X) (xs : List X) → In x xs → s x ≡ true → list_any s xs ≡ true
some_any s x [] i h = absurd i
some_any s x (y ∷ ys) (inl e) h = or_left (s y) (list_any s ys) (ap s e ∙ h)
some_any s x (y ∷ ys) (inr i) h = or_right (s y) (list_any s ys) (some_any s x ys i h)

pub filter-same : {X : Type 0} (s r : X → Bool) (xs : List X) → ((x : X) → In x xs → s x ≡ r x) → filter s xs ≡ filter r xs
filter-same s r [] h = refl
filter-same {X} s r (x ∷ xs) h =
    ap (λ (b : Bool). cond b (x ∷ filter s xs) (filter s xs)) (h x (inl refl)) ∙ ap (λ (ys : List X). cond (r x) (x ∷ ys) ys) (filter-same s r xs (λ y i. h y (inr i)))

module _ (t : NetTable) (m : List ℕ) (ok : IsNetTable t) (is : IsMeasured t m) (few : t.points < 2 ^ 16) where
  -- a net and an anchor of a piece
  abbrev pub PieceAt : Piece → Type 0
  PieceAt x = (i : ℕ) × (i < net_count t) × (a : ℕ) × (has (judged_points t) a ≡ true) × (meets m (net_of t i) (class_at m a) ≡ true) × (x.net ≡ i) × (x.class ≡ a)

  pub piece_parts : (x : Piece) → In x (pieces_of t m) → PieceAt x
  piece_parts x j =
      let one = In-flat_map_cases (pieces_of_net t m) x (numbered_nets t) j in
      let two = In-map_cases (numbered t) one.0 (points_below (net_count t)) (subst (λ (xs : List (ℕ × List ℕ)). In one.0 xs) (numbered_is t) one.1) in
      let three = subst (λ (n : ℕ × List ℕ). In x (pieces_of_net t m n)) (sym two.2) one.2 in
      let four = In-map_cases (piece_at m (numbered t two.0)) x (filter (has_piece m (numbered t two.0)) (anchors t m)) three in
      let five = In-filter_cases (has_piece m (numbered t two.0)) four.0 (anchors t m) four.1 in
      let six = In-filter_cases (λ p. anchor_of t m (class_at m p) == p) four.0 (judged_points t) five.0 in (
        two.0,
        points_below-AllBelow (net_count t) two.0 (In-has two.0 (points_below (net_count t)) two.1),
        four.0,
        In-has four.0 (judged_points t) six.0,
        (and_parts (meets m (net_of t two.0) (class_at m four.0)) _ five.1).0,
        sym (ap (λ (y : Piece). y.net) four.2),
        sym (ap (λ (y : Piece). y.class) four.2),
      )

  -- the class of a piece is mixed exactly where it meets another net than the piece's
  piece-mixed : (x : Piece) → PieceAt x → is_mixed t m t.points (class_at m x.class) ≡ is_miswire t m x
  piece-mixed x (i, inside, a, counts, met, net, class) =
      let c = class_at m x.class in
      let c_is : c ≡ class_at m a = ap (class_at m) class in
      let c_counts : has (judged_points t) c ≡ true = ap (has (judged_points t)) c_is ∙ class_judged t m is a counts in
      let c_own : class_at m c ≡ c = ap (class_at m) c_is ∙ class_own t m is a counts ∙ sym c_is in
      let at_net : ℕ × List ℕ → Bool = λ n. not (n.0 == x.net) && meets m n.1 c in
      -- a point of the class in another net
      let elsewhere : (q : ℕ) → has (judged_points t) q ≡ true → class_at m q ≡ c → net_at t q ≢ i → is_miswire t m x ≡ true = λ q k e ne.
      let inside_q = net_at-below t ok q k in
      let there = meets_true m (net_of t (net_at t q)) q c (point_net t m ok is few (net_at t q) q k refl) e in
      some_any at_net (numbered t (net_at t q)) (numbered_nets t) (number_at t ok (net_at t q) inside_q)
      (and_from _ _ (not_from_false _ (ne_eqb (net_at t q) x.net (λ f. ne (f ∙ net)))) there) in
      -- a point of the class in another net than the class's least point
      let marked : (q : ℕ) → has (judged_points t) q ≡ true → class_at m q ≡ c → net_at t q ≢ net_at t c → is_mixed t m t.points c ≡ true = λ q k e ne.
      some_any (is_mixing t m c) q (points_below t.points) (has-In q (points_below t.points) (has-points_below t.points q (judged-below t q k)))
      (and_from _ _ k (and_from _ _ (eq-eqb (class_at m q) c e) (not_from_false _ (ne_eqb (net_at t q) (net_at t c) ne)))) in
      bools_agree (is_mixed t m t.points c) (is_miswire t m x)
      (λ h.
      let one = any_some (is_mixing t m c) (points_below t.points) h in
      let q = one.0 in
      let two = and_parts (has (judged_points t) q) _ one.2 in
      let three = and_parts (class_at m q == c) _ two.1 in
      let e = eqb-true (class_at m q) c three.0 in
      let ne = eqb_false (net_at t q) (net_at t c) (not-true _ three.1) in
      elim (cases_eq (net_at t q) i) as (λ _. is_miswire t m x ≡ true) [
        | inl same ↦ elsewhere c c_counts c_own (λ f. ne (same ∙ sym f))
        | inr other ↦ elsewhere q two.0 e other
      ])
      (λ h.
      let one = any_some at_net (numbered_nets t) h in
      let n = In-map_cases (numbered t) one.0 (points_below (net_count t)) (subst (λ (xs : List (ℕ × List ℕ)). In one.0 xs) (numbered_is t) one.1) in
      let j = n.0 in
      let j_inside = points_below-AllBelow (net_count t) j (In-has j (points_below (net_count t)) n.1) in
      let two = and_parts (not (j == x.net)) (meets m (net_of t j) c) (ap at_net n.2 ∙ one.2) in
      let j_other : j ≢ i = λ e. eqb_false j x.net (not-true _ two.0) (e ∙ sym net) in
      let there = meets_some t ok m (net_of t j) c two.1 in
      let q = there.0 in
      let q_net = net_point t m ok is few j q j_inside (In-has q (net_of t j) there.1) in
      let here = meets_some t ok m (net_of t i) (class_at m a) met in
      let p = here.0 in
      let p_net = net_point t m ok is few i p inside (In-has p (net_of t i) here.1) in
      elim (cases_eq (net_at t q) (net_at t c)) as (λ _. is_mixed t m t.points c ≡ true) [
        | inl same ↦ marked p p_net.0 (here.2 ∙ sym c_is) (λ e. j_other (sym q_net.1 ∙ same ∙ sym e ∙ p_net.1))
        | inr differ ↦ marked q q_net.0 there.2 differ
      ])

  module _ (marks : List Bool) (mixed : AreMixed t m t.points marks) where
    pub piece-marked : (x : Piece) → In x (pieces_of t m) → is_marked m marks x ≡ is_miswire t m x
    piece-marked x j =
        let parts = piece_parts x j in
        let counts : has (judged_points t) x.class ≡ true = ap (has (judged_points t)) parts.6 ∙ parts.3 in
        mixed.mark (class_at m x.class) (class_below t m is x.class counts) ∙ piece-mixed x parts

    pub piece-inside : (x : Piece) → In x (pieces_of t m) → (x.class < length m) × (class_at m x.class < length marks)
    piece-inside x j =
        let parts = piece_parts x j in
        let counts : has (judged_points t) x.class ≡ true = ap (has (judged_points t)) parts.6 ∙ parts.3 in
        (judged_inside t m is x.class counts, omega (arith, mixed.size, class_below t m is x.class counts))

    pub pieces_can_be : (pieces : List Piece) → pieces ≡ pieces_of t m → CanBeMarked m marks pieces
    pieces_can_be pieces are =
        subst (CanBeMarked m marks) (sym are) (All-from_In (λ x. (x.class < length m) × (class_at m x.class < length marks)) (pieces_of t m) (λ x j. piece-inside x j))

    pub opens_are : (pieces opens : List Piece) → pieces ≡ pieces_of t m → opens ≡ filter (λ x. not (is_marked m marks x)) pieces → opens ≡ opens_of t m
    opens_are pieces opens are is =
        is
        ∙ ap (filter (λ x. not (is_marked m marks x))) are
        ∙ filter-same (λ x. not (is_marked m marks x)) (λ x. not (is_miswire t m x)) (pieces_of t m) (λ x j. ap not (piece-marked x j))

    pub miswires_are : (pieces miswires : List Piece) → pieces ≡ pieces_of t m → miswires ≡ filter (is_marked m marks) pieces → miswires ≡ miswires_of t m
    miswires_are pieces miswires are is =
        is
        ∙ ap (filter (is_marked m marks)) are
        ∙ filter-same (is_marked m marks) (is_miswire t m) (pieces_of t m) (λ x j. piece-marked x j)

pub difference_is : (t : NetTable) (m : List ℕ) (opens miswires : List Piece) (shorts : List Short) → opens ≡ opens_of t m → shorts ≡ shorts_of t m → miswires ≡ miswires_of t m →
    difference_of_parts opens shorts miswires ≡ difference_of t m
difference_is t m opens miswires shorts o s w = λ i. record { opens = o i; shorts = s i; miswires = w i }
