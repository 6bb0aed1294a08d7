-- The strays in order of net, then of anchor, make the pieces that the difference lists.
use Rattle.std.proofs.Common.{◌≡◌, ◌≢◌, inl, inr, ℕ, ◌<◌, ◌^◌, Bool, true, false, cond, not, ◌&&◌, ◌==◌, List, [], ◌∷◌, ◌++◌, map, filter, refl, sym, ◌∙◌, ap, subst, arith, eqb, zero-add}
use Rattle.std.specs.List.{flat_map}
use Rattle.std.proofs.lemmas.List.Elements.{filter-append}
use Rattle.std.proofs.lemmas.List.FromFn.{fill_by_all, length-enumerate_from, get_or-enumerate_from}
use Rattle.std.proofs.lemmas.Bool.{eqb-true, eq-eqb, and_from, and_parts, not-true, not_from_false, cond-true, cond-false, cases_Bool}
use Rattle.partition.specs.Classes.{points_below, has, class_at}
use Rattle.partition.specs.NetTable.{NetTable, IsNetTable, all_nets, judged_points, net_at, net_count}
use Rattle.partition.specs.Claims.{nobody}
use Rattle.partition.specs.NetTable.{numbered_nets}
use Rattle.difference.specs.Difference.{home_of, meeting, meets, anchor_of, piece_at, has_piece, pieces_of_net, pieces_of}
use Rattle.partition.specs.NetTable.{head_at}
use Rattle.difference.specs.Measured.{IsMeasured, net_of, is_stray, stray_anchor, by_anchor, by_net, pieces_along}
use Rattle.partition.proofs.Members.{In, In-filter, In-filter_cases, In-flat_map_cases, In-has}
use Rattle.partition.proofs.classes.ClassLaws.{points_below-AllBelow}
use Rattle.partition.proofs.classes.Labels.{neq-eqb, eqb_false}
use Rattle.partition.proofs.tables.NetLaws.{net_facts, judged-is, judged-below}
use Rattle.partition.proofs.tables.NetLaws.{NetFacts}
use Rattle.difference.proofs.RebuildLaw.{anchor_class, meets_true}
use Rattle.difference.proofs.EmptyLaw.{no_member, meets_some}
use Rattle.partition.proofs.Ascending.{ascending_is, filter-filter}
use Rattle.partition.proofs.tables.KeptLemmas.{bools_agree, filter-agree, net_at-is}
use Rattle.partition.proofs.tables.NetClasses.{net_increasing, number_at}
use Rattle.difference.proofs.PieceRuns.{piece, piece_if, all_rows}

-- ---- lists

pub filter-flat_map : {X : Type 0} (f : X → List ℕ) (s : ℕ → Bool) (xs : List X) → filter s (flat_map f xs) ≡ flat_map (λ x. filter s (f x)) xs
filter-flat_map f s [] = refl
filter-flat_map f s (x ∷ xs) = filter-append s (f x) (flat_map f xs) ∙ ap (λ (zs : List ℕ). filter s (f x) ++ zs) (filter-flat_map f s xs)

pub map-filter : {X Y : Type 0} (f : X → Y) (s : X → Bool) (xs : List X) → map f (filter s xs) ≡ flat_map (λ x. cond (s x) (f x ∷ []) []) xs
map-filter f s [] = refl
map-filter {X} {Y} f s (x ∷ xs) = go (s x) refl (map-filter f s xs)
  where
    go : (b : Bool) → s x ≡ b → map f (filter s xs) ≡ flat_map (λ y. cond (s y) (f y ∷ []) []) xs →
        map f (filter s (x ∷ xs)) ≡ flat_map (λ y. cond (s y) (f y ∷ []) []) (x ∷ xs)
    go true e ih = rw e (ap (λ (zs : List Y). f x ∷ zs) ih)
    go false e ih = rw e ih

pub flat_map-agree : {X Y : Type 0} (f g : X → List Y) (xs : List X) → ((x : X) → In x xs → f x ≡ g x) → flat_map f xs ≡ flat_map g xs
flat_map-agree f g [] h = refl
flat_map-agree {X} {Y} f g (x ∷ xs) h =
    ap (λ (zs : List Y). zs ++ flat_map f xs) (h x (inl refl)) ∙ ap (λ (zs : List Y). g x ++ zs) (flat_map-agree f g xs (λ y i. h y (inr i)))

pub flat_map-map : {X Y Z : Type 0} (g : Y → List Z) (h : X → Y) (xs : List X) → flat_map g (map h xs) ≡ flat_map (λ x. g (h x)) xs
flat_map-map g h [] = refl
flat_map-map {X} {Y} {Z} g h (x ∷ xs) = ap (λ (zs : List Z). g (h x) ++ zs) (flat_map-map g h xs)

-- ---- numbered nets

abbrev pub numbered : NetTable → ℕ → ℕ × List ℕ
numbered t i = (i, net_of t i)

pub numbered_is : (t : NetTable) → numbered_nets t ≡ map (numbered t) (points_below (net_count t))
numbered_is t =
    let none : ℕ × List ℕ = (0, []) in
    fill_by_all (numbered t) (numbered_nets t) (net_count t) none (length-enumerate_from 0 (all_nets t))
    (λ k l. get_or-enumerate_from 0 (all_nets t) k none l ∙ ap (λ (j : ℕ). let r : ℕ × List ℕ = (j, net_of t k) in r) (zero-add k))

piece_if-some : (n c p : ℕ) (ps : List ℕ) → In p ps → piece_if n c ps ≡ piece n c ps ∷ []
piece_if-some n c p [] i = absurd i
piece_if-some n c p (q ∷ ps) i = refl

module _ (t : NetTable) (m : List ℕ) (ok : IsNetTable t) (is : IsMeasured t m) (few : t.points < 2 ^ 16) where
  facts : NetFacts t
  facts = net_facts t ok

  pub net_point : (i p : ℕ) → i < net_count t → has (net_of t i) p ≡ true → (has (judged_points t) p ≡ true) × (net_at t p ≡ i)
  net_point i p l h = let counts = facts.judged_in (numbered t i) p (number_at t ok i l) h in (counts, net_at-is t ok p i counts l h)

  pub point_net : (i p : ℕ) → has (judged_points t) p ≡ true → net_at t p ≡ i → has (net_of t i) p ≡ true
  point_net i p counts e = subst (λ (k : ℕ). has (net_of t k) p ≡ true) e (facts.has_at p counts)

  -- a stray of an anchor
  abbrev Stray : ℕ → ℕ → Type 0
  Stray a p = (has (judged_points t) p ≡ true) × (class_at m p ≢ class_at m (head_at t p)) × (anchor_of t m (class_at m p) ≡ a)

  stray_parts : (a p : ℕ) → a < t.points → eqb (stray_anchor t m p) a ≡ true → Stray a p
  stray_parts a p l h = elim (cases_Bool (is_stray t m p)) as (λ _. Stray a p) [
    | inl passes ↦
        let both = and_parts (has (judged_points t) p) (not (class_at m p == class_at m (head_at t p))) passes in
        (both.0, eqb_false _ _ (not-true _ both.1), sym (cond-true (is_stray t m p) (anchor_of t m (class_at m p)) nobody passes) ∙ eqb-true (stray_anchor t m p) a h)
    | inr none ↦
        let e : nobody ≡ a = sym (cond-false (is_stray t m p) (anchor_of t m (class_at m p)) nobody none) ∙ eqb-true (stray_anchor t m p) a h in
        absurd (omega arith)
  ]

  parts_stray : (a p : ℕ) → Stray a p → eqb (stray_anchor t m p) a ≡ true
  parts_stray a p s =
      let passes : is_stray t m p ≡ true = and_from (has (judged_points t) p) _ s.0 (not_from_false _ (neq-eqb (class_at m p) (class_at m (head_at t p)) s.1)) in
      eq-eqb (stray_anchor t m p) a (cond-true (is_stray t m p) (anchor_of t m (class_at m p)) nobody passes ∙ s.2)

  -- the strays of a net and an anchor
  abbrev seg : ℕ → ℕ → List ℕ
  seg i a = filter (λ p. eqb (net_at t p) i) (filter (λ p. eqb (stray_anchor t m p) a) (points_below t.points))

  seg-parts : (i a p : ℕ) → a < t.points → In p (seg i a) → (p < t.points) × (net_at t p ≡ i) × Stray a p
  seg-parts i a p l j =
      let one = In-filter_cases (λ q. eqb (net_at t q) i) p (filter (λ q. eqb (stray_anchor t m q) a) (points_below t.points)) j in
      let two = In-filter_cases (λ q. eqb (stray_anchor t m q) a) p (points_below t.points) one.0 in
      (points_below-AllBelow t.points p (In-has p (points_below t.points) two.0), eqb-true (net_at t p) i one.1, stray_parts a p l two.1)

  module _ (i : ℕ) (inside : i < net_count t) where
    abbrev at_anchor : ℕ → Bool
    at_anchor a = not (has t.ignored a) && ((anchor_of t m (class_at m a) == a) && has_piece m (numbered t i) a)

    net_pieces : pieces_of_net t m (numbered t i) ≡ flat_map (λ a. cond (at_anchor a) (piece_at m (numbered t i) a ∷ []) []) (points_below t.points)
    net_pieces =
        ap (map (piece_at m (numbered t i)))
        (filter-filter (has_piece m (numbered t i)) (λ a. anchor_of t m (class_at m a) == a) (judged_points t)
        ∙ filter-filter (λ a. (anchor_of t m (class_at m a) == a) && has_piece m (numbered t i) a) (λ a. not (has t.ignored a)) (points_below t.points))
        ∙ map-filter (piece_at m (numbered t i)) at_anchor (points_below t.points)

    -- a point that counts and is in the net's home, or is not
    home_is : (p : ℕ) → net_at t p ≡ i → class_at m (head_at t p) ≡ home_of m (net_of t i)
    home_is p e = ap (λ (k : ℕ). home_of m (net_of t k)) e

    -- what a stray of the net tells of its anchor
    stray-anchor : (a p : ℕ) → a < t.points → net_at t p ≡ i → Stray a p → (class_at m a ≡ class_at m p) × (at_anchor a ≡ true)
    stray-anchor a p l own s =
        let found = anchor_class t m facts is p s.0 in
        let class : class_at m a ≡ class_at m p = ap (class_at m) (sym s.2) ∙ found.0 in
        let counts : has (judged_points t) a ≡ true = ap (has (judged_points t)) (sym s.2) ∙ found.1 in
        let anchor : anchor_of t m (class_at m a) ≡ a = ap (anchor_of t m) class ∙ s.2 in
        let met = meets_true m (net_of t i) p (class_at m a) (point_net i p s.0 own) (sym class) in
        let away = neq-eqb (class_at m a) (home_of m (net_of t i)) (λ e. s.1 (sym class ∙ e ∙ sym (home_is p own))) in (
          class,
          and_from _ _ (sym (judged-is t a l) ∙ counts) (and_from _ _ (eq-eqb _ a anchor) (and_from _ _ met (not_from_false _ away))),
        )

    seg-meeting : (a : ℕ) → a < t.points → at_anchor a ≡ true → seg i a ≡ meeting m (net_of t i) (class_at m a)
    seg-meeting a l passes =
        let one = and_parts (not (has t.ignored a)) _ passes in
        let two = and_parts (anchor_of t m (class_at m a) == a) (has_piece m (numbered t i) a) one.1 in
        let three = and_parts (meets m (net_of t i) (class_at m a)) _ two.1 in
        let anchor = eqb-true (anchor_of t m (class_at m a)) a two.0 in
        let away = eqb_false (class_at m a) (home_of m (net_of t i)) (not-true _ three.1) in
        filter-filter (λ p. eqb (net_at t p) i) (λ p. eqb (stray_anchor t m p) a) (points_below t.points)
        ∙ filter-agree (λ p. eqb (stray_anchor t m p) a && eqb (net_at t p) i) (λ p. has (net_of t i) p && (class_at m p == class_at m a)) (points_below t.points)
        (λ p j. bools_agree _ _
        (λ h.
        let parts = and_parts (eqb (stray_anchor t m p) a) (eqb (net_at t p) i) h in
        let s = stray_parts a p l parts.0 in
        let own = eqb-true (net_at t p) i parts.1 in
        and_from _ _ (point_net i p s.0 own) (eq-eqb (class_at m p) (class_at m a) (sym (stray-anchor a p l own s).0)))
        (λ h.
        let parts = and_parts (has (net_of t i) p) (class_at m p == class_at m a) h in
        let np = net_point i p inside parts.0 in
        let same = eqb-true (class_at m p) (class_at m a) parts.1 in
        and_from _ _ (parts_stray a p (np.0, (λ e. away (sym same ∙ e ∙ home_is p np.1)), ap (anchor_of t m) same ∙ anchor)) (eq-eqb (net_at t p) i np.1)))
        ∙ sym (filter-filter (λ p. class_at m p == class_at m a) (has (net_of t i)) (points_below t.points))
        ∙ ap (filter (λ p. class_at m p == class_at m a))
        (sym (ascending_is t.points (net_of t i) (net_increasing t ok i inside) (λ p h. judged-below t p (net_point i p inside h).0)))

    piece_here : (a : ℕ) → a < t.points → piece_if i a (seg i a) ≡ cond (at_anchor a) (piece_at m (numbered t i) a ∷ []) []
    piece_here a l = elim (cases_Bool (at_anchor a)) as (λ _. piece_if i a (seg i a) ≡ cond (at_anchor a) (piece_at m (numbered t i) a ∷ []) []) [
      | inl passes ↦
          let two = (and_parts (anchor_of t m (class_at m a) == a) (has_piece m (numbered t i) a) (and_parts (not (has t.ignored a)) _ passes).1).1 in
          let met = meets_some t ok m (net_of t i) (class_at m a) (and_parts (meets m (net_of t i) (class_at m a)) _ two).0 in
          let member = In-filter (λ p. class_at m p == class_at m a) met.0 (net_of t i) met.1 (eq-eqb (class_at m met.0) (class_at m a) met.2) in
          ap (piece_if i a) (seg-meeting a l passes)
          ∙ piece_if-some i a met.0 (meeting m (net_of t i) (class_at m a)) member
          ∙ sym (cond-true (at_anchor a) (piece_at m (numbered t i) a ∷ []) [] passes)
      | inr none ↦
          let empty : seg i a ≡ [] =
          no_member (seg i a) (λ p j.
          let s = seg-parts i a p l j in
          let passes = (stray-anchor a p l s.1 s.2).1 in
          let e : false ≡ true = sym none ∙ passes in cc) in
          ap (piece_if i a) empty ∙ sym (cond-false (at_anchor a) (piece_at m (numbered t i) a ∷ []) [] none)
    ]

    net_is : flat_map (λ a. piece_if i a (seg i a)) (points_below t.points) ≡ pieces_of_net t m (numbered t i)
    net_is =
        flat_map-agree (λ a. piece_if i a (seg i a)) (λ a. cond (at_anchor a) (piece_at m (numbered t i) a ∷ []) []) (points_below t.points)
        (λ a j. piece_here a (points_below-AllBelow t.points a (In-has a (points_below t.points) j)))
        ∙ sym net_pieces

  by_net_is : by_net t m ≡ flat_map (λ i. flat_map (seg i) (points_below t.points)) (points_below (net_count t))
  by_net_is =
      flat_map-agree (λ i. filter (λ p. eqb (net_at t p) i) (by_anchor t m)) (λ i. flat_map (seg i) (points_below t.points)) (points_below (net_count t))
      (λ i j. filter-flat_map (λ a. filter (λ p. eqb (stray_anchor t m p) a) (points_below t.points)) (λ p. eqb (net_at t p) i) (points_below t.points))

  -- the pieces that the strays make in this order are those of the difference
  pub pieces_are : pieces_along t m (by_net t m) ≡ pieces_of t m
  pieces_are =
      ap (pieces_along t m) by_net_is
      ∙ all_rows (net_at t) (λ p. anchor_of t m (class_at m p)) seg t.points (net_count t) (λ i a l p j. let s = seg-parts i a p l j in (s.1, s.2.2))
      ∙ flat_map-agree (λ i. flat_map (λ a. piece_if i a (seg i a)) (points_below t.points)) (λ i. pieces_of_net t m (numbered t i)) (points_below (net_count t))
      (λ i j. net_is i (points_below-AllBelow (net_count t) i (In-has i (points_below (net_count t)) j)))
      ∙ sym (flat_map-map (pieces_of_net t m) (numbered t) (points_below (net_count t)))
      ∙ ap (flat_map (pieces_of_net t m)) (sym (numbered_is t))

  -- the strays count
  pub by_anchor-judged : (p : ℕ) → In p (by_anchor t m) → has (judged_points t) p ≡ true
  by_anchor-judged p j =
      let one = In-flat_map_cases (λ a. filter (λ q. eqb (stray_anchor t m q) a) (points_below t.points)) p (points_below t.points) j in
      let l = points_below-AllBelow t.points one.0 (In-has one.0 (points_below t.points) one.1) in
      (stray_parts one.0 p l (In-filter_cases (λ q. eqb (stray_anchor t m q) one.0) p (points_below t.points) one.2).1).0

  pub by_net-judged : (p : ℕ) → In p (by_net t m) → has (judged_points t) p ≡ true
  by_net-judged p j =
      let one = In-flat_map_cases (λ i. filter (λ q. eqb (net_at t q) i) (by_anchor t m)) p (points_below (net_count t)) j in
      by_anchor-judged p (In-filter_cases (λ q. eqb (net_at t q) one.0) p (by_anchor t m) one.2).0
