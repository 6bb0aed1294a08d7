-- The steps from a measured partition to its pieces.
use Rattle.std.proofs.Common.{◌≡◌, ◌↔◌, inl, inr, ℕ, ◌+◌, ◌<◌, ◌^◌, Bool, true, false, cond, not, List, [], ◌∷◌, ◌++◌, length, get_or, set, map, filter, take, All, IsTrue, refl, sym, ◌∙◌, ap, subst, arith, eqb, get_or-set_same, get_or-set_other}
use Rattle.std.specs.List.{concat, flat_map}
use Rattle.std.proofs.lemmas.List.{append-nil, get_or_read, take_all, take_more}
use Rattle.std.proofs.lemmas.List.Concat.{concat_is}
use Rattle.std.proofs.lemmas.List.Elements.{filter_more}
use Rattle.std.proofs.lemmas.List.FromFn.{fill_by_all, get_or-map-range_with_len, length-map-range_with_len, map-range_with_len_more}
use Rattle.std.proofs.lemmas.List.Sums.{fold-append}
use Rattle.std.proofs.lemmas.Bool.{and_left, and_parts, cases_eq, cond-true, cond-false, eqb-true, eq-eqb, ne_eqb}
use Rattle.partition.specs.Classes.{points_below, has, class_at, no_class, Same}
use Rattle.partition.specs.Claims.{nobody, owner_at, owned_by}
use Rattle.partition.specs.NetTable.{NetTable, IsNetTable, head_of, judged_points, net_at, net_count}
use Rattle.difference.specs.Difference.{anchor_of, pieces_of}
use Rattle.partition.specs.NetTable.{head_at}
use Rattle.difference.specs.Measured.{IsMeasured, AreAnchors, net_of, is_stray, stray_anchor, by_anchor, by_net, with_point, pieces_along}
use Rattle.difference.specs.declared.wiring.Piece.{Piece}
use Rattle.partition.proofs.classes.ClassLaws.{points_below-AllBelow}
use Rattle.partition.proofs.Members.{In-has}
use Rattle.partition.proofs.tables.KeptLemmas.{bools_agree, filter-agree}
use Rattle.difference.proofs.PieceOrder.{by_anchor-judged, by_net-judged, flat_map-agree, flat_map-map, pieces_are}
use Rattle.difference.proofs.MeasuredLemmas.{All-from_In, class_below}

-- ---- one point

pub head_is : (t : NetTable) (p number head : ℕ) → number ≡ net_at t p → head ≡ head_of (net_of t number) → head ≡ head_at t p
head_is t p number head at is = is ∙ ap (λ (i : ℕ). head_of (net_of t i)) at

pub stray_is : (t : NetTable) (m : List ℕ) (p head : ℕ) (b : Bool) → has (judged_points t) p ≡ true → head ≡ head_at t p → (IsTrue b ↔ Same m p head) → not b ≡ is_stray t m p
stray_is t m p head b counts is says =
    let same : b ≡ eqb (class_at m p) (class_at m (head_at t p)) =
    bools_agree b _ (λ h. eq-eqb (class_at m p) (class_at m (head_at t p)) (says.0 h ∙ ap (class_at m) is)) (λ h. says.1 (eqb-true (class_at m p) (class_at m (head_at t p)) h ∙ ap (class_at m) (sym is))) in
    ap not same ∙ sym (rw counts refl)

pub stray_not : (t : NetTable) (m : List ℕ) (p : ℕ) (b : Bool) → b ≡ false → has (judged_points t) p ≡ false → b ≡ is_stray t m p
stray_not t m p b fails none = fails ∙ sym (and_left (has (judged_points t) p) _ none)

pub item_judged : (t : NetTable) (points : List ℕ) (i x : ℕ) → All (λ p. IsTrue (has (judged_points t) p)) points → i < length points → x ≡ get_or points i x → has (judged_points t) x ≡ true
item_judged t points i x of inside read = subst (λ (p : ℕ). has (judged_points t) p ≡ true) (sym read) (of i x inside)

-- the anchor of the class of a point that counts, as it is read
module _ (t : NetTable) (m anchors : List ℕ) (p class at : ℕ) (is : IsMeasured t m) (of : AreAnchors t m anchors) (counts : has (judged_points t) p ≡ true) (same : at ≡ class) (own : class ≡ class_at m p) where
  pub anchor_inside : at < length anchors
  anchor_inside = let below = class_below t m is p counts in omega (arith, of.size)

  pub anchor_read : (x : ℕ) → x ≡ get_or anchors at x → x ≡ anchor_of t m (class_at m p)
  anchor_read x read = get_or_read anchors at x anchor_inside read no_class ∙ ap (class_at anchors) (same ∙ own) ∙ of.anchor (class_at m p) (class_below t m is p counts)

-- a stray counts
pub stray_counts : (t : NetTable) (m : List ℕ) (p : ℕ) → is_stray t m p ≡ true → has (judged_points t) p ≡ true
stray_counts t m p h = (and_parts (has (judged_points t) p) _ h).0

pub stray_value : (t : NetTable) (m : List ℕ) (p x : ℕ) → is_stray t m p ≡ true → x ≡ anchor_of t m (class_at m p) → x ≡ stray_anchor t m p
stray_value t m p x h is = is ∙ sym (cond-true (is_stray t m p) (anchor_of t m (class_at m p)) nobody h)

pub no_stray_value : (t : NetTable) (m : List ℕ) (p x : ℕ) → is_stray t m p ≡ false → x ≡ nobody → x ≡ stray_anchor t m p
no_stray_value t m p x h is = is ∙ sym (cond-false (is_stray t m p) (anchor_of t m (class_at m p)) nobody h)

-- ---- the strays by anchor

pub strays_more : (t : NetTable) (m found grown : List ℕ) (p x : ℕ) → found ≡ map (stray_anchor t m) (points_below p) → x ≡ stray_anchor t m p → grown ≡ found ++ x ∷ [] → grown ≡ map (stray_anchor t m) (points_below (p + 1))
strays_more t m found grown p x is value next =
    next
    ∙ ap (λ (xs : List ℕ). xs ++ x ∷ []) is
    ∙ ap (λ (y : ℕ). map (stray_anchor t m) (points_below p) ++ y ∷ []) value
    ∙ sym (map-range_with_len_more (stray_anchor t m) 0 p p (omega arith))

module _ (t : NetTable) (m strays : List ℕ) (are : strays ≡ map (stray_anchor t m) (points_below t.points)) where
  pub strays_size : length strays ≡ t.points
  strays_size = ap length are ∙ length-map-range_with_len (stray_anchor t m) 0 t.points

  stray_at : (p : ℕ) → p < t.points → owner_at strays p ≡ stray_anchor t m p
  stray_at p l = ap (λ (xs : List ℕ). owner_at xs p) are ∙ get_or-map-range_with_len (stray_anchor t m) 0 t.points p p nobody l (omega arith)

  pub by_anchor_is : (lists : List (List ℕ)) (points : List ℕ) (count : ℕ) → count ≡ t.points → lists ≡ map (owned_by strays) (points_below count) → points ≡ concat lists → points ≡ by_anchor t m
  by_anchor_is lists points count all lists_are joined =
      joined
      ∙ concat_is lists
      ∙ ap (flat_map (λ xs. xs)) (lists_are ∙ ap (λ (n : ℕ). map (owned_by strays) (points_below n)) all)
      ∙ flat_map-map (λ xs. xs) (owned_by strays) (points_below t.points)
      ∙ flat_map-agree (owned_by strays) (λ a. filter (λ p. eqb (stray_anchor t m p) a) (points_below t.points)) (points_below t.points)
      (λ a i.
      ap (λ (n : ℕ). filter (λ p. eqb (owner_at strays p) a) (points_below n)) strays_size
      ∙ filter-agree (λ p. eqb (owner_at strays p) a) (λ p. eqb (stray_anchor t m p) a) (points_below t.points)
      (λ p j. ap (λ (x : ℕ). eqb x a) (stray_at p (points_below-AllBelow t.points p (In-has p (points_below t.points) j)))))

-- ---- the strays by net

module _ (t : NetTable) (points : List ℕ) where
  pub net_group_more : (lists next : List (List ℕ)) (i x at : ℕ) → length lists ≡ net_count t → ((k : ℕ) → k < net_count t → get_or lists k [] ≡ filter (λ q. eqb (net_at t q) k) (take i points)) →
      i < length points → x ≡ get_or points i x → at ≡ net_at t x → at < net_count t → next ≡ set lists at (get_or lists at [] ++ x ∷ []) →
      (k : ℕ) → k < net_count t → get_or next k [] ≡ filter (λ q. eqb (net_at t q) k) (take (i + 1) points)
  net_group_more lists next i x at size before inside read own below is k l =
      let more : filter (λ q. eqb (net_at t q) k) (take (i + 1) points) ≡ filter (λ q. eqb (net_at t q) k) (take i points) ++ cond (eqb (net_at t x) k) (x ∷ []) [] =
      filter_more (λ q. eqb (net_at t q) k) points i x inside ∙ ap (λ (y : ℕ). filter (λ q. eqb (net_at t q) k) (take i points) ++ cond (eqb (net_at t y) k) (y ∷ []) []) (sym read) in
      elim (cases_eq k at) as (λ _. get_or next k [] ≡ filter (λ q. eqb (net_at t q) k) (take (i + 1) points)) [
        | inl same ↦
            ap (λ (xs : List (List ℕ)). get_or xs k []) is
            ∙ ap (λ (j : ℕ). get_or (set lists at (get_or lists at [] ++ x ∷ [])) j []) same
            ∙ get_or-set_same lists at (get_or lists at [] ++ x ∷ []) [] (omega arith)
            ∙ ap (λ (j : ℕ). get_or lists j [] ++ x ∷ []) (sym same)
            ∙ ap (λ (xs : List ℕ). xs ++ x ∷ []) (before k l)
            ∙ sym (more ∙ ap (λ (ys : List ℕ). filter (λ q. eqb (net_at t q) k) (take i points) ++ ys) (cond-true (eqb (net_at t x) k) (x ∷ []) [] (eq-eqb (net_at t x) k (sym own ∙ sym same))))
        | inr ne ↦
            ap (λ (xs : List (List ℕ)). get_or xs k []) is
            ∙ get_or-set_other lists at k (get_or lists at [] ++ x ∷ []) [] ne
            ∙ before k l
            ∙ sym (more
            ∙ ap (λ (ys : List ℕ). filter (λ q. eqb (net_at t q) k) (take i points) ++ ys) (cond-false (eqb (net_at t x) k) (x ∷ []) [] (ne_eqb (net_at t x) k (λ e. ne (sym e ∙ sym own))))
            ∙ append-nil _)
      ]

  pub net_groups_all : (lists : List (List ℕ)) (i : ℕ) → length lists ≡ net_count t → ((k : ℕ) → k < net_count t → get_or lists k [] ≡ filter (λ q. eqb (net_at t q) k) (take i points)) → length points < i + 1 →
      lists ≡ map (λ k. filter (λ p. eqb (net_at t p) k) points) (points_below (net_count t))
  net_groups_all lists i size each all =
      let none : List ℕ = [] in
      fill_by_all (λ k. filter (λ p. eqb (net_at t p) k) points) lists (net_count t) none size (λ k l. each k l ∙ ap (filter (λ q. eqb (net_at t q) k)) (take_all i points (omega arith)))

pub by_net_joined : (t : NetTable) (m points order : List ℕ) (lists : List (List ℕ)) → points ≡ by_anchor t m → lists ≡ map (λ i. filter (λ p. eqb (net_at t p) i) points) (points_below (net_count t)) →
    order ≡ concat lists → order ≡ by_net t m
by_net_joined t m points order lists is lists_are joined =
    joined
    ∙ concat_is lists
    ∙ ap (flat_map (λ xs. xs)) (lists_are ∙ ap (λ (ps : List ℕ). map (λ i. filter (λ p. eqb (net_at t p) i) ps) (points_below (net_count t))) is)
    ∙ flat_map-map (λ xs. xs) (λ i. filter (λ p. eqb (net_at t p) i) (by_anchor t m)) (points_below (net_count t))

module _ (t : NetTable) (m : List ℕ) (ok : IsNetTable t) (is : IsMeasured t m) (few : t.points < 2 ^ 16) where
  pub all_judged : (points : List ℕ) → points ≡ by_anchor t m → All (λ p. IsTrue (has (judged_points t) p)) points
  all_judged points are = subst (All (λ p. IsTrue (has (judged_points t) p))) (sym are) (All-from_In (λ p. IsTrue (has (judged_points t) p)) (by_anchor t m) (λ p j. by_anchor-judged t m ok is few p j))

  pub all_judged_by_net : (points : List ℕ) → points ≡ by_net t m → All (λ p. IsTrue (has (judged_points t) p)) points
  all_judged_by_net points are = subst (All (λ p. IsTrue (has (judged_points t) p))) (sym are) (All-from_In (λ p. IsTrue (has (judged_points t) p)) (by_net t m) (λ p j. by_net-judged t m ok is few p j))

  pub pieces_all : (points : List ℕ) (pieces : List Piece) → points ≡ by_net t m → pieces ≡ pieces_along t m points → pieces ≡ pieces_of t m
  pieces_all points pieces are made = made ∙ ap (pieces_along t m) are ∙ pieces_are t m ok is few

-- ---- one more point along

pub along_more : (t : NetTable) (m points : List ℕ) (pieces next : List Piece) (i x net class : ℕ) → pieces ≡ pieces_along t m (take i points) → i < length points → x ≡ get_or points i x →
    net ≡ net_at t x → class ≡ anchor_of t m (class_at m x) → next ≡ with_point pieces net class x → next ≡ pieces_along t m (take (i + 1) points)
along_more t m points pieces next i x net class was inside read own anchor is =
    is
    ∙ ap (λ (ps : List Piece). with_point ps net class x) was
    ∙ ap (λ (n : ℕ). with_point (pieces_along t m (take i points)) n class x) own
    ∙ ap (λ (c : ℕ). with_point (pieces_along t m (take i points)) (net_at t x) c x) anchor
    ∙ sym (ap (pieces_along t m) (take_more points i x inside ∙ ap (λ (y : ℕ). take i points ++ y ∷ []) (sym read))
    ∙ fold-append (λ (ps : List Piece) (p : ℕ). with_point ps (net_at t p) (anchor_of t m (class_at m p)) p) [] (take i points) (x ∷ []))

-- ---- one list after another
