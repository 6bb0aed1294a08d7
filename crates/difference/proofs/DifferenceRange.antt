-- How large a difference is: its lists are in order, and no longer than there are points.
use Rattle.std.proofs.Common.{◌≡◌, ◌≢◌, ℕ, ◌+◌, ◌<◌, ◌≤◌, Bool, true, not, ◌==◌, ◌&&◌, List, [], ◌∷◌, map, length, ltb, refl, sym, ◌∙◌, ap, subst, inl, inr, arith, filter, slice_index_or, slice_index, Some}
use Rattle.std.specs.List.{flat_map, list_any}
use Rattle.std.specs.List.Sorted.{IsStrictlyIncreasing}
use Rattle.std.proofs.lemmas.Bool.{eqb-true, ltb-true}
use Rattle.std.proofs.lemmas.List.{length-map}
use Rattle.std.proofs.lemmas.List.Concat.{length-flat_map}
use Rattle.std.proofs.lemmas.List.Filters.{sum_by-filter_both}
use Rattle.std.proofs.lemmas.List.FromFn.{length-enumerate_from, length-range_with_len}
use Rattle.partition.specs.Classes.{points_below, has, class_at}
use Rattle.partition.specs.NetTable.{NetTable, all_nets, head_of, judged_points, IsNetTable}
use Rattle.partition.specs.NetTable.{numbered_nets}
use Rattle.difference.specs.Difference.{home_of, meeting, meets, nets_at_home, anchor_of, anchors, piece_at, has_piece, pieces_of_net, pieces_of, is_miswire, opens_of, miswires_of, short_at, shorts_of, difference_of}
use Rattle.difference.specs.DifferenceRanges.{PieceWithin, ShortWithin, PieceBefore, ShortBefore, PiecesWithin, ShortsWithin, piece_points, short_nets, DifferenceWithin}
use Rattle.difference.specs.declared.wiring.Piece.{Piece}
use Rattle.difference.specs.declared.wiring.Short.{Short}
use Rattle.partition.proofs.Members.{In, In-append_cases, In-map_cases, In-filter_cases, In-flat_map_cases, In-filter_map_cases, has-In, In-has, In-enumerate}
use Rattle.partition.proofs.classes.ClassLaws.{has-points_below}
use Rattle.partition.proofs.classes.Labels.{and_left, and_right}
use Rattle.partition.proofs.tables.NetLaws.{NetFacts, same_net}
use Rattle.difference.proofs.RebuildLaw.{some_when}
use Rattle.partition.proofs.tables.NetLaws.{net_facts, judged-ascends, All-In}
use Rattle.partition.proofs.InTurn.{InTurn, All-from_In, In-get_or, AllPairs-from_InTurn, InTurn-weaken, InTurn-map, InTurn-filter, InTurn-flat_map, InTurn-enumerate, InTurn-found, InTurn-from_increasing, increasing-from_InTurn, InTurn-from_ascends, InTurn-apart, length-filter_any, length-distinct_le, length-le-sum_by, first_of_some}

-- numbered nets, in order of their numbers
abbrev NumberedBefore : ℕ × List ℕ → ℕ × List ℕ → Type 0
NumberedBefore n o = n.0 < o.0

-- ---- of a table

module _ (t : NetTable) (ok : IsNetTable t) where
  abbrev js : List ℕ
  js = judged_points t

  facts : NetFacts t
  facts = net_facts t ok

  -- a numbered net is a net
  numbered_net : (n : ℕ × List ℕ) → In n (numbered_nets t) → In n.1 (all_nets t)
  numbered_net n i = let k = In-enumerate 0 n.0 n.1 (all_nets t) i in subst (λ net. In net (all_nets t)) (k.3 []) (In-get_or k.0 [] (all_nets t) k.2)

  -- its points ascend
  net_ascends : (n : ℕ × List ℕ) → In n (numbered_nets t) → InTurn (λ x y. x < y) n.1
  net_ascends n i =
      elim (In-append_cases n.1 t.named (map (λ p. p ∷ []) (filter (λ p. not (list_any (λ net. has net p) t.named)) js)) (numbered_net n i)) [
        | inl l ↦ InTurn-from_increasing n.1 (All-In IsStrictlyIncreasing n.1 t.named ok.ascending l)
        | inr r ↦
            let s = In-map_cases (λ p. p ∷ []) n.1 (filter (λ p. not (list_any (λ net. has net p) t.named)) js) r in
            subst (λ (net : List ℕ). InTurn (λ x y. x < y) net) s.2 (λ y j. absurd j, tt)
      ]

  -- and are points
  net_judged : (n : ℕ × List ℕ) (p : ℕ) → In n (numbered_nets t) → In p n.1 → In p js
  net_judged n p i h = has-In p js (facts.judged_in n p i (In-has p n.1 h))

  judged_below : (p : ℕ) → In p js → p < t.points
  judged_below p i = facts.below p (In-has p js i)

  judged_count : length js ≤ t.points
  judged_count =
      let few =
      length-distinct_le js (points_below t.points) (InTurn-apart js (InTurn-from_ascends 0 js (judged-ascends t)))
      (λ p i. has-In p (points_below t.points) (has-points_below t.points p (judged_below p i))) in
      let all = length-range_with_len 0 t.points in
      omega arith

  heads_differ : (n o : ℕ × List ℕ) → In n (numbered_nets t) → In o (numbered_nets t) → n.0 < o.0 → head_of n.1 ≢ head_of o.1
  heads_differ n o i j l e =
      let one = facts.one_net n o (head_of n.1) i j (facts.head_in n i) (subst (λ z. has o.1 z ≡ true) (sym e) (facts.head_in o j)) in
      omega arith

  head_judged : (n : ℕ × List ℕ) → In n (numbered_nets t) → In (head_of n.1) js
  head_judged n i = net_judged n (head_of n.1) i (has-In _ n.1 (facts.head_in n i))

  -- there are no more nets than points that count, since their heads are different ones
  pub net_count-le : length (all_nets t) ≤ length js
  net_count-le =
      let few =
      length-distinct_le (map (λ (n : ℕ × List ℕ). head_of n.1) (numbered_nets t)) js
      (InTurn-map (λ (n : ℕ × List ℕ). head_of n.1) (λ x y. x ≢ y) (numbered_nets t)
      (InTurn-weaken NumberedBefore (λ n o. head_of n.1 ≢ head_of o.1) (numbered_nets t) heads_differ (InTurn-enumerate 0 (all_nets t))))
      (λ x i. let k = In-map_cases (λ (n : ℕ × List ℕ). head_of n.1) x (numbered_nets t) i in subst (λ z. In z js) k.2 (head_judged k.0 k.1)) in
      let heads = length-map (numbered_nets t) (λ (n : ℕ × List ℕ). head_of n.1) in
      let nets = length-enumerate_from 0 (all_nets t) in
      omega arith

  number_below : (n : ℕ × List ℕ) → In n (numbered_nets t) → n.0 < length (all_nets t)
  number_below n i =
      let k = In-enumerate 0 n.0 n.1 (all_nets t) i in
      let e = k.1 in
      let l = k.2 in
      omega arith

-- ---- of a difference from it: any list of class numbers will do, a partition or not

module _ (t : NetTable) (m : List ℕ) (ok : IsNetTable t) where
  -- where a piece comes from
  abbrev PieceFrom : Piece → Type 0
  PieceFrom x =
      (n : ℕ × List ℕ) × (a : ℕ) × In n (numbered_nets t) × In a (judged_points t) × (anchor_of t m (class_at m a) ≡ a)
      × (meets m n.1 (class_at m a) ≡ true) × (piece_at m n a ≡ x)

  piece_from : (x : Piece) → In x (pieces_of t m) → PieceFrom x
  piece_from x i =
      let j = In-flat_map_cases (pieces_of_net t m) x (numbered_nets t) i in
      let n = j.0 in
      let k = In-map_cases (piece_at m n) x (filter (has_piece m n) (anchors t m)) j.2 in
      let a = k.0 in
      let f = In-filter_cases (has_piece m n) a (anchors t m) k.1 in
      let g = In-filter_cases (λ q. anchor_of t m (class_at m q) == q) a (judged_points t) f.0 in
      (n, a, j.1, g.0, eqb-true (anchor_of t m (class_at m a)) a g.1, and_left (meets m n.1 (class_at m a)) _ f.1, k.2)

  -- the points of a piece ascend
  meeting_ascends : (n : ℕ × List ℕ) (c : ℕ) → In n (numbered_nets t) → InTurn (λ x y. x < y) (meeting m n.1 c)
  meeting_ascends n c i = InTurn-filter (λ p. class_at m p == c) (λ x y. x < y) n.1 (net_ascends t ok n i)

  piece_ascends : (x : Piece) → In x (pieces_of t m) → InTurn (λ p q. p < q) x.points
  piece_ascends x i = let f = piece_from x i in subst (λ (z : Piece). InTurn (λ p q. p < q) z.points) f.6 (meeting_ascends f.0 (class_at m f.1) f.2)

  meeting_in : (n : ℕ × List ℕ) (c p : ℕ) → In p (meeting m n.1 c) → In p n.1 × (class_at m p ≡ c)
  meeting_in n c p i = let f = In-filter_cases (λ q. class_at m q == c) p n.1 i in (f.0, eqb-true (class_at m p) c f.1)

  -- pieces stand in order of net, then of anchor
  net_pieces_in_turn : (n : ℕ × List ℕ) → InTurn PieceBefore (pieces_of_net t m n)
  net_pieces_in_turn n =
      InTurn-map (piece_at m n) PieceBefore (filter (has_piece m n) (anchors t m))
      (InTurn-weaken (λ a b. a < b) (λ a b. PieceBefore (piece_at m n a) (piece_at m n b)) (filter (has_piece m n) (anchors t m)) (λ a b i j l. inr (refl, l))
      (InTurn-filter (has_piece m n) (λ a b. a < b) (anchors t m)
      (InTurn-filter (λ p. anchor_of t m (class_at m p) == p) (λ a b. a < b) (judged_points t) (InTurn-from_ascends 0 (judged_points t) (judged-ascends t)))))

  net_of_piece : (n : ℕ × List ℕ) (x : Piece) → In x (pieces_of_net t m n) → n.0 ≡ x.net
  net_of_piece n x i = ap (λ (z : Piece). z.net) (In-map_cases (piece_at m n) x (filter (has_piece m n) (anchors t m)) i).2

  pieces_in_turn : InTurn PieceBefore (pieces_of t m)
  pieces_in_turn =
      InTurn-flat_map (pieces_of_net t m) NumberedBefore PieceBefore (numbered_nets t) (InTurn-enumerate 0 (all_nets t))
      (λ n i. net_pieces_in_turn n)
      (λ n o x y i j l u v. let a = net_of_piece n x u in let b = net_of_piece o y v in inl (omega arith))

  -- two pieces have no point in common
  pieces_apart : (x y : Piece) (p q : ℕ) → In x (pieces_of t m) → In y (pieces_of t m) → PieceBefore x y → In p x.points → In q y.points → p ≢ q
  pieces_apart x y p q i j before u v e =
      let f = piece_from x i in
      let g = piece_from y j in
      let u' = meeting_in f.0 (class_at m f.1) p (subst (λ (z : Piece). In p z.points) (sym f.6) u) in
      let v' = meeting_in g.0 (class_at m g.1) q (subst (λ (z : Piece). In q z.points) (sym g.6) v) in
      let net : (f.0).0 ≡ (g.0).0 =
      (facts t ok).one_net f.0 g.0 p f.2 g.2 (In-has p _ u'.0) (subst (λ z. has (g.0).1 z ≡ true) (sym e) (In-has q _ v'.0)) in
      let class : f.1 ≡ g.1 = sym f.4 ∙ ap (anchor_of t m) (sym u'.1 ∙ ap (class_at m) e ∙ v'.1) ∙ g.4 in
      let xn : (f.0).0 ≡ x.net = ap (λ (z : Piece). z.net) f.6 in
      let yn : (g.0).0 ≡ y.net = ap (λ (z : Piece). z.net) g.6 in
      let xc : f.1 ≡ x.class = ap (λ (z : Piece). z.class) f.6 in
      let yc : g.1 ≡ y.class = ap (λ (z : Piece). z.class) g.6 in
      elim before [ inl l ↦ omega arith | inr l ↦ let k = l.1 in omega arith ]

  -- so all points of all pieces are different points that count
  points_judged : (p : ℕ) → In p (flat_map (λ (x : Piece). x.points) (pieces_of t m)) → In p (judged_points t)
  points_judged p i =
      let j = In-flat_map_cases (λ (x : Piece). x.points) p (pieces_of t m) i in
      let f = piece_from j.0 j.1 in
      net_judged t ok f.0 p f.2 (meeting_in f.0 (class_at m f.1) p (subst (λ (z : Piece). In p z.points) (sym f.6) j.2)).0

  points_apart : InTurn (λ p q. p ≢ q) (flat_map (λ (x : Piece). x.points) (pieces_of t m))
  points_apart =
      InTurn-flat_map (λ (x : Piece). x.points) PieceBefore (λ p q. p ≢ q) (pieces_of t m) pieces_in_turn
      (λ x i. InTurn-apart x.points (piece_ascends x i))
      (λ x y p q i j before u v. pieces_apart x y p q i j before u v)

  pub piece_points-le : piece_points (pieces_of t m) ≤ length (judged_points t)
  piece_points-le =
      let all = length-distinct_le (flat_map (λ (x : Piece). x.points) (pieces_of t m)) (judged_points t) points_apart points_judged in
      subst (λ k. k ≤ length (judged_points t)) (length-flat_map (λ (x : Piece). x.points) (pieces_of t m)) all

  -- ---- shorts

  -- where a short comes from
  abbrev ShortFrom : ℕ × List ℕ → Short → Type 0
  ShortFrom n x =
      (head_of n.1 ≡ x.class) × (nets_at_home t m (home_of m n.1) ≡ x.nets) × (1 < length x.nets) × (slice_index x.nets 0 ≡ n.0)

  short_from : (n : ℕ × List ℕ) (x : Short) → short_at t m n ≡ Some x → ShortFrom n x
  short_from n x e =
      let homed = nets_at_home t m (home_of m n.1) in
      let w = some_when (slice_index_or homed 0 n.0 == n.0 && ltb 1 (length homed)) (record { class = head_of n.1; nets = homed }) x e in
      let many = ltb-true 1 (length homed) (and_right (slice_index_or homed 0 n.0 == n.0) _ w.0) in
      let first = eqb-true (slice_index_or homed 0 n.0) n.0 (and_left _ (ltb 1 (length homed)) w.0) in
      let nets : homed ≡ x.nets = ap (λ (z : Short). z.nets) w.1 in (
        ap (λ (z : Short). z.class) w.1,
        nets,
        subst (λ (z : List ℕ). 1 < length z) nets many,
        subst (λ (z : List ℕ). slice_index z 0 ≡ n.0) nets (first_of_some homed 0 n.0 (omega arith) ∙ first),
      )

  -- the nets of one home
  home_ascends : (c : ℕ) → InTurn (λ x y. x < y) (nets_at_home t m c)
  home_ascends c =
      InTurn-map (λ (n : ℕ × List ℕ). n.0) (λ x y. x < y) (filter (λ (n : ℕ × List ℕ). home_of m n.1 == c) (numbered_nets t))
      (InTurn-filter (λ (n : ℕ × List ℕ). home_of m n.1 == c) NumberedBefore (numbered_nets t) (InTurn-enumerate 0 (all_nets t)))

  short_ascends : (x : Short) → In x (shorts_of t m) → InTurn (λ k l. k < l) x.nets
  short_ascends x i =
      let j = In-filter_map_cases (short_at t m) x (numbered_nets t) i in
      let f = short_from j.0 x j.2 in
      subst (λ (z : List ℕ). InTurn (λ k l. k < l) z) f.1 (home_ascends (home_of m (j.0).1))

  home_net : (c k : ℕ) → In k (nets_at_home t m c) → (n : ℕ × List ℕ) × In n (numbered_nets t) × (n.0 ≡ k) × (home_of m n.1 ≡ c)
  home_net c k i =
      let j = In-map_cases (λ (n : ℕ × List ℕ). n.0) k (filter (λ (n : ℕ × List ℕ). home_of m n.1 == c) (numbered_nets t)) i in
      let f = In-filter_cases (λ (n : ℕ × List ℕ). home_of m n.1 == c) j.0 (numbered_nets t) j.1 in
      (j.0, f.0, j.2, eqb-true (home_of m (j.0).1) c f.1)

  home_below : (c k : ℕ) → In k (nets_at_home t m c) → k < length (all_nets t)
  home_below c k i = let h = home_net c k i in let l = number_below t ok h.0 h.1 in let e = h.2 in omega arith

  -- shorts stand in order of first net
  shorts_in_turn : InTurn ShortBefore (shorts_of t m)
  shorts_in_turn = InTurn-found (short_at t m) (λ (x : Short). slice_index x.nets 0) (λ n x e. (short_from n x e).3) 0 (all_nets t)

  -- two shorts have no net in common
  shorts_apart : (x y : Short) (k l : ℕ) → In x (shorts_of t m) → In y (shorts_of t m) → ShortBefore x y → In k x.nets → In l y.nets → k ≢ l
  shorts_apart x y k l i j before u v e =
      let a = In-filter_map_cases (short_at t m) x (numbered_nets t) i in
      let b = In-filter_map_cases (short_at t m) y (numbered_nets t) j in
      let f = short_from a.0 x a.2 in
      let g = short_from b.0 y b.2 in
      let c = home_net (home_of m (a.0).1) k (subst (λ (z : List ℕ). In k z) (sym f.1) u) in
      let d = home_net (home_of m (b.0).1) l (subst (λ (z : List ℕ). In l z) (sym g.1) v) in
      let net = same_net t c.0 d.0 c.1 d.1 (c.2 ∙ e ∙ sym d.2) in
      let home : home_of m (a.0).1 ≡ home_of m (b.0).1 = sym c.3 ∙ ap (home_of m) net ∙ d.3 in
      let nets : x.nets ≡ y.nets = sym f.1 ∙ ap (nets_at_home t m) home ∙ g.1 in
      let first : slice_index x.nets 0 ≡ slice_index y.nets 0 = ap (λ (z : List ℕ). slice_index z 0) nets in
      omega arith

  nets_apart : InTurn (λ k l. k ≢ l) (flat_map (λ (x : Short). x.nets) (shorts_of t m))
  nets_apart =
      InTurn-flat_map (λ (x : Short). x.nets) ShortBefore (λ k l. k ≢ l) (shorts_of t m) shorts_in_turn
      (λ x i. InTurn-apart x.nets (short_ascends x i))
      (λ x y k l i j before u v. shorts_apart x y k l i j before u v)

  nets_numbered : (k : ℕ) → In k (flat_map (λ (x : Short). x.nets) (shorts_of t m)) → In k (points_below (length (all_nets t)))
  nets_numbered k i =
      let j = In-flat_map_cases (λ (x : Short). x.nets) k (shorts_of t m) i in
      let a = In-filter_map_cases (short_at t m) j.0 (numbered_nets t) j.1 in
      let f = short_from a.0 j.0 a.2 in
      has-In k _ (has-points_below (length (all_nets t)) k (home_below (home_of m (a.0).1) k (subst (λ (z : List ℕ). In k z) (sym f.1) j.2)))

  pub short_nets-le : short_nets (shorts_of t m) ≤ length (all_nets t)
  short_nets-le =
      let all = length-distinct_le (flat_map (λ (x : Short). x.nets) (shorts_of t m)) (points_below (length (all_nets t))) nets_apart nets_numbered in
      let range = length-range_with_len 0 (length (all_nets t)) in
      let flat = length-flat_map (λ (x : Short). x.nets) (shorts_of t m) in
      omega arith

-- ---- below a bound

module _ (t : NetTable) (m : List ℕ) (most : ℕ) (ok : IsNetTable t) (few : t.points ≤ most) where
  piece_within : (x : Piece) → In x (pieces_of t m) → PieceWithin most x
  piece_within x i =
      let f = piece_from t m ok x i in
      let n = f.0 in
      let a = f.1 in
      let c = class_at m a in
      let number = number_below t ok n f.2 in
      let nets = net_count-le t ok in
      let judged = judged_count t ok in
      let anchor = judged_below t ok a f.3 in
      let within : PieceWithin most (piece_at m n a) = (
        omega arith,
        omega arith,
        All-from_In (λ p. p < most) (meeting m n.1 c) (λ p j. let b = judged_below t ok p (net_judged t ok n p f.2 (meeting_in t m ok n c p j).0) in omega arith),
        increasing-from_InTurn (meeting m n.1 c) (meeting_ascends t m ok n c f.2),
        length-filter_any (λ p. class_at m p == c) n.1 f.5,
      ) in
      subst (λ (z : Piece). PieceWithin most z) f.6 within

  -- some of the pieces
  pieces_within : (test : Piece → Bool) → piece_points (filter test (pieces_of t m)) ≤ most → PiecesWithin most (filter test (pieces_of t m))
  pieces_within test total =
      let of_all : (x : Piece) → In x (filter test (pieces_of t m)) → PieceWithin most x = λ x i. piece_within x (In-filter_cases test x (pieces_of t m) i).0 in
      let long = length-le-sum_by (λ (x : Piece). length x.points) (filter test (pieces_of t m)) (λ x i. (of_all x i).4) in (
        omega arith,
        All-from_In (PieceWithin most) (filter test (pieces_of t m)) of_all,
        AllPairs-from_InTurn PieceBefore (filter test (pieces_of t m)) (InTurn-filter test PieceBefore (pieces_of t m) (pieces_in_turn t m ok)),
      )

  both_points : piece_points (opens_of t m) + piece_points (miswires_of t m) ≤ most
  both_points =
      let all = sum_by-filter_both (is_miswire t m) (λ x. not (is_miswire t m x)) (λ x. refl) (λ (x : Piece). length x.points) (pieces_of t m) in
      let total = piece_points-le t m ok in
      let judged = judged_count t ok in
      omega arith

  short_within : (x : Short) → In x (shorts_of t m) → ShortWithin most x
  short_within x i =
      let j = In-filter_map_cases (short_at t m) x (numbered_nets t) i in
      let n = j.0 in
      let f = short_from t m ok n x j.2 in
      let head = judged_below t ok (head_of n.1) (head_judged t ok n j.1) in
      let class = f.0 in
      let many = f.2 in
      let nets = net_count-le t ok in
      let judged = judged_count t ok in (
        omega arith,
        All-from_In (λ k. k < most) x.nets (λ k h. let b = home_below t m ok (home_of m n.1) k (subst (λ (z : List ℕ). In k z) (sym f.1) h) in omega arith),
        increasing-from_InTurn x.nets (short_ascends t m ok x i),
        omega arith,
      )

  all_short_nets : short_nets (shorts_of t m) ≤ most
  all_short_nets =
      let all = short_nets-le t m ok in
      let nets = net_count-le t ok in
      let judged = judged_count t ok in
      omega arith

  shorts_within : ShortsWithin most (shorts_of t m)
  shorts_within =
      let long = length-le-sum_by (λ (x : Short). length x.nets) (shorts_of t m) (λ x i. let two = (short_within x i).3 in omega arith) in
      let all = all_short_nets in (
        omega arith,
        All-from_In (ShortWithin most) (shorts_of t m) short_within,
        AllPairs-from_InTurn ShortBefore (shorts_of t m) (shorts_in_turn t m ok),
      )

  -- the law
  pub difference-within : DifferenceWithin most (difference_of t m)
  difference-within =
      let points = both_points in
      record {
        opens_in = pieces_within (λ x. not (is_miswire t m x)) (omega arith);
        shorts_in = shorts_within;
        miswires_in = pieces_within (is_miswire t m) (omega arith);
        all_points = both_points;
        all_nets = all_short_nets;
      }
