-- The partition that a difference describes is the one that it was made of.
use Rattle.std.proofs.Common.{◌≡◌, ◌≢◌, ◌⊎◌, ℕ, Bool, true, false, cond, not, ◌&&◌, ◌==◌, List, [], ◌∷◌, ◌++◌, length, refl, sym, ◌∙◌, ap, subst, inl, inr, arith, filter, Some, None, slice_index_or, ltb}
use Rattle.std.proofs.Math.Bool.{or-true}
use Rattle.std.proofs.lemmas.Bool.{eqb-true, eq-eqb, lt-ltb}
use Rattle.std.proofs.lemmas.Bool.Decides.{eqb_tells}
use Rattle.partition.specs.Classes.{has, class_at, IsPartition}
use Rattle.partition.specs.NetTable.{NetTable, all_nets, head_of, net_at, judged_points}
use Rattle.partition.specs.NetTable.{numbered_nets}
use Rattle.difference.specs.Difference.{home_of, meeting, meets, nets_at_home, anchor_of, anchors, piece_at, has_piece, short_at, pieces_of, pieces_of_net, is_miswire, opens_of, miswires_of, shorts_of, difference_of}
use Rattle.partition.specs.NetTable.{head_at}
use Rattle.difference.specs.Rebuild.{short_label, label_of, rebuilt}
use Rattle.difference.specs.declared.wiring.Piece.{Piece}
use Rattle.difference.specs.declared.wiring.Short.{Short}
use Rattle.partition.proofs.Members.{In, In-append_left, In-append_right, In-append_cases, In-map, In-map_cases, In-filter, In-filter_cases, In-flat_map, In-flat_map_cases, In-filter_map, In-filter_map_cases, has-In, In-has}
use Rattle.partition.proofs.classes.ClassLaws.{classes_by-agree, eqb-agree, partition-own}
use Rattle.partition.proofs.classes.Labels.{and_left, and_right, not_true, false_not, neq-eqb, eqb_false, last_label-all, last_label-none, first_found}
use Rattle.partition.proofs.tables.NetLaws.{NetFacts, same_net}

pub some_when : {X : Type 0} (b : Bool) (r x : X) → cond b (Some r) None ≡ Some x → (b ≡ true) × (r ≡ x)
some_when true r x e = (refl, cc)
some_when false r x e = cc

-- a list with a member besides its first item has two items or more
two_items : (k i : ℕ) (rest : List ℕ) → In i (k ∷ rest) → k ≢ i → ltb 1 (length (k ∷ rest)) ≡ true
two_items k i rest (inl e) d = absurd (d e)
two_items k i [] (inr h) d = absurd h
two_items k i (z ∷ zs) (inr h) d = lt-ltb 1 (length (k ∷ z ∷ zs)) (omega arith)

-- at a `true` that holds both parts
both_true : (a b : Bool) → a ≡ true → b ≡ true → (a && b) ≡ true
both_true a b h k = rw (h, k) refl

-- a net meets the class of its point
meets_in : (m xs : List ℕ) (q d : ℕ) → In q xs → class_at m q ≡ d → meets m xs d ≡ true
meets_in m [] q d h e = absurd h
meets_in m (x ∷ xs) q d (inl s) e = rw (eq-eqb (class_at m x) d (ap (class_at m) s ∙ e)) refl
meets_in m (x ∷ xs) q d (inr h) e = rw (meets_in m xs q d h e) (or-true _)

pub meets_true : (m xs : List ℕ) (q d : ℕ) → has xs q ≡ true → class_at m q ≡ d → meets m xs d ≡ true
meets_true m xs q d h e = meets_in m xs q d (has-In q xs h) e

module _ (t : NetTable) (m : List ℕ) (facts : NetFacts t) (is : IsPartition (judged_points t) t.points m) where
  -- the anchor of a point's class is a judged point of that class
  pub anchor_class : (p : ℕ) → has (judged_points t) p ≡ true →
      (class_at m (anchor_of t m (class_at m p)) ≡ class_at m p) × (has (judged_points t) (anchor_of t m (class_at m p)) ≡ true)
  anchor_class p k =
      elim (first_found (λ net. home_of m net == class_at m p) 0 (all_nets t)) [
        | inl none ↦
            let e : anchor_of t m (class_at m p) ≡ class_at m p = rw none.0 refl in
            let o = partition-own (judged_points t) t.points m p is facts.below k in
            (ap (class_at m) e ∙ o.0, ap (has (judged_points t)) e ∙ o.1)
        | inr f ↦
            let e : anchor_of t m (class_at m p) ≡ head_of f.1 = rw f.3 refl in
            let home = eqb-true (home_of m f.1) (class_at m p) f.5 in
            let head = facts.head_in (f.0, f.1) f.4 in
            (ap (class_at m) e ∙ home, ap (has (judged_points t)) e ∙ facts.judged_in (f.0, f.1) (head_of f.1) f.4 head)
      ]

  -- what holds of a piece that has the point p
  abbrev PieceAt : ℕ → Piece → Type 0
  PieceAt p x =
      (n : ℕ × List ℕ) × In n (numbered_nets t) × (has n.1 p ≡ true) × (class_at m x.class ≡ class_at m p)
      × (class_at m p ≢ home_of m n.1) × (anchor_of t m (class_at m x.class) ≡ x.class)

  piece_facts : (p : ℕ) (x : Piece) → In x (pieces_of t m) → has x.points p ≡ true → PieceAt p x
  piece_facts p x i h =
      let j = In-flat_map_cases (pieces_of_net t m) x (numbered_nets t) i in
      let n = j.0 in
      let k = In-map_cases (piece_at m n) x (filter (has_piece m n) (anchors t m)) j.2 in
      let a = k.0 in
      let f = In-filter_cases (has_piece m n) a (anchors t m) k.1 in
      let g = In-filter_cases (λ q. anchor_of t m (class_at m q) == q) a (judged_points t) f.0 in
      let h' : has (meeting m n.1 (class_at m a)) p ≡ true = subst (λ (z : Piece). has z.points p ≡ true) (sym k.2) h in
      let q = In-filter_cases (λ r. class_at m r == class_at m a) p n.1 (has-In p _ h') in
      let same = eqb-true (class_at m p) (class_at m a) q.1 in
      let away : class_at m a ≢ home_of m n.1 = eqb_false _ _ (not_true _ (and_right (meets m n.1 (class_at m a)) _ f.1)) in
      let found : PieceAt p (piece_at m n a) =
      (n, j.1, In-has p n.1 q.0, sym same, λ e. away (sym same ∙ e), eqb-true (anchor_of t m (class_at m a)) a g.1) in
      subst (λ (z : Piece). PieceAt p z) k.2 found

  -- an open or a miswire is a piece
  all_pieces : (x : Piece) → In x (opens_of t m ++ miswires_of t m) → In x (pieces_of t m)
  all_pieces x i =
      elim (In-append_cases x (opens_of t m) (miswires_of t m) i) [
        | inl l ↦ (In-filter_cases (λ z. not (is_miswire t m z)) x (pieces_of t m) l).0
        | inr r ↦ (In-filter_cases (is_miswire t m) x (pieces_of t m) r).0
      ]

  -- and the other way
  piece_listed : (x : Piece) (b : Bool) → is_miswire t m x ≡ b → In x (pieces_of t m) → In x (opens_of t m ++ miswires_of t m)
  piece_listed x true e i = In-append_right x (opens_of t m) (miswires_of t m) (In-filter (is_miswire t m) x (pieces_of t m) i e)
  piece_listed x false e i =
      In-append_left x (opens_of t m) (miswires_of t m) (In-filter (λ z. not (is_miswire t m z)) x (pieces_of t m) i (false_not _ e))

  -- the net of a point, with its number
  abbrev net_of : ℕ → ℕ × List ℕ
  net_of p = (net_at t p, slice_index_or (all_nets t) (net_at t p) [])

  -- a short that names a net has the anchor of that net's home
  short_facts : (n : ℕ × List ℕ) (x : Short) → In n (numbered_nets t) → In x (shorts_of t m) → has x.nets n.0 ≡ true →
      x.class ≡ anchor_of t m (home_of m n.1)
  short_facts n x i h named =
      let j = In-filter_map_cases (short_at t m) x (numbered_nets t) h in
      let o = j.0 in
      let c = home_of m o.1 in
      let homed = nets_at_home t m c in
      let w = some_when (slice_index_or homed 0 o.0 == o.0 && ltb 1 (length homed)) (record { class = head_of o.1; nets = homed }) x j.2 in
      let named' : has homed n.0 ≡ true = subst (λ (z : Short). has z.nets n.0 ≡ true) (sym w.1) named in
      let k = In-map_cases (λ (z : ℕ × List ℕ). z.0) n.0 (filter (λ (z : ℕ × List ℕ). home_of m z.1 == c) (numbered_nets t)) (has-In n.0 homed named') in
      let q = In-filter_cases (λ (z : ℕ × List ℕ). home_of m z.1 == c) k.0 (numbered_nets t) k.1 in
      let net : (k.0).1 ≡ n.1 = same_net t k.0 n q.0 i k.2 in
      let home : home_of m n.1 ≡ c = ap (home_of m) (sym net) ∙ eqb-true _ _ q.1 in
      let class : head_of o.1 ≡ x.class = ap (λ (z : Short). z.class) w.1 in
      elim (first_found (λ z. home_of m z == c) 0 (all_nets t)) [
        | inl none ↦ absurd (subst (λ (z : List ℕ). In n.0 z) none.1 (has-In n.0 homed named'))
        | inr f ↦
            let first : slice_index_or homed 0 o.0 ≡ o.0 = eqb-true _ _ (and_left _ (ltb 1 (length homed)) w.0) in
            let number : f.0 ≡ o.0 = sym (ap (λ (z : List ℕ). slice_index_or z 0 o.0) f.6) ∙ first in
            let same : f.1 ≡ o.1 = same_net t (f.0, f.1) o f.4 j.1 number in
            let anchor : anchor_of t m c ≡ head_of f.1 = rw f.3 refl in
            sym class ∙ sym (ap head_of same) ∙ sym anchor ∙ ap (anchor_of t m) (sym home)
      ]

  -- a net is the first of its home, or a short names it
  short_exists : (n : ℕ × List ℕ) → In n (numbered_nets t) →
      (head_of n.1 ≡ anchor_of t m (home_of m n.1)) ⊎ ((x : Short) × In x (shorts_of t m) × (has x.nets n.0 ≡ true))
  short_exists n i =
      let c = home_of m n.1 in
      let homed = nets_at_home t m c in
      let member : In n.0 homed =
      In-map (λ (z : ℕ × List ℕ). z.0) n (filter (λ (z : ℕ × List ℕ). home_of m z.1 == c) (numbered_nets t))
      (In-filter (λ (z : ℕ × List ℕ). home_of m z.1 == c) n (numbered_nets t) i (eq-eqb c c refl)) in
      elim (first_found (λ z. home_of m z == c) 0 (all_nets t)) [
        | inl none ↦ absurd (subst (λ (z : List ℕ). In n.0 z) none.1 member)
        | inr f ↦
            let anchor : anchor_of t m c ≡ head_of f.1 = rw f.3 refl in
            elim (eqb_tells f.0 n.0) [
              | inl e ↦ inl (ap head_of (same_net t n (f.0, f.1) i f.4 (sym e.1)) ∙ sym anchor)
              | inr e ↦
                  let home : home_of m f.1 ≡ c = eqb-true _ _ f.5 in
                  let list : nets_at_home t m (home_of m f.1) ≡ f.0 ∷ f.2 = ap (nets_at_home t m) home ∙ f.6 in
                  let more = two_items f.0 n.0 f.2 (subst (λ (z : List ℕ). In n.0 z) f.6 member) e.1 in
                  let test : (slice_index_or (nets_at_home t m (home_of m f.1)) 0 f.0 == f.0 && ltb 1 (length (nets_at_home t m (home_of m f.1)))) ≡ true =
                  subst (λ (z : List ℕ). (slice_index_or z 0 f.0 == f.0 && ltb 1 (length z)) ≡ true) (sym list) (both_true _ _ (eq-eqb f.0 f.0 refl) more) in
                  let made : short_at t m (f.0, f.1) ≡ Some (record { class = head_of f.1; nets = nets_at_home t m (home_of m f.1) }) = rw test refl in
                  let x : Short = record { class = head_of f.1; nets = nets_at_home t m (home_of m f.1) } in
                  inr (
                    x,
                    In-filter_map (short_at t m) (f.0, f.1) x (numbered_nets t) f.4 made,
                    In-has n.0 (nets_at_home t m (home_of m f.1)) (subst (λ (z : ℕ). In n.0 (nets_at_home t m z)) (sym home) member),
                  )
            ]
      ]

  -- at a point in its net's home no piece has the point, so the shorts decide
  home_label : (p : ℕ) → has (judged_points t) p ≡ true → class_at m p ≡ home_of m (net_of p).1 →
      label_of t (difference_of t m) p ≡ anchor_of t m (class_at m p)
  home_label p k home =
      last_label-none (λ (x : Piece). has x.points p) (λ (x : Piece). x.class)
      (short_label (shorts_of t m) (net_at t p) (head_at t p)) (opens_of t m ++ miswires_of t m)
      (λ x i. none x (has x.points p) refl (all_pieces x i))
      ∙ last_label-all (λ (x : Short). has x.nets (net_at t p)) (λ (x : Short). x.class) (anchor_of t m (class_at m p)) (head_at t p) (shorts_of t m)
      (λ x i named. short_facts (net_of p) x (facts.numbered_at p k) i named ∙ ap (anchor_of t m) (sym home))
      (elim (short_exists (net_of p) (facts.numbered_at p k)) [
        | inl e ↦ inl (e ∙ ap (anchor_of t m) (sym home))
        | inr x ↦ inr x
      ])
    where
      none : (x : Piece) (b : Bool) → has x.points p ≡ b → In x (pieces_of t m) → has x.points p ≡ false
      none x false e i = e
      none x true e i =
          let f = piece_facts p x i e in
          let number = facts.one_net f.0 (net_of p) p f.1 (facts.numbered_at p k) f.2 (facts.has_at p k) in
          let net = same_net t f.0 (net_of p) f.1 (facts.numbered_at p k) number in
          absurd (f.4 (home ∙ ap (home_of m) (sym net)))

  -- at any other point a piece has the point, and all that have it have the class's anchor
  piece_label_is : (p : ℕ) → has (judged_points t) p ≡ true → class_at m p ≢ home_of m (net_of p).1 →
      label_of t (difference_of t m) p ≡ anchor_of t m (class_at m p)
  piece_label_is p k away =
      let c = class_at m p in
      let a = anchor_of t m c in
      let n = net_of p in
      let at = anchor_class p k in
      let anchored : In a (anchors t m) =
      In-filter (λ q. anchor_of t m (class_at m q) == q) a (judged_points t) (has-In a (judged_points t) at.1)
      (eq-eqb _ _ (ap (anchor_of t m) at.0)) in
      let touches : meets m n.1 (class_at m a) ≡ true = meets_true m n.1 p (class_at m a) (facts.has_at p k) (sym at.0) in
      let other : not (class_at m a == home_of m n.1) ≡ true = false_not _ (neq-eqb _ _ (λ e. away (sym at.0 ∙ e))) in
      let piece : In (piece_at m n a) (pieces_of t m) =
      In-flat_map (pieces_of_net t m) n (piece_at m n a) (numbered_nets t) (facts.numbered_at p k)
      (In-map (piece_at m n) a (filter (has_piece m n) (anchors t m)) (In-filter (has_piece m n) a (anchors t m) anchored (both_true _ _ touches other))) in
      let holds : has (meeting m n.1 (class_at m a)) p ≡ true =
      In-has p _ (In-filter (λ r. class_at m r == class_at m a) p n.1 (has-In p n.1 (facts.has_at p k)) (eq-eqb _ _ (sym at.0))) in
      last_label-all (λ (x : Piece). has x.points p) (λ (x : Piece). x.class) a
      (short_label (shorts_of t m) (net_at t p) (head_at t p)) (opens_of t m ++ miswires_of t m)
      (λ x i h. let f = piece_facts p x (all_pieces x i) h in sym f.5 ∙ ap (anchor_of t m) f.3)
      (inr (piece_at m n a, piece_listed (piece_at m n a) (is_miswire t m (piece_at m n a)) refl piece, holds))

  -- so each point's label is the anchor of its class
  label_is : (p : ℕ) → has (judged_points t) p ≡ true → label_of t (difference_of t m) p ≡ anchor_of t m (class_at m p)
  label_is p k =
      elim (eqb_tells (class_at m p) (home_of m (net_of p).1)) [ inl e ↦ home_label p k e.1 | inr e ↦ piece_label_is p k e.1 ]

  -- and the difference describes the partition
  pub rebuilt-difference : rebuilt t (difference_of t m) ≡ m
  rebuilt-difference =
      classes_by-agree (judged_points t) t.points (label_of t (difference_of t m)) (class_at m)
      (λ p q kp kq. eqb-agree _ _ _ _
      (λ e. sym (anchor_class q kq).0 ∙ ap (class_at m) (sym (label_is q kq) ∙ e ∙ label_is p kp) ∙ (anchor_class p kp).0)
      (λ e. label_is q kq ∙ ap (anchor_of t m) e ∙ sym (label_is p kp)))
      ∙ sym is
