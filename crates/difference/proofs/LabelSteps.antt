-- The labels of points, while a difference is written into them.
use Rattle.std.proofs.Common.{◌≡◌, inl, inr, ℕ, suc, ◌+◌, ◌<◌, ◌≤◌, ◌^◌, Bool, true, false, cond, not, ◌||◌, List, [], ◌∷◌, ◌++◌, length, get_or, set, map, filter, take, All, refl, sym, ◌∙◌, ap, subst, arith, eqb, get_or-set_same, get_or-set_other}
use Rattle.std.proofs.lemmas.List.{get_or_read, take_more, get_or_default}
use Rattle.std.proofs.lemmas.List.Sums.{fold-append}
use Rattle.std.proofs.lemmas.List.Folds.{list_any-append}
use Rattle.std.proofs.lemmas.Bool.{cases_eq, cases_Bool, eqb-true, eq-eqb, ne_eqb, cond-true, cond-false, not_from_false, not_from_true}
use Rattle.partition.specs.Classes.{points_below, has, class_at, no_class, judged_in, classes_by}
use Rattle.partition.specs.NetTable.{NetTable, IsNetTable, judged_points, net_at, net_count}
use Rattle.difference.specs.Measured.{net_of}
use Rattle.partition.specs.NetTable.{head_at}
use Rattle.difference.specs.Rebuild.{short_label, piece_label, label_of, rebuilt}
use Rattle.difference.specs.Labelling.{AreLabels, IsInRange, PieceIsOf, ShortIsOf}
use Rattle.partition.specs.Partitions.{IsLabel}
use Rattle.difference.specs.declared.wiring.Piece.{Piece}
use Rattle.difference.specs.declared.wiring.Short.{Short}
use Rattle.difference.specs.declared.wiring.Difference.{Difference}
use Rattle.partition.proofs.classes.ClassLaws.{classes_by-agree, points_below-AllBelow}
use Rattle.partition.proofs.Members.{In-has}
use Rattle.partition.proofs.tables.NetLaws.{index-In, judged-below, judged-is, net_facts}
use Rattle.std.proofs.lemmas.List.FromFn.{get_or-map-range_with_len}
use Rattle.partition.specs.Claims.{head_class}
use Rattle.partition.proofs.tables.KeptLemmas.{bools_agree, filter-agree, net_at-below, net_at-is}
use Rattle.partition.proofs.tables.NetClasses.{net_increasing, net_some, number_at}
use Rattle.partition.proofs.tables.NetClasses.{head_first}

or-false : (b : Bool) → (b || false) ≡ b
or-false true = refl
or-false false = refl

has-push : (xs : List ℕ) (p q : ℕ) → has (xs ++ p ∷ []) q ≡ (has xs q || eqb p q)
has-push xs p q = list_any-append (λ y. eqb y q) xs (p ∷ []) ∙ ap (λ (b : Bool). has xs q || b) (or-false (eqb p q))

has-take_more : (xs : List ℕ) (i p q : ℕ) → i < length xs → get_or xs i 0 ≡ p → has (take (i + 1) xs) q ≡ (has (take i xs) q || eqb p q)
has-take_more xs i p q l is = ap (λ (ys : List ℕ). has ys q) (take_more xs i 0 l ∙ ap (λ (y : ℕ). take i xs ++ y ∷ []) is) ∙ has-push (take i xs) p q

cond_or : {X : Type 0} (a b : Bool) (x y : X) → cond (a || b) x y ≡ cond b x (cond a x y)
cond_or true true x y = refl
cond_or true false x y = refl
cond_or false true x y = refl
cond_or false false x y = refl

-- ---- the points of one label

module _ (old labels next points : List ℕ) (i p at to : ℕ) where
  pub label_more : ((q : ℕ) → q < length old → class_at labels q ≡ cond (has (take i points) q) to (class_at old q)) → i < length points → p ≡ get_or points i p → at ≡ p → at < length labels →
      next ≡ set labels at to → (q : ℕ) → q < length old → class_at next q ≡ cond (has (take (i + 1) points) q) to (class_at old q)
  label_more before inside read same place is q l =
      let here : get_or points i 0 ≡ at = sym (get_or_read points i p inside read 0) ∙ sym same in
      let more : cond (has (take (i + 1) points) q) to (class_at old q) ≡ cond (eqb at q) to (cond (has (take i points) q) to (class_at old q)) =
      ap (λ (b : Bool). cond b to (class_at old q)) (has-take_more points i at q inside here) ∙ cond_or (has (take i points) q) (eqb at q) to (class_at old q) in
      elim (cases_eq at q) as (λ _. class_at next q ≡ cond (has (take (i + 1) points) q) to (class_at old q)) [
        | inl e ↦
            ap (λ (xs : List ℕ). class_at xs q) is
            ∙ ap (class_at (set labels at to)) (sym e)
            ∙ get_or-set_same labels at to no_class place
            ∙ sym (more ∙ cond-true (eqb at q) to _ (eq-eqb at q e))
        | inr ne ↦
            ap (λ (xs : List ℕ). class_at xs q) is
            ∙ get_or-set_other labels at q to no_class (λ e. ne (sym e))
            ∙ before q l
            ∙ sym (more ∙ cond-false (eqb at q) to _ (ne_eqb at q ne))
      ]

-- ---- one piece after another, and one short

piece_label-more : (pieces : List Piece) (i q l : ℕ) (x : Piece) → i < length pieces → x ≡ get_or pieces i x →
    piece_label (take (i + 1) pieces) q l ≡ cond (has x.points q) x.class (piece_label (take i pieces) q l)
piece_label-more pieces i q l x inside read =
    ap (λ (ps : List Piece). piece_label ps q l) (take_more pieces i x inside ∙ ap (λ (y : Piece). take i pieces ++ y ∷ []) (sym read))
    ∙ fold-append (λ (found : ℕ) (piece : Piece). cond (has piece.points q) piece.class found) l (take i pieces) (x ∷ [])

short_label-more : (shorts : List Short) (i net l : ℕ) (x : Short) → i < length shorts → x ≡ get_or shorts i x →
    short_label (take (i + 1) shorts) net l ≡ cond (has x.nets net) x.class (short_label (take i shorts) net l)
short_label-more shorts i net l x inside read =
    ap (λ (ps : List Short). short_label ps net l) (take_more shorts i x inside ∙ ap (λ (y : Short). take i shorts ++ y ∷ []) (sym read))
    ∙ fold-append (λ (found : ℕ) (short : Short). cond (has short.nets net) short.class found) l (take i shorts) (x ∷ [])

pub pieces_more : (old labels next : List ℕ) (pieces : List Piece) (i : ℕ) (x : Piece) → length labels ≡ length old →
    ((q : ℕ) → q < length old → class_at labels q ≡ piece_label (take i pieces) q (class_at old q)) → i < length pieces → x ≡ get_or pieces i x →
    ((q : ℕ) → q < length labels → class_at next q ≡ cond (has x.points q) x.class (class_at labels q)) →
    (q : ℕ) → q < length old → class_at next q ≡ piece_label (take (i + 1) pieces) q (class_at old q)
pieces_more old labels next pieces i x size before inside read now q l =
    now q (omega arith)
    ∙ ap (cond (has x.points q) x.class) (before q l)
    ∙ sym (piece_label-more pieces i q (class_at old q) x inside read)

module _ (t : NetTable) where
  pub shorts_more : (old labels next : List ℕ) (shorts : List Short) (i : ℕ) (x : Short) →
      ((q : ℕ) → has (judged_points t) q ≡ true → class_at labels q ≡ short_label (take i shorts) (net_at t q) (class_at old q)) → i < length shorts → x ≡ get_or shorts i x →
      ((q : ℕ) → has (judged_points t) q ≡ true → class_at next q ≡ cond (has x.nets (net_at t q)) x.class (class_at labels q)) →
      (q : ℕ) → has (judged_points t) q ≡ true → class_at next q ≡ short_label (take (i + 1) shorts) (net_at t q) (class_at old q)
  shorts_more old labels next shorts i x before inside read now q k =
      now q k
      ∙ ap (cond (has x.nets (net_at t q)) x.class) (before q k)
      ∙ sym (short_label-more shorts i (net_at t q) (class_at old q) x inside read)

  -- a net has a point exactly where it is the point's net
  net_has : (ok : IsNetTable t) (j q : ℕ) → j < net_count t → has (judged_points t) q ≡ true → has (net_of t j) q ≡ eqb j (net_at t q)
  net_has ok j q inside k =
      bools_agree (has (net_of t j) q) (eqb j (net_at t q))
      (λ h. eq-eqb j (net_at t q) (sym (net_at-is t ok q j k inside h)))
      (λ h. subst (λ (i : ℕ). has (net_of t i) q ≡ true) (sym (eqb-true j (net_at t q) h)) ((net_facts t ok).has_at q k))

  -- the points of a net are points of the table
  pub net_inside : (ok : IsNetTable t) (points : List ℕ) (j k e : ℕ) → j < net_count t → points ≡ net_of t j → k < length points → get_or points k e < t.points
  net_inside ok points j k e below is l =
      let member : has (net_of t j) (get_or points k e) ≡ true = ap (λ (xs : List ℕ). has xs (get_or points k e)) (sym is) ∙ In-has (get_or points k e) points (index-In k e points l) in
      judged-below t (get_or points k e) ((net_facts t ok).judged_in (j, net_of t j) (get_or points k e) (number_at t ok j below) member)

  pub short_more : (ok : IsNetTable t) (old labels next nets points : List ℕ) (i j class : ℕ) → length labels ≡ t.points →
      ((q : ℕ) → has (judged_points t) q ≡ true → class_at labels q ≡ cond (has (take i nets) (net_at t q)) class (class_at old q)) → i < length nets → j ≡ get_or nets i j → j < net_count t →
      points ≡ net_of t j → ((q : ℕ) → q < length labels → class_at next q ≡ cond (has points q) class (class_at labels q)) →
      (q : ℕ) → has (judged_points t) q ≡ true → class_at next q ≡ cond (has (take (i + 1) nets) (net_at t q)) class (class_at old q)
  short_more ok old labels next nets points i j class size before inside read below is now q k =
      let low = judged-below t q k in
      now q (omega arith)
      ∙ ap (λ (xs : List ℕ). cond (has xs q) class (class_at labels q)) is
      ∙ ap (λ (b : Bool). cond b class (class_at labels q)) (net_has ok j q below k)
      ∙ ap (cond (eqb j (net_at t q)) class) (before q k)
      ∙ sym (cond_or (has (take i nets) (net_at t q)) (eqb j (net_at t q)) class (class_at old q))
      ∙ sym (ap (λ (b : Bool). cond b class (class_at old q)) (has-take_more nets i j (net_at t q) inside (sym (get_or_read nets i j inside read 0))))

  -- ---- the points that do not count

  pub record LeftOut (old : List ℕ) (p : ℕ) (labels : List ℕ) : Type 0 where
    pub done : (q : ℕ) → q < p → class_at labels q ≡ cond (has (judged_points t) q) (class_at old q) no_class
    pub ahead : (q : ℕ) → p ≤ q → class_at labels q ≡ class_at old q

  pub left_skip : (old labels : List ℕ) (p : ℕ) → LeftOut old p labels → has (judged_points t) p ≡ true → LeftOut old (p + 1) labels
  left_skip old labels p s k = record {
    done = λ q l. elim (cases_eq q p) as (λ _. class_at labels q ≡ cond (has (judged_points t) q) (class_at old q) no_class) [
      | inl e ↦ s.ahead q (omega arith) ∙ sym (cond-true (has (judged_points t) q) (class_at old q) no_class (ap (has (judged_points t)) e ∙ k))
      | inr ne ↦ s.done q (omega arith)
    ];
    ahead = λ q l. s.ahead q (omega arith);
  }

  pub left_more : (old labels next : List ℕ) (p at : ℕ) → LeftOut old p labels → has (judged_points t) p ≡ false → at ≡ p → at < length labels → next ≡ set labels at no_class →
      LeftOut old (p + 1) next
  left_more old labels next p at s k same place is = record {
    done = λ q l. elim (cases_eq q p) as (λ _. class_at next q ≡ cond (has (judged_points t) q) (class_at old q) no_class) [
      | inl e ↦
          ap (λ (xs : List ℕ). class_at xs q) is
          ∙ ap (class_at (set labels at no_class)) (e ∙ sym same)
          ∙ get_or-set_same labels at no_class no_class place
          ∙ sym (cond-false (has (judged_points t) q) (class_at old q) no_class (ap (has (judged_points t)) e ∙ k))
      | inr ne ↦
          ap (λ (xs : List ℕ). class_at xs q) is
          ∙ get_or-set_other labels at q no_class no_class (λ e. ne (e ∙ same))
          ∙ s.done q (omega arith)
    ];
    ahead = λ q l. ap (λ (xs : List ℕ). class_at xs q) is ∙ get_or-set_other labels at q no_class no_class (λ e. absurd (omega arith)) ∙ s.ahead q (omega arith);
  }

-- ---- the heads of the nets

pub heads_are : (t : NetTable) → IsNetTable t → (labels : List ℕ) → labels ≡ map (head_class t) (points_below t.points) → (p : ℕ) → has (judged_points t) p ≡ true → class_at labels p ≡ head_at t p
heads_are t ok labels is p k =
    let inside = net_at-below t ok p k in
    let net = net_of t (net_at t p) in
    ap (λ (xs : List ℕ). class_at xs p) is
    ∙ get_or-map-range_with_len (head_class t) 0 t.points p p no_class (judged-below t p k) (omega arith)
    ∙ cond-true (has (judged_points t) p) (get_or net 0 0) no_class k
    ∙ head_first net (get_or net 0 0) (net_some t ok (net_at t p) inside) (net_increasing t ok (net_at t p) inside) (get_or_default net 0 0 (get_or net 0 0) (net_some t ok (net_at t p) inside))

-- ---- all of a difference

piece_label-below : (n q l : ℕ) (pieces : List Piece) → All (PieceIsOf n) pieces → l < n → piece_label pieces q l < n
piece_label-below n q l [] of low = low
piece_label-below n q l (x ∷ xs) of low =
    piece_label-below n q (cond (has x.points q) x.class l) xs (λ k d inside. of (suc k) d (omega arith)) (at (has x.points q))
  where
    at : (b : Bool) → cond b x.class l < n
    at true = (of 0 x (omega arith)).class
    at false = low

short_label-below : (n k net l : ℕ) (shorts : List Short) → All (ShortIsOf n k) shorts → l < n → short_label shorts net l < n
short_label-below n k net l [] of low = low
short_label-below n k net l (x ∷ xs) of low =
    short_label-below n k net (cond (has x.nets net) x.class l) xs (λ i d inside. of (suc i) d (omega arith)) (at (has x.nets net))
  where
    at : (b : Bool) → cond b x.class l < n
    at true = (of 0 x (omega arith)).class
    at false = low

module _ (t : NetTable) (d : Difference) where
  label-split : (p : ℕ) → label_of t d p ≡ piece_label d.miswires p (piece_label d.opens p (short_label d.shorts (net_at t p) (head_at t p)))
  label-split p = fold-append (λ (found : ℕ) (piece : Piece). cond (has piece.points p) piece.class found) (short_label d.shorts (net_at t p) (head_at t p)) d.opens d.miswires

  pub labelled : (first second third fourth last : List ℕ) → length first ≡ t.points → length second ≡ t.points → length third ≡ t.points → length fourth ≡ t.points → length last ≡ t.points →
      ((p : ℕ) → has (judged_points t) p ≡ true → class_at first p ≡ head_at t p) →
      ((p : ℕ) → has (judged_points t) p ≡ true → class_at second p ≡ short_label d.shorts (net_at t p) (class_at first p)) →
      ((p : ℕ) → p < length second → class_at third p ≡ piece_label d.opens p (class_at second p)) →
      ((p : ℕ) → p < length third → class_at fourth p ≡ piece_label d.miswires p (class_at third p)) →
      ((p : ℕ) → p < length fourth → class_at last p ≡ cond (has (judged_points t) p) (class_at fourth p) no_class) → AreLabels t d last
  labelled first second third fourth last s1 s2 s3 s4 s5 heads shorts opens miswires out = record {
    size = s5;
    label = λ p k.
        let low = judged-below t p k in
        out p (omega arith)
        ∙ cond-true (has (judged_points t) p) (class_at fourth p) no_class k
        ∙ miswires p (omega arith)
        ∙ ap (piece_label d.miswires p) (opens p (omega arith) ∙ ap (piece_label d.opens p) (shorts p k ∙ ap (short_label d.shorts (net_at t p)) (heads p k)))
        ∙ sym (label-split p);
    none = λ p low h. out p (omega arith) ∙ cond-false (has (judged_points t) p) (class_at fourth p) no_class h;
  }

module _ (t : NetTable) (d : Difference) (ok : IsNetTable t) (range : IsInRange t d) (few : t.points < 2 ^ 16) where
  head_below : (p : ℕ) → has (judged_points t) p ≡ true → head_at t p < t.points
  head_below p k =
      let facts = net_facts t ok in
      judged-below t (head_at t p) (facts.judged_in (net_at t p, net_of t (net_at t p)) (head_at t p) (facts.numbered_at p k) (facts.head_in (net_at t p, net_of t (net_at t p)) (facts.numbered_at p k)))

  label-below : (p : ℕ) → has (judged_points t) p ≡ true → label_of t d p < t.points
  label-below p k =
      let low =
      piece_label-below t.points p (piece_label d.opens p (short_label d.shorts (net_at t p) (head_at t p))) d.miswires range.miswires
      (piece_label-below t.points p (short_label d.shorts (net_at t p) (head_at t p)) d.opens range.opens
      (short_label-below t.points (net_count t) (net_at t p) (head_at t p) d.shorts range.shorts (head_below p k))) in
      omega (arith, label-split t d p)

  module _ (labels : List ℕ) (s : AreLabels t d labels) where
    pub labels_are : All (IsLabel (length labels)) labels
    labels_are k e l =
        let size = s.size in
        let at : get_or labels k e ≡ class_at labels k = get_or_default labels k e no_class l in
        elim (cases_Bool (has (judged_points t) k)) as (λ _. IsLabel (length labels) (get_or labels k e)) [
          | inl h ↦ let low = label-below k h in inl (omega (arith, s.label k h))
          | inr h ↦ inr (at ∙ s.none k (omega arith) h)
        ]

    judged_same : judged_in labels ≡ judged_points t
    judged_same =
        ap (λ (n : ℕ). filter (λ p. not (eqb (class_at labels p) no_class)) (points_below n)) s.size
        ∙ filter-agree (λ p. not (eqb (class_at labels p) no_class)) (λ p. not (has t.ignored p)) (points_below t.points)
        (λ p i.
        let l = points_below-AllBelow t.points p (In-has p (points_below t.points) i) in
        sym (elim (cases_Bool (has (judged_points t) p)) as (λ _. not (has t.ignored p) ≡ not (eqb (class_at labels p) no_class)) [
          | inl h ↦
              let low = label-below p h in
              sym (judged-is t p l) ∙ h ∙ sym (not_from_false _ (ne_eqb (class_at labels p) no_class (λ e. absurd (omega (arith, s.label p h)))))
          | inr h ↦ sym (judged-is t p l) ∙ h ∙ sym (not_from_true _ (eq-eqb (class_at labels p) no_class (s.none p l h)))
        ]))

    pub rebuilt_is : (classes : List ℕ) → classes ≡ classes_by (judged_in labels) (length labels) (class_at labels) → classes ≡ rebuilt t d
    rebuilt_is classes is =
        is
        ∙ ap (λ (js : List ℕ). classes_by js (length labels) (class_at labels)) judged_same
        ∙ ap (λ (n : ℕ). classes_by (judged_points t) n (class_at labels)) s.size
        ∙ classes_by-agree (judged_points t) t.points (class_at labels) (label_of t d)
        (λ p q k h. ap (λ (x : ℕ). eqb x (class_at labels p)) (s.label q h) ∙ ap (eqb (label_of t d q)) (s.label p k))
