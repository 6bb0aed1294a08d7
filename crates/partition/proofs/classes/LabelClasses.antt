-- The classes of points by their labels, point by point.
use Rattle.std.proofs.Common.{◌≡◌, ◌≢◌, ◌⊎◌, inl, inr, ℕ, ◌+◌, ◌<◌, ◌≤◌, ◌^◌, Bool, true, false, cond, List, [], ◌∷◌, ◌++◌, length, get_or, set, replicate, find, refl, sym, ◌∙◌, ap, subst, arith, eqb, filter, not, Option, Some, None, All, add-one, get_or-set_other, get_or-set_same}
use Rattle.std.specs.Prelude.{unwrap_or}
use Rattle.std.proofs.lemmas.List.{get_or_append_left, get_or_push, length_push, length-set, get_or-replicate, length-replicate, same_lists, get_or_default}
use Rattle.std.proofs.lemmas.Bool.{cases_lt, cases_eq, eqb-true, eq-eqb, ne_eqb}
use Rattle.std.proofs.lemmas.List.FromFn.{get_or-map-range_with_len}
use Rattle.std.proofs.lemmas.Bool.{cases_Bool, not_from_false, not_from_true, cond-false}
use Rattle.partition.specs.Classes.{points_below, has, first_with, classes_by, class_at, judged_in, no_class}
use Rattle.partition.specs.Partitions.{IsPartitionValue}
use Rattle.partition.proofs.classes.JudgedPartition.{judged_in-ascends, judged_in-below, partition-classing}
use Rattle.partition.proofs.Members.{In-filter, In-filter_cases, has-In, In-has}
use Rattle.partition.proofs.classes.ClassLaws.{has-head, has-tail, has-points_below, points_below-AllBelow, class_at-classes_by, length-classes_by, classes_by-IsPartition}
use Rattle.partition.proofs.classes.HeadLemmas.{points_below-suc}
use Rattle.partition.proofs.classes.FieldLaw.{filter-true}

-- one more item
abbrev FoundMore : (ℕ → Bool) → List ℕ → ℕ → Type 0
FoundMore f xs y =
    ((find f xs ≡ None) × (find f (xs ++ y ∷ []) ≡ cond (f y) (Some y) None))
    ⊎ ((z : ℕ) × (find f xs ≡ Some z) × (find f (xs ++ y ∷ []) ≡ Some z))

found_at : (f : ℕ → Bool) (x : ℕ) (xs : List ℕ) (y : ℕ) (b : Bool) → f x ≡ b → FoundMore f xs y → FoundMore f (x ∷ xs) y
found_at f x xs y true e ih = inr (x, rw e refl, rw e refl)
found_at f x xs y false e (inl i) = inl (rw e i.0, rw e i.1)
found_at f x xs y false e (inr i) = inr (i.0, rw e i.1, rw e i.2)

found_more : (f : ℕ → Bool) (xs : List ℕ) (y : ℕ) → FoundMore f xs y
found_more f [] y = inl (refl, refl)
found_more f (x ∷ xs) y = found_at f x xs y (f x) refl (found_more f xs y)

found_here : (f : ℕ → Bool) (x : ℕ) (xs : List ℕ) (z : ℕ) (b : Bool) → f x ≡ b → (find f xs ≡ Some z → has xs z ≡ true) → find f (x ∷ xs) ≡ Some z → has (x ∷ xs) z ≡ true
found_here f x xs z true k ih e =
    let is : Some x ≡ Some z = rw k at e in
    let same : x ≡ z = cc in
    subst (λ (y : ℕ). has (x ∷ xs) y ≡ true) same (has-head x xs)
found_here f x xs z false k ih e = has-tail x z xs (ih (rw k at e))

find_has : (f : ℕ → Bool) (xs : List ℕ) (z : ℕ) → find f xs ≡ Some z → has xs z ≡ true
find_has f [] z e = cc
find_has f (x ∷ xs) z e = found_here f x xs z (f x) refl (find_has f xs z) e

module _ (label : ℕ → ℕ) (p l : ℕ) where
  abbrev first_to : ℕ → ℕ
  first_to n = first_with label (points_below n) l

  next_points : find (λ q. eqb (label q) l) (points_below (p + 1)) ≡ find (λ q. eqb (label q) l) (points_below p ++ p ∷ [])
  next_points = ap (λ (n : ℕ). find (λ q. eqb (label q) l) (points_below n)) (add-one p) ∙ ap (find (λ q. eqb (label q) l)) (points_below-suc p)

  -- another label's first point stays
  pub first_other : label p ≢ l → first_to (p + 1) ≡ first_to p
  first_other ne = elim (found_more (λ q. eqb (label q) l) (points_below p) p) [
    | inl i ↦ ap (λ (o : Option ℕ). unwrap_or o no_class) (next_points ∙ i.1 ∙ ap (λ (b : Bool). cond b (Some p) None) (ne_eqb (label p) l ne) ∙ sym i.0)
    | inr i ↦ ap (λ (o : Option ℕ). unwrap_or o no_class) (next_points ∙ i.2 ∙ sym i.1)
  ]

  -- so does one that is found
  pub first_seen : first_to p ≢ no_class → first_to (p + 1) ≡ first_to p
  first_seen seen = elim (found_more (λ q. eqb (label q) l) (points_below p) p) [
    | inl i ↦ absurd (seen (ap (λ (o : Option ℕ). unwrap_or o no_class) i.0))
    | inr i ↦ ap (λ (o : Option ℕ). unwrap_or o no_class) (next_points ∙ i.2 ∙ sym i.1)
  ]

  -- the first point of a new label
  pub first_new : label p ≡ l → p ≤ no_class → first_to p ≡ no_class → first_to (p + 1) ≡ p
  first_new same small new = elim (found_more (λ q. eqb (label q) l) (points_below p) p) as (λ _. first_to (p + 1) ≡ p) [
    | inl i ↦ ap (λ (o : Option ℕ). unwrap_or o no_class) (next_points ∙ i.1 ∙ ap (λ (b : Bool). cond b (Some p) None) (eq-eqb (label p) l same))
    | inr i ↦
        let value : first_to p ≡ i.0 = ap (λ (o : Option ℕ). unwrap_or o no_class) i.1 in
        let below = points_below-AllBelow p i.0 (find_has (λ q. eqb (label q) l) (points_below p) i.0 i.1) in
        absurd (omega arith)
  ]

-- the numbers of the points below p are kept, and so are their classes
pub record LabelledTo (labels : List ℕ) (p : ℕ) (firsts classes : List ℕ) : Type 0 where
  pub size : length firsts ≡ length labels
  pub count : length classes ≡ p
  pub first : (l : ℕ) → l < length labels → get_or firsts l no_class ≡ first_with (class_at labels) (points_below p) l
  pub done : (q : ℕ) → q < p → class_at labels q ≢ no_class → get_or classes q no_class ≡ first_with (class_at labels) (points_below p) (class_at labels q)
  pub none : (q : ℕ) → q < p → class_at labels q ≡ no_class → get_or classes q no_class ≡ no_class
  pub known : (q : ℕ) → q < p → class_at labels q ≢ no_class → first_with (class_at labels) (points_below p) (class_at labels q) ≢ no_class

pub labelled_none : (labels firsts classes : List ℕ) → firsts ≡ replicate (length labels) no_class → classes ≡ [] → LabelledTo labels 0 firsts classes
labelled_none labels firsts classes is none = record {
  size = ap length is ∙ length-replicate (length labels) no_class;
  count = ap length none;
  first = λ l h. ap (λ (xs : List ℕ). get_or xs l no_class) is ∙ get_or-replicate (length labels) l no_class no_class h;
  done = λ q h. absurd (omega arith);
  none = λ q h. absurd (omega arith);
  known = λ q h. absurd (omega arith);
}

-- a point that does not count
pub labelled_skip : (labels : List ℕ) (p r : ℕ) (firsts classes next grown : List ℕ) → LabelledTo labels p firsts classes → length labels < 2 ^ 16 → class_at labels p ≡ no_class →
    r ≡ no_class → next ≡ firsts → grown ≡ classes ++ r ∷ [] → LabelledTo labels (p + 1) next grown
labelled_skip labels p r firsts classes next grown s few uncounted result next_is grown_is =
    let count = s.count in
    let before : (q : ℕ) → q < p + 1 → class_at labels q ≢ no_class → q < p = λ q h ne. elim (cases_eq q p) as (λ _. q < p) [
      | inl same ↦ absurd (ne (ap (class_at labels) same ∙ uncounted))
      | inr other ↦ omega arith
    ] in
    let stays : (l : ℕ) → l ≢ no_class → first_with (class_at labels) (points_below (p + 1)) l ≡ first_with (class_at labels) (points_below p) l =
    λ l ne. first_other (class_at labels) p l (λ e. ne (sym e ∙ uncounted)) in
    let old : (q : ℕ) → q < p → get_or grown q no_class ≡ get_or classes q no_class =
    λ q h. ap (λ (xs : List ℕ). get_or xs q no_class) grown_is ∙ get_or_append_left classes (r ∷ []) no_class q (omega arith) in
    record {
      size = ap length next_is ∙ s.size;
      count = ap length grown_is ∙ length_push classes r ∙ ap (λ (k : ℕ). k + 1) s.count;
      first = λ l h. ap (λ (xs : List ℕ). get_or xs l no_class) next_is ∙ s.first l h ∙ sym (stays l (λ e. absurd (omega arith)));
      done = λ q h ne. let l = before q h ne in old q l ∙ s.done q l ne ∙ sym (stays (class_at labels q) ne);
      none = λ q h e. elim (cases_eq q p) as (λ _. get_or grown q no_class ≡ no_class) [
        | inl same ↦ ap (λ (xs : List ℕ). get_or xs q no_class) grown_is ∙ get_or_push classes r no_class q (count ∙ sym same) ∙ result
        | inr other ↦ let l : q < p = omega arith in old q l ∙ s.none q l e
      ];
      known = λ q h ne e. s.known q (before q h ne) ne (sym (stays (class_at labels q) ne) ∙ e);
    }

module _ (labels : List ℕ) (p at r : ℕ) (firsts classes : List ℕ) (s : LabelledTo labels p firsts classes) (inside : p < length labels) (few : length labels < 2 ^ 16)
    (here : class_at labels p ≡ at) (at_below : at < length labels) (value : r ≡ cond (eqb (get_or firsts at 0) no_class) p (get_or firsts at 0)) where
  abbrev first_of : ℕ → ℕ → ℕ
  first_of n l = first_with (class_at labels) (points_below n) l

  kept_at : get_or firsts at 0 ≡ first_of p at
  kept_at = get_or_default firsts at 0 no_class (let size = s.size in omega arith) ∙ s.first at at_below

  made : (r ≡ first_of (p + 1) at) × (r ≢ no_class)
  made = elim (cases_eq (first_of p at) no_class) as (λ _. (r ≡ first_of (p + 1) at) × (r ≢ no_class)) [
    | inl new ↦
        let is : r ≡ p = value ∙ ap (λ (b : Bool). cond b p (get_or firsts at 0)) (eq-eqb (get_or firsts at 0) no_class (kept_at ∙ new)) in
        (is ∙ sym (first_new (class_at labels) p at here (omega arith) new), λ e. omega arith)
    | inr seen ↦
        let is : r ≡ first_of p at = value ∙ ap (λ (b : Bool). cond b p (get_or firsts at 0)) (ne_eqb (get_or firsts at 0) no_class (λ e. seen (sym kept_at ∙ e))) ∙ kept_at in
        (is ∙ sym (first_seen (class_at labels) p at seen), λ e. seen (sym is ∙ e))
  ]

  pub labelled_more : (next grown : List ℕ) → next ≡ set firsts at r → grown ≡ classes ++ r ∷ [] → LabelledTo labels (p + 1) next grown
  labelled_more next grown next_is grown_is =
      let size = s.size in
      let count = s.count in
      record {
        size = ap length next_is ∙ length-set firsts at r ∙ s.size;
        count = ap length grown_is ∙ length_push classes r ∙ ap (λ (k : ℕ). k + 1) s.count;
        first = λ l h. elim (cases_eq l at) as (λ _. get_or next l no_class ≡ first_of (p + 1) l) [
          | inl same ↦
              ap (λ (xs : List ℕ). get_or xs l no_class) next_is
              ∙ ap (λ (k : ℕ). get_or (set firsts at r) k no_class) same
              ∙ get_or-set_same firsts at r no_class (omega arith)
              ∙ made.0
              ∙ ap (first_of (p + 1)) (sym same)
          | inr ne ↦
              ap (λ (xs : List ℕ). get_or xs l no_class) next_is
              ∙ get_or-set_other firsts at l r no_class ne
              ∙ s.first l h
              ∙ sym (first_other (class_at labels) p l (λ e. ne (sym e ∙ here)))
        ];
        done = λ q h counted. elim (cases_lt q p) as (λ _. get_or grown q no_class ≡ first_of (p + 1) (class_at labels q)) [
          | inl before ↦
              ap (λ (xs : List ℕ). get_or xs q no_class) grown_is
              ∙ get_or_append_left classes (r ∷ []) no_class q (omega arith)
              ∙ s.done q before counted
              ∙ sym (first_seen (class_at labels) p (class_at labels q) (s.known q before counted))
          | inr last ↦
              let is : length classes ≡ q = omega arith in
              let q_is : p ≡ q = omega arith in
              ap (λ (xs : List ℕ). get_or xs q no_class) grown_is
              ∙ get_or_push classes r no_class q is
              ∙ made.0
              ∙ ap (first_of (p + 1)) (sym here ∙ ap (class_at labels) q_is)
        ];
        none = λ q h e. elim (cases_lt q p) as (λ _. get_or grown q no_class ≡ no_class) [
          | inl before ↦ ap (λ (xs : List ℕ). get_or xs q no_class) grown_is ∙ get_or_append_left classes (r ∷ []) no_class q (omega arith) ∙ s.none q before e
          | inr last ↦
              let q_is : p ≡ q = omega arith in
              let uncounted : at ≡ no_class = sym here ∙ ap (class_at labels) q_is ∙ e in
              absurd (omega arith)
        ];
        known = λ q h counted. elim (cases_lt q p) as (λ _. first_of (p + 1) (class_at labels q) ≢ no_class) [
          | inl before ↦ λ e. s.known q before counted (sym (first_seen (class_at labels) p (class_at labels q) (s.known q before counted)) ∙ e)
          | inr last ↦
              let q_is : q ≡ p = omega arith in
              λ e. made.1 (made.0 ∙ ap (first_of (p + 1)) (sym here ∙ ap (class_at labels) (sym q_is)) ∙ e)
        ];
      }

-- a search among those that can be found
find-filter : (f s : ℕ → Bool) (xs : List ℕ) → ((x : ℕ) → f x ≡ true → s x ≡ true) → find f (filter s xs) ≡ find f xs
find-filter f s [] h = refl
find-filter f s (x ∷ xs) h = go (s x) refl (f x) refl (find-filter f s xs h)
  where
    go : (b : Bool) → s x ≡ b → (c : Bool) → f x ≡ c → find f (filter s xs) ≡ find f xs → find f (filter s (x ∷ xs)) ≡ find f (x ∷ xs)
    go true e c g ih = rw e (ap (λ (o : Option ℕ). cond (f x) (Some x) o) ih)
    go false e true g ih = absurd (let k : false ≡ true = sym e ∙ h x g in cc)
    go false e false g ih = rw (e, g) ih

module _ (labels : List ℕ) where
  abbrev counted : ℕ → Bool
  counted p = not (eqb (class_at labels p) no_class)

  label_in : (p : ℕ) → p < length labels → class_at labels p ≢ no_class → has (judged_in labels) p ≡ true
  label_in p l ne =
      In-has p (judged_in labels)
      (In-filter counted p (points_below (length labels)) (has-In p (points_below (length labels)) (has-points_below (length labels) p l)) (not_from_false _ (ne_eqb (class_at labels p) no_class ne)))

  label_out : (p : ℕ) → class_at labels p ≡ no_class → has (judged_in labels) p ≡ false
  label_out p e = elim (cases_Bool (has (judged_in labels) p)) as (λ _. has (judged_in labels) p ≡ false) [
    | inl h ↦
        let passes = (In-filter_cases counted p (points_below (length labels)) (has-In p (judged_in labels) h)).1 in
        absurd (let k : false ≡ true = sym (not_from_true _ (eq-eqb (class_at labels p) no_class e)) ∙ passes in cc)
    | inr h ↦ h
  ]

  first_counted : (l : ℕ) → l ≢ no_class → first_with (class_at labels) (judged_in labels) l ≡ first_with (class_at labels) (points_below (length labels)) l
  first_counted l ne =
      ap (λ (o : Option ℕ). unwrap_or o no_class)
      (find-filter (λ q. eqb (class_at labels q) l) counted (points_below (length labels))
      (λ q h. not_from_false _ (ne_eqb (class_at labels q) no_class (λ e. ne (sym (eqb-true (class_at labels q) l h) ∙ e)))))

pub labelled_all : (labels firsts classes : List ℕ) (p : ℕ) → LabelledTo labels p firsts classes → p ≡ length labels →
    classes ≡ classes_by (judged_in labels) (length labels) (class_at labels)
labelled_all labels firsts classes p s all =
    let count = s.count in
    let js = judged_in labels in
    let n = length labels in
    same_lists classes (classes_by js n (class_at labels))
    (s.count ∙ all ∙ sym (length-classes_by js n (class_at labels)))
    (λ k d l.
    let inside : k < length labels = omega arith in
    get_or_default classes k d no_class l
    ∙ elim (cases_eq (class_at labels k) no_class) as (λ _. get_or classes k no_class ≡ class_at (classes_by js n (class_at labels)) k) [
      | inl none ↦
          s.none k (omega arith) none
          ∙ sym (get_or-map-range_with_len (λ q. cond (has js q) (first_with (class_at labels) js (class_at labels q)) no_class) 0 n k k no_class inside (omega arith)
          ∙ cond-false (has js k) (first_with (class_at labels) js (class_at labels k)) no_class (label_out labels k none))
      | inr ne ↦
          s.done k (omega arith) ne
          ∙ ap (λ (i : ℕ). first_with (class_at labels) (points_below i) (class_at labels k)) all
          ∙ sym (first_counted labels (class_at labels k) ne)
          ∙ sym (class_at-classes_by js n (class_at labels) k inside (label_in labels k inside ne))
    ]
    ∙ get_or_default (classes_by js n (class_at labels)) k no_class d (omega (arith, length-classes_by js n (class_at labels))))

pub labels_valid : (labels : List ℕ) → length labels < 2 ^ 16 → IsPartitionValue (classes_by (judged_in labels) (length labels) (class_at labels))
labels_valid labels few =
    let js = judged_in labels in
    let n = length labels in
    let size = length-classes_by js n (class_at labels) in
    let is = classes_by-IsPartition js n (class_at labels) (judged_in-below labels) in
    record {
      partition = partition-classing js n (classes_by js n (class_at labels)) few (judged_in-below labels) (judged_in-ascends labels) is;
      few = omega (arith, size);
    }

-- where each point has a label, all points count
pub all_labelled : (labels : List ℕ) → length labels < 2 ^ 16 → All (λ l. l < length labels) labels → judged_in labels ≡ points_below (length labels)
all_labelled labels few below =
    filter-true (counted labels) (points_below (length labels))
    (λ p h.
    let l = points_below-AllBelow (length labels) p h in
    let low = below p no_class l in
    not_from_false _ (ne_eqb (class_at labels p) no_class (λ e. absurd (omega arith))))
