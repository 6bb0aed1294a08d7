-- Partitions in which some points do not count.
use Rattle.std.proofs.Common.{◌≡◌, ◌↔◌, ℕ, ◌<◌, ◌≤◌, ◌^◌, Bool, true, false, not, List, length, eqb, min, max, refl, sym, ◌∙◌, inl, inr, arith}
use Rattle.std.proofs.lemmas.Bool.Decides.{eqb_tells}
use Rattle.std.proofs.lemmas.Bool.{cases_lt}
use Rattle.std.proofs.lemmas.List.{get_or_past, ext_get_or}
use Rattle.partition.specs.Classes.{AllBelow, AscendsFrom, IsPartition, class_at, has, judged_in, merged, no_class, points_below}
use Rattle.partition.specs.Laws.{PartitionFields}
use Rattle.partition.specs.Partitions.{HasClass, IsClassing, IsOver, IsPartitionOfAll, JoinsAllOf}
use Rattle.partition.proofs.classes.ClassLaws.{has-points_below, points_below-AllBelow, range-ascends}
use Rattle.partition.proofs.classes.FieldLaw.{judged_law, partition_law}
use Rattle.partition.proofs.classes.JoinedPartition.{merge_own, own-IsPartition}
use Rattle.partition.proofs.classes.Labels.{eqb_false, false_not, neq-eqb, not_true}
use Rattle.partition.proofs.Members.{In-filter, In-filter_cases, In-has, has-In}
use Rattle.partition.proofs.tables.NetLaws.{filter-ascends}
use Rattle.partition.proofs.classes.WalkLaws.{length-merged, merged_class}

-- ---- which points have a class

-- a point with a class is one of the points
pub class-inside : (m : List ℕ) (p : ℕ) → HasClass m p → p < length m
class-inside m p h = elim (cases_lt p (length m)) as (λ _. p < length m) [ inl lt ↦ lt | inr past ↦ absurd (omega (arith, get_or_past m p no_class past)) ]

-- so is its class
pub class-has_class : (m : List ℕ) (p : ℕ) → IsClassing m → HasClass m p → HasClass m (class_at m p)
class-has_class m p ok h = omega (arith, ok.own p h)

test-class : (m : List ℕ) (p : ℕ) → class_at m p ≤ no_class → not (eqb (class_at m p) no_class) ≡ true → HasClass m p
test-class m p low e = let ne = eqb_false (class_at m p) no_class (not_true _ e) in omega arith

class-test : (m : List ℕ) (p : ℕ) → HasClass m p → not (eqb (class_at m p) no_class) ≡ true
class-test m p h = false_not _ (neq-eqb (class_at m p) no_class (λ e. absurd (omega arith)))

pub judged-class : (m : List ℕ) (p : ℕ) → IsClassing m → has (judged_in m) p ≡ true → HasClass m p
judged-class m p ok h = test-class m p (ok.none p) (In-filter_cases (λ q. not (eqb (class_at m q) no_class)) p (points_below (length m)) (has-In p (judged_in m) h)).1

pub class-judged : (m : List ℕ) (p : ℕ) → HasClass m p → has (judged_in m) p ≡ true
class-judged m p h =
    In-has p (judged_in m)
    (In-filter (λ q. not (eqb (class_at m q) no_class)) p (points_below (length m)) (has-In p (points_below (length m)) (has-points_below (length m) p (class-inside m p h))) (class-test m p h))

pub judged_in-below : (m : List ℕ) → AllBelow (judged_in m) (length m)
judged_in-below m p h =
    points_below-AllBelow (length m) p (In-has p (points_below (length m)) (In-filter_cases (λ q. not (eqb (class_at m q) no_class)) p (points_below (length m)) (has-In p (judged_in m) h)).0)

pub judged_in-ascends : (m : List ℕ) → AscendsFrom 0 (judged_in m)
judged_in-ascends m = filter-ascends (λ q. not (eqb (class_at m q) no_class)) 0 0 (points_below (length m)) (omega arith) (range-ascends 0 (length m))

-- ---- the fields and the equation

-- the fields are those of the points with a class
pub classing-fields : (m : List ℕ) → IsClassing m → PartitionFields (judged_in m) (length m) m
classing-fields m ok = record {
  size = refl;
  inside = λ p k. class-judged m (class_at m p) (class-has_class m p ok (judged-class m p ok k));
  least = λ p k. ok.least p (judged-class m p ok k);
  own = λ p k. ok.own p (judged-class m p ok k);
  none = λ p lt e. unjudged p e;
}
  where
    at : (b : Bool) → b ≡ true → b ≡ false → ⊥
    at true e f = cc
    at false e f = cc

    unjudged : (p : ℕ) → has (judged_in m) p ≡ false → class_at m p ≡ no_class
    unjudged p e =
        elim (cases_lt (class_at m p) no_class) as (λ _. class_at m p ≡ no_class) [
          | inl has_one ↦ absurd (at (has (judged_in m) p) (class-judged m p has_one) e)
          | inr past ↦ let low = ok.none p in omega arith
        ]

pub classing-IsPartition : (m : List ℕ) → IsClassing m → IsPartition (judged_in m) (length m) m
classing-IsPartition m ok = (partition_law (judged_in m) (length m) m (judged_in-below m) (judged_in-ascends m)).1 (classing-fields m ok)

-- a partition of the points js has a class at each of them, and at no other
module _ (js : List ℕ) (n : ℕ) (m : List ℕ) (few : n < 2 ^ 16) (below : AllBelow js n) (up : AscendsFrom 0 js) (is : IsPartition js n m) where
  fields : PartitionFields js n m
  fields = (partition_law js n m below up).0 is

  pub js-class : (p : ℕ) → has js p ≡ true → HasClass m p
  js-class p k = let low = fields.least p k in let lt = below p k in omega arith

  pub class-js : (p : ℕ) → HasClass m p → has js p ≡ true
  class-js p h = go (has js p) refl
    where
      go : (b : Bool) → has js p ≡ b → has js p ≡ true
      go true e = e
      go false e = absurd (let size = fields.size in let inside = class-inside m p h in let none = fields.none p (omega arith) e in omega arith)

  pub partition-classing : IsClassing m
  partition-classing = record {
    least = λ p h. fields.least p (class-js p h);
    own = λ p h. fields.own p (class-js p h);
    none = λ p. elim (cases_lt (class_at m p) no_class) as (λ _. class_at m p ≤ no_class) [
      | inl low ↦ omega arith
      | inr past ↦ at p (has js p) refl
    ];
  }
    where
      at : (p : ℕ) → (b : Bool) → has js p ≡ b → class_at m p ≤ no_class
      at p true e = let low = js-class p e in omega arith
      at p false e = elim (cases_lt p n) as (λ _. class_at m p ≤ no_class) [
        | inl inside ↦ let none = fields.none p inside e in omega arith
        | inr out ↦ let past = get_or_past m p no_class (let size = fields.size in omega arith) in omega arith
      ]

pub IsPartition-classing : (m : List ℕ) → length m < 2 ^ 16 → IsPartition (judged_in m) (length m) m → IsClassing m
IsPartition-classing m few is = partition-classing (judged_in m) (length m) m few (judged_in-below m) (judged_in-ascends m) is

-- ---- all points count

pub all-class : (m : List ℕ) → IsPartitionOfAll m → length m < 2 ^ 16 → (p : ℕ) → p < length m → HasClass m p
all-class m all few p inside = let low = all.least p inside in omega arith

pub all-classing : (m : List ℕ) → IsPartitionOfAll m → length m < 2 ^ 16 → IsClassing m
all-classing m all few = record {
  least = λ p h. all.least p (class-inside m p h);
  own = λ p h. all.own p (class-inside m p h);
  none = λ p. elim (cases_lt p (length m)) as (λ _. class_at m p ≤ no_class) [
    | inl inside ↦ let low = all.least p inside in omega arith
    | inr past ↦ let none = get_or_past m p no_class past in omega arith
  ];
}

pub classing-all : (m : List ℕ) → IsClassing m → ((p : ℕ) → p < length m → HasClass m p) → IsPartitionOfAll m
classing-all m ok each = record { least = λ p inside. ok.least p (each p inside); own = λ p inside. ok.own p (each p inside) }

-- one that is over a partition of all points is one of all points
pub over-all : (m other : List ℕ) → IsPartitionOfAll m → length m < 2 ^ 16 → IsClassing other → IsOver m other → IsPartitionOfAll other
over-all m other all few ok over = classing-all other ok (λ p inside. (over.judged p).1 (all-class m all few p (let size = over.size in omega arith)))

pub all-over : (m other : List ℕ) → IsPartitionOfAll m → IsPartitionOfAll other → length m < 2 ^ 16 → length other ≡ length m → IsOver m other
all-over m other one two few same = record {
  size = same;
  judged = λ p. (λ h. all-class m one few p (let i = class-inside other p h in omega arith), λ h. all-class other two (omega arith) p (let i = class-inside m p h in omega arith));
}

-- the points with a class are all points
pub all-judged_in : (m : List ℕ) → IsPartitionOfAll m → length m < 2 ^ 16 → judged_in m ≡ points_below (length m)
all-judged_in m all few =
    let is = own-IsPartition m (length m) refl all in
    (judged_law (points_below (length m)) (length m) m (omega arith) (points_below-AllBelow (length m)) is).all_points refl

-- ---- two that join the same points are one

class_below : (classes others : List ℕ) → IsClassing classes → IsClassing others → IsOver others classes → JoinsAllOf classes others
    → (p : ℕ) → HasClass others p → class_at classes p ≤ class_at others p
class_below classes others one other over joins p h =
    let head = class-has_class others p other h in
    let joined = joins (class_at others p) p head h (other.own p h) in
    omega (arith, sym joined, one.least (class_at others p) ((over.judged (class_at others p)).1 head))

pub same_classing : (classes others : List ℕ) → IsClassing classes → IsClassing others → IsOver others classes → JoinsAllOf classes others → JoinsAllOf others classes → classes ≡ others
same_classing classes others one other over joins joined =
    ext_get_or no_class classes others over.size (λ p inside.
    elim (cases_lt (class_at classes p) no_class) as (λ _. class_at classes p ≡ class_at others p) [
      | inl h ↦
          let k = (over.judged p).0 h in
          omega (arith, class_below classes others one other over joins p k, class_below others classes other one (turned over) joined p h)
      | inr past ↦
          let low = one.none p in
          let low_too = other.none p in
          elim (cases_lt (class_at others p) no_class) as (λ _. class_at classes p ≡ class_at others p) [
            | inl k ↦ absurd (let h = (over.judged p).1 k in omega arith)
            | inr past_too ↦ omega arith
          ]
    ])
  where
    turned : IsOver others classes → IsOver classes others
    turned o = record { size = sym o.size; judged = λ p. ((o.judged p).1, (o.judged p).0) }

-- ---- a merge of two points that count

module _ (m : List ℕ) (a b : ℕ) (ha : HasClass m a) (hb : HasClass m b) (ok : IsClassing m) where
  pub merged-has_class : (p : ℕ) → HasClass (merged m a b) p ↔ HasClass m p
  merged-has_class p =
      elim (cases_lt p (length m)) as (λ _. HasClass (merged m a b) p ↔ HasClass m p) [
        | inl inside ↦
            elim (eqb_tells (class_at m p) (max (class_at m a) (class_at m b))) as (λ _. HasClass (merged m a b) p ↔ HasClass m p) [
              | inl e ↦
                  let now : class_at (merged m a b) p ≡ min (class_at m a) (class_at m b) = merged_class m a b p inside ∙ rw e.0 refl in
                  let high = e.1 in
                  (λ h. omega arith, λ h. omega arith)
              | inr e ↦
                  let now : class_at (merged m a b) p ≡ class_at m p = merged_class m a b p inside ∙ rw e.0 refl in
                  (λ h. omega arith, λ h. omega arith)
            ]
        | inr past ↦ (
          λ h. absurd (let i = class-inside (merged m a b) p h in omega (arith, length-merged m a b)),
          λ h. absurd (let i = class-inside m p h in omega arith),
        )
      ]

  pub merged-over : IsOver m (merged m a b)
  merged-over = record { size = length-merged m a b; judged = merged-has_class }

  pub merged-classing : IsClassing (merged m a b)
  merged-classing = record {
    least = λ p h. (own p h).0;
    own = λ p h. (own p h).1;
    none = λ p. elim (cases_lt (class_at (merged m a b) p) no_class) as (λ _. class_at (merged m a b) p ≤ no_class) [
      | inl low ↦ omega arith
      | inr past ↦ elim (cases_lt p (length m)) as (λ _. class_at (merged m a b) p ≤ no_class) [
        | inl inside ↦
            let low = ok.none p in
            elim (eqb_tells (class_at m p) (max (class_at m a) (class_at m b))) as (λ _. class_at (merged m a b) p ≤ no_class) [
              | inl e ↦ let now : class_at (merged m a b) p ≡ min (class_at m a) (class_at m b) = merged_class m a b p inside ∙ rw e.0 refl in omega arith
              | inr e ↦ let now : class_at (merged m a b) p ≡ class_at m p = merged_class m a b p inside ∙ rw e.0 refl in omega arith
            ]
        | inr out ↦ let none = get_or_past (merged m a b) p no_class (omega (arith, length-merged m a b)) in omega arith
      ]
    ];
  }
    where
      own : (p : ℕ) → HasClass (merged m a b) p → (class_at (merged m a b) p ≤ p) × (class_at (merged m a b) (class_at (merged m a b) p) ≡ class_at (merged m a b) p)
      own p h =
          let k = (merged-has_class p).0 h in
          merge_own m a b p (class-inside m a ha) (class-inside m p k) (ok.least a ha) (ok.least b hb) (ok.least p k) (ok.own a ha) (ok.own b hb) (ok.own p k)
