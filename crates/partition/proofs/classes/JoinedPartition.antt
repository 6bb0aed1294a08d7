-- The classes under a list of joins are a partition.
use Rattle.std.proofs.Common.{◌≡◌, ℕ, ◌<◌, ◌≤◌, Bool, true, false, cond, List, [], ◌∷◌, length, eqb, min, max, refl, sym, ◌∙◌, ap, subst, inl, inr, arith, fold}
use Rattle.std.proofs.lemmas.Bool.Decides.{eqb_tells}
use Rattle.std.proofs.lemmas.List.FromFn.{length-range_with_len, fill_by_all}
use Rattle.partition.specs.Classes.{points_below, has, class_at, no_class, first_with, IsPartition, JoinsBelow, merged, joined_by}
use Rattle.partition.specs.Partitions.{IsPartitionOfAll}
use Rattle.partition.proofs.classes.ClassLaws.{first_with-found, first_with-least, has-points_below, points_below-AllBelow, range-ascends}
use Rattle.partition.proofs.classes.WalkLaws.{merged_class, length-merged, contains_tail, contains_head, point_class}

pub own-IsPartition : (m : List ℕ) (n : ℕ) → length m ≡ n → IsPartitionOfAll m → IsPartition (points_below n) n m
own-IsPartition m n l h =
    fill_by_all (λ p. cond (has (points_below n) p) (first_with (class_at m) (points_below n) (class_at m p)) no_class) m n no_class l
    (λ k lt.
    let here = has-points_below n k lt in
    let low = h.least k (omega arith) in
    let c = class_at m k in
    let found = first_with-found (class_at m) (points_below n) c k here refl in
    let below : first_with (class_at m) (points_below n) c < n = points_below-AllBelow n _ found.1 in
    let up = h.least (first_with (class_at m) (points_below n) c) (omega arith) in
    let down = first_with-least (class_at m) 0 (points_below n) c c (range-ascends 0 n) (has-points_below n c (omega arith)) (h.own k (omega arith)) in
    let same : class_at m k ≡ first_with (class_at m) (points_below n) c = omega (arith, found.0) in
    rw here same)

-- the number of a class after a merge, from facts on the class numbers a and b
pub merge_own : (m : List ℕ) (a b p : ℕ) → a < length m → p < length m → class_at m a ≤ a → class_at m b ≤ b → class_at m p ≤ p →
    class_at m (class_at m a) ≡ class_at m a → class_at m (class_at m b) ≡ class_at m b → class_at m (class_at m p) ≡ class_at m p →
    (class_at (merged m a b) p ≤ p) × (class_at (merged m a b) (class_at (merged m a b) p) ≡ class_at (merged m a b) p)
merge_own m a b p ha hp lx ly lp ox oy op =
    let x = class_at m a in
    let y = class_at m b in
    elim (eqb_tells (class_at m p) (max x y)) [
      | inl e ↦
          let now : class_at (merged m a b) p ≡ min x y = merged_class m a b p hp ∙ rw e.0 refl in
          let lowest : min x y < length m = omega arith in
          let low_own : class_at m (min x y) ≡ min x y = low x y m ox oy in
          let again : class_at (merged m a b) (min x y) ≡ min x y =
          merged_class m a b (min x y) lowest ∙ ap (λ c. cond (eqb c (max x y)) (min x y) c) low_own ∙ both (eqb (min x y) (max x y)) (min x y) in
          let high = e.1 in
          (omega arith, ap (class_at (merged m a b)) now ∙ again ∙ sym now)
      | inr e ↦
          let now : class_at (merged m a b) p ≡ class_at m p = merged_class m a b p hp ∙ rw e.0 refl in
          let again : class_at (merged m a b) (class_at m p) ≡ class_at m p =
          merged_class m a b (class_at m p) (omega arith) ∙ ap (λ c. cond (eqb c (max x y)) (min x y) c) op ∙ rw e.0 refl in
          (omega arith, ap (class_at (merged m a b)) now ∙ again ∙ sym now)
    ]
  where
    both : (t : Bool) (c : ℕ) → cond t c c ≡ c
    both true c = refl
    both false c = refl

    low : (u v : ℕ) (k : List ℕ) → class_at k u ≡ u → class_at k v ≡ v → class_at k (min u v) ≡ min u v
    low u v k e f =
        elim (eqb_tells (min u v) u) [
          | inl s ↦ subst (λ z. class_at k z ≡ z) (sym s.1) e
          | inr s ↦ let t : v ≡ min u v = let w = s.1 in omega arith in subst (λ z. class_at k z ≡ z) t f
        ]

pub merged-own : (m : List ℕ) (a b : ℕ) → a < length m → b < length m → IsPartitionOfAll m → IsPartitionOfAll (merged m a b)
merged-own m a b ha hb h = record {
  least = λ p hp. (at p (let l = length-merged m a b in omega arith)).0;
  own = λ p hp. (at p (let l = length-merged m a b in omega arith)).1;
}
  where
    at : (p : ℕ) → p < length m → (class_at (merged m a b) p ≤ p) × (class_at (merged m a b) (class_at (merged m a b) p) ≡ class_at (merged m a b) p)
    at p hp = merge_own m a b p ha hp (h.least a ha) (h.least b hb) (h.least p hp) (h.own a ha) (h.own b hb) (h.own p hp)

merge_all_own : (joins : List (ℕ × ℕ)) (m : List ℕ) → JoinsBelow joins (length m) → IsPartitionOfAll m →
    IsPartitionOfAll (fold (λ classes (join : ℕ × ℕ). merged classes join.0 join.1) m joins)
    × (length (fold (λ classes (join : ℕ × ℕ). merged classes join.0 join.1) m joins) ≡ length m)
merge_all_own [] m below h = (h, refl)
merge_all_own (j ∷ joins) m below h =
    let here = below j.0 j.1 (contains_head j joins) in
    let l = length-merged m j.0 j.1 in
    let i = merge_all_own joins (merged m j.0 j.1)
    (λ x y k. let i = below x y (contains_tail j (x, y) joins k) in (omega (arith, i.0), omega (arith, i.1)))
    (merged-own m j.0 j.1 here.0 here.1 h) in
    (i.0, i.1 ∙ l)

-- each point has a class number that is no greater, in its own class; and there are n points
pub joined_by-own : (joins : List (ℕ × ℕ)) (n : ℕ) → JoinsBelow joins n → IsPartitionOfAll (joined_by joins n) × (length (joined_by joins n) ≡ n)
joined_by-own joins n below =
    let l = length-range_with_len 0 n in
    let start : IsPartitionOfAll (points_below n) = record {
      least = λ p hp. let e = point_class n p (omega arith) in omega arith;
      own = λ p hp. ap (class_at (points_below n)) (point_class n p (omega arith));
    } in
    let i = merge_all_own joins (points_below n) (λ a b k. let i = below a b k in (omega (arith, i.0), omega (arith, i.1))) start in
    (i.0, i.1 ∙ l)

pub joined_by-IsPartition : (joins : List (ℕ × ℕ)) (n : ℕ) → JoinsBelow joins n → IsPartition (points_below n) n (joined_by joins n)
joined_by-IsPartition joins n below =
    let i = joined_by-own joins n below in
    own-IsPartition (joined_by joins n) n i.1 i.0
