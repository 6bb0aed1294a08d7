-- A partition is what its fields say.
use Rattle.std.proofs.Common.{◌≤◌, ◌≡◌, ℕ, ◌<◌, Bool, true, false, cond, List, refl, ◌∙◌, ap, arith, zero-add, filter, not, eqb, [], ◌∷◌}
use Rattle.std.proofs.lemmas.List.FromFn.{get_or-map-range_with_len, fill_by_all}
use Rattle.partition.proofs.classes.Labels.{neq-eqb}
use Rattle.partition.specs.Classes.{AllBelow, has, class_at, no_class, first_with, IsPartition, AscendsFrom, points_below, judged_in}
use Rattle.partition.specs.Laws.{PartitionFields, PartitionLaw, EqualLaw, JudgedLaw}
use Rattle.partition.proofs.classes.ClassLaws.{first_with-found, first_with-least, partition-own, partition-least, length-partition, partitions-agree, has-head, has-tail, points_below-AllBelow}

from_fields : (js : List ℕ) (n : ℕ) (m : List ℕ) → AscendsFrom 0 js → PartitionFields js n m → IsPartition js n m
from_fields js n m s f =
    fill_by_all (λ p. cond (has js p) (first_with (class_at m) js (class_at m p)) no_class) m n no_class f.size (λ k lt. go k lt (has js k) refl)
  where
    go : (k : ℕ) → k < n → (b : Bool) → has js k ≡ b → class_at m k ≡ cond (has js k) (first_with (class_at m) js (class_at m k)) no_class
    go k lt false e = rw e (f.none k lt e)
    go k lt true e =
        let c = class_at m k in
        let found = first_with-found (class_at m) js c k e refl in
        let up = f.least (first_with (class_at m) js c) found.1 in
        let down = first_with-least (class_at m) 0 js c c s (f.inside k e) (f.own k e) in
        let same : class_at m k ≡ first_with (class_at m) js c = omega (arith, found.0) in
        rw e same

no_point : (js : List ℕ) (n : ℕ) (m : List ℕ) (p : ℕ) → IsPartition js n m → p < n → has js p ≡ false → class_at m p ≡ no_class
no_point js n m p is lt e =
    ap (λ (c : List ℕ). class_at c p) is
    ∙ get_or-map-range_with_len (λ q. cond (has js q) (first_with (class_at m) js (class_at m q)) no_class) 0 n p p no_class lt (zero-add p)
    ∙ rw e refl

pub partition_law : PartitionLaw
partition_law js n m below s = (
  λ is. record {
    size = length-partition js n m is;
    inside = λ p k. (partition-own js n m p is below k).1;
    least = λ p k. partition-least js n m 0 p is below s k;
    own = λ p k. (partition-own js n m p is below k).0;
    none = λ p lt e. no_point js n m p is lt e;
  },
  λ f. from_fields js n m s f,
)

pub equal_law : EqualLaw
equal_law js n m other is also h = partitions-agree js n m other is also (λ p q kp kq. (h p q kp kq).0) (λ p q kp kq. (h p q kp kq).1)

-- two tests that agree on a list keep the same of it
filter-agree : (f g : ℕ → Bool) (xs : List ℕ) → ((x : ℕ) → has xs x ≡ true → f x ≡ g x) → filter f xs ≡ filter g xs
filter-agree f g [] h = refl
filter-agree f g (x ∷ xs) h =
    rw (h x (has-head x xs)) (ap (λ (ys : List ℕ). cond (g x) (x ∷ ys) ys) (filter-agree f g xs (λ y k. h y (has-tail x y xs k))))

pub filter-true : (f : ℕ → Bool) (xs : List ℕ) → ((x : ℕ) → has xs x ≡ true → f x ≡ true) → filter f xs ≡ xs
filter-true f [] h = refl
filter-true f (x ∷ xs) h = rw (h x (has-head x xs), filter-true f xs (λ y k. h y (has-tail x y xs k))) refl

-- a point has a class exactly where it counts
has_class : (js : List ℕ) (n : ℕ) (m : List ℕ) → n ≤ 65535 → AllBelow js n → IsPartition js n m → (p : ℕ) → p < n → (b : Bool) → has js p ≡ b →
    not (eqb (class_at m p) no_class) ≡ has js p
has_class js n m le below is p lt false e = rw (no_point js n m p is lt e, e) refl
has_class js n m le below is p lt true e =
    let low = below (class_at m p) (partition-own js n m p is below e).1 in
    let ne : eqb (class_at m p) no_class ≡ false = neq-eqb _ _ (λ q. absurd (omega arith)) in
    rw (ne, e) refl

pub judged_law : (js : List ℕ) (n : ℕ) (m : List ℕ) → n ≤ 65535 → AllBelow js n → IsPartition js n m → JudgedLaw js n m
judged_law js n m le below is =
    let l = length-partition js n m is in
    let listed : judged_in m ≡ filter (has js) (points_below n) =
    ap (λ k. filter (λ p. not (eqb (class_at m p) no_class)) (points_below k)) l
    ∙ filter-agree (λ p. not (eqb (class_at m p) no_class)) (has js) (points_below n)
    (λ p k. has_class js n m le below is p (points_below-AllBelow n p k) (has js p) refl) in
    record {
      listed = listed;
      all_points = λ e. listed ∙ filter-true (has js) (points_below n) (λ p k. ap (λ (z : List ℕ). has z p) e ∙ k);
    }
