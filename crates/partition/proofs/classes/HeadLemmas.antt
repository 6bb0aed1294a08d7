-- The heads of a partition.
use Rattle.std.proofs.Common.{◌≡◌, ◌≢◌, inl, inr, ℕ, zero, suc, ◌+◌, ◌<◌, ◌≤◌, ◌^◌, Bool, cond, List, [], ◌∷◌, ◌++◌, length, get_or, sym, ◌∙◌, ap, subst, arith, add-one, add-zero, filter, eqb}
use Rattle.std.specs.Prelude.{Contains}
use Rattle.std.specs.List.{range_with_len}
use Rattle.std.specs.List.Sorted.{IsStrictlyIncreasing}
use Rattle.std.proofs.lemmas.List.Elements.{Contains-append_left, Contains-push_cases, Contains-push, Contains-get_or, filter-append}
use Rattle.std.proofs.lemmas.List.{append-nil, get_or_append_left, get_or_push, length_push}
use Rattle.std.proofs.lemmas.Bool.{cases_lt, cases_eq, eq-eqb, ne_eqb}
use Rattle.partition.specs.Classes.{points_below, class_at}
use Rattle.std.proofs.lemmas.List.FromFn.{length-range_with_len}
use Rattle.partition.specs.Partitions.{HasClass, IsClassing, IsPartitionOfAll, IsPartitionValue}
use Rattle.partition.proofs.classes.JudgedPartition.{all-classing, class-has_class, class-inside}
use Rattle.partition.proofs.classes.WalkLaws.{point_class}
use Rattle.partition.specs.Heads.{heads_below, heads}

range-more : (a n : ℕ) → range_with_len a (suc n) ≡ range_with_len a n ++ (a + n) ∷ []
range-more a zero = ap (λ (k : ℕ). k ∷ []) (sym (add-zero a))
range-more a (suc n) =
    let later = range-more (a + 1) n in
    let e : (a + 1) + n ≡ a + suc n = omega arith in
    ap (λ (xs : List ℕ). a ∷ xs) (later ∙ ap (λ (k : ℕ). range_with_len (a + 1) n ++ k ∷ []) e)

-- the points below n + 1 are those below n, and n
pub points_below-suc : (n : ℕ) → points_below (suc n) ≡ points_below n ++ n ∷ []
points_below-suc n = let e : 0 + n ≡ n = omega arith in range-more 0 n ∙ ap (λ (k : ℕ). points_below n ++ k ∷ []) e

module _ (classes : List ℕ) where
  heads_below-suc : (n : ℕ) → heads_below classes (suc n) ≡ heads_below classes n ++ cond (eqb (class_at classes n) n) (n ∷ []) []
  heads_below-suc n =
      ap (filter (λ p. eqb (class_at classes p) p)) (points_below-suc n)
      ∙ filter-append (λ p. eqb (class_at classes p) p) (points_below n) (n ∷ [])

  -- the next point is a head, or it is not
  pub heads_below-head : (n : ℕ) → class_at classes n ≡ n → heads_below classes (n + 1) ≡ heads_below classes n ++ n ∷ []
  heads_below-head n is = rw add-one (heads_below-suc n ∙ ap (λ (b : Bool). heads_below classes n ++ cond b (n ∷ []) []) (eq-eqb (class_at classes n) n is))

  pub heads_below-other : (n : ℕ) → class_at classes n ≢ n → heads_below classes (n + 1) ≡ heads_below classes n
  heads_below-other n other = rw add-one (heads_below-suc n ∙ ap (λ (b : Bool). heads_below classes n ++ cond b (n ∷ []) []) (ne_eqb (class_at classes n) n other) ∙ append-nil (heads_below classes n))

  -- a head is below n, and in its own class
  pub heads_below-are : (n p : ℕ) → Contains (heads_below classes n) p → (p < n) × (class_at classes p ≡ p)
  heads_below-are zero p (k, lt, is) = absurd (omega arith)
  heads_below-are (suc n) p in' = elim (cases_eq (class_at classes n) n) as (λ _. (p < suc n) × (class_at classes p ≡ p)) [
    | inl head ↦
        let P : List ℕ → Type 0 = λ list. Contains list p in
        elim (Contains-push_cases (heads_below classes n) n p (subst P (rw add-one at (heads_below-head n head)) in')) as (λ _. (p < suc n) × (class_at classes p ≡ p)) [
          | inl before ↦ let was = heads_below-are n p before in (omega (arith, was.0), was.1)
          | inr here ↦ let Q : ℕ → Type 0 = λ q. (q < suc n) × (class_at classes q ≡ q) in subst Q here (omega arith, head)
        ]
    | inr other ↦
        let P : List ℕ → Type 0 = λ list. Contains list p in
        let was = heads_below-are n p (subst P (rw add-one at (heads_below-other n other)) in') in
        (omega (arith, was.0), was.1)
  ]

  -- each head below n is there
  pub heads_below-has : (n p : ℕ) → p < n → class_at classes p ≡ p → Contains (heads_below classes n) p
  heads_below-has zero p less is = absurd (omega arith)
  heads_below-has (suc n) p less is =
      let P : List ℕ → Type 0 = λ list. Contains list p in
      elim (cases_eq p n) as (λ _. Contains (heads_below classes (suc n)) p) [
        | inl last ↦
            let head : class_at classes n ≡ n = subst (λ (q : ℕ). class_at classes q ≡ q) last is in
            subst P (sym (rw add-one at (heads_below-head n head))) (let Q : ℕ → Type 0 = λ q. Contains (heads_below classes n ++ n ∷ []) q in subst Q (sym last) (Contains-push (heads_below classes n) n))
        | inr not_last ↦
            elim (cases_eq (class_at classes n) n) as (λ _. Contains (heads_below classes (suc n)) p) [
              | inl head ↦ subst P (sym (rw add-one at (heads_below-head n head))) (Contains-append_left (heads_below classes n) _ p (heads_below-has n p (omega arith) is))
              | inr other ↦ subst P (sym (rw add-one at (heads_below-other n other))) (heads_below-has n p (omega arith) is)
            ]
      ]

  push_increasing : (xs : List ℕ) (y : ℕ) → IsStrictlyIncreasing xs → ((p : ℕ) → Contains xs p → p < y) → IsStrictlyIncreasing (xs ++ y ∷ [])
  push_increasing xs y up below k lt =
      let size = length_push xs y in
      let here = get_or_append_left xs (y ∷ []) 0 k (omega arith) in
      elim (cases_lt (k + 1) (length xs)) as (λ _. get_or (xs ++ y ∷ []) k 0 < get_or (xs ++ y ∷ []) (k + 1) 0) [
        | inl inside ↦ omega (arith, here, up k inside, get_or_append_left xs (y ∷ []) 0 (k + 1) inside)
        | inr end ↦ omega (arith, here, get_or_push xs y 0 (k + 1) (omega arith), below (get_or xs k 0) (Contains-get_or xs k 0 (omega arith)))
      ]

  pub heads_below-increasing : (n : ℕ) → IsStrictlyIncreasing (heads_below classes n)
  heads_below-increasing zero = λ k lt. absurd (omega arith)
  heads_below-increasing (suc n) = elim (cases_eq (class_at classes n) n) as (λ _. IsStrictlyIncreasing (heads_below classes (suc n))) [
    | inl head ↦ subst IsStrictlyIncreasing (sym (rw add-one at (heads_below-head n head))) (push_increasing (heads_below classes n) n (heads_below-increasing n) (λ p in'. (heads_below-are n p in').0))
    | inr other ↦ subst IsStrictlyIncreasing (sym (rw add-one at (heads_below-other n other))) (heads_below-increasing n)
  ]

  -- among more points there is at most one more head for each
  heads_below-step : (n : ℕ) → length (heads_below classes (suc n)) ≤ length (heads_below classes n) + 1
  heads_below-step n = elim (cases_eq (class_at classes n) n) as (λ _. length (heads_below classes (suc n)) ≤ length (heads_below classes n) + 1) [
    | inl head ↦ omega (arith, ap length (rw add-one at (heads_below-head n head)), length_push (heads_below classes n) n)
    | inr other ↦ omega (arith, ap length (rw add-one at (heads_below-other n other)))
  ]

  pub length-heads_below-grows : (n m : ℕ) → length (heads_below classes (n + m)) ≤ length (heads_below classes n) + m
  length-heads_below-grows n zero = omega (arith, ap (λ (k : ℕ). length (heads_below classes k)) (add-zero n))
  length-heads_below-grows n (suc m) =
      let at : n + suc m ≡ suc (n + m) = omega arith in
      omega (arith, ap (λ (k : ℕ). length (heads_below classes k)) at, heads_below-step (n + m), length-heads_below-grows n m)

pub heads_le : (classes : List ℕ) → length (heads classes) ≤ length classes
heads_le classes =
    let at : 0 + length classes ≡ length classes = omega arith in
    omega (arith, length-heads_below-grows classes 0 (length classes), ap (λ (n : ℕ). length (heads_below classes n)) at)

pub heads_some : (classes : List ℕ) → IsPartitionOfAll classes → 0 < length classes → 0 < length (heads classes)
heads_some classes part some = omega (arith, (heads_below-has classes (length classes) 0 some (omega (arith, part.least 0 some))).1)

-- where some point counts there is a head
pub heads_of_some : (classes : List ℕ) → IsClassing classes → (p : ℕ) → HasClass classes p → 0 < length (heads classes)
heads_of_some classes part p has =
    let head = class-has_class classes p part has in
    omega (arith, (heads_below-has classes (length classes) (class_at classes p) (class-inside classes (class_at classes p) head) (part.own p has)).1)

-- the points alone are a partition
pub singles_valid : (n : ℕ) → n < 2 ^ 16 → IsPartitionValue (points_below n)
singles_valid n few =
    let size = length-range_with_len 0 n in
    record {
      partition = all-classing (points_below n) (record {
        least = λ p inside. omega (arith, point_class n p (omega (arith, size)));
        own = λ p inside. ap (class_at (points_below n)) (point_class n p (omega (arith, size)));
      }) (omega (arith, size));
      few = omega (arith, size);
    }

-- one more point alone
pub points_below-push : (xs ys : List ℕ) (n : ℕ) → xs ≡ points_below n → ys ≡ xs ++ n ∷ [] → ys ≡ points_below (n + 1)
points_below-push xs ys n is next = next ∙ ap (λ (zs : List ℕ). zs ++ n ∷ []) is ∙ sym (points_below-suc n) ∙ ap points_below (sym (add-one n))

-- one more head, or none
pub heads_below-push : (classes xs ys : List ℕ) (n c : ℕ) → xs ≡ heads_below classes n → class_at classes n ≡ c → c ≡ n → ys ≡ xs ++ c ∷ [] → ys ≡ heads_below classes (n + 1)
heads_below-push classes xs ys n c is class own next =
    next ∙ ap (λ (zs : List ℕ). zs ++ c ∷ []) is ∙ ap (λ (k : ℕ). heads_below classes n ++ k ∷ []) own ∙ sym (heads_below-head classes n (class ∙ own))

pub heads_below-skip : (classes xs : List ℕ) (n c : ℕ) → xs ≡ heads_below classes n → class_at classes n ≡ c → c ≢ n → xs ≡ heads_below classes (n + 1)
heads_below-skip classes xs n c is class other = is ∙ sym (heads_below-other classes n (λ e. other (sym class ∙ e)))
