-- Filters of filters, and members of lists of numbers.
use Rattle.std.proofs.Common.{◌≡◌, inl, inr, ℕ, zero, suc, ◌+◌, ◌<◌, Bool, true, false, List, [], ◌∷◌, length, get_or, refl, sym, ◌∙◌, ap, subst, arith, filter, Contains, add-one}
use Rattle.std.specs.List.Sorted.{IsStrictlyIncreasing}
use Rattle.std.proofs.lemmas.Bool.{cases_eq}
use Rattle.std.proofs.lemmas.List.FromFn.{get_or-range_with_len, length-range_with_len}
use Rattle.std.proofs.lemmas.List.{get_or_append_left, get_or_push, length_push}
use Rattle.partition.specs.Classes.{class_at, points_below, has}
use Rattle.partition.specs.Heads.{heads_below, heads_to}
use Rattle.partition.proofs.classes.HeadLemmas.{heads_below-head, heads_below-other}
use Rattle.partition.proofs.Members.{In, In-has}
use Rattle.partition.proofs.tables.NetLaws.{Contains-In, In-index}

-- a filter of what another filter keeps
pub filter_filter : (f g h : ℕ → Bool) (xs : List ℕ) → ((q : ℕ) → In q xs → (h q ≡ true → f q ≡ g q) × (h q ≡ false → f q ≡ false)) → filter f xs ≡ filter g (filter h xs)
filter_filter f g h [] e = refl
filter_filter f g h (x ∷ xs) e = go (h x) refl (filter_filter f g h xs (λ q i. e q (inr i)))
  where
    go : (b : Bool) → h x ≡ b → filter f xs ≡ filter g (filter h xs) → filter f (x ∷ xs) ≡ filter g (filter h (x ∷ xs))
    go true k ih = rw (k, (e x (inl refl)).0 k, ih) refl
    go false k ih = rw (k, (e x (inl refl)).1 k, ih) refl

pub In-Contains : (x : ℕ) (xs : List ℕ) → In x xs → Contains xs x
In-Contains x xs i = let k = In-index x xs i in (k.0, k.1, k.2 x)

pub Contains-has : (x : ℕ) (xs : List ℕ) → Contains xs x → has xs x ≡ true
Contains-has x xs c = In-has x xs (Contains-In x xs c)

pub In-some : (x : ℕ) (xs : List ℕ) → In x xs → 0 < length xs
In-some x xs i = let k = In-index x xs i in let lt = k.1 in omega arith

pub range_increasing : (n : ℕ) → IsStrictlyIncreasing (points_below n)
range_increasing n k l =
    let size = length-range_with_len 0 n in
    omega (arith, get_or-range_with_len 0 n k 0 (omega arith), get_or-range_with_len 0 n (k + 1) 0 (omega arith))

-- a head stands at the place of how many come before it
pub heads_place : (classes : List ℕ) (n f : ℕ) → f < n → class_at classes f ≡ f → (heads_to classes f < length (heads_below classes n)) × (get_or (heads_below classes n) (heads_to classes f) 0 ≡ f)
heads_place classes zero f less is = absurd (omega arith)
heads_place classes (suc n) f less is =
    let P : List ℕ → Type 0 = λ list. (heads_to classes f < length list) × (get_or list (heads_to classes f) 0 ≡ f) in
    elim (cases_eq f n) as (λ _. P (heads_below classes (suc n))) [
      | inl last ↦
          let head : class_at classes n ≡ n = subst (λ (q : ℕ). class_at classes q ≡ q) last is in
          let place : heads_to classes f ≡ length (heads_below classes n) = ap (heads_to classes) last in
          subst P (sym (rw add-one at (heads_below-head classes n head)))
          (omega (arith, place, length_push (heads_below classes n) n), get_or_push (heads_below classes n) n 0 (heads_to classes f) (omega (arith, place)) ∙ sym last)
      | inr not_last ↦
          let was = heads_place classes n f (omega arith) is in
          elim (cases_eq (class_at classes n) n) as (λ _. P (heads_below classes (suc n))) [
            | inl head ↦
                subst P (sym (rw add-one at (heads_below-head classes n head)))
                (omega (arith, was.0, length_push (heads_below classes n) n), get_or_append_left (heads_below classes n) (n ∷ []) 0 (heads_to classes f) was.0 ∙ was.1)
            | inr other ↦ subst P (sym (rw add-one at (heads_below-other classes n other))) was
          ]
    ]
