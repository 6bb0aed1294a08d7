-- A merge of two heads leaves one head less.
use Rattle.std.proofs.Common.{◌≡◌, ◌≢◌, inl, inr, ℕ, zero, suc, ◌<◌, ◌≤◌, ◌+◌, List, length, min, max, sym, ◌∙◌, ap, arith, add-one}
use Rattle.std.proofs.lemmas.Bool.{cases_eq}
use Rattle.std.proofs.lemmas.List.{length_push}
use Rattle.partition.specs.Classes.{class_at, merged}
use Rattle.partition.specs.Heads.{heads_below, heads}
use Rattle.partition.proofs.classes.HeadLemmas.{heads_below-head, heads_below-other}
use Rattle.partition.proofs.classes.WalkLaws.{length-merged}
use Rattle.learn.proofs.HeadMerge.{merged-moved, merged-stays, merged-heads_below, merged-not_head}

module _ (m : List ℕ) (a b : ℕ) (low : (p : ℕ) → p < length m → class_at m p ≡ max a b → class_at m p ≤ p) (in_a : a < length m) (in_b : b < length m)
    (own_a : class_at m a ≡ a) (own_b : class_at m b ≡ b) (two : a ≢ b) where
  -- either of the two is a head
  own_of : (p : ℕ) → (p ≢ a → p ≡ b) → class_at m p ≡ p
  own_of p else_b =
      elim (cases_eq p a) as (λ _. class_at m p ≡ p) [
        | inl is_a ↦ ap (class_at m) is_a ∙ own_a ∙ sym is_a
        | inr not_a ↦ let is_b = else_b not_a in ap (class_at m) is_b ∙ own_b ∙ sym is_b
      ]

  own_max : class_at m (max a b) ≡ max a b
  own_max = own_of (max a b) (λ not_a. omega arith)

  own_min : class_at m (min a b) ≡ min a b
  own_min = own_of (min a b) (λ not_a. omega arith)

  -- a head was one before
  pub merged-was_head : (p : ℕ) → p < length m → class_at (merged m a b) p ≡ p → class_at m p ≡ p
  merged-was_head p inside head =
      elim (cases_eq (class_at m p) (max a b)) as (λ _. class_at m p ≡ p) [
        | inl top ↦
            let is : p ≡ min a b = sym head ∙ merged-moved m a b low in_a in_b own_a own_b two p inside top in
            ap (class_at m) is ∙ own_min ∙ sym is
        | inr other ↦ sym (merged-stays m a b low in_a in_b own_a own_b two p inside other) ∙ head
      ]

  -- and all but the greater are still
  merged-stays_head : (p : ℕ) → p < length m → p ≢ max a b → class_at m p ≡ p → class_at (merged m a b) p ≡ p
  merged-stays_head p inside other head = merged-stays m a b low in_a in_b own_a own_b two p inside (λ top. other (sym head ∙ top)) ∙ head

  one_less : (n : ℕ) → n ≤ length m → max a b < n → length (heads_below (merged m a b) n) + 1 ≡ length (heads_below m n)
  one_less zero le less = absurd (omega arith)
  one_less (suc n) le less =
      let M = merged m a b in
      elim (cases_eq n (max a b)) as (λ _. length (heads_below (merged m a b) (suc n)) + 1 ≡ length (heads_below m (suc n))) [
        | inl top ↦
            let gone : class_at (merged m a b) n ≢ n = λ head. merged-not_head m a b low in_a in_b own_a own_b two
            (sym (ap (class_at (merged m a b)) top) ∙ head ∙ top) in
            let head : class_at m n ≡ n = ap (class_at m) top ∙ own_max ∙ sym top in
            omega (
              arith,
              ap length (rw add-one at (heads_below-other (merged m a b) n gone)),
              ap length (merged-heads_below m a b low in_a in_b own_a own_b two n (omega arith)),
              ap length (rw add-one at (heads_below-head m n head)),
              length_push (heads_below m n) n,
            )
        | inr below ↦
            let before = one_less n (omega arith) (omega arith) in
            elim (cases_eq (class_at m n) n) as (λ _. length (heads_below (merged m a b) (suc n)) + 1 ≡ length (heads_below m (suc n))) [
              | inl head ↦
                  let still = merged-stays_head n (omega arith) below head in
                  omega (
                    arith,
                    before,
                    ap length (rw add-one at (heads_below-head (merged m a b) n still)),
                    length_push (heads_below (merged m a b) n) n,
                    ap length (rw add-one at (heads_below-head m n head)),
                    length_push (heads_below m n) n,
                  )
              | inr other ↦
                  let gone : class_at (merged m a b) n ≢ n = λ head. other (merged-was_head n (omega arith) head) in
                  omega (
                    arith,
                    before,
                    ap length (rw add-one at (heads_below-other (merged m a b) n gone)),
                    ap length
                        (rw add-one at (heads_below-other m n other)),
                  )
            ]
      ]

  pub merged-heads : length (heads (merged m a b)) + 1 ≡ length (heads m)
  merged-heads = omega (arith, one_less (length m) (omega arith) (omega arith), ap (λ (n : ℕ). length (heads_below (merged m a b) n)) (length-merged m a b))
