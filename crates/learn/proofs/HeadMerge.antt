-- The merge of two classes, told by their heads.
use Rattle.std.proofs.Common.{◌≡◌, ◌≢◌, inl, inr, ℕ, zero, suc, ◌<◌, ◌≤◌, List, [], ◌∷◌, ◌++◌, length, min, max, refl, sym, ◌∙◌, ap, arith, add-one}
use Rattle.std.proofs.lemmas.Bool.{cases_eq}
use Rattle.std.proofs.lemmas.Bool.Decides.{eqb_tells}
use Rattle.partition.specs.Classes.{class_at, merged}
use Rattle.partition.specs.Heads.{heads_below}
use Rattle.partition.proofs.classes.HeadLemmas.{heads_below-head, heads_below-other}
use Rattle.partition.proofs.classes.WalkLaws.{merged_class}

-- equal class numbers below n, equal heads below n
pub heads_below-agree : (m other : List ℕ) (n : ℕ) → ((p : ℕ) → p < n → class_at m p ≡ class_at other p) → heads_below m n ≡ heads_below other n
heads_below-agree m other zero same = refl
heads_below-agree m other (suc n) same =
    let before = heads_below-agree m other n (λ p less. same p (omega arith)) in
    let here = same n (omega arith) in
    elim (cases_eq (class_at m n) n) as (λ _. heads_below m (suc n) ≡ heads_below other (suc n)) [
      | inl head ↦ rw add-one at (heads_below-head m n head) ∙ ap (λ (l : List ℕ). l ++ n ∷ []) before
          ∙ sym (rw add-one at (heads_below-head other n (sym here ∙ head)))
      | inr below ↦ rw add-one at (heads_below-other m n below) ∙ before ∙ sym (rw add-one at (heads_below-other other n (λ is. below (here ∙ is))))
    ]

module _ (m : List ℕ) (a b : ℕ) (low : (p : ℕ) → p < length m → class_at m p ≡ max a b → class_at m p ≤ p) (in_a : a < length m) (in_b : b < length m)
    (own_a : class_at m a ≡ a) (own_b : class_at m b ≡ b) (two : a ≢ b) where
  -- the points of the one class get the lesser number
  pub merged-moved : (p : ℕ) → p < length m → class_at m p ≡ max a b → class_at (merged m a b) p ≡ min a b
  merged-moved p inside is =
      elim (eqb_tells (class_at m p) (max (class_at m a) (class_at m b))) as (λ _. class_at (merged m a b) p ≡ min a b) [
        | inl e ↦ let low : min (class_at m a) (class_at m b) ≡ min a b = omega (arith, own_a, own_b) in merged_class m a b p inside ∙ rw e.0 low
        | inr e ↦ absurd (e.1 (omega (arith, is, own_a, own_b)))
      ]

  -- the others keep theirs
  pub merged-stays : (p : ℕ) → p < length m → class_at m p ≢ max a b → class_at (merged m a b) p ≡ class_at m p
  merged-stays p inside other =
      elim (eqb_tells (class_at m p) (max (class_at m a) (class_at m b))) as (λ _. class_at (merged m a b) p ≡ class_at m p) [
        | inl e ↦ absurd (other (let is = e.1 in omega (arith, is, own_a, own_b)))
        | inr e ↦ merged_class m a b p inside ∙ rw e.0 refl
      ]

  -- below the greater of the two heads nothing changes
  pub merged-heads_below : (n : ℕ) → n ≤ max a b → heads_below (merged m a b) n ≡ heads_below m n
  merged-heads_below n under = heads_below-agree (merged m a b) m n (λ p less. merged-stays p (omega arith)
      (λ is. let least = low p (omega arith) is in absurd (omega (arith, is, least))))

  -- which is a head no more
  pub merged-not_head : class_at (merged m a b) (max a b) ≢ max a b
  merged-not_head is =
      let own : class_at m (max a b) ≡ max a b = own_max in
      absurd (omega (arith, is, merged-moved (max a b) (omega arith) own, two))
    where
      own_max : class_at m (max a b) ≡ max a b
      own_max =
          elim (cases_eq (max a b) a) as (λ _. class_at m (max a b) ≡ max a b) [
            | inl is_a ↦ ap (class_at m) is_a ∙ own_a ∙ sym is_a
            | inr not_a ↦ let is_b : max a b ≡ b = omega arith in ap (class_at m) is_b ∙ own_b ∙ sym is_b
          ]
