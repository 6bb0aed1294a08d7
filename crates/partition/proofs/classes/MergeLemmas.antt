-- A merge leaves a partition.
use Rattle.std.proofs.Common.{◌≡◌, inl, inr, ℕ, List, length, map, cond, eqb, min, max, sym, ◌∙◌, ap, arith, take, drop, ◌++◌}
use Rattle.std.proofs.Math.Seq.{take-append_seam}
use Rattle.partition.specs.Classes.{class_at, merged, Same}
use Rattle.partition.specs.Partitions.{HasClass, IsPartitionValue, JoinsBesides}
use Rattle.partition.proofs.classes.WalkLaws.{length-merged, merged_cases, merged_joins, merged_keeps}
use Rattle.partition.proofs.classes.JudgedPartition.{class-inside, merged-classing}

pub merged-valid : (m : List ℕ) (a b : ℕ) → HasClass m a → HasClass m b → IsPartitionValue m → IsPartitionValue (merged m a b)
merged-valid m a b in_a in_b valid = record {
  partition = merged-classing m a b in_a in_b valid.partition;
  few = omega (arith, length-merged m a b, valid.few);
}

-- what a merge joins
pub merged-joins : (m : List ℕ) (a b : ℕ) → HasClass m a → HasClass m b → JoinsBesides m (merged m a b) a b
merged-joins m a b in_a in_b p q in_p in_q = (
  merged_cases m a b p q (class-inside m p in_p) (class-inside m q in_q),
  λ joined. elim joined as (λ _. Same (merged m a b) p q) [
    | inl same ↦ keeps p q in_p in_q same
    | inr (inl sides) ↦ keeps p a in_p in_a sides.0 ∙ both ∙ sym (keeps q b in_q in_b sides.1)
    | inr (inr sides) ↦ keeps p b in_p in_b sides.0 ∙ sym both ∙ sym (keeps q a in_q in_a sides.1)
  ],
)
  where
    keeps : (x y : ℕ) → HasClass m x → HasClass m y → Same m x y → Same (merged m a b) x y
    keeps x y in_x in_y same = merged_keeps m a b x y (class-inside m x in_x) (class-inside m y in_y) same

    both : Same (merged m a b) a b
    both = merged_joins m a b (class-inside m a in_a) (class-inside m b in_b)

-- what a merge makes, from the two class numbers
pub merged-is : (m new : List ℕ) (a b x y low high : ℕ) → x ≡ class_at m a → y ≡ class_at m b → low ≡ min x y → high ≡ max x y
    → new ≡ map (λ c. cond (eqb c high) low c) m → new ≡ merged m a b
merged-is m new a b x y low high at_a at_b is_low is_high is =
    let l : low ≡ min (class_at m a) (class_at m b) = is_low ∙ ap (λ (k : ℕ). min k y) at_a ∙ ap (min (class_at m a)) at_b in
    let h : high ≡ max (class_at m a) (class_at m b) = is_high ∙ ap (λ (k : ℕ). max k y) at_a ∙ ap (max (class_at m a)) at_b in
    is ∙ ap (λ (k : ℕ). map (λ c. cond (eqb c k) low c) m) h ∙ ap (λ (k : ℕ). map (λ c. cond (eqb c (max (class_at m a) (class_at m b))) k c) m) l

-- a whole slice that was lent and written stands in the place of the items
pub written-back : (new items : List ℕ) (n : ℕ) → length new ≡ length items → n ≡ length items → take n (new ++ drop (length new) items) ≡ new
written-back new items n same all = ap (λ (k : ℕ). take k (new ++ drop (length new) items)) (all ∙ sym same) ∙ take-append_seam new (drop (length new) items)
