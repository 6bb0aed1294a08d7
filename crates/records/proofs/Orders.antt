-- Each item stands before each later one, where each stands before the next.
use Rattle.std.proofs.Common.{◌≡◌, ◌↔◌, ℕ, Bool, false, IsTrue, zero, suc, [], ◌∷◌, All, AllPairs, ◌+◌, ◌-◌, ◌*◌, ◌<◌, ◌≤◌, inl, inr, List, length, get_or, slice_index, slice_index_or, refl, subst, ◌∙◌, arith}
use Rattle.std.proofs.lemmas.List.{get_or_default}
use Rattle.std.proofs.lemmas.Bool.{cases_lt}
use Rattle.std.proofs.lemmas.List.Kept.{AllPairs-from_increasing}
use Rattle.std.proofs.lemmas.List.Sums.{sum_by-le}
use Rattle.std.specs.List.Sorted.{IsStrictlyIncreasing}
use Rattle.difference.specs.declared.wiring.Piece.{Piece}
use Rattle.difference.specs.declared.wiring.Short.{Short}
use Rattle.difference.specs.DifferenceRanges.{piece_points, short_nets}
use Rattle.wirelist.specs.Ranges.{most_points, PieceInRange, ShortInRange, PiecesInRange, ShortsInRange}

-- one item more
pub one_more : {X : Type 0} (R : X → X → Type 0) (trans : (x y z : X) → R x y → R y z → R x z) (xs : List X) (i : ℕ) (before here : X)
    → 1 ≤ i → i < length xs → before ≡ get_or xs (i - 1) before → here ≡ get_or xs i here → R before here
    → ((j k : ℕ) (d : X) → j < k → k < i → R (get_or xs j d) (get_or xs k d))
    → (j k : ℕ) (d : X) → j < k → k < i + 1 → R (get_or xs j d) (get_or xs k d)
one_more {X} R trans xs i before here some within before-is here-is step so_far j k d jk ki =
    let left : before ≡ get_or xs (i - 1) d = before-is ∙ get_or_default xs (i - 1) before d (omega arith) in
    let right : here ≡ get_or xs i d = here-is ∙ get_or_default xs i here d within in
    let last : R (get_or xs (i - 1) d) (get_or xs i d) = rw (← left, ← right) step in
    elim (cases_lt k i) [
      | inl lt ↦ so_far j k d jk lt
      | inr le ↦
          let k-is : i ≡ k = omega arith in
          subst (λ (m : ℕ). R (get_or xs j d) (get_or xs m d)) k-is
          (elim (cases_lt j (i - 1)) [
            | inl lt ↦ trans _ _ _ (so_far j (i - 1) d lt (omega arith)) last
            | inr ge ↦ subst (λ (m : ℕ). R (get_or xs m d) (get_or xs i d)) (let j-is : i - 1 ≡ j = omega arith in j-is) last
          ])
    ]

-- at numbers, before is below
pub increasing_pairs : (xs : List ℕ) → AllPairs (λ x y. x < y) xs → IsStrictlyIncreasing xs
increasing_pairs xs pairs k lt = pairs k (k + 1) 0 (omega arith) lt

at_least_its_place : (xs : List ℕ) → IsStrictlyIncreasing xs → (k : ℕ) → k < length xs → k ≤ slice_index xs k
at_least_its_place xs up zero lt = omega arith
at_least_its_place xs up (suc k) lt =
    let step : slice_index xs k < slice_index xs (k + 1) = up k (omega arith) in
    let below : k ≤ slice_index xs k = at_least_its_place xs up k (omega arith) in
    let same : k + 1 ≡ suc k = omega arith in
    subst (λ (m : ℕ). m ≤ slice_index xs m) same (omega arith)

-- numbers below the limit that ascend are no more than it
pub few_increasing : (xs : List ℕ) → All (λ p. p < most_points) xs → IsStrictlyIncreasing xs → length xs ≤ most_points
few_increasing [] all up = omega arith
few_increasing (x ∷ xs) all up =
    let last = at_least_its_place (x ∷ xs) up (length xs) (omega arith) in
    let small = all (length xs) 0 (omega arith) in
    omega arith

-- so is the number of points of each piece, and of all together
pub piece_few : (piece : Piece) → PieceInRange piece → length piece.points ≤ most_points
piece_few piece ranges = few_increasing piece.points ranges.2 ranges.3

pub short_few : (short : Short) → ShortInRange short → length short.nets ≤ most_points
short_few short ranges = few_increasing short.nets ranges.1 ranges.2

pub pieces_few : (pieces : List Piece) → PiecesInRange pieces → piece_points pieces ≤ most_points * most_points
pieces_few pieces ranges =
    let most = sum_by-le (λ (x : Piece). length x.points) most_points pieces (λ k d lt. piece_few (slice_index_or pieces k d) (ranges.1 k d lt)) in
    let few = ranges.0 in
    omega arith

pub shorts_few : (shorts : List Short) → ShortsInRange shorts → short_nets shorts ≤ most_points * most_points
shorts_few shorts ranges =
    let most = sum_by-le (λ (x : Short). length x.nets) most_points shorts (λ k d lt. short_few (slice_index_or shorts k d) (ranges.1 k d lt)) in
    let few = ranges.0 in
    omega arith

-- the tests of a piece, and of a short
pub piece_is_in_range : (piece : Piece) (ordered : Bool) → piece.net < most_points → piece.class < most_points → 1 ≤ length piece.points
    → IsTrue ordered ↔ (All (λ p. p < most_points) piece.points × AllPairs (λ x y. x < y) piece.points)
    → IsTrue ordered ↔ PieceInRange piece
piece_is_in_range piece ordered net class some test = (
  λ yes. (net, class, (test.0 yes).0, increasing_pairs piece.points (test.0 yes).1, some),
  λ ranges. test.1 (ranges.2, AllPairs-from_increasing piece.points ranges.3),
)

pub short_is_in_range : (short : Short) (ordered : Bool) → short.class < most_points → 2 ≤ length short.nets
    → IsTrue ordered ↔ (All (λ p. p < most_points) short.nets × AllPairs (λ x y. x < y) short.nets)
    → IsTrue ordered ↔ ShortInRange short
short_is_in_range short ordered class some test = (
  λ yes. (class, (test.0 yes).0, increasing_pairs short.nets (test.0 yes).1, some),
  λ ranges. test.1 (ranges.1, AllPairs-from_increasing short.nets ranges.2),
)

-- a list that is not empty
pub some_of : {X : Type 0} (xs : List X) (b : Bool) → b ≡ false → IsTrue b ↔ (xs ≡ []) → 1 ≤ length xs
some_of [] b isnt test = absurd (let found = test.1 refl in cc)
some_of (x ∷ xs) b isnt test = omega arith
