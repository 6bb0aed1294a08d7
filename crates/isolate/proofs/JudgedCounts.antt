-- The number of points that count, one point more.
use Rattle.std.proofs.Common.{◌≡◌, ◌≢◌, ℕ, zero, suc, ◌+◌, ◌<◌, ◌≤◌, ◌^◌, Bool, true, cond, not, List, [], ◌∷◌, ◌++◌, length, filter, eqb, sym, ◌∙◌, ap, arith, inl, inr, add-one, add-zero, zero-add}
use Rattle.std.proofs.lemmas.List.Elements.{filter-append}
use Rattle.std.proofs.lemmas.List.{append-nil, length_push}
use Rattle.std.proofs.lemmas.Bool.{cases_eq, eq-eqb, ne_eqb}
use Rattle.partition.specs.Classes.{points_below, class_at, has, no_class}
use Rattle.partition.specs.Partitions.{HasClass}
use Rattle.partition.specs.Heads.{heads_below, heads, heads_to}
use Rattle.partition.specs.NetTable.{NetTable, IsNetTable, judged_points, net_at, programmed_of}
use Rattle.partition.proofs.classes.ClassLaws.{points_below-AllBelow}
use Rattle.partition.proofs.classes.Programmed.{programmed-IsPartition}
use Rattle.partition.proofs.classes.FieldLaw.{judged_law}
use Rattle.partition.proofs.classes.HeadLemmas.{heads_below-head, heads_below-other, points_below-suc}
use Rattle.partition.proofs.tables.KeptLemmas.{filter-agree}
use Rattle.partition.proofs.Members.{In-has}
use Rattle.partition.proofs.tables.NetLaws.{judged-below, judged-is}
use Rattle.partition.proofs.classes.ClassLaws.{length-classes_by}
use Rattle.isolate.specs.Counts.{judged_to}

module _ (classes : List ℕ) where
  judged-suc : (n : ℕ) → filter (λ p. not (eqb (class_at classes p) no_class)) (points_below (suc n)) ≡ filter (λ p. not (eqb (class_at classes p) no_class))
      (points_below n) ++ cond (not (eqb (class_at classes n) no_class)) (n ∷ []) []
  judged-suc n =
      ap (filter (λ p. not (eqb (class_at classes p) no_class))) (points_below-suc n)
      ∙ filter-append (λ p. not (eqb (class_at classes p) no_class)) (points_below n) (n ∷ [])

  counts-more : (n : ℕ) → class_at classes n ≢ no_class → judged_to classes (n + 1) ≡ judged_to classes n + 1
  counts-more n some =
      ap length (rw add-one (judged-suc n ∙ ap (λ (b : Bool). filter (λ p. not (eqb (class_at classes p) no_class)) (points_below n) ++ cond (not b)
      (n ∷ []) []) (ne_eqb (class_at classes n) no_class some)))
      ∙ length_push (filter (λ p. not (eqb (class_at classes p) no_class)) (points_below n)) n

  -- the next point counts, or it does not
  pub judged_to-more : (n : ℕ) → HasClass classes n → judged_to classes (n + 1) ≡ judged_to classes n + 1
  judged_to-more n has = counts-more n (λ e. absurd (omega arith))

  pub judged_to-skip : (n : ℕ) → class_at classes n ≡ no_class → judged_to classes (n + 1) ≡ judged_to classes n
  judged_to-skip n none =
      let t : eqb (class_at classes n) no_class ≡ true = eq-eqb (class_at classes n) no_class none in
      ap length (rw add-one (judged-suc n ∙ ap (λ (b : Bool). filter (λ p. not (eqb (class_at classes p) no_class)) (points_below n) ++ cond (not b)
      (n ∷ []) []) t
      ∙ append-nil (filter (λ p. not (eqb (class_at classes p) no_class)) (points_below n))))

  judged_to-step : (n : ℕ) → judged_to classes n ≤ judged_to classes (n + 1)
  judged_to-step n = elim (cases_eq (class_at classes n) no_class) as (λ _. judged_to classes n ≤ judged_to classes (n + 1)) [
    | inl none ↦ omega (arith, judged_to-skip n none)
    | inr some ↦ omega (arith, counts-more n some)
  ]

  -- heads count: there are no more of them than points that count, from any point on
  head-step : (n : ℕ) → n < no_class → heads_to classes (n + 1) + judged_to classes n ≤ heads_to classes n + judged_to classes (n + 1)
  head-step n small = elim (cases_eq (class_at classes n) n) as (λ _. heads_to classes (n + 1) + judged_to classes n ≤ heads_to classes n + judged_to classes
      (n + 1)) [
        | inl head ↦ omega (arith, ap length (heads_below-head classes n head), length_push (heads_below classes n) n, judged_to-more n (omega arith))
        | inr other ↦ omega (arith, ap length (heads_below-other classes n other), judged_to-step n)
      ]

  pub heads_grow : (n m : ℕ) → n + m ≤ no_class → heads_to classes (n + m) + judged_to classes n ≤ heads_to classes n + judged_to classes (n + m)
  heads_grow n zero small = let at : n + 0 ≡ n = add-zero n in omega (arith, ap (heads_to classes) at, ap (judged_to classes) at)
  heads_grow n (suc m) small =
      let at : n + suc m ≡ (n + m) + 1 = omega arith in
      omega (arith, heads_grow n m (omega arith), head-step (n + m) (omega arith), ap (heads_to classes) at, ap (judged_to classes) at)

-- those of the programmed partition are the judged points
pub judged_to-programmed : (t : NetTable) → IsNetTable t → t.points < 2 ^ 16 → judged_to (programmed_of t) t.points ≡ length (judged_points t)
judged_to-programmed t ok few =
    let size = length-classes_by (judged_points t) t.points (net_at t) in
    let listed = (judged_law (judged_points t) t.points (programmed_of t) (omega arith) (judged-below t) (programmed-IsPartition t ok)).listed in
    ap (judged_to (programmed_of t)) (sym size) ∙ ap length listed
    ∙ ap length (filter-agree (has (judged_points t)) (λ p. not (has t.ignored p)) (points_below t.points)
    (λ p i. judged-is t p (points_below-AllBelow t.points p (In-has p (points_below t.points) i))))

pub counted-programmed : (t : NetTable) → IsNetTable t → t.points < 2 ^ 16 → judged_to (programmed_of t) (length (programmed_of t)) ≡ length (judged_points t)
counted-programmed t ok few = ap (judged_to (programmed_of t)) (length-classes_by (judged_points t) t.points (net_at t)) ∙ judged_to-programmed t ok few

-- there are no more heads than judged points
pub heads-programmed : (t : NetTable) → IsNetTable t → t.points < 2 ^ 16 → length (heads (programmed_of t)) ≤ length (judged_points t)
heads-programmed t ok few =
    let m = programmed_of t in
    let at : 0 + t.points ≡ t.points = zero-add t.points in
    let size = length-classes_by (judged_points t) t.points (net_at t) in
    omega (arith, heads_grow m 0 t.points (omega arith), ap (heads_to m) at, ap (judged_to m) at, ap (heads_to m) size, judged_to-programmed t ok few)
