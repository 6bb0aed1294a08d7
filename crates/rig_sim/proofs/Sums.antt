-- Conductances are small.
use Rattle.std.proofs.Common.{◌≡◌, ℕ, suc, ◌+◌, ◌*◌, ◌/◌, ◌^◌, ◌<◌, ◌≤◌, Bool, true, false, cond, List, [], ◌∷◌, ◌++◌, length, get_or, take, refl, sym, ◌∙◌, ap, subst, arith}
use Rattle.std.specs.Prelude.{All, sum_by, nat_lt, ◌&&◌}
use Rattle.std.proofs.lemmas.Bool.Decides.{nat_tests}
use Rattle.std.proofs.lemmas.List.{take_more}
use Rattle.std.proofs.lemmas.List.Elements.{All-head, All-tail}
use Rattle.std.proofs.lemmas.List.Sums.{sum_by-append, sum_by-cons}
use Rattle.std.proofs.Math.Nat.{div-le_of_le-mul}
use Rattle.rig.specs.declared.unit.Row.{Row}
use Rattle.rig.specs.declared.unit.Row.TheVariants.{Wire, Resistor, Diode, Leak, Arc, Charge}
use Rattle.rig.specs.declared.unit.Unit.{Unit as HarnessUnit}
use Rattle.rig.specs.Joins.{joined_classes, most_join}
use Rattle.rig.specs.Values.{crosses, row_conductance}
use Rattle.harness.specs.Rows.{most_value, ElementInRange}
use Rattle.harness.specs.Harness.{IsUnitOf}
use Rattle.rig_sim.specs.SimRig.{HasSmallConductance}

big : (r : ℕ) → most_join < r → 10 ^ 15 / r ≤ most_value
big r more = div-le_of_le-mul r {m = 10 ^ 15} {n = most_value} (omega arith)

lt_true : (a b : ℕ) → nat_lt a b ≡ true → a < b
lt_true a b h = grind (arith, nat_tests)

-- no row has more
pub row_small : (classes a b : List ℕ) (row : Row) → ElementInRange row → row_conductance classes a b row ≤ most_value
row_small classes a b (Leak p q g) in_range = go (crosses classes a b p q)
  where
    go : (c : Bool) → cond c g 0 ≤ most_value
    go true = in_range.3
    go false = omega arith
row_small classes a b (Resistor p q r) in_range = go (nat_lt most_join r) refl (crosses classes a b p q)
  where
    go : (more : Bool) → nat_lt most_join r ≡ more → (c : Bool) → cond (more && c) (10 ^ 15 / r) 0 ≤ most_value
    go true e true = big r (lt_true most_join r e)
    go true e false = omega arith
    go false e c = omega arith
row_small classes a b (Wire p q) in_range = omega arith
row_small classes a b (Diode p q d) in_range = omega arith
row_small classes a b (Arc p q v) in_range = omega arith
row_small classes a b (Charge v x) in_range = omega arith

more_small : (x y n : ℕ) → x ≤ most_value → y ≤ n * most_value → x + y ≤ suc n * most_value
more_small x y n one rest = omega arith

sum_small : (classes a b : List ℕ) (rows : List Row) → All ElementInRange rows → sum_by (row_conductance classes a b) rows ≤ length rows * most_value
sum_small classes a b [] in_range = omega arith
sum_small classes a b (row ∷ rows) in_range =
    let here = row_small classes a b row (All-head ElementInRange row rows in_range) in
    let rest = sum_small classes a b rows (All-tail ElementInRange row rows in_range) in
    subst (λ s. s ≤ suc (length rows) * most_value) (sym (sum_by-cons (row_conductance classes a b) row rows))
    (more_small (row_conductance classes a b row) (sum_by (row_conductance classes a b) rows) (length rows) here rest)

-- nor has a unit more than fits
pub small_unit : (points : ℕ) (unit : HarnessUnit) → IsUnitOf points unit → HasSmallConductance points unit
small_unit points unit sound a b = let h = sum_small (joined_classes unit.rows points) a b unit.rows sound.in_range in let few = sound.few in omega arith

last_one : (f : Row → ℕ) (rows : List Row) (row : Row) (i : ℕ) → sum_by f (take i rows) + sum_by f (row ∷ []) ≡ sum_by f (take i rows) + f row
last_one f rows row i = omega arith

-- one more row of a sum
pub sum_more : (f : Row → ℕ) (rows : List Row) (row : Row) (i : ℕ) → i < length rows → row ≡ get_or rows i row → sum_by f (take (i + 1) rows) ≡ sum_by f (take i rows) + f row
sum_more f rows row i short at =
    ap (sum_by f) (take_more rows i row short ∙ ap (λ (r : Row). take i rows ++ (r ∷ [])) (sym at)) ∙ sum_by-append f (take i rows) (row ∷ []) ∙ last_one f rows row i
