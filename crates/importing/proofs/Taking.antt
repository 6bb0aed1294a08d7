-- What was read of an input, and what it asks.
use Rattle.std.proofs.Common.{◌≡◌, ◌⊎◌, inl, inr, ⊎_elim, ℕ, ◌<◌, ◌≤◌, Bool, true, false, ◌||◌, List, [], length, take, drop, Option, None, Some, refl, sym, ◌∙◌, ap, subst, arith, nat_lt}
use Rattle.std.specs.Prelude.{Result, Ok, Err, IfErr, IsErrAnd}
use Rattle.std.specs.Option.{ForSome}
use Rattle.std.proofs.lemmas.Bool.{cases_lt}
use Rattle.std.proofs.lemmas.Bool.Decides.{nat_tests}
use Rattle.std.proofs.lemmas.List.{drop_all, length-take, take_all}
use Rattle.bench_edge.specs.Whole.{TookFirst}
use Rattle.import_rows.specs.Rows.{asked_by_rows, is_too_long, most_bytes}
use Rattle.import_rows.specs.declared.read.ImportStop.{ImportStop}
use Rattle.import_rows.specs.declared.read.ImportStop.TheVariants as reading
use Rattle.script.specs.Said.{Asked}
use Rattle.importing.specs.Input.{AreAsked, IsCause, stop_of_rows}
use Rattle.importing.specs.declared.input.InputStop.{InputStop}

-- ---- tests of lengths

left_is_false : (a b : Bool) → (a || b) ≡ false → a ≡ false
left_is_false true b is = cc
left_is_false false b is = refl

or_true : (a b : Bool) → a ≡ true → (a || b) ≡ true
or_true true b is = refl
or_true false b is = cc

at_most : (a b : ℕ) → nat_lt a b ≡ false → b ≤ a
at_most a b is = grind (arith, nat_tests)

more_than : (a b : ℕ) → a < b → nat_lt a b ≡ true
more_than a b more = grind (arith, nat_tests)

-- ---- the whole input

read_short : (xs bytes : List ℕ) → bytes ≡ take 8388609 xs → length bytes ≤ 8388608 → length xs ≤ 8388608
read_short xs bytes is few = let size = ap length is ∙ length-take 8388609 xs in omega (arith, size, few)

read_all : (xs ys bytes : List ℕ) → (bytes ≡ take 8388609 xs) × (ys ≡ drop 8388609 xs) → length xs ≤ 8388608 → (bytes ≡ xs) × (ys ≡ [])
read_all xs ys bytes took few = (took.0 ∙ take_all 8388609 xs (omega (arith, few)), took.1 ∙ drop_all 8388609 xs (omega (arith, few)))

pub are_asked : (left left' : Option (List ℕ)) (bytes : List ℕ) (rows : List Asked) → TookFirst left left' 8388609 bytes → rows ≡ asked_by_rows bytes → is_too_long bytes ≡ false → AreAsked rows left left'
are_asked None left' bytes rows took is fits = λ input told. cc
are_asked (Some xs) None bytes rows took is fits = absurd took
are_asked (Some xs) (Some ys) bytes rows took is fits = λ input told.
    let same : xs ≡ input = cc in
    let few = read_short xs bytes took.0 (at_most most_bytes (length bytes) (left_is_false _ _ fits)) in
    let all = read_all xs ys bytes took few in
    subst (λ (l : List ℕ). (rows ≡ asked_by_rows l) × (is_too_long l ≡ false) × (Some ys ≡ Some [])) (all.0 ∙ same) (is, fits, ap (λ (l : List ℕ). Some l) all.1)

too_long : (left left' : Option (List ℕ)) (bytes : List ℕ) → TookFirst left left' 8388609 bytes → is_too_long bytes ≡ true → ForSome left (λ input. is_too_long input ≡ true)
too_long None left' bytes took long = λ input told. cc
too_long (Some xs) None bytes took long = absurd took
too_long (Some xs) (Some ys) bytes took long = λ input told.
    let same : xs ≡ input = cc in
    subst (λ (l : List ℕ). is_too_long l ≡ true) same (elim (cases_lt most_bytes (length xs)) as (λ _. is_too_long xs ≡ true) [
      | inl more ↦ or_true _ _ (more_than most_bytes (length xs) more)
      | inr few ↦ subst (λ (l : List ℕ). is_too_long l ≡ true) (read_all xs ys bytes took few).0 long
    ])

-- ---- why it asks nothing

pub rows_cause : (left left' : Option (List ℕ)) (bytes : List ℕ) (e : ImportStop) → TookFirst left left' 8388609 bytes → (e ≡ reading.Memory) ⊎ (is_too_long bytes ≡ true) → IsCause (stop_of_rows e) left
rows_cause left left' bytes reading.TooLong took why = λ is. ⊎_elim (λ m. let never : ⊥ = cc in absurd never) (λ long. too_long left left' bytes took long) why
rows_cause left left' bytes reading.Memory took why = λ is. let never : ⊥ = cc in absurd never

pub err_is : {T : Type 0} (r : Result T InputStop) (e : ImportStop) (left : Option (List ℕ)) → IsErrAnd r (λ s. s ≡ stop_of_rows e) → IsCause (stop_of_rows e) left → IfErr r (λ stop. IsCause stop left)
err_is (Ok x) e left is cause = tt
err_is (Err s) e left is cause = subst (λ (z : InputStop). IsCause z left) (sym is) cause
