-- The names of learned nets are names, and no two are one.
use Rattle.std.proofs.Common.{◌≡◌, ℕ, ◌+◌, ◌<◌, ◌^◌, ◌%◌, true, List, [], ◌∷◌, length, refl, ◌∙◌, arith}
use Rattle.std.specs.Prelude.{decimal}
use Rattle.std.specs.List.{list_all}
use Rattle.std.proofs.lemmas.Bool.{or_left, and_from, le-leb}
use Rattle.std.proofs.lemmas.Fmt.{decimal_by_steps, length-decimal-le, decimal_injective}
use Rattle.std.proofs.lemmas.List.Folds.{list_all-append}
use Rattle.partition.specs.Names.{IsName, is_name_byte}
use Rattle.learned_program.specs.LearnedProgram.{learned_name}

digit_plain : (d : ℕ) → d < 10 → is_name_byte (48 + d) ≡ true
digit_plain d l = or_left _ _ (or_left _ _ (or_left _ _ (or_left _ _ (and_from _ _ (le-leb 48 (48 + d) (omega arith)) (le-leb (48 + d) 57 (omega arith))))))

abbrev Plain : List ℕ → Type 0
Plain ds = list_all is_name_byte ds ≡ true

decimal_plain : (n : ℕ) → n < 2 ^ 64 → Plain (decimal n)
decimal_plain n l =
    decimal_by_steps (λ n ds. Plain ds)
    (λ d l. and_from _ _ (digit_plain d l) refl)
    (λ n ds l more. list_all-append is_name_byte ds ((48 + n % 10) ∷ []) ∙ and_from _ _ more (and_from _ _ (digit_plain (n % 10) (omega arith)) refl))
    n l

pub learned_is_name : (n : ℕ) → n < 2 ^ 32 → IsName (learned_name n)
learned_is_name n l =
    let short = length-decimal-le 10 n (omega arith) (omega arith) (omega arith) in
    and_from _ _ (and_from _ _ refl (le-leb (length (decimal n)) 23 (omega arith))) (decimal_plain n (omega arith))

pub learned_name-injective : (m n : ℕ) → m < 2 ^ 32 → n < 2 ^ 32 → learned_name m ≡ learned_name n → m ≡ n
learned_name-injective m n l k same = decimal_injective m n (omega arith) (omega arith) (let e : 78 ∷ decimal m ≡ 78 ∷ decimal n = same in cc)
