-- Numbers of fields, and texts that are equal.
use Rattle.std.proofs.Common.{◌≡◌, ℕ, ◌<◌, ◌≤◌, ◌^◌, Bool, true, false, List, refl, sym, ◌∙◌, ap, arith}
use Rattle.std.specs.Prelude.{◌&&◌, ◌==◌, ◌%◌, bytes_eq}
use Rattle.std.specs.Fmt.{decimal}
use Rattle.std.proofs.lemmas.Bool.{leb-true, le-leb}
use Rattle.std.proofs.lemmas.Fmt.{decimal_is_IsNumeral}
use Rattle.std.proofs.lemmas.Slice.Eq.{bytes_eq-Decides}
use Rattle.lines.specs.Numbers.{IsNumberWord}
use Rattle.wirelist_reader.specs.Kinds.{number, is_number}

-- texts are equal where they are the same
pub bytes_same : (xs ys : List ℕ) → xs ≡ ys → bytes_eq xs ys ≡ true
bytes_same xs ys e = (bytes_eq-Decides xs ys).1 e

pub bytes_equal : (xs ys : List ℕ) → bytes_eq xs ys ≡ true → xs ≡ ys
bytes_equal xs ys e = (bytes_eq-Decides xs ys).0 e

pub not_true : (b : Bool) → (b ≡ true → ⊥) → b ≡ false
not_true true n = absurd (n refl)
not_true false n = refl

pub bytes_differ : (xs ys : List ℕ) → (xs ≡ ys → ⊥) → bytes_eq xs ys ≡ false
bytes_differ xs ys n = not_true (bytes_eq xs ys) (λ e. n (bytes_equal xs ys e))

-- both sides of a conjunction
pub and_left : (a b : Bool) → (a && b) ≡ true → a ≡ true
and_left true b e = refl
and_left false b e = cc

pub and_right : (a b : Bool) → (a && b) ≡ true → b ≡ true
and_right true b e = e
and_right false b e = cc

pub and_both : (a b : Bool) → a ≡ true → b ≡ true → (a && b) ≡ true
and_both a b e f = rw (e, f) refl

-- a number's decimal text is that number
pub number_decimal : (n : ℕ) → n < 2 ^ 64 → number (decimal n) ≡ n
number_decimal n small = (decimal_is_IsNumeral n small).1

-- a word is a number of the range where it is one as printed
pub word_number : (field : List ℕ) (low most n : ℕ) → most < 2 ^ 64 → IsNumberWord field low most n → number field ≡ n
word_number field low most n small word =
    let high = word.not_above in ap number word.printed ∙ number_decimal n (omega arith)

pub word_is_number : (field : List ℕ) (low most n : ℕ) → most < 2 ^ 64 → IsNumberWord field low most n → is_number low most field ≡ true
word_is_number field low most n small word =
    let same = word_number field low most n small word in
    and_both _ _ (bytes_same field (decimal (number field)) (word.printed ∙ ap decimal (sym same)))
    (rw same (and_both _ _ (le-leb low n word.not_below) (le-leb n most word.not_above)))

pub number_is_word : (field : List ℕ) (low most : ℕ) → is_number low most field ≡ true → IsNumberWord field low most (number field)
number_is_word field low most e =
    let range = and_right _ _ e in
    record {
      printed = bytes_equal field (decimal (number field)) (and_left _ _ e);
      not_below = leb-true low (number field) (and_left _ _ range);
      not_above = leb-true (number field) most (and_right _ _ range);
    }

pub no_word_no_number : (field : List ℕ) (low most : ℕ) → ((n : ℕ) → IsNumberWord field low most n → ⊥) → is_number low most field ≡ false
no_word_no_number field low most none = not_true (is_number low most field) (λ e. none (number field) (number_is_word field low most e))

-- a number of the range, as printed
pub is_number_decimal : (low most n : ℕ) → most < 2 ^ 64 → low ≤ n → n ≤ most → is_number low most (decimal n) ≡ true
is_number_decimal low most n small above below = word_is_number (decimal n) low most n small (record { printed = refl; not_below = above; not_above = below })

-- a multiple of 50
and_of_true : (a b : Bool) → a ≡ true → b ≡ (a && b)
and_of_true a b e = rw e refl

and_of_false : (a b : Bool) → a ≡ false → false ≡ (a && b)
and_of_false a b e = rw e refl

pub volts_by_word : (field : List ℕ) (low most n : ℕ) → most < 2 ^ 64 → IsNumberWord field low most n → (n % 50 == 0) ≡ (is_number low most field && (number field % 50 == 0))
volts_by_word field low most n small word =
    ap (λ (m : ℕ). m % 50 == 0) (sym (word_number field low most n small word)) ∙ and_of_true _ _ (word_is_number field low most n small word)

pub no_volts : (field : List ℕ) (low most : ℕ) → ((n : ℕ) → IsNumberWord field low most n → ⊥) → false ≡ (is_number low most field && (number field % 50 == 0))
no_volts field low most none = and_of_false _ _ (no_word_no_number field low most none)
