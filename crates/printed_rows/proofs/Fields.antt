-- Fields of at most 24 letters, digits, dashes and low lines, and rows of two such fields or more.
use Rattle.std.proofs.Common.{◌≡◌, ℕ, ◌+◌, ◌%◌, ◌^◌, ◌<◌, ◌≤◌, ◌&&◌, true, List, [], ◌∷◌, ◌++◌, length, refl, ◌∙◌, arith}
use Rattle.std.specs.List.{AllByRecursion, list_all}
use Rattle.std.specs.Fmt.{decimal}
use Rattle.std.specs.Char.{is_ascii_alphanumeric}
use Rattle.std.proofs.lemmas.Fmt.{decimal_by_steps, length-decimal-le}
use Rattle.std.proofs.lemmas.List.Folds.{list_all-append}
use Rattle.std.proofs.lemmas.Bool.Decides.{nat_tests}
use Rattle.std.specs.Prelude.{nat_le}
use Rattle.partition.specs.Names.{IsName, is_name_byte}
use Rattle.partition.proofs.classes.Labels.{and_left, and_right}

-- a field of at most 24 letters, digits, dashes and low lines
pub record IsPlainField (field : List ℕ) : Type 0 where
  pub plain : list_all is_name_byte field ≡ true
  pub short : length field ≤ 24

-- a row of two such fields or more
pub record IsPlainRow (row : List (List ℕ)) : Type 0 where
  pub many : 2 ≤ length row
  pub fields : AllByRecursion IsPlainField row

pub all_append : {X : Type 0} (P : X → Type 0) (xs ys : List X) → AllByRecursion P xs → AllByRecursion P ys → AllByRecursion P (xs ++ ys)
all_append P [] ys a b = b
all_append P (x ∷ xs) ys a b = (a.0, all_append P xs ys a.1 b)

-- a name is a plain field
le_from : (a b : ℕ) → nat_le a b ≡ true → a ≤ b
le_from a b h = grind (arith, nat_tests)

letter_byte : (b : ℕ) → is_ascii_alphanumeric b ≡ true → is_name_byte b ≡ true
letter_byte b h = rw h refl

pub name_field : (name : List ℕ) → IsName name → IsPlainField name
name_field [] h = cc
name_field (b ∷ bs) h =
    let front = and_left (is_ascii_alphanumeric b && nat_le (length bs) 23) (list_all is_name_byte bs) h in
    let rest = and_right (is_ascii_alphanumeric b && nat_le (length bs) 23) (list_all is_name_byte bs) h in
    let letter = letter_byte b (and_left (is_ascii_alphanumeric b) (nat_le (length bs) 23) front) in
    let few = le_from (length bs) 23 (and_right (is_ascii_alphanumeric b) (nat_le (length bs) 23) front) in
    record { plain = rw (letter, rest) refl; short = omega arith }

-- a decimal number below 2^64 is a plain field
digit_byte : (n : ℕ) → n < 10 → is_name_byte (48 + n) ≡ true
digit_byte n h = grind (arith, nat_tests)

digits_more : (n : ℕ) (ds : List ℕ) → 10 ≤ n → list_all is_name_byte ds ≡ true → list_all is_name_byte (ds ++ ((48 + n % 10) ∷ [])) ≡ true
digits_more n ds h all =
    let last = digit_byte (n % 10) (omega arith) in
    list_all-append is_name_byte ds ((48 + n % 10) ∷ []) ∙ rw (all, last) refl

pub decimal_field : (n : ℕ) → n < 2 ^ 64 → IsPlainField (decimal n)
decimal_field n h = record {
  plain = decimal_by_steps (λ _ ds. list_all is_name_byte ds ≡ true) (λ m below. rw (digit_byte m below) refl) (λ m ds from all. digits_more m ds from all) n h;
  short = omega (arith, length-decimal-le 20 n (omega arith) (omega arith) h);
}
