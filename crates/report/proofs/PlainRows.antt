-- Rows whose fields call for no quotes are their fields with commas between them.
use Rattle.std.proofs.Common.{◌≡◌, ℕ, ◌+◌, ◌<◌, ◌≤◌, ◌^◌, ◌%◌, ◌/◌, true, false, List, [], ◌∷◌, ◌++◌, length, refl, ap, arith, append-nil}
use Rattle.std.specs.Prelude.{All, decimal}
use Rattle.std.specs.List.{join_with_byte, list_all, list_any}
use Rattle.std.proofs.lemmas.Fmt.{decimal_by_steps}
use Rattle.std.proofs.lemmas.List.Elements.{All-head, All-tail}
use Rattle.std.proofs.lemmas.List.Folds.{list_any-append}
use Rattle.std.proofs.lemmas.Bool.Decides.{nat_tests}
use Rattle.csv.specs.Writing.{default_writer, fields_text, is_blank, needs_byte, row_text}
use Rattle.partition.specs.Names.{IsName, is_name_byte}
use Rattle.partition.proofs.classes.Labels.{and_left, and_right}
use Rattle.printed_rows.proofs.Fields.{name_field}
use Rattle.wirelist.specs.Canonical.{line_of}
use Rattle.serials.specs.Dates.{Civil, civil_text, two_digits}
use Rattle.report.specs.Writing.{IsPlain}

-- ---- rows

rest_plain : (field : List ℕ) (rest : List (List ℕ)) → All IsPlain (field ∷ rest) → fields_text default_writer (field ∷ rest) ≡ 44 ∷ join_with_byte 44 (field ∷ rest)
unfolding fields_text
rest_plain field [] plain = let here = All-head IsPlain field [] plain in rw here (ap (λ (l : List ℕ). 44 ∷ l) (append-nil field))
rest_plain field (next ∷ rest) plain =
    let here = All-head IsPlain field (next ∷ rest) plain in
    rw here (ap (λ (l : List ℕ). 44 ∷ (field ++ l)) (rest_plain next rest (All-tail IsPlain field (next ∷ rest) plain)))

pub row_plain : (fields : List (List ℕ)) → 2 ≤ length fields → All IsPlain fields → row_text default_writer fields ≡ line_of fields
unfolding is_blank
row_plain [] two plain = absurd (omega arith)
row_plain (a ∷ []) two plain = absurd (omega arith)
row_plain (a ∷ b ∷ rest) two plain =
    let here = All-head IsPlain a (b ∷ rest) plain in
    rw here (ap (λ (l : List ℕ). (a ++ l) ++ (10 ∷ [])) (rest_plain b rest (All-tail IsPlain a (b ∷ rest) plain)))

-- ---- fields

-- no byte from 45 on calls for quotes
above_plain : (b : ℕ) → 45 ≤ b → needs_byte default_writer b ≡ false
above_plain b h = grind arith

pub decimal_plain : (n : ℕ) → n < 2 ^ 64 → IsPlain (decimal n)
decimal_plain n h = decimal_by_steps (λ m ds. list_any (needs_byte default_writer) ds ≡ false)
    (λ d lt. rw (above_plain (48 + d) (omega arith)) refl)
    (λ m ds lt e. rw (list_any-append, e, above_plain (48 + m % 10) (omega arith)) refl) n h

name_byte_above : (b : ℕ) → is_name_byte b ≡ true → 45 ≤ b
name_byte_above b h = grind (arith, nat_tests)

bytes_plain : (bs : List ℕ) → list_all is_name_byte bs ≡ true → IsPlain bs
bytes_plain [] h = refl
bytes_plain (b ∷ bs) h =
    let first = above_plain b (name_byte_above b (and_left (is_name_byte b) (list_all is_name_byte bs) h)) in
    rw (first, bytes_plain bs (and_right (is_name_byte b) (list_all is_name_byte bs) h)) refl

pub name_plain : (name : List ℕ) → IsName name → IsPlain name
name_plain name named = let field = name_field name named in bytes_plain name field.plain

any_append : (a b : List ℕ) → IsPlain a → IsPlain b → IsPlain (a ++ b)
any_append a b pa pb = rw (list_any-append, pa, pb) refl

two_plain : (n : ℕ) → IsPlain (two_digits n)
two_plain n = rw (above_plain (48 + n / 10) (omega arith), above_plain (48 + n % 10) (omega arith)) refl

pub date_plain : (c : Civil) → IsPlain (civil_text c)
date_plain c =
    let dash : IsPlain (45 ∷ []) = refl in
    let year = any_append (two_digits (c.year / 100)) (two_digits (c.year % 100)) (two_plain (c.year / 100)) (two_plain (c.year % 100)) in
    let rest = any_append (45 ∷ two_digits c.month) (45 ∷ two_digits c.day) (any_append (45 ∷ []) (two_digits c.month) dash (two_plain c.month)) (any_append (45 ∷ []) (two_digits c.day) dash (two_plain c.day)) in
    any_append (two_digits (c.year / 100) ++ two_digits (c.year % 100)) ((45 ∷ two_digits c.month) ++ (45 ∷ two_digits c.day)) year rest
