-- Rows of plain fields are read back from their lines.
use Rattle.std.proofs.Common.{◌≡◌, ◌==◌, ℕ, zero, suc, ◌+◌, ◌≤◌, true, false, List, [], ◌∷◌, ◌++◌, length, Some, refl, sym, ◌∙◌, ap, arith, inl, inr, length-append}
use Rattle.std.specs.List.{AllByRecursion, list_all, list_any, flat_map, join_with_byte}
use Rattle.std.proofs.lemmas.Bool.{cases_Bool, eqb-true}
use Rattle.csv.specs.Machine.{next_record}
use Rattle.csv.specs.Reading.{default_config, records, records_from}
use Rattle.csv.specs.Writing.{default_writer, field_text, fields_text, is_blank, needs_byte, row_text}
use Rattle.csv.specs.declared.parser.State.TheVariants as st
use Rattle.csv.proofs.RoundTrip.{read-write-many}
use Rattle.partition.specs.Names.{is_name_byte}
use Rattle.partition.proofs.classes.Labels.{and_left, and_right}
use Rattle.wirelist.specs.Canonical.{line_of}
use Rattle.wirelist.proofs.PrintingLemmas.{join_all}
use Rattle.printed_rows.proofs.Fields.{IsPlainField, IsPlainRow}

-- a byte of a name is none that is none
other_byte : (b k : ℕ) → is_name_byte b ≡ true → is_name_byte k ≡ false → (b == k) ≡ false
other_byte b k h n = elim (cases_Bool (b == k)) [
  | inl same ↦ absurd (let e : true ≡ false = sym h ∙ ap is_name_byte (eqb-true b k same) ∙ n in cc)
  | inr other ↦ other
]

-- a byte of a name calls for no quotes
plain_byte : (b : ℕ) → is_name_byte b ≡ true → needs_byte default_writer b ≡ false
plain_byte b h =
    let comma = other_byte b 44 h refl in
    let quote = other_byte b 34 h refl in
    let feed = other_byte b 10 h refl in
    let carriage = other_byte b 13 h refl in
    rw (comma, quote, carriage, feed) refl

plain_bytes : (field : List ℕ) → list_all is_name_byte field ≡ true → list_any (needs_byte default_writer) field ≡ false
plain_bytes [] h = refl
plain_bytes (b ∷ bs) h =
    let first = plain_byte b (and_left _ _ h) in
    let rest = plain_bytes bs (and_right _ _ h) in
    rw (first, rest) refl

field_as_is : (field : List ℕ) → IsPlainField field → field_text default_writer field ≡ field
field_as_is field h = let plain = plain_bytes field h.plain in rw plain refl

fields_as_are : (fields : List (List ℕ)) → AllByRecursion IsPlainField fields → fields_text default_writer fields ≡ flat_map (λ y. 44 ∷ y) fields
unfolding fields_text
fields_as_are [] h = refl
fields_as_are (field ∷ fields) h = ap (λ text. 44 ∷ (text ++ fields_text default_writer fields)) (field_as_is field h.0)
    ∙ ap (λ text. 44 ∷ (field ++ text)) (fields_as_are fields h.1)

-- the writer of csv writes a row's line
row_line : (x y : List ℕ) (rest : List (List ℕ)) → AllByRecursion IsPlainField (x ∷ y ∷ rest) → row_text default_writer (x ∷ y ∷ rest) ≡ line_of (x ∷ y ∷ rest)
unfolding is_blank
row_line x y rest h =
    ap (λ text. (text ++ fields_text default_writer (y ∷ rest)) ++ (10 ∷ [])) (field_as_is x h.0)
    ∙ ap (λ text. (x ++ text) ++ (10 ∷ [])) (fields_as_are (y ∷ rest) h.1)
    ∙ ap (λ text. text ++ (10 ∷ [])) (sym (join_all x (y ∷ rest)))

-- the reader of csv reads a line's row
line_read : (row : List (List ℕ)) (tail : List ℕ) → IsPlainRow row
    → next_record default_config st.StartRecord [] [] (line_of row ++ tail) ≡ Some (row, st.StartRecord, tail)
line_read [] tail h = let many = h.many in absurd (omega arith)
line_read (x ∷ []) tail h = let many = h.many in absurd (omega arith)
line_read (x ∷ y ∷ rest) tail h =
    ap (λ text. next_record default_config st.StartRecord [] [] (text ++ tail)) (sym (row_line x y rest h.fields)) ∙ read-write-many x y rest tail

-- each row is a record, one after another
lines_read : (rows : List (List (List ℕ))) (n : ℕ) → AllByRecursion IsPlainRow rows → length rows ≤ n
    → records_from default_config n st.StartRecord (flat_map line_of rows) ≡ rows
unfolding records_from next_record
lines_read [] zero h few = refl
lines_read [] (suc n) h few = refl
lines_read (row ∷ rows) zero h few = absurd (omega arith)
lines_read (row ∷ rows) (suc n) h few =
    let next = line_read row (flat_map line_of rows) h.0 in
    rw next (ap (λ more. row ∷ more) (lines_read rows n h.1 (omega arith)))

-- no line is empty
rows_few : (rows : List (List (List ℕ))) → length rows ≤ length (flat_map line_of rows)
rows_few [] = omega arith
rows_few (row ∷ rows) =
    omega (arith, length-append (line_of row) (flat_map line_of rows), length-append (join_with_byte 44 row) (10 ∷ []), rows_few rows)

pub rows_read : (rows : List (List (List ℕ))) → AllByRecursion IsPlainRow rows → records default_config (flat_map line_of rows) ≡ rows
rows_read rows h = let few = rows_few rows in lines_read rows (length (flat_map line_of rows) + 1) h (omega arith)
