-- A harness file is read in one way.
use Rattle.std.proofs.Common.{◌≡◌, ℕ, ◌+◌, ◌<◌, ◌≤◌, false, List, [], ◌∷◌, ◌++◌, length, map, refl, sym, ◌∙◌, ap, subst, ⊎_elim, arith}
use Rattle.std.specs.Prelude.{IsTrue, IsFalse, not}
use Rattle.std.proofs.lemmas.Bool.{cases_lt}
use mathlib.Core.List.{append_assoc}
use Rattle.std.proofs.lemmas.List.{append-nil, length-append, map-append}
use Rattle.std.proofs.lemmas.List.Elements.{filter-append}
use Rattle.lines.specs.Lines.{lines_of}
use Rattle.lines.specs.Words.{words_of, is_passed_over}
use Rattle.harness.specs.declared.row.HarnessRow.{HarnessRow}
use Rattle.harness.specs.declared.refusal.HarnessRefusal.{HarnessRefusal}
use Rattle.harness.specs.declared.refusal.HarnessRefusal.TheVariants.{BadLine, PointRange, SecondElement, SameUnit, NoEnd, TooMany, TooLong, Memory}
use Rattle.harness.specs.Rows.{row_words, IsRow}
use Rattle.harness.specs.Places.{has_end, is_on_points, is_new, Stands, StandBelow}
use Rattle.harness.specs.Harness.{most_lines, row_lines, AreRows, IsBad, IsOffPoints, IsRepeated, FirstRefused, IsSecondLine, LeastSecond, AreRefused}
use Rattle.harness.specs.Units.{IsSecond}
use Rattle.harness.specs.Laws.{HarnessLaw}
use Rattle.harness.proofs.RowLemmas.{row_words_tell, AreRow-unique}

-- the same words are the same rows
rows_told : (above above' rows others : List HarnessRow) → StandBelow above rows → StandBelow above' others → map row_words rows ≡ map row_words others → rows ≡ others
rows_told above above' [] [] stand stand' e = refl
rows_told above above' [] (o ∷ others) stand stand' e = cc
rows_told above above' (r ∷ rows) [] stand stand' e = cc
rows_told above above' (r ∷ rows) (o ∷ others) stand stand' e =
    let head : row_words r ≡ row_words o = cc in
    let tail : map row_words rows ≡ map row_words others = cc in
    let first : r ≡ o = row_words_tell r o stand.0.in_range stand'.0.in_range head in
    let rest : rows ≡ others = rows_told (above ++ (r ∷ [])) (above' ++ (o ∷ [])) rows others stand.1 stand'.1 tail in
    cc

pub rows_one : (lines : List (List ℕ)) (rows others : List HarnessRow) → AreRows lines rows → AreRows lines others → rows ≡ others
rows_one lines rows others one other = rows_told [] [] rows others one.stand other.stand (sym one.words ∙ other.words)

stand_front : (base above more : List HarnessRow) → StandBelow base (above ++ more) → StandBelow base above
stand_front base [] more stand = tt
stand_front base (r ∷ above) more stand = (stand.0, stand_front (base ++ (r ∷ [])) above more stand.1)

stand_back : (base above more : List HarnessRow) → StandBelow base (above ++ more) → StandBelow (base ++ above) more
stand_back base [] more stand = subst (λ (b : List HarnessRow). StandBelow b more) (sym (append-nil base)) stand
stand_back base (r ∷ above) more stand =
    subst (λ (b : List HarnessRow). StandBelow b more) (append_assoc base (r ∷ []) above) (stand_back (base ++ (r ∷ [])) above more stand.1)

-- rows of which the first words are those
pub record Parted (ws vs : List (List (List ℕ))) (rows : List HarnessRow) : Type 0 where
  pub above : List HarnessRow
  pub more : List HarnessRow
  pub rows_are : rows ≡ above ++ more
  pub front : ws ≡ map row_words above
  pub back : vs ≡ map row_words more

parted : (ws vs : List (List (List ℕ))) (rows : List HarnessRow) → ws ++ vs ≡ map row_words rows → Parted ws vs rows
parted [] vs rows e = record { above = []; more = rows; rows_are = refl; front = refl; back = e }
parted (w ∷ ws) vs [] e = cc
parted (w ∷ ws) vs (r ∷ rows) e =
    let head : w ≡ row_words r = cc in
    let tail : ws ++ vs ≡ map row_words rows = cc in
    let rest = parted ws vs rows tail in record {
      above = r ∷ rest.above;
      more = rest.more;
      rows_are = ap (λ (rs : List HarnessRow). r ∷ rs) rest.rows_are;
      front = let f = rest.front in cc;
      back = rest.back;
    }

words-split : (before rest : List (List ℕ)) → map words_of (row_lines (before ++ rest)) ≡ map words_of (row_lines before) ++ map words_of (row_lines rest)
words-split before rest =
    ap (map words_of) (filter-append (λ l. not (is_passed_over l)) before rest) ∙ map-append words_of (row_lines before) (row_lines rest)

-- a front of lines that are rows are rows
pub record Front (before rest : List (List ℕ)) (rows : List HarnessRow) : Type 0 where
  pub above : List HarnessRow
  pub more : List HarnessRow
  pub rows_are : rows ≡ above ++ more
  pub front : AreRows before above
  pub back : map words_of (row_lines rest) ≡ map row_words more
  pub stand : StandBelow above more

front_of : (before rest : List (List ℕ)) (rows : List HarnessRow) → AreRows (before ++ rest) rows → Front before rest rows
front_of before rest rows all =
    let p = parted (map words_of (row_lines before)) (map words_of (row_lines rest)) rows (sym (words-split before rest) ∙ all.words) in
    let stand = subst (StandBelow []) p.rows_are all.stand in record {
      above = p.above;
      more = p.more;
      rows_are = p.rows_are;
      front = record { few = let f = all.few in omega (arith, length-append before rest); words = p.front; stand = stand_front [] p.above p.more stand };
      back = p.back;
      stand = stand_back [] p.above p.more stand;
    }

-- no row that stands there is the line, which is not passed over
pub record NoRow (above : List HarnessRow) (line : List ℕ) : Type 0 where
  pub to_read : IsFalse (is_passed_over line)
  pub none : (row : HarnessRow) → IsRow line row → Stands above row → ⊥

bad_none : (above : List HarnessRow) (line : List ℕ) → IsBad above line → NoRow above line
bad_none above line bad = record { to_read = bad.to_read; none = λ row is stands. let no = bad.no_row row is in let holds = stands.in_place in cc }

off_none : (above : List HarnessRow) (line : List ℕ) → IsOffPoints above line → NoRow above line
off_none above line off = record {
  to_read = off.to_read;
  none = λ row is stands.
      let same : off.row ≡ row = AreRow-unique off.is_row is in
      let no : is_on_points above row ≡ false = subst (λ (r : HarnessRow). is_on_points above r ≡ false) same off.off_points in
      let holds = stands.on_points in cc;
}

repeated_none : (above : List HarnessRow) (line : List ℕ) → IsRepeated above line → NoRow above line
repeated_none above line twice = record {
  to_read = twice.to_read;
  none = λ row is stands.
      let same : twice.row ≡ row = AreRow-unique twice.is_row is in
      let no : is_new above row ≡ false = subst (λ (r : HarnessRow). is_new above r ≡ false) same twice.repeated in
      let holds = stands.unit_is_new in cc;
}

line_words : (line : List ℕ) (rest : List (List ℕ)) → is_passed_over line ≡ false → map words_of (row_lines (line ∷ rest)) ≡ words_of line ∷ map words_of (row_lines rest)
line_words line rest e = rw e refl

next_row : (above more : List HarnessRow) (line : List ℕ) (vs : List (List (List ℕ))) → words_of line ∷ vs ≡ map row_words more → StandBelow above more → ((row : HarnessRow) → IsRow line row → Stands above row → ⊥) → ⊥
next_row above [] line vs e stand none = cc
next_row above (r ∷ more) line vs e stand none =
    let head : words_of line ≡ row_words r = cc in
    none r (record { printed = head; in_range = stand.0.in_range }) stand.0

-- such a line is among no lines that are rows
stuck : (before rest : List (List ℕ)) (line : List ℕ) (above rows : List HarnessRow) → AreRows before above → NoRow above line → AreRows (before ++ (line ∷ rest)) rows → ⊥
stuck before rest line above rows kept alone all =
    let f = front_of before (line ∷ rest) rows all in
    let same : f.above ≡ above = rows_one before f.above above f.front kept in
    next_row above f.more line (map words_of (row_lines rest)) (sym (line_words line rest alone.to_read) ∙ f.back)
    (subst (λ (rs : List HarnessRow). StandBelow rs f.more) same f.stand) alone.none

-- ---- places of refused lines

first_less : (before before' : List (List ℕ)) (line line' : List ℕ) (after after' : List (List ℕ)) → before ++ (line ∷ after) ≡ before' ++ (line' ∷ after') → length before < length before' →
    (mid : List (List ℕ)) × (before' ≡ before ++ (line ∷ mid))
first_less [] [] line line' after after' e less = absurd (omega arith)
first_less [] (b ∷ before') line line' after after' e less = let head : line ≡ b = cc in (before', cc)
first_less (a ∷ before) [] line line' after after' e less = absurd (omega arith)
first_less (a ∷ before) (b ∷ before') line line' after after' e less =
    let head : a ≡ b = cc in
    let tail : before ++ (line ∷ after) ≡ before' ++ (line' ∷ after') = cc in
    let rest = first_less before before' line line' after after' tail (omega arith) in
    let is = rest.1 in
    (rest.0, cc)

same_first : (before before' : List (List ℕ)) (line line' : List ℕ) (after after' : List (List ℕ)) → before ++ (line ∷ after) ≡ before' ++ (line' ∷ after') → length before ≡ length before' → (before ≡ before') × (line ≡ line')
same_first [] [] line line' after after' e same = (refl, cc)
same_first [] (b ∷ before') line line' after after' e same = absurd (omega arith)
same_first (a ∷ before) [] line line' after after' e same = absurd (omega arith)
same_first (a ∷ before) (b ∷ before') line line' after after' e same =
    let head : a ≡ b = cc in
    let tail : before ++ (line ∷ after) ≡ before' ++ (line' ∷ after') = cc in
    let rest = same_first before before' line line' after after' tail (omega arith) in
    let is = rest.0 in
    (cc, rest.1)

-- a refused line is not before another that is the first
not_before : (R S : List HarnessRow → List ℕ → Type 0) (lines : List (List ℕ)) (n m : ℕ) → ((above : List HarnessRow) (line : List ℕ) → R above line → NoRow above line) →
    FirstRefused R lines n → FirstRefused S lines m → n < m → ⊥
not_before R S lines n m none one other less =
    let p = one.place in
    let q = other.place in
    let mid = first_less one.before other.before one.line other.line one.after other.after (sym one.split ∙ other.split) (omega arith) in
    stuck one.before mid.0 one.line one.above other.above one.rows_are (none one.above one.line one.refused)
    (subst (λ (ls : List (List ℕ)). AreRows ls other.above) mid.1 other.rows_are)

-- nor among lines that are rows
not_among : (R : List HarnessRow → List ℕ → Type 0) (lines : List (List ℕ)) (n : ℕ) (rows : List HarnessRow) → ((above : List HarnessRow) (line : List ℕ) → R above line → NoRow above line) →
    FirstRefused R lines n → AreRows lines rows → ⊥
not_among R lines n rows none one all =
    stuck one.before one.after one.line one.above rows one.rows_are (none one.above one.line one.refused) (subst (λ (ls : List (List ℕ)). AreRows ls rows) one.split all)

same_number : (R S : List HarnessRow → List ℕ → Type 0) (lines : List (List ℕ)) (n m : ℕ) → ((above : List HarnessRow) (line : List ℕ) → R above line → NoRow above line) →
    ((above : List HarnessRow) (line : List ℕ) → S above line → NoRow above line) → FirstRefused R lines n → FirstRefused S lines m → n ≡ m
same_number R S lines n m none none' one other =
    ⊎_elim (λ less. absurd (not_before R S lines n m none one other less))
    (λ more. ⊎_elim (λ less. absurd (not_before S R lines m n none' other one less)) (λ more'. omega arith) (cases_lt m n))
    (cases_lt n m)

-- two causes stand at one line below one list of rows
both_at : (R S : List HarnessRow → List ℕ → Type 0) (lines : List (List ℕ)) (n m : ℕ) → n ≡ m → FirstRefused R lines n → FirstRefused S lines m →
    (above : List HarnessRow) × (line : List ℕ) × R above line × S above line
both_at R S lines n m e one other =
    let p = one.place in
    let q = other.place in
    let same = same_first one.before other.before one.line other.line one.after other.after (sym one.split ∙ other.split) (omega arith) in
    let rows : other.above ≡ one.above = rows_one one.before other.above one.above (subst (λ (ls : List (List ℕ)). AreRows ls other.above) (sym same.0) other.rows_are) one.rows_are in
    (one.above, one.line, one.refused, subst (λ (a : List HarnessRow). S a one.line) rows (subst (S other.above) (sym same.1) other.refused))

bad_off : (above : List HarnessRow) (line : List ℕ) → IsBad above line → IsOffPoints above line → ⊥
bad_off above line bad off = let no = bad.no_row off.row off.is_row in let holds = off.in_place in cc

bad_repeated : (above : List HarnessRow) (line : List ℕ) → IsBad above line → IsRepeated above line → ⊥
bad_repeated above line bad twice = let no = bad.no_row twice.row twice.is_row in let holds = twice.in_place in cc

off_repeated : (above : List HarnessRow) (line : List ℕ) → IsOffPoints above line → IsRepeated above line → ⊥
off_repeated above line off twice =
    let same : off.row ≡ twice.row = AreRow-unique off.is_row twice.is_row in
    let no : is_on_points above twice.row ≡ false = subst (λ (r : HarnessRow). is_on_points above r ≡ false) same off.off_points in
    let holds = twice.on_points in cc

differ : (R S : List HarnessRow → List ℕ → Type 0) (lines : List (List ℕ)) (n m : ℕ) → ((above : List HarnessRow) (line : List ℕ) → R above line → NoRow above line) →
    ((above : List HarnessRow) (line : List ℕ) → S above line → NoRow above line) → ((above : List HarnessRow) (line : List ℕ) → R above line → S above line → ⊥) →
    FirstRefused R lines n → FirstRefused S lines m → ⊥
differ R S lines n m none none' apart one other =
    let b = both_at R S lines n m (same_number R S lines n m none none' one other) one other in apart b.0 b.1 b.2 b.3

abbrev Any : List HarnessRow → List ℕ → Type 0
Any above line = Unit {0}

-- the place of a line that is one too many
too_many_place : (lines : List (List ℕ)) (n : ℕ) → most_lines < n → FirstRefused Any lines n → n ≡ most_lines + 1
too_many_place lines n more one = let p = one.place in let f = one.rows_are.few in omega arith

too_many_rows : (lines : List (List ℕ)) (n : ℕ) (rows : List HarnessRow) → most_lines < n → FirstRefused Any lines n → AreRows lines rows → ⊥
too_many_rows lines n rows more one all =
    let p = one.place in
    let f = all.few in
    omega (arith, length-append one.before (one.line ∷ one.after), ap length one.split)

many_or : (R : List HarnessRow → List ℕ → Type 0) (lines : List (List ℕ)) (n m : ℕ) → ((above : List HarnessRow) (line : List ℕ) → R above line → NoRow above line) →
    most_lines < n → FirstRefused Any lines n → m ≤ most_lines → FirstRefused R lines m → ⊥
many_or R lines n m none more one few other = not_before R Any lines m n none other one (omega arith)

-- the least of the lines with a second element is one
one_least : (lines : List (List ℕ)) (n m : ℕ) → LeastSecond lines n → LeastSecond lines m → n ≡ m
one_least lines n m one other =
    let rows : other.rows ≡ one.rows = rows_one lines other.rows one.rows other.rows_are one.rows_are in
    let up = one.least m (subst (λ (rs : List HarnessRow). IsSecondLine lines rs m) rows other.second) in
    let down = other.least n (subst (λ (rs : List HarnessRow). IsSecondLine lines rs n) (sym rows) one.second) in
    omega arith

no_end_or : (lines : List (List ℕ)) (rows others : List HarnessRow) → AreRows lines rows → IsFalse (has_end rows) → AreRows lines others → IsTrue (has_end others) → ⊥
no_end_or lines rows others all none others_all ends =
    let same : rows ≡ others = rows_one lines rows others all others_all in
    let no : has_end others ≡ false = subst (λ (rs : List HarnessRow). has_end rs ≡ false) same none in cc

one_cause : (lines : List (List ℕ)) (r s : HarnessRefusal) → AreRefused lines r → AreRefused lines s → r ≡ s
one_cause lines (TooMany n) (TooMany m) h k = ap TooMany (too_many_place lines n h.0 h.1 ∙ sym (too_many_place lines m k.0 k.1))
one_cause lines (TooMany n) (BadLine m) h k = absurd (many_or IsBad lines n m bad_none h.0 h.1 k.0 k.1)
one_cause lines (TooMany n) (PointRange m) h k = absurd (many_or IsOffPoints lines n m off_none h.0 h.1 k.0 k.1)
one_cause lines (TooMany n) (SameUnit m) h k = absurd (many_or IsRepeated lines n m repeated_none h.0 h.1 k.0 k.1)
one_cause lines (TooMany n) NoEnd h k = absurd (too_many_rows lines n k.rows h.0 h.1 k.rows_are)
one_cause lines (TooMany n) (SecondElement m) h k = absurd (too_many_rows lines n k.rows h.0 h.1 k.rows_are)
one_cause lines (BadLine n) (TooMany m) h k = absurd (many_or IsBad lines m n bad_none k.0 k.1 h.0 h.1)
one_cause lines (BadLine n) (BadLine m) h k = ap BadLine (same_number IsBad IsBad lines n m bad_none bad_none h.1 k.1)
one_cause lines (BadLine n) (PointRange m) h k = absurd (differ IsBad IsOffPoints lines n m bad_none off_none bad_off h.1 k.1)
one_cause lines (BadLine n) (SameUnit m) h k = absurd (differ IsBad IsRepeated lines n m bad_none repeated_none bad_repeated h.1 k.1)
one_cause lines (BadLine n) NoEnd h k = absurd (not_among IsBad lines n k.rows bad_none h.1 k.rows_are)
one_cause lines (BadLine n) (SecondElement m) h k = absurd (not_among IsBad lines n k.rows bad_none h.1 k.rows_are)
one_cause lines (PointRange n) (TooMany m) h k = absurd (many_or IsOffPoints lines m n off_none k.0 k.1 h.0 h.1)
one_cause lines (PointRange n) (BadLine m) h k = absurd (differ IsBad IsOffPoints lines m n bad_none off_none bad_off k.1 h.1)
one_cause lines (PointRange n) (PointRange m) h k = ap PointRange (same_number IsOffPoints IsOffPoints lines n m off_none off_none h.1 k.1)
one_cause lines (PointRange n) (SameUnit m) h k = absurd (differ IsOffPoints IsRepeated lines n m off_none repeated_none off_repeated h.1 k.1)
one_cause lines (PointRange n) NoEnd h k = absurd (not_among IsOffPoints lines n k.rows off_none h.1 k.rows_are)
one_cause lines (PointRange n) (SecondElement m) h k = absurd (not_among IsOffPoints lines n k.rows off_none h.1 k.rows_are)
one_cause lines (SameUnit n) (TooMany m) h k = absurd (many_or IsRepeated lines m n repeated_none k.0 k.1 h.0 h.1)
one_cause lines (SameUnit n) (BadLine m) h k = absurd (differ IsBad IsRepeated lines m n bad_none repeated_none bad_repeated k.1 h.1)
one_cause lines (SameUnit n) (PointRange m) h k = absurd (differ IsOffPoints IsRepeated lines m n off_none repeated_none off_repeated k.1 h.1)
one_cause lines (SameUnit n) (SameUnit m) h k = ap SameUnit (same_number IsRepeated IsRepeated lines n m repeated_none repeated_none h.1 k.1)
one_cause lines (SameUnit n) NoEnd h k = absurd (not_among IsRepeated lines n k.rows repeated_none h.1 k.rows_are)
one_cause lines (SameUnit n) (SecondElement m) h k = absurd (not_among IsRepeated lines n k.rows repeated_none h.1 k.rows_are)
one_cause lines NoEnd (TooMany m) h k = absurd (too_many_rows lines m h.rows k.0 k.1 h.rows_are)
one_cause lines NoEnd (BadLine m) h k = absurd (not_among IsBad lines m h.rows bad_none k.1 h.rows_are)
one_cause lines NoEnd (PointRange m) h k = absurd (not_among IsOffPoints lines m h.rows off_none k.1 h.rows_are)
one_cause lines NoEnd (SameUnit m) h k = absurd (not_among IsRepeated lines m h.rows repeated_none k.1 h.rows_are)
one_cause lines NoEnd NoEnd h k = refl
one_cause lines NoEnd (SecondElement m) h k = absurd (no_end_or lines h.rows k.rows h.rows_are h.none k.rows_are k.ends)
one_cause lines (SecondElement n) (TooMany m) h k = absurd (too_many_rows lines m h.rows k.0 k.1 h.rows_are)
one_cause lines (SecondElement n) (BadLine m) h k = absurd (not_among IsBad lines m h.rows bad_none k.1 h.rows_are)
one_cause lines (SecondElement n) (PointRange m) h k = absurd (not_among IsOffPoints lines m h.rows off_none k.1 h.rows_are)
one_cause lines (SecondElement n) (SameUnit m) h k = absurd (not_among IsRepeated lines m h.rows repeated_none k.1 h.rows_are)
one_cause lines (SecondElement n) NoEnd h k = absurd (no_end_or lines k.rows h.rows k.rows_are k.none h.rows_are h.ends)
one_cause lines (SecondElement n) (SecondElement m) h k = ap SecondElement (one_least lines n m h k)
one_cause lines TooLong s h k = absurd h
one_cause lines Memory s h k = absurd h
one_cause lines r TooLong h k = absurd k
one_cause lines r Memory h k = absurd k

no_cause : (lines : List (List ℕ)) (rows : List HarnessRow) (r : HarnessRefusal) → AreRows lines rows → IsTrue (has_end rows) → ((u j : ℕ) → IsSecond rows u j → ⊥) → AreRefused lines r → ⊥
no_cause lines rows (TooMany n) all ends single h = too_many_rows lines n rows h.0 h.1 all
no_cause lines rows (BadLine n) all ends single h = not_among IsBad lines n rows bad_none h.1 all
no_cause lines rows (PointRange n) all ends single h = not_among IsOffPoints lines n rows off_none h.1 all
no_cause lines rows (SameUnit n) all ends single h = not_among IsRepeated lines n rows repeated_none h.1 all
no_cause lines rows NoEnd all ends single h = no_end_or lines h.rows rows h.rows_are h.none all ends
no_cause lines rows (SecondElement n) all ends single h =
    let same : h.rows ≡ rows = rows_one lines h.rows rows h.rows_are all in
    single h.second.unit h.second.place (subst (λ (rs : List HarnessRow). IsSecond rs h.second.unit h.second.place) same h.second.second)
no_cause lines rows TooLong all ends single h = h
no_cause lines rows Memory all ends single h = h

pub harness_law : (bytes : List ℕ) → HarnessLaw bytes
harness_law bytes = record {
  one_reading = λ rows others one other. rows_one (lines_of bytes) rows others one.rows_are other.rows_are;
  apart = λ rows refusal one refused.
      ⊎_elim (λ long. let s = one.short in let l = long.1 in omega arith) (λ lines. no_cause (lines_of bytes) rows refusal one.rows_are one.ends one.single lines.1) refused;
  one_refusal = λ r s h k.
      ⊎_elim
      (λ long. ⊎_elim (λ long'. long.0 ∙ sym long'.0) (λ lines'. absurd (let l = long.1 in let m = lines'.0 in omega arith)) k)
      (λ lines. ⊎_elim (λ long'. absurd (let l = long'.1 in let m = lines.0 in omega arith)) (λ lines'. one_cause (lines_of bytes) r s lines.1 lines'.1) k)
      h;
}
