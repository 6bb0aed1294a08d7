-- How far the lines of a harness file were read.
use Rattle.std.proofs.Common.{◌≡◌, ◌⊎◌, ℕ, ◌+◌, ◌≤◌, Bool, true, false, List, [], ◌∷◌, ◌++◌, length, map, refl, sym, ◌∙◌, ap, subst, inl, inr, arith}
use Rattle.std.specs.Prelude.{MatchBool, not}
use mathlib.Core.List.{append_assoc}
use Rattle.std.proofs.lemmas.List.{append-nil, length-append, map-append}
use Rattle.std.proofs.lemmas.List.Elements.{filter-append}
use Rattle.lines.specs.Words.{words_of, is_passed_over}
use Rattle.harness.specs.declared.row.HarnessRow.{HarnessRow}
use Rattle.harness.specs.declared.refusal.HarnessRefusal.{HarnessRefusal}
use Rattle.harness.specs.declared.refusal.HarnessRefusal.TheVariants.{BadLine, PointRange, SecondElement, SameUnit, NoEnd, TooMany, TooLong, Memory}
use Rattle.harness.specs.Rows.{row_words, IsRow}
use Rattle.harness.specs.Places.{Stands}
use Rattle.harness.specs.Harness.{most_lines, row_lines, row_numbers, AreRows, IsBad, IsOffPoints, IsRepeated, FirstRefused, AreRefused}
use Rattle.harness.specs.Above.{ReadRows, with_row, ReadsLine, RefusesLine}
use Rattle.harness.proofs.PlaceLemmas.{StandBelow-push}

-- those before the rest are rows
pub record Progress (lines rest : List (List ℕ)) (number : ℕ) (above : ReadRows) : Type 0 where
  pub before : List (List ℕ)
  pub split : lines ≡ before ++ rest
  pub place : number ≡ length before
  pub rows_are : AreRows before above.rows
  pub numbers_are : above.numbers ≡ row_numbers 1 before

pub start : (lines : List (List ℕ)) → Progress lines lines 0 (record { rows = []; numbers = [] })
start lines = record { before = []; split = refl; place = refl; rows_are = record { few = omega arith; words = refl; stand = tt }; numbers_are = refl }

numbers-append : (from : ℕ) (lines more : List (List ℕ)) → row_numbers from (lines ++ more) ≡ row_numbers from lines ++ row_numbers (from + length lines) more
numbers-append from [] more = ap (λ k. row_numbers k more) (let e : from ≡ from + 0 = omega arith in e)
numbers-append from (line ∷ lines) more = go (is_passed_over line) refl (numbers-append (from + 1) lines more) (let e : from + 1 + length lines ≡ from + length (line ∷ lines) = omega arith in e)
  where
    go : (b : Bool) → is_passed_over line ≡ b → row_numbers (from + 1) (lines ++ more) ≡ row_numbers (from + 1) lines ++ row_numbers (from + 1 + length lines) more →
        from + 1 + length lines ≡ from + length (line ∷ lines) →
        row_numbers from ((line ∷ lines) ++ more) ≡ row_numbers from (line ∷ lines) ++ row_numbers (from + length (line ∷ lines)) more
    go true e later place = rw e (later ∙ ap (λ k. row_numbers (from + 1) lines ++ row_numbers k more) place)
    go false e later place = rw e (ap (λ (ns : List ℕ). from ∷ ns) (later ∙ ap (λ k. row_numbers (from + 1) lines ++ row_numbers k more) place))

numbers-push : (before : List (List ℕ)) (above new : ReadRows) (line : List ℕ) → above.numbers ≡ row_numbers 1 before → ReadsLine above (length before + 1) line new → new.numbers ≡ row_numbers 1 (before ++ (line ∷ []))
numbers-push before above new line kept reads = go (is_passed_over line) refl reads (numbers-append 1 before (line ∷ []))
  where
    go : (b : Bool) → is_passed_over line ≡ b →
        MatchBool b (new ≡ above) ((row : HarnessRow) × IsRow line row × Stands above.rows row × (new ≡ with_row above row (length before + 1))) →
        row_numbers 1 (before ++ (line ∷ [])) ≡ row_numbers 1 before ++ row_numbers (1 + length before) (line ∷ []) →
        new.numbers ≡ row_numbers 1 (before ++ (line ∷ []))
    go true e same split =
        let none : row_numbers (1 + length before) (line ∷ []) ≡ [] = rw e refl in
        ap (λ (r : ReadRows). r.numbers) same ∙ kept ∙ sym (split ∙ ap (λ (ns : List ℕ). row_numbers 1 before ++ ns) none ∙ append-nil (row_numbers 1 before))
    go false e found split =
        let one : row_numbers (1 + length before) (line ∷ []) ≡ (1 + length before) ∷ [] = rw e refl in
        let place : length before + 1 ≡ 1 + length before = omega arith in
        ap (λ (r : ReadRows). r.numbers) found.3 ∙ ap (λ (ns : List ℕ). ns ++ ((length before + 1) ∷ [])) kept
        ∙ ap (λ k. row_numbers 1 before ++ (k ∷ [])) place
        ∙ sym (split ∙ ap (λ (ns : List ℕ). row_numbers 1 before ++ ns) one)

row_lines-push : (lines : List (List ℕ)) (line : List ℕ) → row_lines (lines ++ (line ∷ [])) ≡ row_lines lines ++ row_lines (line ∷ [])
row_lines-push lines line = filter-append (λ l. not (is_passed_over l)) lines (line ∷ [])

words-push : (before : List (List ℕ)) (line : List ℕ) → map words_of (row_lines (before ++ (line ∷ []))) ≡ map words_of (row_lines before) ++ map words_of (row_lines (line ∷ []))
words-push before line = ap (map words_of) (row_lines-push before line) ∙ map-append words_of (row_lines before) (row_lines (line ∷ []))

few-push : (before : List (List ℕ)) (line : List ℕ) → length before + 1 ≤ most_lines → length (before ++ (line ∷ [])) ≤ most_lines
few-push before line few = omega (arith, length-append before (line ∷ []))

-- a line that is passed over adds no row
pass : (before : List (List ℕ)) (above new : List HarnessRow) (line : List ℕ) → AreRows before above → length before + 1 ≤ most_lines → is_passed_over line ≡ true → new ≡ above → AreRows (before ++ (line ∷ [])) new
pass before above new line kept few passed same = rw same (record {
  few = few-push before line few;
  words = words-push before line ∙ ap (λ (ls : List (List ℕ)). map words_of (row_lines before) ++ map words_of ls) (none passed) ∙ append-nil (map words_of (row_lines before)) ∙ kept.words;
  stand = kept.stand;
})
  where
    none : is_passed_over line ≡ true → row_lines (line ∷ []) ≡ []
    none e = rw e refl

-- another line adds its row
add : (before : List (List ℕ)) (above new : List HarnessRow) (line : List ℕ) (row : HarnessRow) → AreRows before above → length before + 1 ≤ most_lines → is_passed_over line ≡ false →
    IsRow line row → Stands above row → new ≡ above ++ (row ∷ []) → AreRows (before ++ (line ∷ [])) new
add before above new line row kept few read is stands grown = rw grown (record {
  few = few-push before line few;
  words = words-push before line ∙ ap (λ (ls : List (List ℕ)). map words_of (row_lines before) ++ map words_of ls) (one read)
      ∙ ap (λ (ws : List (List (List ℕ))). ws ++ (words_of line ∷ [])) kept.words
      ∙ ap (λ (w : List (List ℕ)). map row_words above ++ (w ∷ [])) is.printed
      ∙ sym (map-append row_words above (row ∷ []));
  stand = StandBelow-push [] above row kept.stand stands;
})
  where
    one : is_passed_over line ≡ false → row_lines (line ∷ []) ≡ line ∷ []
    one e = rw e refl

AreRows-push : (before : List (List ℕ)) (above new : ReadRows) (number : ℕ) (line : List ℕ) → AreRows before above.rows → length before + 1 ≤ most_lines → ReadsLine above number line new → AreRows (before ++ (line ∷ [])) new.rows
AreRows-push before above new number line kept few reads = go (is_passed_over line) refl reads
  where
    go : (b : Bool) → is_passed_over line ≡ b → MatchBool b (new ≡ above) ((row : HarnessRow) × IsRow line row × Stands above.rows row × (new ≡ with_row above row number)) → AreRows (before ++ (line ∷ [])) new.rows
    go true e same = pass before above.rows new.rows line kept few e (ap (λ (r : ReadRows). r.rows) same)
    go false e found = add before above.rows new.rows line found.0 kept few e found.1 found.2 (ap (λ (r : ReadRows). r.rows) found.3)

pub step : (lines rest : List (List ℕ)) (line : List ℕ) (number : ℕ) (above new : ReadRows) →
    Progress lines (line ∷ rest) number above → number + 1 ≤ most_lines → ReadsLine above (number + 1) line new → Progress lines rest (number + 1) new
step lines rest line number above new at few reads = record {
  before = at.before ++ (line ∷ []);
  split = at.split ∙ sym (append_assoc at.before (line ∷ []) rest);
  place = let e = at.place in omega (arith, length-append at.before (line ∷ []));
  rows_are = AreRows-push at.before above new (number + 1) line at.rows_are (let e = at.place in omega arith) reads;
  numbers_are = numbers-push at.before above new line at.numbers_are (subst (λ k. ReadsLine above (k + 1) line new) at.place reads);
}

first : (Refused : List HarnessRow → List ℕ → Type 0) (lines rest : List (List ℕ)) (line : List ℕ) (number n : ℕ) (above : ReadRows) →
    Progress lines (line ∷ rest) number above → n ≡ number + 1 → Refused above.rows line → FirstRefused Refused lines n
first Refused lines rest line number n above at is refused = record {
  before = at.before;
  line = line;
  after = rest;
  above = above.rows;
  split = at.split;
  place = let e = at.place in omega arith;
  rows_are = at.rows_are;
  refused = refused;
}

pub stop : (lines rest : List (List ℕ)) (line : List ℕ) (number : ℕ) (above : ReadRows) (refusal : HarnessRefusal) →
    Progress lines (line ∷ rest) number above → RefusesLine above.rows (number + 1) line refusal → (refusal ≡ Memory) ⊎ AreRefused lines refusal
stop lines rest line number above (TooMany n) at why = inr (let e = why.0 in let m = why.1 in omega arith, first (λ a l. Unit {0}) lines rest line number n above at why.0 tt)
stop lines rest line number above (BadLine n) at why = inr (let e = why.0 in let m = why.1 in omega arith, first IsBad lines rest line number n above at why.0 why.2)
stop lines rest line number above (PointRange n) at why = inr (let e = why.0 in let m = why.1 in omega arith, first IsOffPoints lines rest line number n above at why.0 why.2)
stop lines rest line number above (SameUnit n) at why = inr (let e = why.0 in let m = why.1 in omega arith, first IsRepeated lines rest line number n above at why.0 why.2)
stop lines rest line number above (SecondElement n) at why = absurd why
stop lines rest line number above NoEnd at why = absurd why
stop lines rest line number above TooLong at why = absurd why
stop lines rest line number above Memory at why = inl refl

pub end : (lines : List (List ℕ)) (number : ℕ) (above : ReadRows) → Progress lines [] number above → AreRows lines above.rows
end lines number above at = subst (λ ls. AreRows ls above.rows) (sym (at.split ∙ append-nil at.before)) at.rows_are

pub end_numbers : (lines : List (List ℕ)) (number : ℕ) (above : ReadRows) → Progress lines [] number above → above.numbers ≡ row_numbers 1 lines
end_numbers lines number above at = at.numbers_are ∙ ap (row_numbers 1) (sym (at.split ∙ append-nil at.before))
