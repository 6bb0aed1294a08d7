-- The rows of a program's text, each by itself: its fields are not empty, are printable, and are what they may be.
use Rattle.std.proofs.Common.{◌≡◌, ℕ, zero, suc, ◌+◌, ◌-◌, ◌<◌, ◌≤◌, ◌^◌, ◌%◌, Bool, true, false, not, List, [], ◌∷◌, Some, length, map, All, codes, refl, ◌∙◌, ap, arith, eqb, le-leb, le-ltb, eq-eqb, cond}
use Rattle.std.specs.Prelude.{◌&&◌, ◌==◌, nat_le, nat_lt, slice_get, filter}
use Rattle.std.specs.List.{AllByRecursion, list_all, range_with_len}
use Rattle.std.specs.Fmt.{decimal}
use Rattle.std.specs.Str.Parse.{AllDigits}
use Rattle.std.specs.Char.{is_ascii_alphanumeric}
use Rattle.std.proofs.lemmas.List.Elements.{All-from_recursion, All-tail, All-cons}
use Rattle.std.proofs.lemmas.Bool.Decides.{nat_tests}
use Rattle.std.proofs.lemmas.Str.Parse.{digit_from_value}
use Rattle.std.proofs.lemmas.Fmt.{decimal_is_IsNumeral}
use Rattle.partition.specs.Names.{IsName, is_name_byte}
use Rattle.wirelist.specs.Canonical.{part_row, points_row, net_row, ignore_row, resistor_row, diode_row, insulation_row, withstand_row, attempts_row}
use Rattle.wirelist.specs.Numbers.{IsWithin}
use Rattle.wirelist.specs.Programs.{IsResistor, IsDiode, IsInsulation, IsWithstand}
use Rattle.wirelist.specs.declared.program.Insulation as insulation
use Rattle.wirelist.specs.declared.program.Withstand as withstand
use Rattle.wirelist.specs.declared.parts.Resistor as resistor
use Rattle.wirelist.specs.declared.parts.Diode as diode
use Rattle.wirelist_rows.specs.Filled.{filled}
use Rattle.wirelist_reader.specs.Kinds.{kind_word, shape_at, fits, is_number, number, bad_fields}
use Rattle.wirelist_reader.specs.Rows.{field_at, is_component, number_at}
use Rattle.wirelist_reader.specs.Refusals.{is_text}
use Rattle.wirelist_reader.specs.declared.kind.Kind.{Kind}
use Rattle.wirelist_reader.specs.declared.kind.Kind.TheVariants.{Part, Points, Net, Ignore, Resistor, Diode, Insulation, Withstand, Attempts}
use Rattle.wirelist_reader.specs.declared.kind.Shape.TheVariants.{MorePoints}
use Rattle.wirelist_reader.proofs.Numbers.{and_left, and_right, and_both, number_decimal, is_number_decimal}
use Rattle.wirelist_reader.proofs.printed.PrintedLists.{filter_range_none}

-- a field that is not empty, and printable
abbrev pub IsPlain : List ℕ → Type 0
IsPlain field = (0 < length field) × (is_text field ≡ true)

-- a row of a kind, as a program's text has it
pub record IsPrinted (kind : Kind) (row : List (List ℕ)) : Type 0 where
  pub word : field_at row 0 ≡ kind_word kind
  pub plain : All IsPlain row
  pub fit : bad_fields kind row ≡ []
  pub window : (is_component row && nat_lt (number_at row 5) (number_at row 4)) ≡ false

-- a row whose fields are not empty has no empty fields at its end
pub filled_plain : (row : List (List ℕ)) → All IsPlain row → filled row ≡ row
filled_plain [] plain = refl
filled_plain (field ∷ fields) plain =
    let some : 0 < length field = (plain 0 field (omega arith)).0 in
    let full : eqb (length field) 0 ≡ false = grind (arith, nat_tests) in
    ap (λ b. cond (b && (length (filled fields) == 0)) [] (field ∷ filled fields)) full ∙ ap (λ rest. field ∷ rest) (filled_plain fields (All-tail IsPlain field fields plain))

-- ---- fields

printable : (b : ℕ) → 32 ≤ b → b ≤ 126 → (nat_le 32 b && nat_le b 126) ≡ true
printable b low high = and_both _ _ (le-leb 32 b low) (le-leb b 126 high)

letter_low : (b : ℕ) → is_ascii_alphanumeric b ≡ true → 32 ≤ b
letter_low b h = grind (arith, nat_tests)

letter_high : (b : ℕ) → is_ascii_alphanumeric b ≡ true → b ≤ 126
letter_high b h = grind (arith, nat_tests)

byte_low : (b : ℕ) → is_name_byte b ≡ true → 32 ≤ b
byte_low b h = grind (arith, nat_tests)

byte_high : (b : ℕ) → is_name_byte b ≡ true → b ≤ 126
byte_high b h = grind (arith, nat_tests)

bytes_text : (bs : List ℕ) → list_all is_name_byte bs ≡ true → is_text bs ≡ true
bytes_text [] h = refl
bytes_text (b ∷ bs) h =
    let byte : is_name_byte b ≡ true = and_left _ _ h in
    and_both _ _ (printable b (byte_low b byte) (byte_high b byte)) (bytes_text bs (and_right _ _ h))

pub name_plain : (name : List ℕ) → IsName name → IsPlain name
name_plain [] h = absurd (let e : false ≡ true = h in cc)
name_plain (b ∷ bs) h =
    let byte : is_ascii_alphanumeric b ≡ true = and_left _ _ (and_left _ _ h) in
    (omega arith, and_both _ _ (printable b (letter_low b byte) (letter_high b byte)) (bytes_text bs (and_right _ _ h)))

digits_text : (ds : List ℕ) → AllDigits 10 ds → is_text ds ≡ true
digits_text [] h = refl
digits_text (d ∷ ds) h =
    let digit = digit_from_value d h.0 in
    and_both _ _ (printable d (omega (arith, digit.0)) (omega (arith, digit.1))) (digits_text ds h.1)

pub decimal_plain : (n : ℕ) → n < 2 ^ 64 → IsPlain (decimal n)
decimal_plain n small = let numeral = (decimal_is_IsNumeral n small).0 in (numeral.0, digits_text (decimal n) numeral.1)

-- ---- rows of a fixed number of fields

all_fit : (t : ℕ → Bool) (ps : List ℕ) → AllByRecursion (λ p. t p ≡ true) ps → filter (λ p. not (t p)) ps ≡ []
all_fit t [] h = refl
all_fit t (p ∷ ps) h = ap (λ b. cond (not b) (p ∷ filter (λ q. not (t q)) ps) (filter (λ q. not (t q)) ps)) h.0 ∙ all_fit t ps h.1

abbrev Fit : Kind → List (List ℕ) → Type 0
Fit kind row = AllByRecursion (λ place. fits (shape_at kind place) (slice_get row place) ≡ true) (range_with_len 1 (length row))

row_fits : (kind : Kind) (row : List (List ℕ)) → Fit kind row → bad_fields kind row ≡ []
row_fits kind row h = all_fit (λ place. fits (shape_at kind place) (slice_get row place)) (range_with_len 1 (length row)) h

abbrev Plain : List (List ℕ) → Type 0
Plain row = AllByRecursion IsPlain row

row_plain : (row : List (List ℕ)) → Plain row → All IsPlain row
row_plain row h = All-from_recursion IsPlain row h

word_plain : (kind : Kind) → IsPlain (kind_word kind)
word_plain Part = (omega arith, refl)
word_plain Points = (omega arith, refl)
word_plain Net = (omega arith, refl)
word_plain Ignore = (omega arith, refl)
word_plain Resistor = (omega arith, refl)
word_plain Diode = (omega arith, refl)
word_plain Insulation = (omega arith, refl)
word_plain Withstand = (omega arith, refl)
word_plain Attempts = (omega arith, refl)

pub part_printed : (name : List ℕ) (revision : ℕ) → IsName name → IsWithin 1 999999 revision → IsPrinted Part (part_row name revision)
part_printed name revision named within =
    let low = within.0 in
    let high = within.1 in
    record {
      word = refl;
      plain = row_plain (part_row name revision) (word_plain Part, (name_plain name named, (decimal_plain revision (omega arith), tt)));
      fit = row_fits Part (part_row name revision) (named, (is_number_decimal 1 999999 revision (omega arith) low high, (refl, tt)));
      window = refl;
    }

pub points_printed : (n : ℕ) → 1 ≤ n → n ≤ 4096 → IsPrinted Points (points_row n)
points_printed n low high = record {
  word = refl;
  plain = row_plain (points_row n) (word_plain Points, (decimal_plain n (omega arith), tt));
  fit = row_fits Points (points_row n) (is_number_decimal 1 4096 n (omega arith) low high, (refl, tt));
  window = refl;
}

pub attempts_printed : (n : ℕ) → IsWithin 1 9 n → IsPrinted Attempts (attempts_row n)
attempts_printed n within =
    let low = within.0 in
    let high = within.1 in
    record {
      word = refl;
      plain = row_plain (attempts_row n) (word_plain Attempts, (decimal_plain n (omega arith), tt));
      fit = row_fits Attempts (attempts_row n) (is_number_decimal 1 9 n (omega arith) low high, (refl, tt));
      window = refl;
    }

volts_fit : (low most v : ℕ) → most < 2 ^ 64 → low ≤ v → v ≤ most → v % 50 ≡ 0 → (is_number low most (decimal v) && (number (decimal v) % 50 == 0)) ≡ true
volts_fit low most v small above below steps =
    and_both _ _ (is_number_decimal low most v small above below) (ap (λ k. eqb (k % 50) 0) (number_decimal v (omega arith)) ∙ eq-eqb (v % 50) 0 steps)

pub insulation_printed : (i : insulation.Insulation) → IsInsulation i → IsPrinted Insulation (insulation_row i)
insulation_printed i h =
    let volts = h.volts in
    let ticks = h.ticks in
    let megohms = h.megohms in
    record {
      word = refl;
      plain = row_plain (insulation_row i)
          (word_plain Insulation, (decimal_plain i.volts (omega arith), (decimal_plain i.ticks (omega arith), (decimal_plain i.megohms (omega arith), tt))));
      fit = row_fits Insulation (insulation_row i) (
        volts_fit 50 1000 i.volts (omega arith) volts.0 volts.1 h.steps,
        (is_number_decimal 1 1200 i.ticks (omega arith) ticks.0 ticks.1, (is_number_decimal 1 100000 i.megohms (omega arith) megohms.0 megohms.1, (refl, tt))),
      );
      window = refl;
    }

pub withstand_printed : (w : withstand.Withstand) → IsWithstand w → IsPrinted Withstand (withstand_row w)
withstand_printed w h =
    let volts = h.volts in
    let ticks = h.ticks in
    let nanoamps = h.nanoamps in
    record {
      word = refl;
      plain = row_plain (withstand_row w)
          (word_plain Withstand, (decimal_plain w.volts (omega arith), (decimal_plain w.ticks (omega arith), (decimal_plain w.nanoamps (omega arith), tt))));
      fit = row_fits Withstand (withstand_row w) (
        volts_fit 50 2000 w.volts (omega arith) volts.0 volts.1 h.steps,
        (is_number_decimal 1 600 w.ticks (omega arith) ticks.0 ticks.1, (is_number_decimal 1 10000000 w.nanoamps (omega arith) nanoamps.0 nanoamps.1, (refl, tt))),
      );
      window = refl;
    }

-- ---- components

window_right : (low high : ℕ) → low ≤ high → high < 2 ^ 64 → nat_lt (number (decimal high)) (number (decimal low)) ≡ false
window_right low high le small =
    ap (λ k. nat_lt k (number (decimal low))) (number_decimal high small) ∙ ap (λ k. nat_lt high k) (number_decimal low (omega arith)) ∙ le-ltb high low le

pub resistor_printed : (r : resistor.Resistor) → IsResistor r → r.a < 65536 → r.b < 65536 → IsPrinted Resistor (resistor_row r)
resistor_printed r h a b =
    let low = h.low in
    let window = h.window in
    let high = h.high in
    record {
      word = refl;
      plain = row_plain (resistor_row r) (
        word_plain Resistor,
        (name_plain r.name h.name, (decimal_plain r.a (omega arith), (decimal_plain r.b (omega arith), (decimal_plain r.min (omega arith), (decimal_plain r.max (omega arith), tt))))),
      );
      fit = row_fits Resistor (resistor_row r) (
        h.name,
        (
          is_number_decimal 0 65535 r.a (omega arith) (omega arith) (omega arith),
          (
            is_number_decimal 0 65535 r.b (omega arith) (omega arith) (omega arith),
            (
              is_number_decimal 10001 1000000000000 r.min (omega arith) low (omega arith),
              (is_number_decimal 10001 1000000000000 r.max (omega arith) (omega arith) high, (refl, tt)),
            ),
          ),
        ),
      );
      window = window_right r.min r.max window (omega arith);
    }

pub diode_printed : (d : diode.Diode) → IsDiode d → d.from < 65536 → d.to < 65536 → IsPrinted Diode (diode_row d)
diode_printed d h a b =
    let low = h.low in
    let window = h.window in
    let high = h.high in
    record {
      word = refl;
      plain = row_plain (diode_row d) (
        word_plain Diode,
        (name_plain d.name h.name, (decimal_plain d.from (omega arith), (decimal_plain d.to (omega arith), (decimal_plain d.min (omega arith), (decimal_plain d.max (omega arith), tt))))),
      );
      fit = row_fits Diode (diode_row d) (
        h.name,
        (
          is_number_decimal 0 65535 d.from (omega arith) (omega arith) (omega arith),
          (
            is_number_decimal 0 65535 d.to (omega arith) (omega arith) (omega arith),
            (is_number_decimal 1 5000 d.min (omega arith) low (omega arith), (is_number_decimal 1 5000 d.max (omega arith) (omega arith) high, (refl, tt))),
          ),
        ),
      );
      window = window_right d.min d.max window (omega arith);
    }

-- ---- nets

points_plain : (ps : List ℕ) → All (λ p. p < 65536) ps → All IsPlain (map decimal ps)
points_plain [] h = λ k d l. absurd (omega arith)
points_plain (p ∷ ps) h =
    let small : p < 65536 = h 0 p (omega arith) in
    All-cons IsPlain (decimal p) (map decimal ps) (decimal_plain p (omega arith)) (points_plain ps (All-tail (λ q. q < 65536) p ps h))

points_fit : (ps : List ℕ) (i : ℕ) → All (λ p. p < 65536) ps → fits MorePoints (slice_get (map decimal ps) i) ≡ true
points_fit [] i h = refl
points_fit (p ∷ ps) zero h = let small : p < 65536 = h 0 p (omega arith) in is_number_decimal 0 65535 p (omega arith) (omega arith) (omega arith)
points_fit (p ∷ ps) (suc i) h = points_fit ps i (All-tail (λ q. q < 65536) p ps h)

later_net : (i : ℕ) → shape_at Net (suc (suc i)) ≡ MorePoints
later_net i = let e : suc (suc i) - 1 ≡ suc i = omega arith in rw e refl

later_ignored : (i : ℕ) → shape_at Ignore (suc (suc i)) ≡ MorePoints
later_ignored i = let e : suc (suc i) - 1 ≡ suc i = omega arith in rw e refl

-- points behind the second field of a row of a kind that goes on with points
module _ (kind : Kind) (later : (i : ℕ) → shape_at kind (suc (suc i)) ≡ MorePoints) (word first : List ℕ) (ps : List ℕ) (small : All (λ p. p < 65536) ps)
    (fit : fits (shape_at kind 1) (Some first) ≡ true) where
  abbrev row : List (List ℕ)
  row = word ∷ first ∷ map decimal ps

  abbrev test : ℕ → Bool
  test place = not (fits (shape_at kind place) (slice_get row place))

  rest_fit : filter test (range_with_len 2 (suc (length (map decimal ps)))) ≡ []
  rest_fit =
      filter_range_none test 2 (suc (length (map decimal ps))) (λ i.
      let e : 2 + i ≡ suc (suc i) = omega arith in
      ap test e ∙ ap (λ shape. not (fits shape (slice_get (map decimal ps) i))) (later i) ∙ ap not (points_fit ps i small))

  points_row_fits : bad_fields kind row ≡ []
  points_row_fits =
      ap (λ b. cond (not b) (1 ∷ filter test (range_with_len 2 (suc (length (map decimal ps))))) (filter test (range_with_len 2 (suc (length (map decimal ps)))))) fit ∙ rest_fit

pub net_printed : (net : List ℕ × List ℕ) → IsName net.0 → All (λ p. p < 65536) net.1 → IsPrinted Net (net_row net)
net_printed net named small = record {
  word = refl;
  plain = All-cons IsPlain (codes "net") (net.0 ∷ map decimal net.1) (word_plain Net)
      (All-cons IsPlain net.0 (map decimal net.1) (name_plain net.0 named) (points_plain net.1 small));
  fit = points_row_fits Net later_net (codes "net") net.0 net.1 small named;
  window = refl;
}

pub ignore_printed : (p : ℕ) (ps : List ℕ) → All (λ q. q < 65536) (p ∷ ps) → IsPrinted Ignore (ignore_row (p ∷ ps))
ignore_printed p ps small =
    let first : p < 65536 = small 0 p (omega arith) in
    record {
      word = refl;
      plain = All-cons IsPlain (codes "ignore") (map decimal (p ∷ ps)) (word_plain Ignore) (points_plain (p ∷ ps) small);
      fit = points_row_fits Ignore later_ignored (codes "ignore") (decimal p) ps (All-tail (λ q. q < 65536) p ps small)
          (is_number_decimal 0 65535 p (omega arith) (omega arith) (omega arith));
      window = refl;
    }
