-- The lines and the rows of records, one record more.
use Rattle.std.proofs.Common.{◌≡◌, ℕ, ◌+◌, ◌-◌, ◌<◌, Bool, List, [], ◌∷◌, ◌++◌, length, take, get_or, Option, None, Some, refl, sym, ◌∙◌, ap, arith, append-nil}
use Rattle.std.specs.Prelude.{filter_map, option_to_list}
use Rattle.std.specs.List.{flat_map}
use Rattle.std.proofs.lemmas.Grind.{flat_map-append}
use Rattle.std.proofs.lemmas.List.{take_more}
use Rattle.std.proofs.lemmas.List.Elements.{filter_map-append}
use Rattle.std.proofs.lemmas.List.FromFn.{get_or-enumerate_from, length-enumerate_from}
use Rattle.wirelist.specs.Canonical.{line_of}
use Rattle.records.specs.declared.record.StationRecord.{StationRecord}
use Rattle.serials.specs.Scan.{last_program}
use Rattle.report.specs.UnitText.{noted_lines, numbered_records, record_lines}
use Rattle.report.specs.ResultText.{result_row}
use Rattle.report.specs.Writing.{lines_of}

pub numbered_more : (R : List StationRecord) (k : ℕ) (r : StationRecord) → k < length R → r ≡ get_or R k r → take (k + 1) (numbered_records R) ≡ take k (numbered_records R) ++ (k + 1, r) ∷ []
numbered_more R k r inside is =
    let d : ℕ × StationRecord = (0, r) in
    let size = length-enumerate_from 1 R in
    let number : 1 + k ≡ k + 1 = omega arith in
    take_more (numbered_records R) k d (omega arith)
    ∙ ap (λ (x : ℕ × StationRecord). take k (numbered_records R) ++ x ∷ []) (get_or-enumerate_from 1 R k d inside)
    ∙ ap (λ (n : ℕ). take k (numbered_records R) ++ (n, get_or R k r) ∷ []) number
    ∙ ap (λ (x : StationRecord). take k (numbered_records R) ++ (k + 1, x) ∷ []) (sym is)

-- all records have been numbered
pub numbered_all : (R : List StationRecord) → length (numbered_records R) ≡ length R
numbered_all R = length-enumerate_from 1 R

pub lines_more : (R : List StationRecord) (serial : List ℕ) (k : ℕ) (r : StationRecord) → k < length R → r ≡ get_or R k r
    → flat_map (record_lines R serial) (take (k + 1) (numbered_records R))
    ≡ flat_map (record_lines R serial) (take k (numbered_records R)) ++ noted_lines (last_program (take k R)) serial (k + 1) r
lines_more R serial k r inside is =
    let before = flat_map (record_lines R serial) (take k (numbered_records R)) in
    let place : k + 1 - 1 ≡ k = omega arith in
    ap (λ (ns : List (ℕ × StationRecord)). flat_map (record_lines R serial) ns) (numbered_more R k r inside is)
    ∙ flat_map-append (record_lines R serial) (take k (numbered_records R)) ((k + 1, r) ∷ [])
    ∙ ap (λ (l : List ℕ). before ++ l) (append-nil (record_lines R serial (k + 1, r)))
    ∙ ap (λ (n : ℕ). before ++ noted_lines (last_program (take n R)) serial (k + 1) r) place

pub rows_more : (R : List StationRecord) (with_staff : Bool) (k : ℕ) (r : StationRecord) → k < length R → r ≡ get_or R k r
    → flat_map line_of (filter_map (result_row with_staff) (take (k + 1) (numbered_records R)))
    ≡ flat_map line_of (filter_map (result_row with_staff) (take k (numbered_records R))) ++ lines_of (result_row with_staff (k + 1, r))
rows_more R with_staff k r inside is =
    let rows = λ (ns : List (ℕ × StationRecord)). filter_map (result_row with_staff) ns in
    ap (λ (ns : List (ℕ × StationRecord)). flat_map line_of (rows ns)) (numbered_more R k r inside is)
    ∙ ap (λ (l : List (List (List ℕ))). flat_map line_of l) (filter_map-append (result_row with_staff) (take k (numbered_records R)) ((k + 1, r) ∷ []))
    ∙ flat_map-append line_of (rows (take k (numbered_records R))) (rows ((k + 1, r) ∷ []))
    ∙ ap (λ (l : List (List (List ℕ))). flat_map line_of (rows (take k (numbered_records R))) ++ flat_map line_of l) (one (result_row with_staff (k + 1, r)))
  where
    one : (o : Option (List (List ℕ))) → filter_map (λ (x : Option (List (List ℕ))). x) (o ∷ []) ≡ option_to_list o
    one None = refl
    one (Some x) = refl
