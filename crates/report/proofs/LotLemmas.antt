-- The report of the lot from what it counts.
use Rattle.std.proofs.Common.{◌≡◌, ℕ, List, ◌++◌, Option, ◌∙◌, ap}
use Rattle.std.specs.Prelude.{codes, count_by, decimal}
use Rattle.wirelist.specs.declared.outcome.Outcome.{Outcome}
use Rattle.wirelist.specs.declared.program.Program.{Program}
use Rattle.records.specs.declared.record.StationRecord.{StationRecord}
use Rattle.report.specs.declared.counts.SerialCounts.{SerialCounts}
use Rattle.report.specs.declared.results.Results.{Results}
use Rattle.serials.specs.Scan.{is_pass, last_program}
use Rattle.report.specs.LotText.{count_line, is_insulation, is_parts, is_wiring, is_withstand, lot_text, part_line, results, results_line, yield_line}
use Rattle.report.specs.Counting.{counted, results_text, serials_counted}
use Rattle.report.proofs.Counted.{total_all}

-- its lines
abbrev pub pieces : Option Program → SerialCounts → Results → List ℕ
pieces program serials found =
    codes "LOT REPORT\n"
    ++ part_line program
    ++ count_line (codes "enrolled") serials.enrolled
    ++ count_line (codes "tested") serials.tested
    ++ count_line (codes "first pass") serials.passed
    ++ yield_line serials.passed serials.tested
    ++ results_text found
    ++ count_line (codes "released") serials.released
    ++ count_line (codes "scrapped") serials.scrapped

results_are : (os : List Outcome) → results_text (counted os) ≡ results_line os
results_are os =
    ap (λ (n : ℕ).
    codes "results " ++ decimal n
    ++ codes " pass " ++ decimal (count_by is_pass os)
    ++ codes " wiring " ++ decimal (count_by is_wiring os)
    ++ codes " parts " ++ decimal (count_by is_parts os)
    ++ codes " insulation " ++ decimal (count_by is_insulation os)
    ++ codes " withstand " ++ decimal (count_by is_withstand os)
    ++ codes "\n")
    (total_all os)

pub lot_is : (R : List StationRecord) (program : Option Program) (serials : SerialCounts) (found : Results) → program ≡ last_program R → serials ≡ serials_counted R → found ≡ counted (results R)
    → pieces program serials found ≡ lot_text R
unfolding lot_text
lot_is R program serials found p s f =
    ap (λ (o : Option Program). pieces o serials found) p
    ∙ ap (λ (c : SerialCounts). pieces (last_program R) c found) s
    ∙ ap (λ (r : Results). pieces (last_program R) (serials_counted R) r) f
    ∙ ap (λ (l : List ℕ).
    codes "LOT REPORT\n"
    ++ part_line (last_program R)
    ++ count_line (codes "enrolled") (serials_counted R).enrolled
    ++ count_line (codes "tested") (serials_counted R).tested
    ++ count_line (codes "first pass") (serials_counted R).passed
    ++ yield_line (serials_counted R).passed (serials_counted R).tested
    ++ l
    ++ count_line (codes "released") (serials_counted R).released
    ++ count_line (codes "scrapped") (serials_counted R).scrapped)
    (results_are (results R))
