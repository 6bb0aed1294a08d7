use Rattle.std.proofs.Common.{ℕ, List, ◌++◌, length, ◌∙◌, ap, arith}
use Rattle.std.specs.Prelude.{codes, option_copied}
use Rattle.records.specs.declared.record.StationRecord.{StationRecord}
use Rattle.serials.specs.Scan.{last_program}
use Rattle.outcome_lines.proofs.Appending.{start, more}
use Rattle.report.specs.declared.counts.SerialCounts.{SerialCounts}
use Rattle.report.specs.LotText.{enrolled_in, is_tested, passed_first, results}
use Rattle.report.specs.Counting.{counted, serials_counted}
use Rattle.report.proofs.Counted.{different_few}
use Rattle.report.proofs.LotLemmas.{lot_is, pieces}
use Rattle.report.proofs.lot.lot_report.Goals as goal

pub write_yield-requires-clause-passed : goal.write_yield-requires-clause-passed
write_yield-requires-clause-passed c =
    let R = c.as_slice-records.result.now in
    omega (arith, different_few (passed_first R) enrolled_in R, ap (λ (s : SerialCounts). s.passed) c.in_ok-serials.ensures, ap length c.as_slice-records.ensures, c.requires.few)

pub write_yield-requires-clause-tested : goal.write_yield-requires-clause-tested
write_yield-requires-clause-tested c =
    let R = c.as_slice-records.result.now in
    omega (arith, different_few (is_tested R) enrolled_in R, ap (λ (s : SerialCounts). s.tested) c.in_ok-serials.ensures, ap length c.as_slice-records.ensures, c.requires.few)

pub write_results-requires : goal.write_results-requires
write_results-requires c = omega (arith, c.count_results-found.ensures.few, ap length c.as_slice-records.ensures, c.requires.few)

pub returns : goal.returns
returns c =
    let part = more (start c.new-out.result (codes "LOT REPORT\n") _ c.in_ok-push_str.ensures.ok) _ _ c.in_ok-write_part.ensures in
    let enrolled = more part _ _ c.in_ok-write_count.ensures in
    let tested = more enrolled _ _ c.in_ok-write_count-2.ensures in
    let passed = more tested _ _ c.in_ok-write_count-3.ensures in
    let yields = more passed _ _ c.in_ok-write_yield.ensures in
    let found = more yields _ _ c.in_ok-write_results.ensures in
    let released = more found _ _ c.in_ok-write_count-4.ensures in
    let scrapped = more released _ _ c.in_ok-write_count-5.ensures in
    scrapped.is
    ∙ ap (λ (l : List ℕ). l ++ pieces (option_copied c.last_program.result) c.in_ok-serials.serials c.count_results-found.result) c.new-out.ensures
    ∙ lot_is c.args.records.now (option_copied c.last_program.result) c.in_ok-serials.serials c.count_results-found.result
    (c.last_program.ensures ∙ ap last_program c.as_slice-records.ensures)
    (c.in_ok-serials.ensures ∙ ap serials_counted c.as_slice-records.ensures)
    (c.count_results-found.ensures.counted ∙ ap (λ (R : List StationRecord). counted (results R)) c.as_slice-records.ensures)
