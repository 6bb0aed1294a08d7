use Rattle.std.proofs.Common.{Bool, List, Some, ◌∙◌, ap}
use Rattle.std.specs.List.{list_any}
use Rattle.records.specs.declared.record.StationRecord.{StationRecord}
use Rattle.serials.specs.Scan.{marks}
use Rattle.report.proofs.RowLemmas.{file_is, file_text, fresh, kept}
use Rattle.report.proofs.rows.results_csv.Goals as goal

pub returns-in-Ok : goal.returns-in-Ok
returns-in-Ok c =
    let S = c.as_slice-records.result.now in
    let rows = c.from_writer-rows.ensures in
    let start = fresh (λ v. Some v.items) c.from_writer-rows.result c.new-2.result rows.wtr (ap Some c.new-2.ensures.items) rows.empty (rows.cfg ∙ c.new.ensures) rows.fields rows.wrote in
    let end = c.in_ok-write_rows.ensures _ (c.in_ok-write_columns.ensures _ start) in
    c.from_vec.ensures
    ∙ kept _ _ c.in-Ok.bytes.items end.text_is c.in-Ok.ensures.ok
    ∙ ap (λ (b : Bool). file_text b S) c.has_mark-with_staff.ensures
    ∙ ap (λ (R : List StationRecord). file_text (list_any marks R) R) c.as_slice-records.ensures
    ∙ file_is c.args.records.now
