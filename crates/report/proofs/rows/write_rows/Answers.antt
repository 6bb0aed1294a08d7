use Rattle.std.proofs.Common.{ℕ, List, Some, sym, subst, arith}
use Rattle.std.specs.Prelude.{filter_map}
use Rattle.std.specs.List.{flat_map}
use Rattle.std.proofs.lemmas.List.{take_all}
use Rattle.wirelist.specs.Canonical.{line_of}
use Rattle.records.specs.declared.record.StationRecord.{StationRecord}
use Rattle.report.specs.UnitText.{numbered_records}
use Rattle.report.specs.ResultText.{result_row}
use Rattle.report.specs.Writing.{Adds}
use Rattle.report.proofs.RecordLines.{numbered_all, rows_more}
use Rattle.report.proofs.RowLemmas.{adds_then}
use Rattle.report.proofs.rows.write_rows.Goals as goal

pub loop-place-preserved : goal.loop-place-preserved
loop-place-preserved c =
    subst (λ (l : List ℕ). Adds (λ v. Some v.items) c.args.rows.now c.write_record.new.rows l)
    (sym (rows_more c.args.records.now c.args.with_staff c.loop-place.place c.index-records-place.result c.loop-place-test.true c.index-records-place.is))
    (adds_then (λ v. Some v.items) c.args.rows.now c.loop-place.rows c.write_record.new.rows _ _ c.loop-place.invariant c.in_ok-write_record.ensures)

pub returns : goal.returns
returns c =
    let R = c.args.records.now in
    subst (λ (ns : List (ℕ × StationRecord)). Adds (λ v. Some v.items) c.args.rows.now c.loop-place.rows (flat_map line_of (filter_map (result_row c.args.with_staff) ns)))
    (take_all c.loop-place.place (numbered_records R) (omega (arith, numbered_all R, c.loop-place-test.false)))
    c.loop-place.invariant
