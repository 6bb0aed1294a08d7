-- How the call of a report ends, by what the opening answered.
use Rattle.std.proofs.Common.{⊎_elim, ℕ, ◌<◌, List, ◌++◌, length, Option, Some, None, sym, arith, append-nil, codes, Bool, true, false, is_some, if◌then◌else◌}
use Rattle.std.specs.Prelude.{unwrap_or, Result, Ok, Err, OnErr}
use Rattle.std.specs.List.{flat_map}
use Rattle.bench_edge.specs.Whole.{WrotePart}
use Rattle.disk_edge.specs.Disk.{DiskState}
use Rattle.records.specs.declared.record.StationRecord.{StationRecord}
use Rattle.ledger.specs.Ledger.{IsBooked}
use Rattle.ledger.specs.Opening.{Opens, found}
use Rattle.ledger.proofs.Keeping.{stored_images}
use Rattle.report.specs.LotText.{lot_text}
use Rattle.report.specs.ResultText.{result_text}
use Rattle.report.specs.UnitText.{numbered_records, record_lines, status_word, unit_text}
use Rattle.serials.specs.Facts.{history}
use Rattle.reporting.specs.declared.reporting.Report.{Report}
use Rattle.reporting.specs.Reported.{Prints, Reported, report_text, unit_lines}

-- the records were found
pub found_reported : (asked : Report) (old new : DiskState) (status : ℕ) (got got' : Option (List ℕ)) (count : ℕ) (R : List StationRecord)
    → Opens old new (found R) → IsBooked new count R → Prints (report_text asked R) status got got' → Reported asked old new status got got'
found_reported asked old new status got got' count R opens booked prints = record {
  answer = found R;
  opens = opens;
  keeps = stored_images new count R booked;
  ends = prints;
  disk_fault = λ is. ⊎_elim (λ whole. omega (arith, is, whole.0)) (λ part. ⊎_elim (λ failed. omega (arith, is, failed)) (λ full. omega (arith, is, full)) part.0) prints;
}

-- ---- what is written where memory runs out in the text

pub on_err : {T E P : Type 0} (r : Result T E) → P → OnErr r P
on_err (Ok x) p = tt
on_err (Err e) p = p

pub nothing_written : (got : Option (List ℕ)) (text : List ℕ) → 0 < length text → WrotePart got got text
nothing_written None text some = (0, some, tt)
nothing_written (Some xs) text some = (0, some, sym (append-nil xs))

-- ---- no text is empty

pub lot_written : (R : List StationRecord) → 0 < length (lot_text R)
unfolding lot_text
lot_written R = omega arith

pub results_written : (R : List StationRecord) → 0 < length (result_text R)
unfolding result_text
results_written R = omega arith

either_written : (b : Bool) (text more other : List ℕ) → 0 < length (unwrap_or (if b then Some ((codes "UNIT " ++ text) ++ more) else None) (codes "unit " ++ other))
either_written true text more other = omega arith
either_written false text more other = omega arith

pub unit_written : (R : List StationRecord) (serial : List ℕ) → 0 < length (unit_lines R serial)
unfolding unit_text
unit_written R serial =
    let facts = history R serial in
    either_written (is_some facts.enrol) (serial ++ codes "\nstatus " ++ status_word facts ++ codes "\n")
    (flat_map (record_lines R serial) (numbered_records R)) (serial ++ codes ": not enrolled\n")
