-- What a command that prints a report does.
--     report_text asked R                         what is written of the records
--     Reported asked old new status got got'      what is so of the disk and of the output behind it
use Rattle.std.specs.Prelude.{◌≡◌, ◌⊎◌, ℕ, ◌≤◌, List, ◌++◌, codes, Option, unwrap_or, ⊤}
use Rattle.std.specs.Io.KnownBytes.{Appends}
use Rattle.base.specs.Causes.{Rose}
use Rattle.bench_edge.specs.Whole.{WroteFront, WrotePart}
use Rattle.disk_edge.specs.Disk.{DiskState, EachImage}
use Rattle.records.specs.declared.record.StationRecord.{StationRecord}
use Rattle.ledger.specs.Kept.{IsImageOf}
use Rattle.ledger.specs.Opening.{Opening, Opens, found}
use Rattle.report.specs.LotText.{lot_text}
use Rattle.report.specs.ResultText.{result_text}
use Rattle.report.specs.UnitText.{unit_text}
use Rattle.unopened.specs.Refused.{refused_line, refused_status}
use Rattle.reporting.specs.declared.reporting.Report.{Report}
use Rattle.reporting.specs.declared.reporting.Report.TheVariants.{Lot, Unit, Results}

-- `unit S: not enrolled`
abbrev pub unknown_text : List ℕ → List ℕ
unknown_text serial = codes "unit " ++ serial ++ codes ": not enrolled\n"

-- the report of a unit, or that it is not enrolled
abbrev pub unit_lines : List StationRecord → List ℕ → List ℕ
unit_lines R serial = unwrap_or (unit_text R serial) (unknown_text serial)

-- what is written of the records
abbrev pub report_text : Report → List StationRecord → List ℕ
report_text Lot R = lot_text R
report_text (Unit serial) R = unit_lines R serial
report_text Results R = result_text R

-- the whole text was written, or, where a write failed or memory ran out, not all of it
abbrev pub Prints : List ℕ → ℕ → Option (List ℕ) → Option (List ℕ) → Type 0
Prints text status got got' =
    ((status ≡ 0) × Appends got got' text)
    ⊎ (((status ≡ 7) ⊎ (status ≡ 9)) × WrotePart got got' text)

-- the text of the records that were found, or the line of a journal that was not opened, and the status
abbrev pub Ends : Report → Opening → ℕ → Option (List ℕ) → Option (List ℕ) → Type 0
Ends asked (found R) status got got' = Prints (report_text asked R) status got got'
Ends asked answer status got got' = (status ≡ refused_status answer) × WroteFront got got' (refused_line answer)

-- each image of the disk keeps just the records that were found
abbrev pub Keeps : Opening → DiskState → Type 0
Keeps (found R) disk = EachImage disk (IsImageOf R)
Keeps answer disk = ⊤

-- The journal was opened, or why not; the output and the status are those of that answer, and no record was added.
--     opens        what the opening made of the disk, and what a crash within may leave; nothing else touched the disk
--     disk_fault   status 8 comes only where the disk's count of faults rose
pub record Reported (asked : Report) (old new : DiskState) (status : ℕ) (got got' : Option (List ℕ)) : Type 0 where
  pub answer : Opening
  pub opens : Opens old new answer
  pub keeps : Keeps answer new
  pub ends : Ends asked answer status got got'
  pub disk_fault : status ≡ 8 → Rose old.faults new.faults

-- The count of failed writes did not fall, and status 7 comes only where it rose.
pub record WriteCause (before now status : ℕ) : Type 0 where
  pub later : before ≤ now
  pub rose : status ≡ 7 → Rose before now
