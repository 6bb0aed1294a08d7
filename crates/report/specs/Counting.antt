-- What is counted over records, record by record.
use Rattle.std.specs.Prelude.{ℕ, ◌+◌, List, ◌++◌, codes, decimal, count_by, bytes_eq, if◌then◌else◌, Option, Some, None}
use Rattle.wirelist.specs.declared.outcome.Outcome.{Outcome}
use Rattle.wirelist.specs.declared.outcome.Outcome.TheVariants.{Pass, Wiring, Parts, Insulation, Withstand}
use Rattle.records.specs.declared.record.StationRecord.{StationRecord}
use Rattle.report.specs.declared.results.Results.{Results}
use Rattle.records.specs.declared.record.Body.{Body}
use Rattle.records.specs.declared.record.Body.TheVariants.{Enrol, Tested, Release, Scrap}
use Rattle.report.specs.declared.counts.Event.{Event}
use Rattle.report.specs.declared.counts.Event.TheVariants as event
use Rattle.report.specs.declared.counts.SerialCounts.{SerialCounts}
use Rattle.serials.specs.Scan.{is_pass}
use Rattle.report.specs.LotText.{is_wiring, is_parts, is_insulation, is_withstand, enrolled_count, tested_count, passed_count, released_count, scrapped_count}

-- the serial of a record of a kind
abbrev pub serial_by : Event → Body → Option (List ℕ)
serial_by event.Enrolment (Enrol s) = Some s
serial_by event.Release (Release s) = Some s
serial_by event.Scrap (Scrap s) = Some s
serial_by kind others = None

abbrev pub serial_at : Event → StationRecord → Option (List ℕ)
serial_at kind r = serial_by kind r.body

-- what the test of a record found, where it is of the serial
abbrev pub outcome_by : List ℕ → Body → Option Outcome
outcome_by serial (Tested s attempt staff outcome) = if bytes_eq s serial then Some outcome else None
outcome_by serial others = None

-- how many there are of each verdict
abbrev pub counted : List Outcome → Results
counted found = record {
  pass = count_by is_pass found;
  wiring = count_by is_wiring found;
  parts = count_by is_parts found;
  insulation = count_by is_insulation found;
  withstand = count_by is_withstand found;
}

-- the counts with one more
abbrev pub counted_after : Results → Outcome → Results
counted_after r Pass = record r { pass = r.pass + 1 }
counted_after r (Wiring d) = record r { wiring = r.wiring + 1 }
counted_after r (Parts faults) = record r { parts = r.parts + 1 }
counted_after r (Insulation faults) = record r { insulation = r.insulation + 1 }
counted_after r (Withstand bit volts leak) = record r { withstand = r.withstand + 1 }

-- the counts with the test of a record, where it is one
abbrev pub counted_with : Results → Body → Results
counted_with r (Tested serial attempt staff outcome) = counted_after r outcome
counted_with r others = r

-- how many there are all together
abbrev pub total_of : Results → ℕ
total_of r = r.pass + r.wiring + r.parts + r.insulation + r.withstand

-- the line of the tests, by their counts
abbrev pub results_text : Results → List ℕ
results_text r =
    codes "results " ++ decimal (total_of r)
    ++ codes " pass " ++ decimal r.pass
    ++ codes " wiring " ++ decimal r.wiring
    ++ codes " parts " ++ decimal r.parts
    ++ codes " insulation " ++ decimal r.insulation
    ++ codes " withstand " ++ decimal r.withstand
    ++ codes "\n"

-- how many serials there are of each kind
abbrev pub serials_counted : List StationRecord → SerialCounts
serials_counted R = record {
  enrolled = enrolled_count R;
  tested = tested_count R;
  passed = passed_count R;
  released = released_count R;
  scrapped = scrapped_count R;
}
