-- What the records say of one serial, gathered.
--     history R s     what they say of it
--     facts_of R s    the same, where a record names it
use Rattle.std.specs.Prelude.{List, ℕ, length, Option, Some, None, if◌then◌else◌}
use Rattle.records.specs.declared.record.StationRecord.{StationRecord}
use Rattle.serials.specs.declared.facts.SerialFacts.{SerialFacts}
use Rattle.serials.specs.Scan.{enrolment, tests, last_test, has_passed, is_reworked, is_released, is_scrapped, is_known}

-- what the records say of the serial
abbrev pub history : List StationRecord → List ℕ → SerialFacts
history R serial = record {
  enrol = enrolment R serial;
  tests = length (tests R serial);
  last_test = last_test R serial;
  last_passed = has_passed R serial;
  reworked = is_reworked R serial;
  released = is_released R serial;
  scrapped = is_scrapped R serial;
}

-- the same, where a record names the serial
abbrev pub facts_of : List StationRecord → List ℕ → Option SerialFacts
facts_of R serial = if is_known R serial then Some (history R serial) else None
