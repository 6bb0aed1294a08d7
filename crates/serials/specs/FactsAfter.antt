-- What is said of a serial and of the station, record by record.
use Rattle.std.specs.Prelude.{ℕ, ◌+◌, ◌||◌, true, false, List, Option, Some, None, is_some, unwrap_or, bytes_eq, if◌then◌else◌}
use Rattle.std.specs.Option.{option_or}
use Rattle.records.specs.declared.record.Body.{Body}
use Rattle.records.specs.declared.record.Body.TheVariants.{Adopt, Enrol, Calibrate, Tested, Rework, Release, Scrap, Mark}
use Rattle.serials.specs.declared.facts.SerialFacts.{SerialFacts}
use Rattle.serials.specs.declared.facts.StationFacts.{StationFacts}
use Rattle.serials.specs.Scan.{is_pass, names_in}

-- nothing is said
abbrev pub no_facts : SerialFacts
no_facts = record { enrol = None; tests = 0; last_test = None; last_passed = false; reworked = false; released = false; scrapped = false }

-- what is said of a serial once one more record names it, which has this number
abbrev pub facts_after : SerialFacts → Body → ℕ → SerialFacts
facts_after f (Enrol s) number = record f { enrol = option_or f.enrol (Some number) }
facts_after f (Tested s attempt staff outcome) number =
    record f { tests = f.tests + 1; last_test = Some number; last_passed = is_pass outcome; reworked = false }
facts_after f (Rework s) number = record f { reworked = f.reworked || is_some f.last_test }
facts_after f (Release s) number = record f { released = true }
facts_after f (Scrap s) number = record f { scrapped = true }
facts_after f others number = f

-- nothing is said of the station
abbrev pub no_station_facts : StationFacts
no_station_facts = record { adopted = None; calibrated = None; marked = None }

-- what is said of the station once one more record stands at this place, counted from 0
abbrev pub station_after : StationFacts → Body → ℕ → StationFacts
station_after f (Adopt p) place = record f { adopted = Some place }
station_after f (Calibrate day) place = record f { calibrated = Some day }
station_after f Mark place = record f { marked = option_or f.marked (Some (place + 1)) }
station_after f others place = f

-- what a map of facts says of a serial once one more record, with this number, stands at the end
abbrev pub entry_after : Option SerialFacts → List ℕ → Body → ℕ → Option SerialFacts
entry_after entry serial body number = if names_in serial body then Some (facts_after (unwrap_or entry no_facts) body number) else entry

-- what a map of numbers says of an id once one more record, with this id and number, stands at the end
abbrev pub number_after : Option ℕ → List ℕ → List ℕ → ℕ → Option ℕ
number_after entry id noted number = option_or entry (if bytes_eq id noted then Some number else None)
