-- What is looked up, against the plain list of records.
use Rattle.std.specs.Prelude.{◌≡◌, ℕ, ◌<◌, List, length, slice_get, Option, option_and_then, is_some, unwrap_or, IfSome}
use Rattle.wirelist.specs.declared.program.Program.{Program}
use Rattle.records.specs.declared.record.StationRecord.{StationRecord}
use Rattle.serials.specs.declared.index.Index.{Index}
use Rattle.serials.specs.NameMaps.{at_name}
use Rattle.serials.specs.Scan.{by_id, program_in, last_program, last_calibration, first_mark, is_known}
use Rattle.serials.specs.Facts.{history}
use Rattle.serials.specs.FactsAfter.{no_facts}

-- the program in the record at this place, counted from 0
abbrev pub program_at : List StationRecord → Option ℕ → Option Program
program_at R place = option_and_then (λ k. option_and_then program_in (slice_get R k)) place

-- the maps and numbers say of the records what a scan of them says
pub record IsIndex (R : List StationRecord) (index : Index) : Type 0 where
  pub numbers : (id : List ℕ) → at_name index.numbers id ≡ by_id R id
  pub units : (serial : List ℕ) → unwrap_or (at_name index.units serial) no_facts ≡ history R serial
  pub known : (serial : List ℕ) → is_some (at_name index.units serial) ≡ is_known R serial
  pub there : IfSome index.station.adopted (λ place. place < length R)
  pub adopted : program_at R index.station.adopted ≡ last_program R
  pub calibrated : index.station.calibrated ≡ last_calibration R
  pub marked : index.station.marked ≡ first_mark R
