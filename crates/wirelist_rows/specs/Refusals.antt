-- Why reading a text stopped.
use Rattle.std.specs.Prelude.{◌≡◌, ⊤, true}
use Rattle.csv.specs.Reading.{error_kind, stops_reader}
use Rattle.wirelist_rows.specs.declared.stop.RowsStop.{RowsStop}
use Rattle.wirelist_rows.specs.declared.stop.RowsStop.TheVariants.{Csv, Memory}

-- memory ran out, or the reader underneath failed; so never for a record's text or its number of fields
abbrev pub IsOutside : RowsStop → Type 0
IsOutside (Csv error) = stops_reader (error_kind error) ≡ true
IsOutside Memory = ⊤
