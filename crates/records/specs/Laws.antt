-- The law of the spelling.
use Rattle.std.specs.Prelude.{◌≡◌}
use Rattle.records.specs.declared.record.StationRecord.{StationRecord}
use Rattle.records.specs.RecordBytes.{record_bytes}
use Rattle.records.specs.RecordRanges.{IsRecord}

-- two records in range with the same bytes are equal
abbrev pub SpellingLaw : Type 0
SpellingLaw = (r s : StationRecord) → IsRecord r → IsRecord s → record_bytes r ≡ record_bytes s → r ≡ s
