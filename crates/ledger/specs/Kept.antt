-- The records that the bytes of a journal keep.
use Rattle.std.specs.Prelude.{◌⊎◌, ℕ, ◌+◌, ◌≤◌, Bool, nat_lt, List, length, map, All}
use Rattle.journal.specs.Format.{Holds, AtRest, end_after}
use Rattle.journal.specs.Format as journal
use Rattle.journal.specs.declared.TheConstants.{LONGEST_FILE}
use Rattle.records.specs.declared.record.StationRecord.{StationRecord}
use Rattle.records.specs.RecordBytes.{record_bytes}
use Rattle.records.specs.RecordRanges.{IsRecord}

-- the spellings of the records, in order
abbrev pub spellings : List StationRecord → List (List ℕ)
spellings R = map record_bytes R

abbrev pub AreRecords : List StationRecord → Type 0
AreRecords R = All IsRecord R

-- The bytes hold the spellings of the records, in order.
pub record Keeps (bytes : List ℕ) (R : List StationRecord) : Type 0 where
  pub in_range : AreRecords R
  pub holds : Holds bytes (spellings R)

-- The same, and a closed gate of 0 stands behind them.
pub record Rests (bytes : List ℕ) (R : List StationRecord) : Type 0 where
  pub in_range : AreRecords R
  pub at_rest : AtRest bytes (spellings R)

-- One more record stands behind a gate that is neither 0 nor 1: an append was stopped as it opened its gate.
pub record Covers (bytes : List ℕ) (R : List StationRecord) (r : StationRecord) : Type 0 where
  pub in_range : AreRecords R
  pub one : IsRecord r
  pub covered : journal.Covers bytes (spellings R) (record_bytes r)

-- What the station's own writes make, wherever they are stopped: no record in at most 9 bytes, records at rest, or one more that is covered.
abbrev pub Sound : List ℕ → Type 0
Sound bytes = (length bytes ≤ 9) ⊎ ((R : List StationRecord) × Rests bytes R) ⊎ ((R : List StationRecord) × (r : StationRecord) × Covers bytes R r)

-- a sound image that keeps these records
pub record IsImageOf (R : List StationRecord) (image : List ℕ) : Type 0 where
  pub keeps : Keeps image R
  pub sound : Sound image

-- a sound image that keeps the one list or the other
abbrev pub IsImageOfEither : (R S : List StationRecord) → List ℕ → Type 0
IsImageOfEither R S image = IsImageOf R image ⊎ IsImageOf S image

-- the journal has no room for a longest record more
abbrev pub is_full : List StationRecord → Bool
is_full R = nat_lt LONGEST_FILE (end_after (spellings R) + 262144)
