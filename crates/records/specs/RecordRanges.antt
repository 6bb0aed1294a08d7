-- The ranges of records: what has a spelling.
--     IsBody b            the fields of the record's kind are in range
--     IsRecord r          the record is in range
--     Spells bytes r      the record is in range, and the bytes are its spelling
--     Decodes Fits spelling bytes result      what bytes are read as
use Rattle.std.specs.Prelude.{◌≡◌, ℕ, ◌≤◌, Bool, List, Option, is_some, Result, Ok, Err, IfOk, IfSome, ⊤}
use Rattle.partition.specs.Names.{IsName}
use Rattle.wirelist.specs.Ranges.{OutcomeInRange}
use Rattle.wirelist.specs.Numbers.{IsWithin}
use Rattle.wirelist.specs.Programs.{IsProgram}
use Rattle.wirelist.specs.declared.outcome.Outcome.{Outcome}
use Rattle.records.specs.declared.record.Staff.{Staff}
use Rattle.records.specs.declared.record.Body.{Body}
use Rattle.records.specs.declared.record.Body.TheVariants.{Adopt, Enrol, Calibrate, Tested, Rework, Release, Scrap, Mark}
use Rattle.records.specs.declared.record.StationRecord.{StationRecord}
use Rattle.records.specs.declared.stop.DecodeStop.{DecodeStop}
use Rattle.records.specs.declared.stop.DecodeStop.TheVariants.{Memory}
use Rattle.records.specs.RecordBytes.{record_bytes, kind_of}

-- the last second of 9999-12-31, from the beginning of 1970
abbrev pub last_moment : ℕ
last_moment = 253402300799

-- the number of its day
abbrev pub last_day : ℕ
last_day = 2932896

-- a record has at most so many bytes, as an entry of the journal has
abbrev pub most_bytes : ℕ
most_bytes = 262138

-- a unit is tested at most so many times
abbrev pub most_attempts : ℕ
most_attempts = 9

-- who made a test, and where
pub record IsStaff (staff : Staff) : Type 0 where
  pub operator : IsName staff.operator
  pub fixture : IsName staff.fixture

-- the serial, the number of the test, who made it and where, if that is named, and what was found
pub record IsTested (t : List ℕ × ℕ × Option Staff × Outcome) : Type 0 where
  pub serial : IsName t.0
  pub attempt : IsWithin 1 most_attempts t.1
  pub staff : IfSome t.2 IsStaff
  pub outcome : OutcomeInRange t.3

-- a test that names who made it and where, or one that does not
pub record IsTestedAs (has_staff : Bool) (t : List ℕ × ℕ × Option Staff × Outcome) : Type 0 where
  pub in_range : IsTested t
  pub names_staff : is_some t.2 ≡ has_staff

-- a day from 1970-01-01 to 9999-12-31
abbrev pub IsDay : ℕ → Type 0
IsDay day = day ≤ last_day

-- the fields of each kind are in range
abbrev pub IsBody : Body → Type 0
IsBody (Adopt p) = IsProgram p
IsBody (Enrol serial) = IsName serial
IsBody (Calibrate day) = IsDay day
IsBody (Tested serial attempt staff outcome) = IsTested (serial, attempt, staff, outcome)
IsBody (Rework serial) = IsName serial
IsBody (Release serial) = IsName serial
IsBody (Scrap serial) = IsName serial
IsBody Mark = ⊤

-- the record is of the kind, and its fields are in range
pub record IsBodyOf (kind : ℕ) (b : Body) : Type 0 where
  pub in_range : IsBody b
  pub kind_is : kind ≡ kind_of b

-- the record is in range
pub record IsRecord (r : StationRecord) : Type 0 where
  pub id : IsName r.id
  pub moment : r.moment ≤ last_moment
  pub body : IsBody r.body

-- the record is in range, and the bytes are its spelling
pub record Spells (bytes : List ℕ) (r : StationRecord) : Type 0 where
  pub in_range : IsRecord r
  pub bytes_are : bytes ≡ record_bytes r

-- the answer is this value, unless memory ran out
abbrev pub Only : {X : Type 0} → Result X DecodeStop → X → Type 0
Only (Ok x) y = x ≡ y
Only (Err e) y = e ≡ Memory

-- what bytes are read as: a value in range that they spell. A value in range that they spell is read.
pub record Decodes {X : Type 0} (Fits : X → Type 0) (spelling : X → List ℕ) (bytes : List ℕ) (result : Result X DecodeStop) : Type 0 where
  pub found : IfOk result (λ x. Fits x × (bytes ≡ spelling x))
  pub only : (x : X) → Fits x → bytes ≡ spelling x → Only result x
