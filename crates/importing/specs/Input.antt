-- The input of an import, and what becomes of it.
--     Unanswered    the input asks nothing: no row is answered, and the closing line says why
--     Answered      the whole input was read, and its rows are answered
use Rattle.std.specs.Prelude.{◌≡◌, ◌⊎◌, ℕ, true, false, List, [], codes, Option, Some}
use Rattle.std.specs.Option.{ForSome}
use Rattle.bench_edge.specs.Whole.{WroteFront}
use Rattle.bench_edge.specs.declared.stream.EdgeStop.{EdgeStop}
use Rattle.bench_edge.specs.declared.stream.EdgeStop.TheVariants as edge
use Rattle.disk_edge.specs.Disk.{DiskState}
use Rattle.rig.specs.RigState.{RigState}
use Rattle.station.specs.View.{StationState}
use Rattle.script.specs.Ran.{ScriptRan}
use Rattle.script.specs.Said.{Asked}
use Rattle.script.specs.Scene.{Scene, IsScene}
use Rattle.import_rows.specs.Rows.{asked_by_rows, is_too_long}
use Rattle.import_rows.specs.declared.read.ImportStop.{ImportStop}
use Rattle.import_rows.specs.declared.read.ImportStop.TheVariants as reading
use Rattle.importing.specs.RowsAnswered.{RowsHeadline}
use Rattle.importing.specs.declared.input.InputStop.{InputStop}
use Rattle.importing.specs.declared.input.InputStop.TheVariants.{Failed, TooLong, Memory}

-- the exit status of an input that asks nothing
abbrev pub stop_status : InputStop → ℕ
stop_status Failed = 6
stop_status TooLong = 12
stop_status Memory = 9

-- and the closing line
abbrev pub stop_line : InputStop → List ℕ
stop_line Failed = codes "read fault\n"
stop_line TooLong = codes "input too long\n"
stop_line Memory = []

-- why a read of it, and a reading of its rows, stops
abbrev pub stop_of_read : EdgeStop → InputStop
stop_of_read edge.Failed = Failed
stop_of_read edge.Memory = Memory

abbrev pub stop_of_rows : ImportStop → InputStop
stop_of_rows reading.TooLong = TooLong
stop_of_rows reading.Memory = Memory

-- these rows are asked, by all that the input had left
abbrev pub AreAsked : List Asked → Option (List ℕ) → Option (List ℕ) → Type 0
AreAsked rows left left' = ForSome left (λ input. (rows ≡ asked_by_rows input) × (is_too_long input ≡ false) × (left' ≡ Some []))

-- with 12 the input is too long
abbrev pub IsCause : InputStop → Option (List ℕ) → Type 0
IsCause stop left = stop ≡ TooLong → ForSome left (λ input. is_too_long input ≡ true)

-- The disk and the rig are as they were, the clock was not asked, and a front of the closing line was written.
pub record Unanswered (s : StationState) (stop : InputStop) (left got got' moments moments' : Option (List ℕ)) (status : ℕ)
    (rig : RigState) (disk : DiskState) : Type 0 where
  pub cause : IsCause stop left
  pub status_is : status ≡ stop_status stop
  pub rig_is : rig ≡ s.rig
  pub disk_is : disk ≡ s.disk
  pub moments_are : moments' ≡ moments
  pub wrote : WroteFront got got' (stop_line stop)

pub record Answered (s : StationState) (rows : List Asked) (left left' got got' moments : Option (List ℕ)) (status : ℕ)
    (rig : RigState) (disk : DiskState) : Type 0 where
  pub asked : AreAsked rows left left'
  pub headline : (scene : Scene) → IsScene s got moments scene → RowsHeadline scene s rows status disk got'
  pub ran : ScriptRan s got got' status rig disk

-- the one or the other
abbrev pub TakesInput : StationState → Option (List ℕ) → Option (List ℕ) → Option (List ℕ) → Option (List ℕ) → Option (List ℕ) → Option (List ℕ) → ℕ
    → RigState → DiskState → Type 0
TakesInput s left left' got got' moments moments' status rig disk =
    ((stop : InputStop) × Unanswered s stop left got got' moments moments' status rig disk)
    ⊎ ((rows : List Asked) × Answered s rows left left' got got' moments status rig disk)
