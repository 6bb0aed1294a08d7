-- An input that asks nothing.
use Rattle.std.proofs.Common.{◌≡◌, inl, inr, ℕ, [], Some, refl}
use Rattle.base.specs.Causes.{Rose}
use Rattle.disk_edge.specs.Disk.{DiskState, EachImage}
use Rattle.ledger.specs.Kept.{IsImageOf}
use Rattle.ledger.specs.Ledger.{Tells}
use Rattle.station.specs.View.{StationState}
use Rattle.script.specs.Causes.{Completes, Counts}
use Rattle.script.specs.Keeping.{ScriptKeeps}
use Rattle.script.proofs.disk.Images.{between_all, keeps_between}
use Rattle.importing.specs.Input.{stop_status}
use Rattle.importing.specs.declared.input.InputStop.{InputStop}
use Rattle.importing.specs.declared.input.InputStop.TheVariants.{Failed, TooLong, Memory}

-- the disk keeps what it kept
pub keeps_all : (s : StationState) → EachImage s.disk (IsImageOf s.records) → (status : ℕ) (disk : DiskState) → disk ≡ s.disk → Tells s.disk → ScriptKeeps s status disk
keeps_all s standing status disk same tells = (keeps_between s s (between_all [] s s tells refl) standing status s.rig disk same).keeps

-- where no count rose, memory ran out or the input is too long
pub stop_complete : (before now : Counts) (stop : InputStop) (status : ℕ) → status ≡ stop_status stop → (Some stop ≡ Some Failed → Rose before.input now.input) → Completes before now status
stop_complete before now Failed status is rose = λ quiet. absurd (quiet.input (rose refl))
stop_complete before now TooLong status is rose = λ quiet. inr (inr is)
stop_complete before now Memory status is rose = λ quiet. inr (inl is)
