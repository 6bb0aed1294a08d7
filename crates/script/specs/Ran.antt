-- What a script did.
use Rattle.std.specs.Prelude.{ℕ, List, Option}
use Rattle.disk_edge.specs.Disk.{DiskState}
use Rattle.rig.specs.RigState.{RigState}
use Rattle.unit_outcome.specs.Tested.{IsInOrderOf}
use Rattle.ledger.specs.Ledger.{Tells}
use Rattle.station.specs.View.{StationState}
use Rattle.script.specs.Keeping.{ScriptKeeps}
use Rattle.script.specs.RigLines.{WroteLines, LinesWithin, StillTells, InOrderAt}
use Rattle.script.specs.Said.{Said}
use Rattle.script.specs.Shown.{TestsShown}

-- What a script did, whatever the rig tells: what was said to the lines that were answered, and what the rig shows of it.
--     wrote    where the output tells, these are the lines that were written
--     keeps    where the disk tells, what it leaves
--     tests    and what the rig shows of the tests that were recorded
pub record ScriptRan (began : StationState) (got got' : Option (List ℕ)) (status : ℕ) (rig : RigState) (ended : DiskState) : Type 0 where
  pub said : List Said
  pub wrote : WroteLines got got' said status
  pub lines : LinesWithin said began.rig rig
  pub tells : StillTells began.rig rig
  pub order : IsInOrderOf began.program began.rig → InOrderAt began.program status rig
  pub keeps : Tells began.disk → ScriptKeeps began status ended
  pub tests : (tells : Tells began.disk)
      → TestsShown began.program began.rig rig began.records (keeps tells).records (keeps tells).later ended said status
