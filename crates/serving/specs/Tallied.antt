-- What the rig shows of the tests that the serving recorded.
use Rattle.std.specs.Prelude.{◌≡◌, ◌⊎◌, ℕ, List, ◌++◌, IfSome}
use Rattle.std.specs.List.{AllByRecursion}
use Rattle.disk_edge.specs.Disk.{DiskState, EachImage}
use Rattle.rig.specs.RigState.{RigState}
use Rattle.records.specs.declared.record.StationRecord.{StationRecord}
use Rattle.ledger.specs.Kept.{IsImageOf}
use Rattle.station.specs.View.{StationState}
use Rattle.script.specs.Shown.{IsShown, IsShownBehind}
use Rattle.serving.specs.Keeping.{ServingKeeps}

-- Records were added behind those that were found, and are kept. Each test among them had a seating of its own: the last tally of its
-- serial and attempt counts enough for the outcome that it states. Of the command that was not answered each image keeps nothing, or the
-- test that it recorded has such a tally too.
pub record ServingShows (began : StationState) (status : ℕ) (rig : RigState) (ended : DiskState) : Type 0 where
  pub keeps : ServingKeeps began status ended
  pub added : List StationRecord
  pub is : keeps.records ≡ began.records ++ added
  pub tallies : IfSome rig.tallies (λ tallies. AllByRecursion (λ (r : StationRecord). IsShown began.program tallies r.body) added)
  pub under_way : EachImage ended (IsImageOf keeps.records) ⊎ IsShownBehind began.program rig.tallies keeps.records keeps.later
