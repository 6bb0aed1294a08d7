-- What answering the rows of an import promises.
use Rattle.std.specs.Prelude.{◌≡◌, ℕ, List, [], Option}
use Rattle.disk_edge.specs.Disk.{DiskState}
use Rattle.station.specs.View.{StationState}
use Rattle.script.specs.Headline.{EndsAtZero, KeepsItsWord, Progress}
use Rattle.script.specs.Said.{Asked}
use Rattle.script.specs.Scene.{Scene}

-- The rows are answered one after another, as the lines of a script are, from a station whose disk keeps its records.
--     done    with status 0 all rows are answered, and nothing follows
--     zero    with 10 the last command's three zero calls failed, and with every other status no command's did
pub record RowsHeadline (scene : Scene) (began : StationState) (rows : List Asked) (status : ℕ) (ended : DiskState) (got : Option (List ℕ)) : Type 0 where
  pub progress : Progress
  pub word : KeepsItsWord scene began rows progress status ended got
  pub done : status ≡ 0 → (progress.answered ≡ rows) × (progress.rest ≡ [])
  pub zero : EndsAtZero progress status
