-- Connections, one after the other.
--     IsVisited number old new          one connection was accepted, served, finished and told
--     Visits number stage stages        these follow one another
--     EndsAfter ...                     what ended the serving, if it did not come to its end
use Rattle.std.specs.Prelude.{◌≡◌, ◌⊎◌, ℕ, ◌+◌, ◌<◌, List, [], ◌∷◌, length, Option, Result, Ok, Err}
use Rattle.std.specs.Io.KnownBytes.{Appends}
use Rattle.bench_edge.specs.Whole.{WroteFront}
use Rattle.door_edge.specs.Doors.{Talk, TakesFirst, IsFresh, with_done}
use Rattle.disk_edge.specs.Disk.{DiskState}
use Rattle.rig.specs.RigState.{RigState}
use Rattle.station.specs.declared.stops.StepStop.{StepStop}
use Rattle.station.specs.declared.stops.StepStop.TheVariants.{Disk, NotZero, Memory}
use Rattle.station.specs.View.{StationState}
use Rattle.http_exchange.specs.declared.request.Request.{Request}
use Rattle.script.specs.declared.answering.RunEnd.{RunEnd}
use Rattle.station_http.specs.Turns.{AreParts}
use Rattle.station_http.specs.Served.{Reads, Replied, IsCut, Served}
use Rattle.serving.specs.Lines.{conn_line, Closing, write_fault, disk_fault, memory, not_at_zero, network_fault, status_of, closing_line}

-- ---- one connection

-- a request came whole and was replied
pub record Answered (old : StationState) (came went : Talk) (moments moments' : Option (List ℕ)) (status : Option ℕ) (new : StationState) : Type 0 where
  pub asked : Request
  pub read : Reads came went asked
  pub replied : Replied old asked moments moments' came.got went.got came.write_faults went.write_faults status new

-- a connection was served, and the station goes on
abbrev pub ServedSo : StationState → Talk → Talk → Option (List ℕ) → Option (List ℕ) → Option ℕ → StationState → Type 0
ServedSo old came went moments moments' status new = Answered old came went moments moments' status new ⊎ IsCut old came went moments moments' status new

-- the station, what the door has waiting and done, the moments to come, and what was written
pub record Stage : Type 0 where
  pub station : StationState
  pub waiting : Option (List (List ℕ))
  pub done : Option (List Talk)
  pub moments : Option (List ℕ)
  pub got : Option (List ℕ)

-- the first connection that waits came, with nothing written to it and no fault counted, and went to those that are done
pub record Passes (waiting waiting' : Option (List (List ℕ))) (done done' : Option (List Talk)) (came went : Talk) : Type 0 where
  pub first : TakesFirst waiting waiting' came
  pub fresh : IsFresh came
  pub finished : done' ≡ with_done done went

-- A connection was accepted, served and finished, and its line was written.
pub record IsVisited (number : ℕ) (old new : Stage) : Type 0 where
  pub came : Talk
  pub went : Talk
  pub passes : Passes old.waiting new.waiting old.done new.done came went
  pub status : Option ℕ
  pub served : ServedSo old.station came went old.moments new.moments status new.station
  pub told : Appends old.got new.got (conn_line number status)

-- ---- all of them

-- each stage is that behind a connection, from this number on
abbrev pub Visits : ℕ → Stage → List Stage → Type 0
Visits number stage [] = Unit {0}
Visits number stage (next ∷ more) = IsVisited number stage next × Visits (number + 1) next more

-- the last stage
abbrev pub last_stage : Stage → List Stage → Stage
last_stage stage [] = stage
last_stage stage (next ∷ more) = last_stage next more

-- ---- an end

-- what is left as the serving ends: the rig and the disk, and the rest of the stage
pub record Left : Type 0 where
  pub rig : RigState
  pub disk : DiskState
  pub waiting : Option (List (List ℕ))
  pub done : Option (List Talk)
  pub moments : Option (List ℕ)
  pub got : Option (List ℕ)

-- The door refused: no connection came, and all is as it was, but for a front of the closing line.
pub record EndsAtDoor (old : Stage) (closing : Closing) (left : Left) : Type 0 where
  pub why : (closing ≡ network_fault) ⊎ (closing ≡ memory)
  pub parts : AreParts old.station left.rig left.disk
  pub waiting : left.waiting ≡ old.waiting
  pub done : left.done ≡ old.done
  pub moments : left.moments ≡ old.moments
  pub wrote : WroteFront old.got left.got (closing_line closing)

-- The connection was served and finished, and its line was not written whole.
pub record EndsUntold (number : ℕ) (old : Stage) (closing : Closing) (left : Left) : Type 0 where
  pub why : (closing ≡ write_fault) ⊎ (closing ≡ memory)
  pub came : Talk
  pub went : Talk
  pub passes : Passes old.waiting left.waiting old.done left.done came went
  pub status : Option ℕ
  pub new : StationState
  pub served : ServedSo old.station came went old.moments left.moments status new
  pub parts : AreParts new left.rig left.disk
  pub wrote : WroteFront old.got left.got (conn_line number status)

abbrev pub closing_of : {R D : Type 0} → StepStop R D → Closing
closing_of (Disk rig disk) = disk_fault
closing_of (NotZero rig disk) = not_at_zero
closing_of (Memory rig disk) = memory

abbrev pub rig_of : {R D : Type 0} → (R → RigState) → StepStop R D → RigState
rig_of state (Disk rig disk) = state rig
rig_of state (NotZero rig disk) = state rig
rig_of state (Memory rig disk) = state rig

abbrev pub disk_of : {R D : Type 0} → (D → DiskState) → StepStop R D → DiskState
disk_of state (Disk rig disk) = state disk
disk_of state (NotZero rig disk) = state disk
disk_of state (Memory rig disk) = state disk

-- the station stopped with the connection, which was finished; a front of the closing line was written
pub record EndsStopped {R D : Type 0} (rig_state : R → RigState) (disk_state : D → DiskState) (old : Stage) (closing : Closing) (left : Left) : Type 0 where
  pub came : Talk
  pub went : Talk
  pub passes : Passes old.waiting left.waiting old.done left.done came went
  pub halt : StepStop R D
  pub served : Served rig_state disk_state old.station came went old.moments left.moments (Err halt)
  pub why : closing ≡ closing_of halt
  pub rig_is : left.rig ≡ rig_of rig_state halt
  pub disk_is : left.disk ≡ disk_of disk_state halt
  pub wrote : WroteFront old.got left.got (closing_line closing)

-- what ended the serving, at the connection with this number
pub record EndsAt {R D : Type 0} (rig_state : R → RigState) (disk_state : D → DiskState) (number : ℕ) (old : Stage) (status : ℕ) (left : Left) : Type 0 where
  pub closing : Closing
  pub status_is : status ≡ status_of closing
  pub how : EndsAtDoor old closing left ⊎ EndsUntold number old closing left ⊎ EndsStopped rig_state disk_state old closing left

-- all were served, and nothing is left to do
pub record EndsWell (last : Stage) (status : ℕ) (left : Left) : Type 0 where
  pub status_is : status ≡ 0
  pub parts : AreParts last.station left.rig left.disk
  pub waiting : left.waiting ≡ last.waiting
  pub done : left.done ≡ last.done
  pub moments : left.moments ≡ last.moments
  pub got : left.got ≡ last.got

-- Connections were visited in order, from the first on: all of them, or fewer, and then the serving ended.
pub record Serves {R D : Type 0} (rig_state : R → RigState) (disk_state : D → DiskState) (count : ℕ) (first : Stage) (status : ℕ) (left : Left) : Type 0 where
  pub stages : List Stage
  pub visits : Visits 1 first stages
  pub ends :
      ((length stages ≡ count) × EndsWell (last_stage first stages) status left)
      ⊎ ((length stages < count) × EndsAt rig_state disk_state (length stages + 1) (last_stage first stages) status left)

-- ---- telling

-- a connection that was served, told or not
abbrev pub Tells : {R D : Type 0} → (R → RigState) → (D → DiskState) → ℕ → StationState → Talk → Talk
    → Option (List ℕ) → Option (List ℕ) → Option (List ℕ) → Option (List ℕ) → Result StationState (RunEnd R D) → Type 0
Tells rig_state disk_state number old came went moments moments' got got' (Ok new) =
    (status : Option ℕ) × ServedSo old came went moments moments' status new × Appends got got' (conn_line number status)
Tells {R} {D} rig_state disk_state number old came went moments moments' got got' (Err end) =
    (waiting waiting' : Option (List (List ℕ))) (done done' : Option (List Talk)) → Passes waiting waiting' done done' came went
    → EndsAt rig_state disk_state number (record { station = old; waiting = waiting; done = done; moments = moments; got = got }) end.status
    (record { rig = rig_state end.rig; disk = disk_state end.disk; waiting = waiting'; done = done'; moments = moments'; got = got' })
