-- How many answers say that the rig failed, or that the door was open, and how many group readings were made.
--     said_to visits      what was said to each connection that was visited
--     AnswersWithin ..    there are no more such answers than the rig's counts rose by, and than it tells
--     TestsSpend ..       the group readings that the recorded tests took
use Rattle.std.specs.Prelude.{◌≡◌, ℕ, ◌+◌, ◌*◌, List, [], ◌∷◌, ◌++◌, Option}
use Rattle.std.proofs.Common.{inl, inr}
use Rattle.door_edge.specs.Doors.{Talk}
use Rattle.disk_edge.specs.Disk.{DiskState}
use Rattle.rig.specs.RigState.{RigState}
use Rattle.unit_outcome.specs.Enough.{checking_readings}
use Rattle.records.specs.declared.record.StationRecord.{StationRecord}
use Rattle.serials.specs.Commands.{id_of}
use Rattle.station.specs.Step.{answered, not_at_zero}
use Rattle.station.specs.View.{StationState}
use Rattle.http_exchange.specs.declared.request.Request.{Request}
use Rattle.http_exchange.specs.declared.request.Request.TheVariants as request
use Rattle.http_exchange.specs.Replies.{Reply}
use Rattle.script.specs.RigLines.{LinesWithin}
use Rattle.script.specs.Said.{Said, no_command, replied}
use Rattle.script.specs.Shown.{test_count, no_wiring, NoneRefused}
use Rattle.station_http.specs.Turns.{GoesOnWith}
use Rattle.serving.specs.Visits.{ServedSo, Stage, Visits, last_stage, Left, Serves}

-- what was said to a request's command, or that it came to none
abbrev pub said_by : (old new : StationState) (moments moments' : Option (List ℕ)) (reply : Reply) (r : Request)
    → GoesOnWith old r moments moments' reply new → Said
said_by old new moments moments' reply (request.Command c) answers = replied (id_of c) (answered answers.answer)
said_by old new moments moments' reply (request.Refused why) went_on = no_command 0
said_by old new moments moments' reply (request.Unit serial) went_on = no_command 0
said_by old new moments moments' reply request.Lot went_on = no_command 0

-- what was said to a connection
abbrev pub said_in : (old new : StationState) (came went : Talk) (moments moments' : Option (List ℕ)) (status : Option ℕ)
    → ServedSo old came went moments moments' status new → Said
said_in old new came went moments moments' status (inl whole) = said_by old new moments moments' whole.replied.reply whole.asked whole.replied.went_on
said_in old new came went moments moments' status (inr cut) = no_command 0

-- and to each that was visited
abbrev pub said_to : (number : ℕ) (stage : Stage) (stages : List Stage) → Visits number stage stages → List Said
said_to number stage [] visits = []
said_to number stage (next ∷ more) (visit, visits) =
    said_in stage.station next.station visit.came visit.went stage.moments next.moments visit.status visit.served ∷ said_to (number + 1) next more visits

-- three zero calls failed
abbrev pub IsStuck : List Said → Type 0
IsStuck last = (id : List ℕ) × (last ≡ replied id not_at_zero ∷ [])

-- The connections that were visited, and what was said to one more, if one was served: with status 10 that three zero calls failed.
-- Each answer that the rig failed, or that the door was open, comes of a command in which that count rose.
pub record AnswersWithin {R D : Type 0} (rig_state : R → RigState) (disk_state : D → DiskState)
    (count : ℕ) (first : Stage) (status : ℕ) (left : Left) : Type 0 where
  pub serves : Serves rig_state disk_state count first status left
  pub last : List Said
  pub stuck : status ≡ 10 → IsStuck last
  pub within : LinesWithin (said_to 1 first serves.stages serves.visits ++ last) first.station.rig left.rig

-- `added` are the records that the connections added. With status 0 the group readings are those that each test among them takes, where
-- no unit had a wiring fault and no test was refused since the rig failed, the door was open or the unit stayed charged.
pub record TestsSpend {R D : Type 0} (rig_state : R → RigState) (disk_state : D → DiskState)
    (count : ℕ) (first : Stage) (status : ℕ) (left : Left) : Type 0 where
  pub serves : Serves rig_state disk_state count first status left
  pub added : List StationRecord
  pub is : (last_stage first serves.stages).station.records ≡ first.station.records ++ added
  pub spent : status ≡ 0 → no_wiring added → NoneRefused (said_to 1 first serves.stages serves.visits)
      → left.rig.spent ≡ first.station.rig.spent + test_count added * checking_readings first.station.program
