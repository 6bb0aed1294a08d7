-- A connection is its reply.
--     Due findings p R moments bytes reply after     what these bytes are to be replied, and the records behind it
--     IsItsReply ..                                  a connection got just that; or a count of it rose, and it got a front of it
--     IsLastReply ..                                 the station stopped with it, and it got a front of that, or of the reply that says why
--     Replies state old came went m m' result        what a connection came to, by what the rig tells of each unit
use Rattle.std.specs.Prelude.{◌≡◌, ◌⊎◌, ℕ, List, [], Option, Some, None, IfSome, Result, Ok, Err}
use Rattle.std.specs.Io.KnownBytes.{Appends}
use Rattle.base.specs.Causes.{Rose}
use Rattle.bench_edge.specs.Clocks.{first_moment, later_moments}
use Rattle.bench_edge.specs.Whole.{WroteFront}
use Rattle.door_edge.specs.Doors.{Talk}
use Rattle.disk_edge.specs.Disk.{DiskState, LeavesOnly, EachImage}
use Rattle.wirelist.specs.declared.program.Program.{Program}
use Rattle.unit_outcome.specs.Found.{Findings}
use Rattle.records.specs.declared.record.StationRecord.{StationRecord}
use Rattle.ledger.specs.Kept.{IsImageOf, IsImageOfEither}
use Rattle.ledger.specs.Ledger.{Tells}
use Rattle.station.specs.declared.stops.StepStop.{StepStop}
use Rattle.station.specs.declared.stops.StepStop.TheVariants.{Disk, NotZero, Memory}
use Rattle.station.specs.View.{StationState, IsTold}
use Rattle.http_exchange.specs.declared.request.Request.{Request}
use Rattle.http_exchange.specs.declared.reply.Stop.TheVariants as stop
use Rattle.http_exchange.specs.Requests.{Asks}
use Rattle.http_exchange.specs.Replies.{Reply, reply_bytes, stop_reply}
use Rattle.station_http.specs.declared.serve.ServeDone.{ServeDone}
use Rattle.station_http.specs.Expected.{Expects}

-- ---- what is due

-- the clock's moment, where it tells one
abbrev pub IsNow : Option (List ℕ) → ℕ → Type 0
IsNow moments now = IfSome moments (λ told. now ≡ first_moment told)

-- where the clock tells, it went on by one moment at most
abbrev pub PassesMoment : Option (List ℕ) → Option (List ℕ) → Type 0
PassesMoment moments moments' = IfSome moments (λ told. (moments' ≡ Some told) ⊎ (moments' ≡ Some (later_moments told)))

-- What the bytes of a connection are to be replied, and the records behind it: the reply of the first check that applies; of a command
-- that passes all checks the reply of a step, with its records; and none where the bytes end before a request does.
pub record Due (findings : Findings) (p : Program) (R : List StationRecord) (moments : Option (List ℕ)) (bytes : List ℕ) (reply : Option Reply)
    (after : List StationRecord) : Type 0 where
  pub asked : Option Request
  pub asks : Asks bytes asked
  pub now : ℕ
  pub now_is : IsNow moments now
  pub expects : Expects findings p R now asked reply after

-- the bytes of a reply, and none where there is no reply
abbrev pub bytes_of : Option Reply → List ℕ
bytes_of None = []
bytes_of (Some reply) = reply_bytes reply

-- the status of a reply, and none where there is no reply
abbrev pub status_of : Option Reply → Option ℕ
status_of None = None
status_of (Some reply) = Some reply.status

-- ---- what a connection got

-- a connection: what it has left and has got, and how often it failed
abbrev pub talk_of : Option (List ℕ) → Option (List ℕ) → ℕ → ℕ → Talk
talk_of left got read_faults write_faults = record { left = left; got = got; read_faults = read_faults; write_faults = write_faults }

-- a count of the connection rose
abbrev pub CountRose : Talk → Talk → Type 0
CountRose came went = Rose came.read_faults went.read_faults ⊎ Rose came.write_faults went.write_faults

-- it got exactly the reply, and the status is the reply's; without a reply it got nothing and is cut
abbrev pub GotAll : Talk → Talk → Option Reply → Option ℕ → Type 0
GotAll came went reply status = Appends came.got went.got (bytes_of reply) × (status ≡ status_of reply)

-- a count of it rose, it got a front of the reply, and it is cut
abbrev pub GotFront : Talk → Talk → Option Reply → Option ℕ → Type 0
GotFront came went reply status = CountRose came went × WroteFront came.got went.got (bytes_of reply) × (status ≡ None)

-- a count of it rose, there is no reply, and the records are those before
abbrev pub WasLost : Talk → Talk → List StationRecord → Option Reply → List StationRecord → Type 0
WasLost came went R reply after = CountRose came went × (reply ≡ None) × (after ≡ R)

-- A connection is its reply: it got exactly what is due, and the records are those that are due. Only where a count of it rose may its
-- request be lost, or its reply end with a front.
pub record IsItsReply (findings : Findings) (p : Program) (R : List StationRecord) (moments : Option (List ℕ)) (bytes : List ℕ) (came went : Talk)
    (status : Option ℕ) (after : List StationRecord) : Type 0 where
  pub reply : Option Reply
  pub due : Due findings p R moments bytes reply after ⊎ WasLost came went R reply after
  pub got : GotAll came went reply status ⊎ GotFront came went reply status

-- ---- the last one

-- it is the reply that is due, or says that the disk failed, or that memory ran out
abbrev pub MayBeLast : Option Reply → Reply → Type 0
MayBeLast due last = (due ≡ Some last) ⊎ (last ≡ stop_reply stop.Disk) ⊎ (last ≡ stop_reply stop.Memory)

-- The station stopped with the connection, which got a front of its last reply. `later` are the records that are due, or those before.
pub record IsLastReply (findings : Findings) (p : Program) (R : List StationRecord) (moments : Option (List ℕ)) (bytes : List ℕ) (came went : Talk)
    (later : List StationRecord) : Type 0 where
  pub reply : Option Reply
  pub due : Due findings p R moments bytes reply later ⊎ ((reply ≡ None) × (later ≡ R))
  pub last : Reply
  pub last_is : MayBeLast reply last
  pub got : WroteFront came.got went.got (reply_bytes last)

-- ---- the station behind it

-- The station goes on. A crash at any moment leaves the records before, or those behind.
pub record IsServed (findings : Findings) (old new : StationState) (moments moments' : Option (List ℕ))
    (bytes : List ℕ) (came went : Talk) (status : Option ℕ) : Type 0 where
  pub is : IsItsReply findings old.program old.records moments bytes came went status new.records
  pub clock : PassesMoment moments moments'
  pub images : LeavesOnly old.disk new.disk (IsImageOfEither old.records new.records)

abbrev pub stopped_disk : {R D : Type 0} → (D → DiskState) → StepStop R D → DiskState
stopped_disk state (Disk rig disk) = state disk
stopped_disk state (NotZero rig disk) = state disk
stopped_disk state (Memory rig disk) = state disk

-- the last reply of each stop: that the disk failed; or what is due, unless memory ran out for it
abbrev pub SaysStop : {R D : Type 0} → StepStop R D → Option Reply → Reply → Type 0
SaysStop (Disk rig disk) due last = last ≡ stop_reply stop.Disk
SaysStop (NotZero rig disk) due last = (due ≡ Some last) ⊎ (last ≡ stop_reply stop.Memory)
SaysStop (Memory rig disk) due last = (due ≡ Some last) ⊎ (last ≡ stop_reply stop.Memory)

-- what a crash behind it leaves: the records before or those that are due, and where three zero calls failed just those before
abbrev pub KeepsAt : {R D : Type 0} → (D → DiskState) → StepStop R D → List StationRecord → List StationRecord → Type 0
KeepsAt state (Disk rig disk) R later = EachImage (state disk) (IsImageOfEither R later)
KeepsAt state (NotZero rig disk) R later = EachImage (state disk) (IsImageOf R)
KeepsAt state (Memory rig disk) R later = EachImage (state disk) (IsImageOfEither R later)

-- The station stopped. A crash at any moment leaves the records before, or those that are due.
pub record IsStopped {R D : Type 0} (disk_state : D → DiskState) (findings : Findings) (old : StationState)
    (moments moments' : Option (List ℕ)) (bytes : List ℕ) (came went : Talk) (halt : StepStop R D) : Type 0 where
  pub later : List StationRecord
  pub is : IsLastReply findings old.program old.records moments bytes came went later
  pub says : SaysStop halt is.reply is.last
  pub clock : PassesMoment moments moments'
  pub images : LeavesOnly old.disk (stopped_disk disk_state halt) (IsImageOfEither old.records later)
  pub kept : KeepsAt disk_state halt old.records later

-- P holds of what the rig tells of each unit; of a rig that tells none it holds of something that it may have found
pub record ByFindings (old : StationState) (P : Findings → Type 0) : Type 0 where
  pub told : (findings : Findings) → IsTold old findings → P findings
  pub some : Tells old.disk → (findings : Findings) × P findings

-- What a connection came to, whose bytes are told.
abbrev pub Replies : {R D : Type 0} → (D → DiskState) → StationState → Talk → Talk
    → Option (List ℕ) → Option (List ℕ) → Result (ServeDone R D) (StepStop R D) → Type 0
Replies disk_state old came went moments moments' (Ok done) =
    IfSome came.left (λ bytes. ByFindings old (λ findings. IsServed findings old done.station moments moments' bytes came went done.status))
Replies disk_state old came went moments moments' (Err halt) =
    IfSome came.left (λ bytes. ByFindings old (λ findings. IsStopped disk_state findings old moments moments' bytes came went halt))
