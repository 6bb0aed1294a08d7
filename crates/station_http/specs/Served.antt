-- What one connection made of the station, and what it got.
--     IsTurn state old request m m' turn          a request was answered, and nothing is written yet
--     Served state old talk talk' m m' result     a connection was served
use Rattle.std.specs.Prelude.{◌≡◌, ◌⊎◌, ℕ, List, Option, Some, None, Result, Ok, Err}
use Rattle.std.specs.Io.KnownBytes.{Appends}
use Rattle.base.specs.Causes.{Rose}
use Rattle.bench_edge.specs.Whole.{WroteFront, WrotePart}
use Rattle.door_edge.specs.Doors.{Talk}
use Rattle.disk_edge.specs.Disk.{DiskState}
use Rattle.rig.specs.RigState.{RigState}
use Rattle.station.specs.declared.stops.StepStop.{StepStop}
use Rattle.station.specs.declared.stops.StepStop.TheVariants.{Disk, NotZero, Memory}
use Rattle.station.specs.Step.{not_at_zero}
use Rattle.station.specs.View.{StationState}
use Rattle.http_exchange.specs.declared.request.Request.{Request}
use Rattle.http_exchange.specs.declared.reply.Stop.TheVariants as stop
use Rattle.http_exchange.specs.Reading.{TakesRequest}
use Rattle.http_exchange.specs.Replies.{Reply, reply_bytes, stop_reply}
use Rattle.station_http.specs.declared.turn.Turn.{Turn}
use Rattle.station_http.specs.declared.turn.Turn.TheVariants.{Goes, Halts}
use Rattle.station_http.specs.declared.turn.Last.{Last}
use Rattle.station_http.specs.declared.turn.Last.TheVariants.{Fixed, Made}
use Rattle.station_http.specs.declared.serve.ServeDone.{ServeDone}
use Rattle.station_http.specs.Expected.{said_reply}
use Rattle.station_http.specs.Turns.{LeavesAlone, GoesOnWith, AreParts, Stops}

-- ---- a request that is answered

-- the bytes of a last reply
abbrev pub last_bytes : Last → List ℕ
last_bytes (Fixed why) = reply_bytes (stop_reply why)
last_bytes (Made text) = text

-- the station goes on, and this is the reply; or it stops
abbrev pub IsTurn : {R D : Type 0} → (R → RigState) → (D → DiskState) → StationState → Request → Option (List ℕ) → Option (List ℕ) → Turn R D → Type 0
IsTurn rig_state disk_state old request moments moments' (Goes station text status) =
    (reply : Reply) × (text ≡ reply_bytes reply) × (status ≡ reply.status) × GoesOnWith old request moments moments' reply station
IsTurn rig_state disk_state old request moments moments' (Halts halt last) =
    (reply : Reply) × (last_bytes last ≡ reply_bytes reply) × Stops rig_state disk_state old request moments moments' reply halt

-- the reply that the source is not at zero, or that memory ran out for it
abbrev pub LastStuck : List ℕ → Last → Type 0
LastStuck id last = (last_bytes last ≡ reply_bytes (said_reply id not_at_zero)) ⊎ (last_bytes last ≡ reply_bytes (stop_reply stop.Memory))

-- the reply of each stop of a command
abbrev pub LastFor : {R D : Type 0} → List ℕ → StepStop R D → Last → Type 0
LastFor id (Disk rig disk) last = last_bytes last ≡ reply_bytes (stop_reply stop.Disk)
LastFor id (NotZero rig disk) last = LastStuck id last
LastFor id (Memory rig disk) last = last_bytes last ≡ reply_bytes (stop_reply stop.Memory)

-- ---- a connection

-- a request was read whole, and no byte that it does not need
pub record Reads (talk talk' : Talk) (r : Request) : Type 0 where
  pub takes : TakesRequest talk.left talk'.left (Some r)
  pub faults : talk'.read_faults ≡ talk.read_faults

-- a read failed, or the bytes ended before the request did
abbrev pub CutFor : Talk → Talk → Type 0
CutFor talk talk' = Rose talk.read_faults talk'.read_faults ⊎ (TakesRequest talk.left talk'.left None × (talk'.read_faults ≡ talk.read_faults))

-- No request came whole: the station is as it was, the clock was not asked, and nothing was written.
pub record IsCut (old : StationState) (talk talk' : Talk) (moments moments' : Option (List ℕ)) (status : Option ℕ) (new : StationState) : Type 0 where
  pub why : CutFor talk talk'
  pub alone : LeavesAlone old new moments moments'
  pub got_is : talk'.got ≡ talk.got
  pub write_faults : talk'.write_faults ≡ talk.write_faults
  pub status_is : status ≡ None

-- the reply was written whole and the status is its own; or a write failed, and a front of it was written, but not all
abbrev pub Wrote : Option (List ℕ) → Option (List ℕ) → ℕ → ℕ → Reply → Option ℕ → Type 0
Wrote got got' faults faults' reply status =
    (Appends got got' (reply_bytes reply) × (faults' ≡ faults) × (status ≡ Some reply.status))
    ⊎ (WrotePart got got' (reply_bytes reply) × Rose faults faults' × (status ≡ None))

-- the reply of a turn was written, or tried
pub record Replied (old : StationState) (r : Request) (moments moments' got got' : Option (List ℕ))
    (faults faults' : ℕ) (status : Option ℕ) (new : StationState) : Type 0 where
  pub reply : Reply
  pub went_on : GoesOnWith old r moments moments' reply new
  pub wrote : Wrote got got' faults faults' reply status

-- memory ran out as the reply was written
pub record StopsWriting (old : StationState) (r : Request) (moments moments' got got' : Option (List ℕ)) (rig : RigState) (disk : DiskState) : Type 0 where
  pub reply : Reply
  pub new : StationState
  pub went_on : GoesOnWith old r moments moments' reply new
  pub parts : AreParts new rig disk
  pub wrote : WrotePart got got' (reply_bytes reply)

-- a front of the reply that says why the station stops was written
pub record StopsReplying {R D : Type 0} (rig_state : R → RigState) (disk_state : D → DiskState)
    (old : StationState) (r : Request) (moments moments' got got' : Option (List ℕ)) (halt : StepStop R D) : Type 0 where
  pub reply : Reply
  pub stops : Stops rig_state disk_state old r moments moments' reply halt
  pub wrote : WroteFront got got' (reply_bytes reply)

-- only memory runs out as a reply is written
abbrev pub StopsOnWriting : {R D : Type 0} → (R → RigState) → (D → DiskState) → StationState → Request
    → Option (List ℕ) → Option (List ℕ) → Option (List ℕ) → Option (List ℕ) → StepStop R D → Type 0
StopsOnWriting rig_state disk_state old r moments moments' got got' (Disk rig disk) = ⊥
StopsOnWriting rig_state disk_state old r moments moments' got got' (NotZero rig disk) = ⊥
StopsOnWriting rig_state disk_state old r moments moments' got got' (Memory rig disk) =
    StopsWriting old r moments moments' got got' (rig_state rig) (disk_state disk)

-- How a request that came whole ends.
abbrev pub Finishes : {R D : Type 0} → (R → RigState) → (D → DiskState) → StationState → Request
    → Option (List ℕ) → Option (List ℕ) → Option (List ℕ) → Option (List ℕ) → ℕ → ℕ → Result (ServeDone R D) (StepStop R D) → Type 0
Finishes rig_state disk_state old r moments moments' got got' faults faults' (Ok done) =
    Replied old r moments moments' got got' faults faults' done.status done.station
Finishes rig_state disk_state old r moments moments' got got' faults faults' (Err halt) =
    StopsReplying rig_state disk_state old r moments moments' got got' halt ⊎ StopsOnWriting rig_state disk_state old r moments moments' got got' halt

-- memory ran out as the request was read: the station is as it was
pub record StopsUnread (old : StationState) (talk talk' : Talk) (moments moments' : Option (List ℕ)) (rig : RigState) (disk : DiskState) : Type 0 where
  pub read_faults : talk'.read_faults ≡ talk.read_faults
  pub clock : moments' ≡ moments
  pub parts : AreParts old rig disk
  pub wrote : WroteFront talk.got talk'.got (reply_bytes (stop_reply stop.Memory))

-- No request came whole: the connection was cut, or memory ran out.
abbrev pub IsUnread : {R D : Type 0} → (R → RigState) → (D → DiskState) → StationState → Talk → Talk
    → Option (List ℕ) → Option (List ℕ) → Result (ServeDone R D) (StepStop R D) → Type 0
IsUnread rig_state disk_state old talk talk' moments moments' (Ok done) = IsCut old talk talk' moments moments' done.status done.station
IsUnread rig_state disk_state old talk talk' moments moments' (Err (Disk rig disk)) = ⊥
IsUnread rig_state disk_state old talk talk' moments moments' (Err (NotZero rig disk)) = ⊥
IsUnread rig_state disk_state old talk talk' moments moments' (Err (Memory rig disk)) =
    StopsUnread old talk talk' moments moments' (rig_state rig) (disk_state disk)

-- A connection was served: a request came whole and ended so, or none came.
pub record IsRead {R D : Type 0} (rig_state : R → RigState) (disk_state : D → DiskState)
    (old : StationState) (talk talk' : Talk) (moments moments' : Option (List ℕ)) (result : Result (ServeDone R D) (StepStop R D)) : Type 0 where
  pub asked : Request
  pub read : Reads talk talk' asked
  pub finishes : Finishes rig_state disk_state old asked moments moments' talk.got talk'.got talk.write_faults talk'.write_faults result

abbrev pub Served : {R D : Type 0} → (R → RigState) → (D → DiskState) → StationState → Talk → Talk
    → Option (List ℕ) → Option (List ℕ) → Result (ServeDone R D) (StepStop R D) → Type 0
Served rig_state disk_state old talk talk' moments moments' result =
    IsRead rig_state disk_state old talk talk' moments moments' result ⊎ IsUnread rig_state disk_state old talk talk' moments moments' result
