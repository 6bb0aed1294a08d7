-- What a connection did to the rig, over plain variables.
use Rattle.std.proofs.Common.{◌≡◌, ◌⊎◌, ⊎_elim, inl, inr, ◌∙◌, ap, ℕ, List, Option, Result, Ok, Err}
use Rattle.door_edge.specs.Doors.{Talk}
use Rattle.disk_edge.specs.Disk.{DiskState}
use Rattle.rig.specs.RigState.{RigState}
use Rattle.station.specs.declared.stops.StepStop.{StepStop}
use Rattle.station.specs.declared.stops.StepStop.TheVariants.{Disk, NotZero, Memory}
use Rattle.station.specs.View.{StationState, IsStanding}
use Rattle.http_exchange.specs.declared.request.Request.{Request}
use Rattle.http_exchange.specs.declared.request.Request.TheVariants as asks
use Rattle.http_exchange.specs.Replies.{Reply}
use Rattle.station_http.specs.declared.serve.ServeDone.{ServeDone}
use Rattle.station_http.specs.RigLeft.{DidAnswer, DidStop, DidNotZero, DidBehind, Does, IsAtZero}
use Rattle.station_http.specs.Served.{StopsOnWriting, Served}
use Rattle.station_http.specs.Turns.{GoesOnWith, AreParts, DiskStops, StuckStops, RunsOutWithin, StopsBehind, Stops}
use Rattle.station_http.proofs.OrderLemmas.{goes_standing}

same_rig : (old new : StationState) → new ≡ old → new.rig ≡ old.rig
same_rig old new same = ap (λ (s : StationState). s.rig) same

goes_does : (old new : StationState) (r : Request) (moments moments' : Option (List ℕ)) (reply : Reply) → GoesOnWith old r moments moments' reply new → (new.rig ≡ old.rig) ⊎ DidAnswer old new
goes_does old new (asks.Refused why) moments moments' reply (says, alone) = inl (same_rig old new alone.station)
goes_does old new (asks.Unit serial) moments moments' reply (says, alone) = inl (same_rig old new alone.station)
goes_does old new asks.Lot moments moments' reply (says, alone) = inl (same_rig old new alone.station)
goes_does old new (asks.Command c) moments moments' reply answers =
    inr (record { command = c; now = answers.now; answer = answers.answer; rig = answers.done.rig; tallies = answers.done.goes_on.tallies })

-- ---- stops

disk_does : (old : StationState) (r : Request) (moments moments' : Option (List ℕ)) (reply : Reply) (rig : RigState) (disk : DiskState) → DiskStops old r moments moments' reply rig disk → DidStop old rig × (rig.volts ≡ 0)
disk_does old (asks.Command c) moments moments' reply rig disk stops =
    let failed = stops.failed in
    (record { command = c; now = stops.now; test = inl failed.tested; tallies = failed.goes_on.tallies }, failed.at_zero)
disk_does old (asks.Refused why) moments moments' reply rig disk stops = absurd stops
disk_does old (asks.Unit serial) moments moments' reply rig disk stops = absurd stops
disk_does old asks.Lot moments moments' reply rig disk stops = absurd stops

stuck_does : (old : StationState) (r : Request) (moments moments' : Option (List ℕ)) (reply : Reply) (rig : RigState) (disk : DiskState) → StuckStops old r moments moments' reply rig disk → DidNotZero old rig
stuck_does old (asks.Command c) moments moments' reply rig disk stops =
    record { command = c; now = stops.now; test = stops.stuck.tested; tallies = stops.stuck.goes_on.tallies }
stuck_does old (asks.Refused why) moments moments' reply rig disk stops = absurd stops
stuck_does old (asks.Unit serial) moments moments' reply rig disk stops = absurd stops
stuck_does old asks.Lot moments moments' reply rig disk stops = absurd stops

within_does : (old : StationState) (r : Request) (moments moments' : Option (List ℕ)) (rig : RigState) (disk : DiskState) → RunsOutWithin old r moments moments' rig disk → DidStop old rig × (rig.volts ≡ 0)
within_does old (asks.Command c) moments moments' rig disk stops =
    let ran = stops.ran_out in
    (record { command = c; now = stops.now; test = ran.tested; tallies = ran.goes_on.tallies }, ran.at_zero)
within_does old (asks.Refused why) moments moments' rig disk stops = absurd stops
within_does old (asks.Unit serial) moments moments' rig disk stops = absurd stops
within_does old asks.Lot moments moments' rig disk stops = absurd stops

-- where the station stopped for want of memory
abbrev AtMemory : StationState → RigState → Type 0
AtMemory old rig = ((rig ≡ old.rig) ⊎ DidStop old rig ⊎ DidBehind old rig) × (rig.volts ≡ 0)

behind_does : (old new : StationState) (r : Request) (moments moments' : Option (List ℕ)) (reply : Reply) (rig : RigState) (disk : DiskState) → IsStanding old
    → GoesOnWith old r moments moments' reply new → AreParts new rig disk → AtMemory old rig
behind_does old new r moments moments' reply rig disk standing went_on parts = (
  ⊎_elim
      (λ same. inl (parts.rig_is ∙ same))
      (λ did. inr (inr (new, parts.rig_is, did)))
      (goes_does old new r moments moments' reply went_on),
  ap (λ (s : RigState). s.volts) parts.rig_is ∙ (goes_standing old new r moments moments' reply went_on standing).manned.unpowered,
)

memory_does : (old : StationState) (r : Request) (moments moments' : Option (List ℕ)) (rig : RigState) (disk : DiskState) → IsStanding old
    → RunsOutWithin old r moments moments' rig disk ⊎ StopsBehind old r moments moments' rig disk → AtMemory old rig
memory_does old r moments moments' rig disk standing (inl within) = let did = within_does old r moments moments' rig disk within in (inr (inl did.0), did.1)
memory_does old r moments moments' rig disk standing (inr behind) =
    behind_does old behind.new r moments moments' behind.reply rig disk standing behind.went_on behind.parts

-- ---- every connection

-- what it did, and that the source is at zero
abbrev Both : {R D : Type 0} → (R → RigState) → StationState → Result (ServeDone R D) (StepStop R D) → Type 0
Both state old result = Does state old result × IsAtZero state result

stops_does : {R D : Type 0} (rig_state : R → RigState) (disk_state : D → DiskState) (old : StationState) (r : Request) (moments moments' : Option (List ℕ)) (reply : Reply) (halt : StepStop R D)
    → IsStanding old → Stops rig_state disk_state old r moments moments' reply halt → Both {R = R} {D = D} rig_state old (Err halt)
stops_does rig_state disk_state old r moments moments' reply (Disk rig disk) standing stops = disk_does old r moments moments' reply (rig_state rig) (disk_state disk) stops
stops_does rig_state disk_state old r moments moments' reply (NotZero rig disk) standing stops = (stuck_does old r moments moments' reply (rig_state rig) (disk_state disk) stops, tt)
stops_does rig_state disk_state old r moments moments' reply (Memory rig disk) standing stops = memory_does old r moments moments' (rig_state rig) (disk_state disk) standing stops.1

writing_does : {R D : Type 0} (rig_state : R → RigState) (disk_state : D → DiskState) (old : StationState) (r : Request) (moments moments' got got' : Option (List ℕ)) (halt : StepStop R D)
    → IsStanding old → StopsOnWriting rig_state disk_state old r moments moments' got got' halt → Both {R = R} {D = D} rig_state old (Err halt)
writing_does rig_state disk_state old r moments moments' got got' (Disk rig disk) standing stops = absurd stops
writing_does rig_state disk_state old r moments moments' got got' (NotZero rig disk) standing stops = absurd stops
writing_does rig_state disk_state old r moments moments' got got' (Memory rig disk) standing stops =
    behind_does old stops.new r moments moments' stops.reply (rig_state rig) (disk_state disk) standing stops.went_on stops.parts

pub served_does : {R D : Type 0} (rig_state : R → RigState) (disk_state : D → DiskState) (old : StationState) (came went : Talk) (moments moments' : Option (List ℕ))
    (result : Result (ServeDone R D) (StepStop R D)) → IsStanding old → Served rig_state disk_state old came went moments moments' result → Does rig_state old result × IsAtZero rig_state result
served_does rig_state disk_state old came went moments moments' (Ok done) standing (inl read) =
    let reply = read.finishes in (
      goes_does old done.station read.asked moments moments' reply.reply reply.went_on,
      (goes_standing old done.station read.asked moments moments' reply.reply reply.went_on standing).manned.unpowered,
    )
served_does rig_state disk_state old came went moments moments' (Ok done) standing (inr cut) =
    (inl (same_rig old done.station cut.alone.station), ap (λ (s : StationState). s.rig.volts) cut.alone.station ∙ standing.manned.unpowered)
served_does rig_state disk_state old came went moments moments' (Err halt) standing (inl read) =
    ⊎_elim
    (λ stops. stops_does rig_state disk_state old read.asked moments moments' stops.reply halt standing stops.stops)
    (λ stops. writing_does rig_state disk_state old read.asked moments moments' came.got went.got halt standing stops)
    read.finishes
served_does rig_state disk_state old came went moments moments' (Err (Disk rig disk)) standing (inr unread) = absurd unread
served_does rig_state disk_state old came went moments moments' (Err (NotZero rig disk)) standing (inr unread) = absurd unread
served_does rig_state disk_state old came went moments moments' (Err (Memory rig disk)) standing (inr unread) =
    (inl unread.parts.rig_is, ap (λ (s : RigState). s.volts) unread.parts.rig_is ∙ standing.manned.unpowered)
