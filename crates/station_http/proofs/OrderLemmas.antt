-- What a connection leaves of the station: it stands, and its trail is in the order of high voltage, over plain variables.
use Rattle.std.proofs.Common.{◌≡◌, ◌⊎◌, ⊎_elim, inl, inr, sym, ap, subst, ℕ, List, Option, Result, Ok, Err, IfOk}
use Rattle.door_edge.specs.Doors.{Talk}
use Rattle.disk_edge.specs.Disk.{DiskState}
use Rattle.rig.specs.RigState.{RigState}
use Rattle.partition.specs.NetTable.{programmed_of}
use Rattle.wirelist.specs.Clusters.{cluster_classes}
use Rattle.applications.specs.Ordered.{IsStuckInOrder}
use Rattle.station.specs.declared.stops.StepStop.{StepStop}
use Rattle.station.specs.declared.stops.StepStop.TheVariants.{Disk, NotZero, Memory}
use Rattle.station.specs.RigAfter.{StaysInOrder}
use Rattle.station.specs.View.{StationState, IsStanding}
use Rattle.http_exchange.specs.declared.request.Request.{Request}
use Rattle.http_exchange.specs.declared.request.Request.TheVariants as asks
use Rattle.http_exchange.specs.Replies.{Reply}
use Rattle.station_http.specs.declared.serve.ServeDone.{ServeDone}
use Rattle.station_http.specs.Ordered.{LeavesInOrder}
use Rattle.station_http.specs.Served.{StopsOnWriting, Served}
use Rattle.station_http.specs.Turns.{AreParts, GoesOnWith, DiskStops, StuckStops, RunsOutWithin, StopsBehind, Stops}

same_order : (old new : StationState) → new ≡ old → StaysInOrder old.program old.rig new.rig
same_order old new same = inl (ap (λ (s : StationState). s.rig.trail) same)

-- ---- the station goes on

goes_order : (old new : StationState) (r : Request) (moments moments' : Option (List ℕ)) (reply : Reply) → GoesOnWith old r moments moments' reply new → StaysInOrder old.program old.rig new.rig
goes_order old new (asks.Refused why) moments moments' reply (says, alone) = same_order old new alone.station
goes_order old new (asks.Unit serial) moments moments' reply (says, alone) = same_order old new alone.station
goes_order old new asks.Lot moments moments' reply (says, alone) = same_order old new alone.station
goes_order old new (asks.Command c) moments moments' reply answers = answers.done.order

pub goes_standing : (old new : StationState) (r : Request) (moments moments' : Option (List ℕ)) (reply : Reply) → GoesOnWith old r moments moments' reply new → IsStanding old → IsStanding new
goes_standing old new (asks.Refused why) moments moments' reply (says, alone) standing = subst IsStanding (sym alone.station) standing
goes_standing old new (asks.Unit serial) moments moments' reply (says, alone) standing = subst IsStanding (sym alone.station) standing
goes_standing old new asks.Lot moments moments' reply (says, alone) standing = subst IsStanding (sym alone.station) standing
goes_standing old new (asks.Command c) moments moments' reply answers standing = answers.done.standing

-- ---- the station stops

parts_order : (old new : StationState) (rig : RigState) (disk : DiskState) → AreParts new rig disk → StaysInOrder old.program old.rig new.rig → StaysInOrder old.program old.rig rig
parts_order old new rig disk parts order = subst (λ (r : RigState). StaysInOrder old.program old.rig r) (sym parts.rig_is) order

disk_order : (old : StationState) (r : Request) (moments moments' : Option (List ℕ)) (reply : Reply) (rig : RigState) (disk : DiskState) → DiskStops old r moments moments' reply rig disk → StaysInOrder old.program old.rig rig
disk_order old (asks.Command c) moments moments' reply rig disk stops = stops.failed.order
disk_order old (asks.Refused why) moments moments' reply rig disk stops = absurd stops
disk_order old (asks.Unit serial) moments moments' reply rig disk stops = absurd stops
disk_order old asks.Lot moments moments' reply rig disk stops = absurd stops

stuck_order : (old : StationState) (r : Request) (moments moments' : Option (List ℕ)) (reply : Reply) (rig : RigState) (disk : DiskState) → StuckStops old r moments moments' reply rig disk
    → IsStuckInOrder (programmed_of old.program.nets) (cluster_classes old.program) rig
stuck_order old (asks.Command c) moments moments' reply rig disk stops = stops.stuck.order
stuck_order old (asks.Refused why) moments moments' reply rig disk stops = absurd stops
stuck_order old (asks.Unit serial) moments moments' reply rig disk stops = absurd stops
stuck_order old asks.Lot moments moments' reply rig disk stops = absurd stops

within_order : (old : StationState) (r : Request) (moments moments' : Option (List ℕ)) (rig : RigState) (disk : DiskState) → RunsOutWithin old r moments moments' rig disk → StaysInOrder old.program old.rig rig
within_order old (asks.Command c) moments moments' rig disk stops = stops.ran_out.order
within_order old (asks.Refused why) moments moments' rig disk stops = absurd stops
within_order old (asks.Unit serial) moments moments' rig disk stops = absurd stops
within_order old asks.Lot moments moments' rig disk stops = absurd stops

memory_order : (old : StationState) (r : Request) (moments moments' : Option (List ℕ)) (rig : RigState) (disk : DiskState)
    → RunsOutWithin old r moments moments' rig disk ⊎ StopsBehind old r moments moments' rig disk → StaysInOrder old.program old.rig rig
memory_order old r moments moments' rig disk (inl within) = within_order old r moments moments' rig disk within
memory_order old r moments moments' rig disk (inr behind) =
    parts_order old behind.new rig disk behind.parts (goes_order old behind.new r moments moments' behind.reply behind.went_on)

stops_order : {R D : Type 0} (rig_state : R → RigState) (disk_state : D → DiskState) (old : StationState) (r : Request) (moments moments' : Option (List ℕ)) (reply : Reply) (halt : StepStop R D)
    → Stops rig_state disk_state old r moments moments' reply halt → LeavesInOrder {R = R} {D = D} rig_state old (Err halt)
stops_order rig_state disk_state old r moments moments' reply (Disk rig disk) stops = disk_order old r moments moments' reply (rig_state rig) (disk_state disk) stops
stops_order rig_state disk_state old r moments moments' reply (NotZero rig disk) stops = stuck_order old r moments moments' reply (rig_state rig) (disk_state disk) stops
stops_order rig_state disk_state old r moments moments' reply (Memory rig disk) stops = memory_order old r moments moments' (rig_state rig) (disk_state disk) stops.1

writing_order : {R D : Type 0} (rig_state : R → RigState) (disk_state : D → DiskState) (old : StationState) (r : Request) (moments moments' got got' : Option (List ℕ)) (halt : StepStop R D)
    → StopsOnWriting rig_state disk_state old r moments moments' got got' halt → LeavesInOrder {R = R} {D = D} rig_state old (Err halt)
writing_order rig_state disk_state old r moments moments' got got' (Disk rig disk) stops = absurd stops
writing_order rig_state disk_state old r moments moments' got got' (NotZero rig disk) stops = absurd stops
writing_order rig_state disk_state old r moments moments' got got' (Memory rig disk) stops =
    parts_order old stops.new (rig_state rig) (disk_state disk) stops.parts (goes_order old stops.new r moments moments' stops.reply stops.went_on)

-- ---- every connection

pub served_order : {R D : Type 0} (rig_state : R → RigState) (disk_state : D → DiskState) (old : StationState) (came went : Talk) (moments moments' : Option (List ℕ))
    (result : Result (ServeDone R D) (StepStop R D)) → Served rig_state disk_state old came went moments moments' result → LeavesInOrder rig_state old result
served_order rig_state disk_state old came went moments moments' (Ok done) (inl read) =
    goes_order old done.station read.asked moments moments' read.finishes.reply read.finishes.went_on
served_order rig_state disk_state old came went moments moments' (Ok done) (inr cut) = same_order old done.station cut.alone.station
served_order rig_state disk_state old came went moments moments' (Err halt) (inl read) =
    ⊎_elim
    (λ stops. stops_order rig_state disk_state old read.asked moments moments' stops.reply halt stops.stops)
    (λ stops. writing_order rig_state disk_state old read.asked moments moments' came.got went.got halt stops)
    read.finishes
served_order rig_state disk_state old came went moments moments' (Err (Disk rig disk)) (inr unread) = absurd unread
served_order rig_state disk_state old came went moments moments' (Err (NotZero rig disk)) (inr unread) = absurd unread
served_order rig_state disk_state old came went moments moments' (Err (Memory rig disk)) (inr unread) =
    inl (ap (λ (r : RigState). r.trail) unread.parts.rig_is)

pub served_standing : {R D : Type 0} (rig_state : R → RigState) (disk_state : D → DiskState) (old : StationState) (came went : Talk) (moments moments' : Option (List ℕ))
    (result : Result (ServeDone R D) (StepStop R D)) → Served rig_state disk_state old came went moments moments' result → IsStanding old → IfOk result (λ done. IsStanding done.station)
served_standing rig_state disk_state old came went moments moments' (Ok done) (inl read) standing =
    goes_standing old done.station read.asked moments moments' read.finishes.reply read.finishes.went_on standing
served_standing rig_state disk_state old came went moments moments' (Ok done) (inr cut) standing = subst IsStanding (sym cut.alone.station) standing
served_standing rig_state disk_state old came went moments moments' (Err halt) served standing = tt
