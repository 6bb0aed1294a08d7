-- What a request made of the station, and what it is replied. No connection is in it.
--     GoesOnWith old request ticks reply new    the station goes on
--     Stops state old request ticks stop reply  it stops
use Rattle.std.specs.Prelude.{◌≡◌, ◌⊎◌, ℕ, List, Option}
use Rattle.bench_edge.specs.Clocks.{Ticks}
use Rattle.disk_edge.specs.Disk.{DiskState}
use Rattle.rig.specs.RigState.{RigState}
use Rattle.serials.specs.declared.command.Command.{Command}
use Rattle.serials.specs.Commands.{id_of}
use Rattle.report.specs.LotText.{lot_text}
use Rattle.station.specs.declared.answer.Answer.{Answer}
use Rattle.station.specs.declared.stops.StepStop.{StepStop}
use Rattle.station.specs.declared.stops.StepStop.TheVariants.{Disk, NotZero, Memory}
use Rattle.station.specs.Step.{answered, not_at_zero}
use Rattle.station.specs.View.{StationState}
use Rattle.http_exchange.specs.declared.request.Request.{Request}
use Rattle.http_exchange.specs.declared.request.Request.TheVariants as request
use Rattle.http_exchange.specs.declared.reply.Stop.TheVariants as stop
use Rattle.http_exchange.specs.Replies.{Reply, refusal_reply, stop_reply, report_reply}
use Rattle.station_http.specs.Expected.{said_reply, unit_reply}
use Rattle.station_http.specs.Commanded.{WasAnswered, FailedOnDisk, WasStuck, RanOut}

-- nothing was asked of the station, which is as it was, and the clock was not asked
pub record LeavesAlone (old new : StationState) (moments moments' : Option (List ℕ)) : Type 0 where
  pub station : new ≡ old
  pub clock : moments' ≡ moments

-- a command was answered at the clock's moment
pub record Answers (old : StationState) (c : Command) (moments moments' : Option (List ℕ)) (reply : Reply) (new : StationState) : Type 0 where
  pub now : ℕ
  pub ticks : Ticks moments moments' now
  pub answer : Answer
  pub reply_is : reply ≡ said_reply (id_of c) (answered answer)
  pub done : WasAnswered old c now answer new

-- The station goes on, and the request is replied so.
abbrev pub GoesOnWith : StationState → Request → Option (List ℕ) → Option (List ℕ) → Reply → StationState → Type 0
GoesOnWith old (request.Refused why) moments moments' reply new = (reply ≡ refusal_reply why) × LeavesAlone old new moments moments'
GoesOnWith old (request.Unit serial) moments moments' reply new = (reply ≡ unit_reply old.records serial) × LeavesAlone old new moments moments'
GoesOnWith old request.Lot moments moments' reply new = (reply ≡ report_reply (lot_text old.records)) × LeavesAlone old new moments moments'
GoesOnWith old (request.Command c) moments moments' reply new = Answers old c moments moments' reply new

-- a rig and a disk are those of a station
pub record AreParts (s : StationState) (rig : RigState) (disk : DiskState) : Type 0 where
  pub rig_is : rig ≡ s.rig
  pub disk_is : disk ≡ s.disk

-- the command found the disk failing
pub record StopsOnDisk (old : StationState) (c : Command) (moments moments' : Option (List ℕ)) (reply : Reply)
    (rig : RigState) (disk : DiskState) : Type 0 where
  pub now : ℕ
  pub ticks : Ticks moments moments' now
  pub reply_is : reply ≡ stop_reply stop.Disk
  pub failed : FailedOnDisk old c now rig disk

-- its three zero calls failed, and its reply says so, or memory ran out for that reply
pub record StopsStuck (old : StationState) (c : Command) (moments moments' : Option (List ℕ)) (reply : Reply) (rig : RigState) (disk : DiskState) : Type 0 where
  pub now : ℕ
  pub ticks : Ticks moments moments' now
  pub reply_is : (reply ≡ said_reply (id_of c) not_at_zero) ⊎ (reply ≡ stop_reply stop.Memory)
  pub stuck : WasStuck old c now rig disk

-- memory ran out within the command
pub record StopsWithin (old : StationState) (c : Command) (moments moments' : Option (List ℕ)) (rig : RigState) (disk : DiskState) : Type 0 where
  pub now : ℕ
  pub ticks : Ticks moments moments' now
  pub ran_out : RanOut old c now rig disk

-- the station went on with the request, and memory ran out for its reply
pub record StopsBehind (old : StationState) (request : Request) (moments moments' : Option (List ℕ)) (rig : RigState) (disk : DiskState) : Type 0 where
  pub reply : Reply
  pub new : StationState
  pub went_on : GoesOnWith old request moments moments' reply new
  pub parts : AreParts new rig disk

-- memory ran out within a command
abbrev pub RunsOutWithin : StationState → Request → Option (List ℕ) → Option (List ℕ) → RigState → DiskState → Type 0
RunsOutWithin old (request.Command c) moments moments' rig disk = StopsWithin old c moments moments' rig disk
RunsOutWithin old others moments moments' rig disk = ⊥

abbrev pub DiskStops : StationState → Request → Option (List ℕ) → Option (List ℕ) → Reply → RigState → DiskState → Type 0
DiskStops old (request.Command c) moments moments' reply rig disk = StopsOnDisk old c moments moments' reply rig disk
DiskStops old others moments moments' reply rig disk = ⊥

abbrev pub StuckStops : StationState → Request → Option (List ℕ) → Option (List ℕ) → Reply → RigState → DiskState → Type 0
StuckStops old (request.Command c) moments moments' reply rig disk = StopsStuck old c moments moments' reply rig disk
StuckStops old others moments moments' reply rig disk = ⊥

-- The station stops, and the request is replied so. Only a command may find the disk failing, or fail to come to zero.
abbrev pub Stops : {R D : Type 0} → (R → RigState) → (D → DiskState) → StationState → Request
    → Option (List ℕ) → Option (List ℕ) → Reply → StepStop R D → Type 0
Stops rig_state disk_state old request moments moments' reply (Disk rig disk) = DiskStops old request moments moments' reply (rig_state rig) (disk_state disk)
Stops rig_state disk_state old request moments moments' reply (NotZero rig disk) =
    StuckStops old request moments moments' reply (rig_state rig) (disk_state disk)
Stops rig_state disk_state old request moments moments' reply (Memory rig disk) =
    (reply ≡ stop_reply stop.Memory)
    × (RunsOutWithin old request moments moments' (rig_state rig) (disk_state disk)
    ⊎ StopsBehind old request moments moments' (rig_state rig) (disk_state disk))
