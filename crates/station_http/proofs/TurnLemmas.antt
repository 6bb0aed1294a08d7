-- How a command ends, over plain variables.
use Rattle.std.proofs.Common.{◌≡◌, inl, inr, refl, ap, ℕ, ◌≤◌, List, Option, Err}
use Rattle.bench_edge.specs.Clocks.{Ticks}
use Rattle.disk_edge.specs.Disk.{DiskState, LeavesOnly}
use Rattle.journal.specs.Journal.{KeepsLimit}
use Rattle.rig.specs.RigState.{RigState}
use Rattle.unit_outcome.specs.Found.{Findings}
use Rattle.ledger.specs.Ledger.{Tells}
use Rattle.serials.specs.declared.command.Command.{Command}
use Rattle.serials.specs.Commands.{id_of}
use Rattle.station.specs.declared.stops.StepStop.{StepStop}
use Rattle.station.specs.declared.stops.StepStop.TheVariants.{Disk, NotZero, Memory}
use Rattle.station.specs.Ended.{EndsBy, Ends, end_of, disk_after, rig_after, StopsFor}
use Rattle.station.specs.RigAfter.{Bears, RigEnds, StaysOrKeeps, GrowsTallies, VoltageEnds}
use Rattle.station.specs.Step.{Step, not_at_zero}
use Rattle.station.specs.View.{StationState, IsTold}
use Rattle.http_exchange.specs.declared.request.Request.TheVariants as asks
use Rattle.http_exchange.specs.declared.reply.Stop.TheVariants as stop
use Rattle.http_exchange.specs.Replies.{stop_reply}
use Rattle.station_http.specs.declared.turn.Turn.TheVariants.{Halts}
use Rattle.station_http.specs.declared.turn.Last.{Last}
use Rattle.station_http.specs.Expected.{said_reply}
use Rattle.station_http.specs.Commanded.{OfTest, WasStopped}
use Rattle.station_http.specs.Served.{LastFor, IsTurn}

-- what `apply` says of a stop
pub stopped-by : {R D : Type 0} (rig_state : R → RigState) (disk_state : D → DiskState) (old : StationState) (c : Command) (now : ℕ) (halt : StepStop R D)
    → ((findings : Findings) → IsTold old findings → Ends old (end_of disk_state (Err halt)) (Step findings old.program old.records c now))
    → (Tells old.disk → (findings : Findings) × Ends old (end_of disk_state (Err halt)) (Step findings old.program old.records c now))
    → (Tells old.disk → EndsBy old (end_of disk_state (Err halt)) (λ f reply later. Step f old.program old.records c now reply later × Bears old (disk_after (end_of disk_state (Err halt))) later (rig_after rig_state (Err halt))))
    → StopsFor rig_state disk_state old halt
    → LeavesOnly old.disk (disk_after (end_of disk_state (Err halt))) (KeepsLimit old.disk)
    → old.disk.faults ≤ (disk_after (end_of disk_state (Err halt))).faults
    → RigEnds rig_state (OfTest old c now) old (Err halt)
    → StaysOrKeeps old.rig (rig_after rig_state (Err halt))
    → GrowsTallies (OfTest old c now) old.rig (rig_after rig_state (Err halt))
    → VoltageEnds rig_state old (Err halt)
    → WasStopped rig_state disk_state old c now halt
stopped-by rig_state disk_state old c now (Disk rig disk) told some bears stops limit later did kept tallies order =
    record {
      step = record { told = told; some = some };
      bears = bears;
      rose = stops.0;
      at_zero = stops.1;
      goes_on = record { limit = limit; disk_later = later; rig_kept = kept; tallies = tallies };
      tested = did;
      order = order;
    }
stopped-by rig_state disk_state old c now (NotZero rig disk) told some bears stops limit later did kept tallies order =
    record {
      step = record { told = told; some = some };
      kept = stops;
      goes_on = record { limit = limit; disk_later = later; rig_kept = kept; tallies = tallies };
      tested = did;
      order = order;
    }
stopped-by rig_state disk_state old c now (Memory rig disk) told some bears stops limit later did kept tallies order =
    record {
      step = record { told = told; some = some };
      bears = bears;
      at_zero = stops;
      goes_on = record { limit = limit; disk_later = later; rig_kept = kept; tallies = tallies };
      tested = did;
      order = order;
    }

-- a command that ends the station, and its reply
pub halts-turn : {R D : Type 0} (rig_state : R → RigState) (disk_state : D → DiskState) (old : StationState) (c : Command) (id : List ℕ) (moments moments' : Option (List ℕ)) (now : ℕ)
    (halt : StepStop R D) (last : Last) → id ≡ id_of c → Ticks moments moments' now → WasStopped rig_state disk_state old c now halt → LastFor id halt last
    → IsTurn rig_state disk_state old (asks.Command c) moments moments' (Halts halt last)
halts-turn rig_state disk_state old c id moments moments' now (Disk rig disk) last named ticks halted says =
    (stop_reply stop.Disk, says, record { now = now; ticks = ticks; reply_is = refl; failed = halted })
halts-turn rig_state disk_state old c id moments moments' now (NotZero rig disk) last named ticks halted (inl says) =
    (said_reply id not_at_zero, says, record { now = now; ticks = ticks; reply_is = inl (ap (λ (i : List ℕ). said_reply i not_at_zero) named); stuck = halted })
halts-turn rig_state disk_state old c id moments moments' now (NotZero rig disk) last named ticks halted (inr says) =
    (stop_reply stop.Memory, says, record { now = now; ticks = ticks; reply_is = inr refl; stuck = halted })
halts-turn rig_state disk_state old c id moments moments' now (Memory rig disk) last named ticks halted says =
    (stop_reply stop.Memory, says, (refl, inl (record { now = now; ticks = ticks; ran_out = halted })))
