-- How the serving ends: behind whole turns, or within a command.
use Rattle.std.proofs.Common.{◌≡◌, ◌⊎◌, ⊎_elim, inl, inr, sym, refl, subst, ℕ, List, Option, Some, Err}
use Rattle.base.specs.Causes.{Rose}
use Rattle.disk_edge.specs.Disk.{DiskState, EachImage}
use Rattle.partition.specs.NetTable.{programmed_of}
use Rattle.rig.specs.RigState.{RigState}
use Rattle.wirelist.specs.Clusters.{cluster_classes}
use Rattle.applications.specs.Ordered.{IsStuckInOrder}
use Rattle.ledger.specs.Kept.{IsImageOf}
use Rattle.ledger.specs.Ledger.{Tells}
use Rattle.serials.specs.declared.command.Command.{Command}
use Rattle.serials.specs.Commands.{id_of}
use Rattle.station.specs.declared.stops.StepStop.{StepStop}
use Rattle.station.specs.declared.stops.StepStop.TheVariants.{Disk, NotZero, Memory}
use Rattle.station.specs.RigAfter.{StaysInOrder}
use Rattle.station.specs.Step.{not_at_zero}
use Rattle.station.specs.View.{StationState}
use Rattle.door_edge.specs.Doors.{Talk}
use Rattle.http_exchange.specs.declared.request.Request.{Request}
use Rattle.http_exchange.specs.declared.request.Request.TheVariants as asks
use Rattle.http_exchange.specs.Replies.{Reply}
use Rattle.script.specs.Said.{replied}
use Rattle.script.specs.Turns.{RigGoesOn, DiskGoesOn, Steps}
use Rattle.script.specs.Ends.{MayEnd}
use Rattle.script.proofs.answers.Applied.{by_both, lost_may, stuck_steps, rose_stuck}
use Rattle.station_http.specs.Commanded.{GoesOn, FailedOnDisk, WasStuck, RanOut}
use Rattle.station_http.specs.Turns.{AreParts, DiskStops, StuckStops, RunsOutWithin, StopsBehind, Stops}
use Rattle.station_http.specs.Served.{Served, Finishes, StopsOnWriting, IsUnread}
use Rattle.serving.specs.Lines.{Closing, write_fault, disk_fault, memory, network_fault, status_of}
use Rattle.serving.specs.Lines as end
use Rattle.serving.specs.Visits.{Stage, Left, EndsAt, rig_of, disk_of, closing_of}
use Rattle.serving.proofs.TurnLemmas.{OneTurn, no-turn, goes-turn, served-turn}

-- behind one turn, whose rig and disk are these
pub record Behind (s : StationState) (rig : RigState) (disk : DiskState) : Type 0 where
  pub after : StationState
  pub turn : OneTurn s after
  pub parts : AreParts after rig disk

-- within a command that was not answered
pub record Within (s : StationState) (rig : RigState) (disk : DiskState) : Type 0 where
  pub command : Command
  pub now : ℕ
  pub may : Tells s.disk → MayEnd s (0, Some command) now rig disk
  pub disk_goes_on : DiskGoesOn s.disk disk
  pub rig_goes_on : RigGoesOn s (0, Some command) now rig
  pub order : StaysInOrder s.program s.rig rig

-- within a command whose three zero calls failed
pub record Stuck (s : StationState) (rig : RigState) (disk : DiskState) : Type 0 where
  pub command : Command
  pub now : ℕ
  pub step : Tells s.disk → Steps s (0, Some command) now (replied (id_of command) not_at_zero) s.records disk
  pub kept : EachImage disk (IsImageOf s.records)
  pub disk_goes_on : DiskGoesOn s.disk disk
  pub rig_goes_on : RigGoesOn s (0, Some command) now rig
  pub order : IsStuckInOrder (programmed_of s.program.nets) (cluster_classes s.program) rig
  pub rose : Rose s.rig.faults rig.faults

-- the three ways, with the statuses that they may have
abbrev pub EndWay : StationState → Closing → RigState → DiskState → Type 0
EndWay s closing rig disk =
    (((closing ≡ disk_fault → ⊥) × (closing ≡ end.not_at_zero → ⊥)) × Behind s rig disk)
    ⊎ (((closing ≡ memory) ⊎ ((closing ≡ disk_fault) × Rose s.disk.faults disk.faults)) × Within s rig disk)
    ⊎ ((closing ≡ end.not_at_zero) × Stuck s rig disk)

goes_on_disk : (s : StationState) (c : Command) (now : ℕ) (rig : RigState) (disk : DiskState) → GoesOn s c now rig disk → DiskGoesOn s.disk disk
goes_on_disk s c now rig disk on = record { limit = on.limit; later = on.disk_later }

goes_on_rig : (s : StationState) (c : Command) (now : ℕ) (rig : RigState) (disk : DiskState) → GoesOn s c now rig disk → RigGoesOn s (0, Some c) now rig
goes_on_rig s c now rig disk on = record { kept = on.rig_kept; tallies = on.tallies }

within-disk : (s : StationState) (c : Command) (now : ℕ) (rig : RigState) (disk : DiskState) → FailedOnDisk s c now rig disk → Within s rig disk
within-disk s c now rig disk failed =
    record {
      command = c;
      now = now;
      may = λ tells. lost_may s 0 c now rig disk (failed.bears tells);
      disk_goes_on = goes_on_disk s c now rig disk failed.goes_on;
      rig_goes_on = goes_on_rig s c now rig disk failed.goes_on;
      order = failed.order;
    }

within-memory : (s : StationState) (c : Command) (now : ℕ) (rig : RigState) (disk : DiskState) → RanOut s c now rig disk → Within s rig disk
within-memory s c now rig disk ran =
    record {
      command = c;
      now = now;
      may = λ tells. lost_may s 0 c now rig disk (ran.bears tells);
      disk_goes_on = goes_on_disk s c now rig disk ran.goes_on;
      rig_goes_on = goes_on_rig s c now rig disk ran.goes_on;
      order = ran.order;
    }

stuck-in : (s : StationState) (c : Command) (now : ℕ) (rig : RigState) (disk : DiskState) → WasStuck s c now rig disk → Stuck s rig disk
stuck-in s c now rig disk was =
    record {
      command = c;
      now = now;
      step = λ tells. stuck_steps s 0 c now disk (by_both s _ _ was.step.told was.step.some tells);
      kept = was.kept;
      disk_goes_on = goes_on_disk s c now rig disk was.goes_on;
      rig_goes_on = goes_on_rig s c now rig disk was.goes_on;
      order = was.order;
      rose = rose_stuck s 0 c now rig was.tested;
    }

-- memory is neither
not-memory : ((memory ≡ disk_fault) → ⊥) × ((memory ≡ end.not_at_zero) → ⊥)
not-memory = ((λ e. cc), (λ e. cc))

behind-memory : (s new : StationState) (rig : RigState) (disk : DiskState) → OneTurn s new → AreParts new rig disk → EndWay s memory rig disk
behind-memory s new rig disk turn parts = inl (not-memory, record { after = new; turn = turn; parts = parts })

disk-way : (s : StationState) (r : Request) (moments moments' : Option (List ℕ)) (reply : Reply) (rig : RigState) (disk : DiskState) → DiskStops s r moments moments' reply rig disk → EndWay s disk_fault rig disk
disk-way s (asks.Command c) moments moments' reply rig disk stops = inr (inl (inr (refl, stops.failed.rose), within-disk s c stops.now rig disk stops.failed))
disk-way s (asks.Refused why) moments moments' reply rig disk stops = absurd stops
disk-way s (asks.Unit serial) moments moments' reply rig disk stops = absurd stops
disk-way s asks.Lot moments moments' reply rig disk stops = absurd stops

stuck-way : (s : StationState) (r : Request) (moments moments' : Option (List ℕ)) (reply : Reply) (rig : RigState) (disk : DiskState) → StuckStops s r moments moments' reply rig disk → EndWay s end.not_at_zero rig disk
stuck-way s (asks.Command c) moments moments' reply rig disk stops = inr (inr (refl, stuck-in s c stops.now rig disk stops.stuck))
stuck-way s (asks.Refused why) moments moments' reply rig disk stops = absurd stops
stuck-way s (asks.Unit serial) moments moments' reply rig disk stops = absurd stops
stuck-way s asks.Lot moments moments' reply rig disk stops = absurd stops

ran-way : (s : StationState) (r : Request) (moments moments' : Option (List ℕ)) (rig : RigState) (disk : DiskState) → RunsOutWithin s r moments moments' rig disk → EndWay s memory rig disk
ran-way s (asks.Command c) moments moments' rig disk stops = inr (inl (inl refl, within-memory s c stops.now rig disk stops.ran_out))
ran-way s (asks.Refused why) moments moments' rig disk stops = absurd stops
ran-way s (asks.Unit serial) moments moments' rig disk stops = absurd stops
ran-way s asks.Lot moments moments' rig disk stops = absurd stops

memory-way : (s : StationState) (r : Request) (moments moments' : Option (List ℕ)) (rig : RigState) (disk : DiskState)
    → RunsOutWithin s r moments moments' rig disk ⊎ StopsBehind s r moments moments' rig disk → EndWay s memory rig disk
memory-way s r moments moments' rig disk (inl ran) = ran-way s r moments moments' rig disk ran
memory-way s r moments moments' rig disk (inr behind) = behind-memory s behind.new rig disk (goes-turn s behind.new r moments moments' behind.reply behind.went_on) behind.parts

-- each stop of a connection
stops-way : {R D : Type 0} (rig_state : R → RigState) (disk_state : D → DiskState) (s : StationState) (r : Request) (moments moments' : Option (List ℕ)) (reply : Reply) (halt : StepStop R D)
    → Stops rig_state disk_state s r moments moments' reply halt → EndWay s (closing_of halt) (rig_of rig_state halt) (disk_of disk_state halt)
stops-way rig_state disk_state s r moments moments' reply (Disk rig disk) stops = disk-way s r moments moments' reply (rig_state rig) (disk_state disk) stops
stops-way rig_state disk_state s r moments moments' reply (NotZero rig disk) stops = stuck-way s r moments moments' reply (rig_state rig) (disk_state disk) stops
stops-way rig_state disk_state s r moments moments' reply (Memory rig disk) stops = memory-way s r moments moments' (rig_state rig) (disk_state disk) stops.1

writing-way : {R D : Type 0} (rig_state : R → RigState) (disk_state : D → DiskState) (s : StationState) (r : Request) (moments moments' got got' : Option (List ℕ)) (halt : StepStop R D)
    → StopsOnWriting rig_state disk_state s r moments moments' got got' halt → EndWay s (closing_of halt) (rig_of rig_state halt) (disk_of disk_state halt)
writing-way rig_state disk_state s r moments moments' got got' (Disk rig disk) stops = absurd stops
writing-way rig_state disk_state s r moments moments' got got' (NotZero rig disk) stops = absurd stops
writing-way rig_state disk_state s r moments moments' got got' (Memory rig disk) stops =
    behind-memory s stops.new (rig_state rig) (disk_state disk) (goes-turn s stops.new r moments moments' stops.reply stops.went_on) stops.parts

unread-way : {R D : Type 0} (rig_state : R → RigState) (disk_state : D → DiskState) (s : StationState) (came went : Talk) (moments moments' : Option (List ℕ)) (halt : StepStop R D)
    → IsUnread {R = R} {D = D} rig_state disk_state s came went moments moments' (Err halt) → EndWay s (closing_of halt) (rig_of rig_state halt) (disk_of disk_state halt)
unread-way rig_state disk_state s came went moments moments' (Disk rig disk) stops = absurd stops
unread-way rig_state disk_state s came went moments moments' (NotZero rig disk) stops = absurd stops
unread-way rig_state disk_state s came went moments moments' (Memory rig disk) stops = behind-memory s s (rig_state rig) (disk_state disk) (no-turn s s refl) stops.parts

finishes-way : {R D : Type 0} (rig_state : R → RigState) (disk_state : D → DiskState) (s : StationState) (r : Request) (moments moments' got got' : Option (List ℕ)) (faults faults' : ℕ) (halt : StepStop R D)
    → Finishes {R = R} {D = D} rig_state disk_state s r moments moments' got got' faults faults' (Err halt) → EndWay s (closing_of halt) (rig_of rig_state halt) (disk_of disk_state halt)
finishes-way rig_state disk_state s r moments moments' got got' faults faults' halt (inl replying) = stops-way rig_state disk_state s r moments moments' replying.reply halt replying.stops
finishes-way rig_state disk_state s r moments moments' got got' faults faults' halt (inr writing) = writing-way rig_state disk_state s r moments moments' got got' halt writing

served-way : {R D : Type 0} (rig_state : R → RigState) (disk_state : D → DiskState) (s : StationState) (came went : Talk) (moments moments' : Option (List ℕ)) (halt : StepStop R D)
    → Served {R = R} {D = D} rig_state disk_state s came went moments moments' (Err halt) → EndWay s (closing_of halt) (rig_of rig_state halt) (disk_of disk_state halt)
served-way rig_state disk_state s came went moments moments' halt (inl read) =
    finishes-way rig_state disk_state s read.asked moments moments' came.got went.got came.write_faults went.write_faults halt read.finishes
served-way rig_state disk_state s came went moments moments' halt (inr unread) = unread-way rig_state disk_state s came went moments moments' halt unread

door-way : (closing : Closing) → (closing ≡ network_fault) ⊎ (closing ≡ memory) → (closing ≡ disk_fault → ⊥) × (closing ≡ end.not_at_zero → ⊥)
door-way closing (inl e) = ((λ f. cc), (λ f. cc))
door-way closing (inr e) = ((λ f. cc), (λ f. cc))

line-way : (closing : Closing) → (closing ≡ write_fault) ⊎ (closing ≡ memory) → (closing ≡ disk_fault → ⊥) × (closing ≡ end.not_at_zero → ⊥)
line-way closing (inl e) = ((λ f. cc), (λ f. cc))
line-way closing (inr e) = ((λ f. cc), (λ f. cc))

-- whatever ended the serving
pub ends-way : {R D : Type 0} (rig_state : R → RigState) (disk_state : D → DiskState) (number : ℕ) (old : Stage) (status : ℕ) (left : Left)
    → (ends : EndsAt rig_state disk_state number old status left) → EndWay old.station ends.closing left.rig left.disk
ends-way rig_state disk_state number old status left ends =
    let closing = ends.closing in
    ⊎_elim
    (λ door. inl (door-way closing door.why, record { after = old.station; turn = no-turn old.station old.station refl; parts = door.parts }))
    (⊎_elim
    (λ untold. inl (
      line-way closing untold.why,
      record {
        after = untold.new;
        turn = served-turn old.station untold.new untold.came untold.went old.moments left.moments untold.status untold.served;
        parts = untold.parts;
      },
    ))
    (λ stopped.
    let way = served-way rig_state disk_state old.station stopped.came stopped.went old.moments left.moments stopped.halt stopped.served in
    subst (λ (c : Closing). EndWay old.station c left.rig left.disk) (sym stopped.why)
    (subst (λ (r : RigState). EndWay old.station (closing_of stopped.halt) r left.disk) (sym stopped.rig_is)
    (subst (λ (d : DiskState). EndWay old.station (closing_of stopped.halt) (rig_of rig_state stopped.halt) d) (sym stopped.disk_is) way))))
    ends.how
