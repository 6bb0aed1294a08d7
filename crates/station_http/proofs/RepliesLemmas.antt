-- A connection is its reply: this follows of each that was served, over plain variables.
use Rattle.std.proofs.Common.{◌≡◌, ◌⊎◌, ⊎_elim, inl, inr, sym, refl, ap, subst, arith, ℕ, List, [], Option, Some, None, Result, Ok, Err}
use Rattle.std.specs.Io.KnownBytes.{Appends}
use Rattle.std.proofs.KnownBytes.{Appends-nil}
use Rattle.bench_edge.specs.Whole.{WroteFront, WrotePart}
use Rattle.door_edge.specs.Doors.{Talk}
use Rattle.disk_edge.specs.Disk.{DiskState, LeavesOnly, EachImage}
use Rattle.disk_edge.proofs.Moments.{none_images}
use Rattle.rig.specs.RigState.{RigState}
use Rattle.unit_outcome.specs.Found.{Findings}
use Rattle.records.specs.declared.record.StationRecord.{StationRecord}
use Rattle.ledger.specs.Kept.{IsImageOf, IsImageOfEither}
use Rattle.serials.specs.declared.command.Command.{Command}
use Rattle.serials.specs.Commands.{id_of}
use Rattle.station.specs.declared.stops.StepStop.{StepStop}
use Rattle.station.specs.declared.stops.StepStop.TheVariants.{Disk, NotZero, Memory}
use Rattle.station.specs.Ended.{stuck, lost}
use Rattle.station.specs.Step.{not_at_zero}
use Rattle.station.specs.View.{StationState}
use Rattle.http_exchange.specs.declared.request.Request.{Request}
use Rattle.http_exchange.specs.declared.request.Request.TheVariants as asks
use Rattle.http_exchange.specs.declared.reply.Stop.TheVariants as stop
use Rattle.http_exchange.specs.Replies.{Reply, reply_bytes, stop_reply}
use Rattle.http_exchange.specs.Requests.{Asks}
use Rattle.station_http.specs.declared.serve.ServeDone.{ServeDone}
use Rattle.station_http.specs.Expected.{said_reply}
use Rattle.station_http.specs.ItsReply.{GotAll, GotFront, WasLost, MayBeLast, Due, IsServed, IsStopped, ByFindings, Replies}
use Rattle.station_http.specs.Served.{Reads, Replied, IsCut, CutFor, Wrote, StopsOnWriting, StopsUnread, Served}
use Rattle.station_http.specs.Turns.{LeavesAlone, AreParts, GoesOnWith, StopsOnDisk, StopsStuck, StopsWithin, StopsBehind, DiskStops, StuckStops, RunsOutWithin, Stops}
use Rattle.station_http.proofs.DueLemmas.{taken_asks, where_told, stays_pass, by_any, by_step, by_more, Led, same_images, alone_led, goes_led, lost_led, stuck_led, kept_either}

-- ---- the station goes on

part_front : (old new : Option (List ℕ)) (bytes : List ℕ) → WrotePart old new bytes → WroteFront old new bytes
part_front old new bytes (n, within, wrote) = (n, omega (arith, within), wrote)

wrote_got : (came went : Talk) (reply : Reply) (status : Option ℕ) → Wrote came.got went.got came.write_faults went.write_faults reply status
    → GotAll came went (Some reply) status ⊎ GotFront came went (Some reply) status
wrote_got came went reply status wrote =
    ⊎_elim
    (λ all. inl (all.0, all.2))
    (λ part. inr (inr part.1, part_front came.got went.got (reply_bytes reply) part.0, part.2))
    wrote

-- a request came whole, and its reply was written or tried
pub replied_is : (old new : StationState) (came went : Talk) (moments moments' : Option (List ℕ)) (status : Option ℕ) (r : Request) (bytes : List ℕ) → came.left ≡ Some bytes
    → Reads came went r → Replied old r moments moments' came.got went.got came.write_faults went.write_faults status new
    → ByFindings old (λ f. IsServed f old new moments moments' bytes came went status)
replied_is old new came went moments moments' status r bytes told reads replied =
    let asked = taken_asks came.left went.left bytes (Some r) told reads.takes in
    by_more old (λ f. Led f old moments moments' bytes (Some replied.reply) new.records new.disk) (λ f. IsServed f old new moments moments' bytes came went status)
    (λ f led. record {
      is = record { reply = Some replied.reply; due = inl led.due; got = wrote_got came went replied.reply status replied.wrote };
      clock = led.clock;
      images = led.images;
    })
    (goes_led old new moments moments' bytes r replied.reply asked replied.went_on)

same_got : (got got' : Option (List ℕ)) → got' ≡ got → Appends got got' []
same_got got got' same = subst (λ (g : Option (List ℕ)). Appends got g []) (sym same) (Appends-nil got)

records_same : (old new : StationState) → new ≡ old → new.records ≡ old.records
records_same old new same = ap (λ (s : StationState). s.records) same

cut_due : (f : Findings) (old new : StationState) (came went : Talk) (moments moments' : Option (List ℕ)) (bytes : List ℕ) → came.left ≡ Some bytes
    → LeavesAlone old new moments moments' → CutFor came went → Due f old.program old.records moments bytes None new.records ⊎ WasLost came went old.records None new.records
cut_due f old new came went moments moments' bytes told alone (inl rose) = inr (inl rose, refl, records_same old new alone.station)
cut_due f old new came went moments moments' bytes told alone (inr ended) =
    let asked = taken_asks came.left went.left bytes None told ended.0 in
    inl (alone_led f old new moments moments' bytes None None asked (refl, records_same old new alone.station) alone).due

-- no request came whole, and nothing was written
pub cut_is : (old new : StationState) (came went : Talk) (moments moments' : Option (List ℕ)) (status : Option ℕ) (bytes : List ℕ) → came.left ≡ Some bytes
    → IsCut old came went moments moments' status new → ByFindings old (λ f. IsServed f old new moments moments' bytes came went status)
cut_is old new came went moments moments' status bytes told cut =
    by_any old (λ f. IsServed f old new moments moments' bytes came went status)
    (λ f. record {
      is = record { reply = None; due = cut_due f old new came went moments moments' bytes told cut.alone cut.why; got = inl (same_got came.got went.got cut.got_is, cut.status_is) };
      clock = stays_pass moments moments' cut.alone.clock;
      images = same_images old new cut.alone.station;
    })

-- ---- the station stops

module _ {R D : Type 0} (rig_state : R → RigState) (disk_state : D → DiskState) (old : StationState) (came went : Talk) (moments moments' : Option (List ℕ)) (bytes : List ℕ) (kept : EachImage old.disk (IsImageOf old.records)) where
  -- what is said of a stop, by these findings
  abbrev Halts : StepStop R D → Findings → Type 0
  Halts halt f = IsStopped disk_state f old moments moments' bytes came went halt

  -- the disk failed
  disk_is : (c : Command) (reply : Reply) (rig : R) (disk : D) → Asks bytes (Some (asks.Command c)) → WroteFront came.got went.got (reply_bytes reply)
      → StopsOnDisk old c moments moments' reply (rig_state rig) (disk_state disk) → ByFindings old (Halts (Disk rig disk))
  disk_is c reply rig disk asked front stops =
      by_step old c stops.now (lost (disk_state disk)) (Halts (Disk rig disk)) stops.failed.step
      (λ f ends.
      let led = lost_led f old moments moments' bytes c stops.now (disk_state disk) asked stops.ticks ends in
      record {
        later = ends.later;
        is = record {
          reply = Some (said_reply (id_of c) ends.reply);
          due = inl led.due;
          last = stop_reply stop.Disk;
          last_is = inr (inl refl);
          got = subst (λ (r : Reply). WroteFront came.got went.got (reply_bytes r)) stops.reply_is front;
        };
        says = refl;
        clock = led.clock;
        images = led.images;
        kept = kept_either old.disk (disk_state disk) old.records ends.later led.images kept;
      })

  -- three zero calls failed
  stuck_last : (c : Command) (reply : Reply) → (reply ≡ said_reply (id_of c) not_at_zero) ⊎ (reply ≡ stop_reply stop.Memory)
      → (Some (said_reply (id_of c) not_at_zero) ≡ Some reply) ⊎ (reply ≡ stop_reply stop.Memory)
  stuck_last c reply (inl says) = inl (ap Some (sym says))
  stuck_last c reply (inr says) = inr says

  may_be : (due : Option Reply) (last : Reply) → (due ≡ Some last) ⊎ (last ≡ stop_reply stop.Memory) → MayBeLast due last
  may_be due last (inl is) = inl is
  may_be due last (inr is) = inr (inr is)

  stuck_is : (c : Command) (reply : Reply) (rig : R) (disk : D) → Asks bytes (Some (asks.Command c)) → WroteFront came.got went.got (reply_bytes reply)
      → StopsStuck old c moments moments' reply (rig_state rig) (disk_state disk) → ByFindings old (Halts (NotZero rig disk))
  stuck_is c reply rig disk asked front stops =
      by_step old c stops.now (stuck (disk_state disk)) (Halts (NotZero rig disk)) stops.stuck.step
      (λ f ends.
      let led = stuck_led f old moments moments' bytes c stops.now (disk_state disk) asked stops.ticks ends in
      let says = stuck_last c reply stops.reply_is in
      record {
        later = old.records;
        is = record {
          reply = Some (said_reply (id_of c) not_at_zero);
          due = inl led.due;
          last = reply;
          last_is = may_be (Some (said_reply (id_of c) not_at_zero)) reply says;
          got = front;
        };
        says = says;
        clock = led.clock;
        images = led.images;
        kept = stops.stuck.kept;
      })

  -- memory ran out, and this is due
  memory_is : (rig : R) (disk : D) (f : Findings) (due : Option Reply) (later : List StationRecord) (last : Reply) → Led f old moments moments' bytes due later (disk_state disk)
      → (due ≡ Some last) ⊎ (last ≡ stop_reply stop.Memory) → WroteFront came.got went.got (reply_bytes last) → Halts (Memory rig disk) f
  memory_is rig disk f due later last led says front =
      record {
        later = later;
        is = record { reply = due; due = inl led.due; last = last; last_is = may_be due last says; got = front };
        says = says;
        clock = led.clock;
        images = led.images;
        kept = kept_either old.disk (disk_state disk) old.records later led.images kept;
      }

  within_is : (c : Command) (reply : Reply) (rig : R) (disk : D) → Asks bytes (Some (asks.Command c)) → reply ≡ stop_reply stop.Memory → WroteFront came.got went.got (reply_bytes reply)
      → StopsWithin old c moments moments' (rig_state rig) (disk_state disk) → ByFindings old (Halts (Memory rig disk))
  within_is c reply rig disk asked says front stops =
      by_step old c stops.now (lost (disk_state disk)) (Halts (Memory rig disk)) stops.ran_out.step
      (λ f ends.
      memory_is rig disk f (Some (said_reply (id_of c) ends.reply)) ends.later reply
      (lost_led f old moments moments' bytes c stops.now (disk_state disk) asked stops.ticks ends) (inr says) front)

  -- the station went on with the request
  behind_is : (r : Request) (due last : Reply) (rig : R) (disk : D) (new : StationState) → Asks bytes (Some r) → GoesOnWith old r moments moments' due new → AreParts new (rig_state rig) (disk_state disk)
      → (Some due ≡ Some last) ⊎ (last ≡ stop_reply stop.Memory) → WroteFront came.got went.got (reply_bytes last) → ByFindings old (Halts (Memory rig disk))
  behind_is r due last rig disk new asked went_on parts says front =
      by_more old (λ f. Led f old moments moments' bytes (Some due) new.records new.disk) (Halts (Memory rig disk))
      (λ f led.
      memory_is rig disk f (Some due) new.records last
      (subst (λ (d : DiskState). Led f old moments moments' bytes (Some due) new.records d) (sym parts.disk_is) led) says front)
      (goes_led old new moments moments' bytes r due asked went_on)

  -- no request came whole
  unread_is : (rig : R) (disk : D) → StopsUnread old came went moments moments' (rig_state rig) (disk_state disk) → ByFindings old (Halts (Memory rig disk))
  unread_is rig disk unread =
      let images = subst (λ (d : DiskState). LeavesOnly old.disk d (IsImageOfEither old.records old.records)) (sym unread.parts.disk_is) (none_images old.disk (IsImageOfEither old.records old.records)) in
      by_any old (Halts (Memory rig disk))
      (λ f. record {
        later = old.records;
        is = record { reply = None; due = inr (refl, refl); last = stop_reply stop.Memory; last_is = inr (inr refl); got = unread.wrote };
        says = inr refl;
        clock = stays_pass moments moments' unread.clock;
        images = images;
        kept = kept_either old.disk (disk_state disk) old.records old.records images kept;
      })

  -- ---- each stop, by what was asked

  on_disk : (r : Request) (reply : Reply) (rig : R) (disk : D) → Asks bytes (Some r) → WroteFront came.got went.got (reply_bytes reply)
      → DiskStops old r moments moments' reply (rig_state rig) (disk_state disk) → ByFindings old (Halts (Disk rig disk))
  on_disk (asks.Command c) reply rig disk asked front stops = disk_is c reply rig disk asked front stops
  on_disk (asks.Refused why) reply rig disk asked front stops = absurd stops
  on_disk (asks.Unit serial) reply rig disk asked front stops = absurd stops
  on_disk asks.Lot reply rig disk asked front stops = absurd stops

  on_stuck : (r : Request) (reply : Reply) (rig : R) (disk : D) → Asks bytes (Some r) → WroteFront came.got went.got (reply_bytes reply)
      → StuckStops old r moments moments' reply (rig_state rig) (disk_state disk) → ByFindings old (Halts (NotZero rig disk))
  on_stuck (asks.Command c) reply rig disk asked front stops = stuck_is c reply rig disk asked front stops
  on_stuck (asks.Refused why) reply rig disk asked front stops = absurd stops
  on_stuck (asks.Unit serial) reply rig disk asked front stops = absurd stops
  on_stuck asks.Lot reply rig disk asked front stops = absurd stops

  within_any : (r : Request) (reply : Reply) (rig : R) (disk : D) → Asks bytes (Some r) → reply ≡ stop_reply stop.Memory → WroteFront came.got went.got (reply_bytes reply)
      → RunsOutWithin old r moments moments' (rig_state rig) (disk_state disk) → ByFindings old (Halts (Memory rig disk))
  within_any (asks.Command c) reply rig disk asked says front stops = within_is c reply rig disk asked says front stops
  within_any (asks.Refused why) reply rig disk asked says front stops = absurd stops
  within_any (asks.Unit serial) reply rig disk asked says front stops = absurd stops
  within_any asks.Lot reply rig disk asked says front stops = absurd stops

  on_memory : (r : Request) (reply : Reply) (rig : R) (disk : D) → Asks bytes (Some r) → reply ≡ stop_reply stop.Memory → WroteFront came.got went.got (reply_bytes reply)
      → RunsOutWithin old r moments moments' (rig_state rig) (disk_state disk) ⊎ StopsBehind old r moments moments' (rig_state rig) (disk_state disk) → ByFindings old (Halts (Memory rig disk))
  on_memory r reply rig disk asked says front (inl within) = within_any r reply rig disk asked says front within
  on_memory r reply rig disk asked says front (inr behind) = behind_is r behind.reply reply rig disk behind.new asked behind.went_on behind.parts (inr says) front

  replying : (r : Request) (reply : Reply) (halt : StepStop R D) → Asks bytes (Some r) → WroteFront came.got went.got (reply_bytes reply)
      → Stops rig_state disk_state old r moments moments' reply halt → ByFindings old (Halts halt)
  replying r reply (Disk rig disk) asked front stops = on_disk r reply rig disk asked front stops
  replying r reply (NotZero rig disk) asked front stops = on_stuck r reply rig disk asked front stops
  replying r reply (Memory rig disk) asked front stops = on_memory r reply rig disk asked stops.0 front stops.1

  writing : (r : Request) (halt : StepStop R D) → Asks bytes (Some r) → StopsOnWriting rig_state disk_state old r moments moments' came.got went.got halt → ByFindings old (Halts halt)
  writing r (Disk rig disk) asked stops = absurd stops
  writing r (NotZero rig disk) asked stops = absurd stops
  writing r (Memory rig disk) asked stops =
      behind_is r stops.reply stops.reply rig disk stops.new asked stops.went_on stops.parts (inl refl) (part_front came.got went.got (reply_bytes stops.reply) stops.wrote)

  -- the station stopped with the connection
  pub stopped_is : (halt : StepStop R D) → came.left ≡ Some bytes → Served {R = R} {D = D} rig_state disk_state old came went moments moments' (Err halt) → ByFindings old (Halts halt)
  stopped_is halt told (inl read) =
      let asked = taken_asks came.left went.left bytes (Some read.asked) told read.read.takes in
      ⊎_elim (λ stops. replying read.asked stops.reply halt asked stops.wrote stops.stops) (λ stops. writing read.asked halt asked stops) read.finishes
  stopped_is (Disk rig disk) told (inr unread) = absurd unread
  stopped_is (NotZero rig disk) told (inr unread) = absurd unread
  stopped_is (Memory rig disk) told (inr unread) = unread_is rig disk unread

-- ---- every connection

pub served_replies : {R D : Type 0} (rig_state : R → RigState) (disk_state : D → DiskState) (old : StationState) (came went : Talk) (moments moments' : Option (List ℕ))
    (result : Result (ServeDone R D) (StepStop R D)) → EachImage old.disk (IsImageOf old.records) → Served rig_state disk_state old came went moments moments' result
    → Replies disk_state old came went moments moments' result
served_replies rig_state disk_state old came went moments moments' (Ok done) kept (inl read) =
    where_told came.left (λ bytes. ByFindings old (λ f. IsServed f old done.station moments moments' bytes came went done.status))
    (λ bytes told. replied_is old done.station came went moments moments' done.status read.asked bytes told read.read read.finishes)
served_replies rig_state disk_state old came went moments moments' (Ok done) kept (inr cut) =
    where_told came.left (λ bytes. ByFindings old (λ f. IsServed f old done.station moments moments' bytes came went done.status))
    (λ bytes told. cut_is old done.station came went moments moments' done.status bytes told cut)
served_replies rig_state disk_state old came went moments moments' (Err halt) kept served =
    where_told came.left (λ bytes. ByFindings old (λ f. IsStopped disk_state f old moments moments' bytes came went halt))
    (λ bytes told. stopped_is rig_state disk_state old came went moments moments' bytes kept halt told served)
