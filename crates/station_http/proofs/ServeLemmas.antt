-- A connection's two halves, over plain variables.
use Rattle.std.proofs.Common.{◌≡◌, ◌∙◌, sym, refl, subst, ℕ, List, Option, Some, Result, Ok, Err, OnOk, OnErr}
use Rattle.std.specs.Io.KnownBytes.{Appends}
use Rattle.bench_edge.specs.declared.stream.EdgeStop.{EdgeStop}
use Rattle.bench_edge.specs.Streams.{SameOtherHalf}
use Rattle.bench_edge.specs.Whole.{WroteFront}
use Rattle.bench_edge.proofs.Calls.{WroteFront-all}
use Rattle.disk_edge.specs.Disk.{DiskState}
use Rattle.rig.specs.RigState.{RigState}
use Rattle.station.specs.declared.stops.StepStop.{StepStop}
use Rattle.station.specs.View.{StationState}
use Rattle.http_exchange.specs.declared.request.Request.{Request}
use Rattle.http_exchange.specs.Reading.{TakesRequest}
use Rattle.station_http.specs.declared.serve.ServeDone.{ServeDone}
use Rattle.http_exchange.specs.declared.reply.Stop.TheVariants as stop
use Rattle.http_exchange.specs.Replies.{reply_bytes, stop_reply}
use Rattle.station_http.specs.ItsReply.{talk_of}
use Rattle.station_http.specs.Served.{Finishes, IsRead, StopsUnread}

-- whatever the answer, a front was written
pub front-written : {T : Type 0} (old new : Option (List ℕ)) (bytes : List ℕ) (r : Result T EdgeStop) → OnOk r (Appends old new bytes) → OnErr r (WroteFront old new bytes) → WroteFront old new bytes
front-written old new bytes (Ok x) whole part = WroteFront-all old new bytes whole
front-written old new bytes (Err e) whole part = part

-- a request was read, and then its turn was finished
pub read-finished : {R D : Type 0} (rig_state : R → RigState) (disk_state : D → DiskState) (old : StationState) (r : Request) (moments moments' : Option (List ℕ))
    (left left1 left2 got got1 got2 : Option (List ℕ)) (reads reads1 reads2 writes writes1 writes2 : ℕ) (result : Result (ServeDone R D) (StepStop R D))
    → TakesRequest left left1 (Some r) → reads1 ≡ reads → SameOtherHalf got got1 writes writes1 → SameOtherHalf left1 left2 reads1 reads2
    → Finishes rig_state disk_state old r moments moments' got1 got2 writes1 writes2 result
    → IsRead rig_state disk_state old (talk_of left got reads writes) (talk_of left2 got2 reads2 writes2) moments moments' result
read-finished {R} {D} rig_state disk_state old r moments moments' left left1 left2 got got1 got2 reads reads1 reads2 writes writes1 writes2 result takes quiet half other finishes =
    let by_got : Option (List ℕ) → Type 0 = λ g. Finishes rig_state disk_state old r moments moments' g got2 writes writes2 result in
    let by_writes : ℕ → Type 0 = λ w. Finishes rig_state disk_state old r moments moments' got1 got2 w writes2 result in
    let by_left : Option (List ℕ) → Type 0 = λ l. TakesRequest left l (Some r) in
    record {
      asked = r;
      read = record { takes = subst by_left (sym other.bytes_stay) takes; faults = other.faults_stay ∙ quiet };
      finishes = subst by_got half.bytes_stay (subst by_writes half.faults_stay finishes);
    }

-- memory ran out as a request was read, and a front of the reply that says so was written
pub unread-memory : (old : StationState) (moments : Option (List ℕ)) (left left1 left2 got got1 got2 : Option (List ℕ)) (reads reads1 reads2 writes writes1 writes2 : ℕ)
    (rig : RigState) (disk : DiskState) (bytes : List ℕ)
    → reads1 ≡ reads → SameOtherHalf got got1 writes writes1 → SameOtherHalf left1 left2 reads1 reads2
    → rig ≡ old.rig → disk ≡ old.disk → bytes ≡ reply_bytes (stop_reply stop.Memory) → WroteFront got1 got2 bytes
    → StopsUnread old (talk_of left got reads writes) (talk_of left2 got2 reads2 writes2) moments moments rig disk
unread-memory old moments left left1 left2 got got1 got2 reads reads1 reads2 writes writes1 writes2 rig disk bytes quiet half other rig_is disk_is says front =
    let by_got : Option (List ℕ) → Type 0 = λ g. WroteFront g got2 bytes in
    record {
      read_faults = other.faults_stay ∙ quiet;
      clock = refl;
      parts = record { rig_is = rig_is; disk_is = disk_is };
      wrote = subst (WroteFront got got2) says (subst by_got half.bytes_stay front);
    }
