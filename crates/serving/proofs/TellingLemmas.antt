-- How one connection is told, over plain variables.
use Rattle.std.proofs.Common.{◌≡◌, ◌⊎◌, inl, inr, ◌∙◌, sym, refl, ap, subst, arith, ℕ, List, Option, Result, Ok, Err, IfOk, IfErr}
use Rattle.base.specs.declared.memory.Memory.{Memory}
use Rattle.bench_edge.specs.declared.stream.EdgeStop.{EdgeStop}
use Rattle.bench_edge.specs.declared.stream.EdgeStop.TheVariants as stop
use Rattle.bench_edge.specs.Whole.{WroteFront}
use Rattle.door_edge.specs.Doors.{Talk, TakesFirst, IsFresh, with_done}
use Rattle.disk_edge.specs.Disk.{DiskState}
use Rattle.rig.specs.RigState.{RigState}
use Rattle.station.specs.View.{StationState}
use Rattle.script.specs.declared.answering.RunEnd.{RunEnd}
use Rattle.station_http.specs.declared.serve.ServeDone.{ServeDone}
use Rattle.station_http.specs.Served.{Served}
use Rattle.serving.specs.Lines.{write_fault, memory, network_fault, closed_as, unwritten_as, SaysPart}
use Rattle.serving.specs.Visits.{ServedSo, Passes, IsVisited, EndsAt, Tells}

pub unwritten-why : (why : EdgeStop) → (unwritten_as why ≡ write_fault) ⊎ (unwritten_as why ≡ memory)
unwritten-why stop.Failed = inl refl
unwritten-why stop.Memory = inr refl

pub closed-why : (why : EdgeStop) → (closed_as why ≡ network_fault) ⊎ (closed_as why ≡ memory)
closed-why stop.Failed = inl refl
closed-why stop.Memory = inr refl

-- a front of a line, or nothing of one that was not made
pub says-front : (old new : Option (List ℕ)) (line : Result (List ℕ) Memory) (want : List ℕ) → IfOk line (λ l. l ≡ want) → SaysPart line old new → WroteFront old new want
says-front old new (Ok line) want same part = subst (WroteFront old new) same part
says-front old new (Err e) want same part = (0, omega arith, part)

-- a connection that was served
pub served-so : {R D : Type 0} (rig_state : R → RigState) (disk_state : D → DiskState) (old : StationState) (came went : Talk) (moments moments' : Option (List ℕ)) (done : ServeDone R D)
    → Served {R = R} {D = D} rig_state disk_state old came went moments moments' (Ok done) → ServedSo old came went moments moments' done.status done.station
served-so rig_state disk_state old came went moments moments' done (inl read) = inl (record { asked = read.asked; read = read.read; replied = read.finishes })
served-so rig_state disk_state old came went moments moments' done (inr cut) = inr cut

-- it came from the door, and went back
pub passes : (w w1 w2 : Option (List (List ℕ))) (d d1 d2 : Option (List Talk)) (came went : Talk)
    → TakesFirst w w1 came → IsFresh came → w2 ≡ w1 → d1 ≡ d → d2 ≡ with_done d1 went → Passes w w2 d d2 came went
passes w w1 w2 d d1 d2 came went first fresh stays same finished =
    record {
      first = subst (λ (x : Option (List (List ℕ))). TakesFirst w x came) (sym stays) first;
      fresh = fresh;
      finished = finished ∙ ap (λ (x : Option (List Talk)). with_done x went) same;
    }

-- told, it is one visit
pub visited : {R D : Type 0} (rig_state : R → RigState) (disk_state : D → DiskState) (number : ℕ) (old : StationState) (came went : Talk)
    (moments moments' got got' : Option (List ℕ)) (w w' : Option (List (List ℕ))) (d d' : Option (List Talk)) (r : Result StationState (RunEnd R D))
    → Tells rig_state disk_state number old came went moments moments' got got' r → Passes w w' d d' came went
    → IfOk r (λ after. IsVisited number (record { station = old; waiting = w; done = d; moments = moments; got = got }) (record { station = after; waiting = w'; done = d'; moments = moments'; got = got' }))
visited rig_state disk_state number old came went moments moments' got got' w w' d d' (Ok new) (status, served, told) passed =
    record { came = came; went = went; passes = passed; status = status; served = served; told = told }
visited rig_state disk_state number old came went moments moments' got got' w w' d d' (Err end) tells passed = tt

pub untold : {R D : Type 0} (rig_state : R → RigState) (disk_state : D → DiskState) (number : ℕ) (old : StationState) (came went : Talk)
    (moments moments' got got' : Option (List ℕ)) (w w' : Option (List (List ℕ))) (d d' : Option (List Talk)) (r : Result StationState (RunEnd R D))
    → Tells rig_state disk_state number old came went moments moments' got got' r → Passes w w' d d' came went
    → IfErr r (λ end. EndsAt rig_state disk_state number (record { station = old; waiting = w; done = d; moments = moments; got = got }) end.status
    (record { rig = rig_state end.rig; disk = disk_state end.disk; waiting = w'; done = d'; moments = moments'; got = got' }))
untold rig_state disk_state number old came went moments moments' got got' w w' d d' (Ok new) tells passed = tt
untold rig_state disk_state number old came went moments moments' got got' w w' d d' (Err end) tells passed = tells w w' d d' passed
