-- What is served, said of the states of the rig and the disk alone.
use Rattle.std.proofs.Common.{◌≡◌, ⊎_elim, inl, inr, ◌∙◌, sym, refl, ℕ, ◌+◌, List, length, Option, Err}
use Rattle.disk_edge.specs.Disk.{DiskState}
use Rattle.door_edge.specs.Doors.{Talk}
use Rattle.rig.specs.RigState.{RigState}
use Rattle.station.specs.declared.stops.StepStop.{StepStop}
use Rattle.station.specs.declared.stops.StepStop.TheVariants.{Disk, NotZero, Memory}
use Rattle.station.specs.View.{StationState}
use Rattle.http_exchange.specs.declared.request.Request.{Request}
use Rattle.http_exchange.specs.Replies.{Reply}
use Rattle.station_http.specs.Turns.{Stops}
use Rattle.station_http.specs.Served.{Served, Finishes, StopsOnWriting, IsUnread}
use Rattle.serving.specs.Counted.{AnswersWithin, TestsSpend}
use Rattle.serving.specs.Visits.{Stage, Left, EndsAt, Serves, last_stage, closing_of, rig_of, disk_of}

-- a rig and a disk that are their own states
abbrev pub same_rig : RigState → RigState
same_rig rig = rig

abbrev pub same_disk : DiskState → DiskState
same_disk disk = disk

module _ {R D : Type 0} (rig_state : R → RigState) (disk_state : D → DiskState) where
  -- a stop with the states of its rig and its disk
  abbrev of_states : StepStop R D → StepStop RigState DiskState
  of_states (Disk rig disk) = Disk (rig_state rig) (disk_state disk)
  of_states (NotZero rig disk) = NotZero (rig_state rig) (disk_state disk)
  of_states (Memory rig disk) = Memory (rig_state rig) (disk_state disk)

  closing-same : (halt : StepStop R D) → closing_of (of_states halt) ≡ closing_of halt
  closing-same (Disk rig disk) = refl
  closing-same (NotZero rig disk) = refl
  closing-same (Memory rig disk) = refl

  rig-same : (halt : StepStop R D) → rig_of same_rig (of_states halt) ≡ rig_of rig_state halt
  rig-same (Disk rig disk) = refl
  rig-same (NotZero rig disk) = refl
  rig-same (Memory rig disk) = refl

  disk-same : (halt : StepStop R D) → disk_of same_disk (of_states halt) ≡ disk_of disk_state halt
  disk-same (Disk rig disk) = refl
  disk-same (NotZero rig disk) = refl
  disk-same (Memory rig disk) = refl

  stops-states : (s : StationState) (r : Request) (moments moments' : Option (List ℕ)) (reply : Reply) (halt : StepStop R D)
      → Stops rig_state disk_state s r moments moments' reply halt → Stops same_rig same_disk s r moments moments' reply (of_states halt)
  stops-states s r moments moments' reply (Disk rig disk) stops = stops
  stops-states s r moments moments' reply (NotZero rig disk) stops = stops
  stops-states s r moments moments' reply (Memory rig disk) stops = stops

  writing-states : (s : StationState) (r : Request) (moments moments' got got' : Option (List ℕ)) (halt : StepStop R D)
      → StopsOnWriting rig_state disk_state s r moments moments' got got' halt → StopsOnWriting same_rig same_disk s r moments moments' got got' (of_states halt)
  writing-states s r moments moments' got got' (Disk rig disk) stops = stops
  writing-states s r moments moments' got got' (NotZero rig disk) stops = stops
  writing-states s r moments moments' got got' (Memory rig disk) stops = stops

  unread-states : (s : StationState) (came went : Talk) (moments moments' : Option (List ℕ)) (halt : StepStop R D)
      → IsUnread {R = R} {D = D} rig_state disk_state s came went moments moments' (Err halt)
      → IsUnread {R = RigState} {D = DiskState} same_rig same_disk s came went moments moments' (Err (of_states halt))
  unread-states s came went moments moments' (Disk rig disk) stops = stops
  unread-states s came went moments moments' (NotZero rig disk) stops = stops
  unread-states s came went moments moments' (Memory rig disk) stops = stops

  finishes-states : (s : StationState) (r : Request) (moments moments' got got' : Option (List ℕ)) (faults faults' : ℕ) (halt : StepStop R D)
      → Finishes {R = R} {D = D} rig_state disk_state s r moments moments' got got' faults faults' (Err halt)
      → Finishes {R = RigState} {D = DiskState} same_rig same_disk s r moments moments' got got' faults faults' (Err (of_states halt))
  finishes-states s r moments moments' got got' faults faults' halt (inl replying) =
      inl (record { reply = replying.reply; stops = stops-states s r moments moments' replying.reply halt replying.stops; wrote = replying.wrote })
  finishes-states s r moments moments' got got' faults faults' halt (inr writing) = inr (writing-states s r moments moments' got got' halt writing)

  served-states : (s : StationState) (came went : Talk) (moments moments' : Option (List ℕ)) (halt : StepStop R D)
      → Served {R = R} {D = D} rig_state disk_state s came went moments moments' (Err halt)
      → Served {R = RigState} {D = DiskState} same_rig same_disk s came went moments moments' (Err (of_states halt))
  served-states s came went moments moments' halt (inl read) =
      inl (record {
        asked = read.asked;
        read = read.read;
        finishes = finishes-states s read.asked moments moments' came.got went.got came.write_faults went.write_faults halt read.finishes;
      })
  served-states s came went moments moments' halt (inr unread) = inr (unread-states s came went moments moments' halt unread)

  ends-states : (number : ℕ) (old : Stage) (status : ℕ) (left : Left) → EndsAt rig_state disk_state number old status left → EndsAt same_rig same_disk number old status left
  ends-states number old status left ends =
      record {
        closing = ends.closing;
        status_is = ends.status_is;
        how =
            ⊎_elim
            (λ door. inl door)
            (⊎_elim
            (λ untold. inr (inl untold))
            (λ stopped. inr (inr (record {
              came = stopped.came;
              went = stopped.went;
              passes = stopped.passes;
              halt = of_states stopped.halt;
              served = served-states old.station stopped.came stopped.went old.moments left.moments stopped.halt stopped.served;
              why = stopped.why ∙ sym (closing-same stopped.halt);
              rig_is = stopped.rig_is ∙ sym (rig-same stopped.halt);
              disk_is = stopped.disk_is ∙ sym (disk-same stopped.halt);
              wrote = stopped.wrote;
            }))))
            ends.how;
      }

  -- the serving, said of the states
  pub serves-states : (count : ℕ) (first : Stage) (status : ℕ) (left : Left) → Serves rig_state disk_state count first status left → Serves same_rig same_disk count first status left
  serves-states count first status left serves =
      record {
        stages = serves.stages;
        visits = serves.visits;
        ends =
            ⊎_elim
            (λ all. inl all)
            (λ fewer. inr (fewer.0, ends-states (length serves.stages + 1) (last_stage first serves.stages) status left fewer.1))
            serves.ends;
      }

  -- and so are its answers
  pub answers-states : (count : ℕ) (first : Stage) (status : ℕ) (left : Left) → AnswersWithin rig_state disk_state count first status left
      → AnswersWithin same_rig same_disk count first status left
  unfolding serves-states
  answers-states count first status left answers =
      record {
        serves = serves-states count first status left answers.serves;
        last = answers.last;
        stuck = answers.stuck;
        within = answers.within;
      }

  -- and the readings that its tests took
  pub spent-states : (count : ℕ) (first : Stage) (status : ℕ) (left : Left) → TestsSpend rig_state disk_state count first status left
      → TestsSpend same_rig same_disk count first status left
  unfolding serves-states
  spent-states count first status left spends =
      record {
        serves = serves-states count first status left spends.serves;
        added = spends.added;
        is = spends.is;
        spent = spends.spent;
      }
