-- The visits are connections served in order, where the door and the output are told.
use Rattle.std.proofs.Common.{◌≡◌, ◌⊎◌, ⊎_elim, inl, inr, ◌∙◌, sym, refl, ap, subst, arith, append-nil, append_assoc, ℕ, ◌+◌, ◌<◌, ◌≤◌, List, [], ◌∷◌, ◌++◌, length, Option, Some, None}
use Rattle.std.specs.Prelude.{map}
use Rattle.std.proofs.lemmas.List.{map-append}
use Rattle.bench_edge.specs.Whole.{WroteFront}
use Rattle.door_edge.specs.Doors.{Talk, TakesFirst, IsFresh, with_done}
use Rattle.disk_edge.specs.Disk.{DiskState, EachImage}
use Rattle.rig.specs.RigState.{RigState}
use Rattle.wirelist.specs.declared.program.Program.{Program}
use Rattle.unit_outcome.specs.Found.{Findings}
use Rattle.records.specs.declared.record.StationRecord.{StationRecord}
use Rattle.ledger.specs.Kept.{IsImageOf, IsImageOfEither}
use Rattle.station.specs.declared.stops.StepStop.{StepStop}
use Rattle.station.specs.declared.stops.StepStop.TheVariants.{Disk, NotZero, Memory}
use Rattle.station.specs.View.{StationState, IsTold, IsStanding}
use Rattle.script.specs.Growth.{IsPrefix}
use Rattle.script.proofs.answers.Told.{told_after}
use Rattle.script.proofs.answers.Written.{appended, Part, part_of}
use Rattle.station_http.specs.ItsReply.{PassesMoment, IsItsReply, IsLastReply, IsServed, KeepsAt, ByFindings, talk_of}
use Rattle.station_http.proofs.RepliesLemmas.{replied_is, cut_is, stopped_is}
use Rattle.serving.specs.InTurn.{Connection, as_it_came, IsReplied, ServedInTurn, conn_lines, IsClosing, EndsBehind, ServedAtDoor, ServesTold}
use Rattle.serving.specs.Lines.{conn_line, Closing, write_fault, disk_fault, memory, not_at_zero, network_fault, status_of, closing_line}
use Rattle.serving.specs.Visits.{ServedSo, Stage, Passes, Visits, last_stage, Left, EndsAtDoor, EndsUntold, EndsStopped, EndsWell, Serves, closing_of, disk_of}
use Rattle.serving.proofs.TurnLemmas.{served-turn, visits-turns}

-- ---- one connection, told

is_as_it_came : (came : Talk) (bytes : List ℕ) → came.left ≡ Some bytes → came.got ≡ Some [] → came.read_faults ≡ 0 → came.write_faults ≡ 0 → came ≡ as_it_came bytes
is_as_it_came came bytes left got reads writes =
    ap (λ (l : Option (List ℕ)). talk_of l came.got came.read_faults came.write_faults) left
    ∙ ap (λ (g : Option (List ℕ)). talk_of (Some bytes) g came.read_faults came.write_faults) got
    ∙ ap (λ (n : ℕ). talk_of (Some bytes) (Some []) n came.write_faults) reads
    ∙ ap (λ (n : ℕ). talk_of (Some bytes) (Some []) 0 n) writes

-- the first of those that wait came, and is finished
record FirstCame (waiting : List (List ℕ)) (waiting' : Option (List (List ℕ))) (done : List Talk) (done' : Option (List Talk)) (came went : Talk) : Type 0 where
  bytes : List ℕ
  still : List (List ℕ)
  first : waiting ≡ bytes ∷ still
  waiting_is : waiting' ≡ Some still
  came_is : came ≡ as_it_came bytes
  done_is : done' ≡ Some (done ++ went ∷ [])

first_came : (waiting : List (List ℕ)) (w' : Option (List (List ℕ))) (done : List Talk) (d' : Option (List Talk)) (came went : Talk)
    → TakesFirst (Some waiting) w' came → IsFresh came → d' ≡ with_done (Some done) went → FirstCame waiting w' done d' came went
first_came [] w' done d' came went first fresh finished = absurd first
first_came (bytes ∷ still) w' done d' came went first fresh finished =
    record {
      bytes = bytes;
      still = still;
      first = refl;
      waiting_is = first.0;
      came_is = is_as_it_came came bytes first.1 first.2 fresh.reads fresh.writes;
      done_is = finished;
    }

passed : (w w' : Option (List (List ℕ))) (d d' : Option (List Talk)) (waiting : List (List ℕ)) (done : List Talk) (came went : Talk)
    → w ≡ Some waiting → d ≡ Some done → Passes w w' d d' came went → FirstCame waiting w' done d' came went
passed w w' d d' waiting done came went told_w told_d passes =
    first_came waiting w' done d' came went (subst (λ (o : Option (List (List ℕ))). TakesFirst o w' came) told_w passes.first) passes.fresh
    (passes.finished ∙ ap (λ (o : Option (List Talk)). with_done o went) told_d)

came_left : (came : Talk) (bytes : List ℕ) → came ≡ as_it_came bytes → came.left ≡ Some bytes
came_left came bytes is = ap (λ (t : Talk). t.left) is

served_so_is : (old new : StationState) (came went : Talk) (moments moments' : Option (List ℕ)) (status : Option ℕ) (bytes : List ℕ) → came.left ≡ Some bytes
    → ServedSo old came went moments moments' status new → ByFindings old (λ f. IsServed f old new moments moments' bytes came went status)
served_so_is old new came went moments moments' status bytes told (inl whole) = replied_is old new came went moments moments' status whole.asked bytes told whole.read whole.replied
served_so_is old new came went moments moments' status bytes told (inr cut) = cut_is old new came went moments moments' status bytes told cut

-- a connection was served, by what the rig tells
record OneReplied (f : Findings) (old new : StationState) (moments moments' : Option (List ℕ)) (waiting : List (List ℕ)) (waiting' : Option (List (List ℕ))) (done : List Talk) (done' : Option (List Talk)) (status : Option ℕ) : Type 0 where
  bytes : List ℕ
  went : Talk
  still : List (List ℕ)
  first : waiting ≡ bytes ∷ still
  waiting_is : waiting' ≡ Some still
  done_is : done' ≡ Some (done ++ went ∷ [])
  is : IsItsReply f old.program old.records moments bytes (as_it_came bytes) went status new.records
  clock : PassesMoment moments moments'
  told : IsTold new f
  program : new.program ≡ old.program
  standing : IsStanding old → IsStanding new

one_replied : (f : Findings) (old new : StationState) (came went : Talk) (moments moments' : Option (List ℕ)) (status : Option ℕ) (w w' : Option (List (List ℕ))) (d d' : Option (List Talk))
    (waiting : List (List ℕ)) (done : List Talk) → IsTold old f → w ≡ Some waiting → d ≡ Some done → Passes w w' d d' came went → ServedSo old came went moments moments' status new
    → OneReplied f old new moments moments' waiting w' done d' status
one_replied f old new came went moments moments' status w w' d d' waiting done told told_w told_d passes served =
    let came_first = passed w w' d d' waiting done came went told_w told_d passes in
    let turn = served-turn old new came went moments moments' status served in
    let reply = (served_so_is old new came went moments moments' status came_first.bytes (came_left came came_first.bytes came_first.came_is) served).told f told in
    record {
      bytes = came_first.bytes;
      went = went;
      still = came_first.still;
      first = came_first.first;
      waiting_is = came_first.waiting_is;
      done_is = came_first.done_is;
      is = subst (λ (t : Talk). IsItsReply f old.program old.records moments came_first.bytes t went status new.records) came_first.came_is reply.is;
      clock = reply.clock;
      told = told_after f old new turn.asked turn.now turn.said told turn.turn;
      program = turn.turn.same.program;
      standing = turn.standing;
    }

-- ---- connection after connection

-- what is so behind some connections that were served and told
record SoFar (f : Findings) (number : ℕ) (first last : Stage) (stages : List Stage) (waiting : List (List ℕ)) (done : List Talk) (got : List ℕ) : Type 0 where
  told : List Connection
  count : length told ≡ length stages
  in_turn : ServedInTurn f first.station.program first.station.records first.moments told last.station.records last.moments
  still : List (List ℕ)
  order : waiting ≡ map (λ (c : Connection). c.bytes) told ++ still
  waiting_is : last.waiting ≡ Some still
  done_is : last.done ≡ Some (done ++ map (λ (c : Connection). c.went) told)
  got_is : last.got ≡ Some (got ++ conn_lines number told)
  tells : IsTold last.station f
  program : last.station.program ≡ first.station.program

none_so_far : (f : Findings) (number : ℕ) (first : Stage) (waiting : List (List ℕ)) (done : List Talk) (got : List ℕ) → IsTold first.station f
    → first.waiting ≡ Some waiting → first.done ≡ Some done → first.got ≡ Some got → SoFar f number first first [] waiting done got
none_so_far f number first waiting done got told told_w told_d told_g =
    record {
      told = [];
      count = refl;
      in_turn = (refl, refl);
      still = waiting;
      order = refl;
      waiting_is = told_w;
      done_is = told_d ∙ ap (λ (l : List Talk). Some l) (sym (append-nil done));
      got_is = told_g ∙ ap (λ (l : List ℕ). Some l) (sym (append-nil got));
      tells = told;
      program = refl;
    }

one_so_far : (f : Findings) (number : ℕ) (first next last : Stage) (stages : List Stage) (waiting still : List (List ℕ)) (done : List Talk) (got : List ℕ) (c : Connection)
    → waiting ≡ c.bytes ∷ still → IsReplied f first.station.program first.station.records first.moments c next.station.records → PassesMoment first.moments next.moments
    → next.station.program ≡ first.station.program → SoFar f (number + 1) next last stages still (done ++ c.went ∷ []) (got ++ conn_line number c.status)
    → SoFar f number first last (next ∷ stages) waiting done got
one_so_far f number first next last stages waiting still done got c is_first replied clock program more =
    record {
      told = c ∷ more.told;
      count = omega (arith, more.count);
      in_turn = (
        next.station.records,
        next.moments,
        replied,
        clock,
        subst (λ (p : Program). ServedInTurn f p next.station.records next.moments more.told last.station.records last.moments) program more.in_turn,
      );
      still = more.still;
      order = is_first ∙ ap (λ (l : List (List ℕ)). c.bytes ∷ l) more.order;
      waiting_is = more.waiting_is;
      done_is = more.done_is ∙ ap (λ (l : List Talk). Some l) (append_assoc done (c.went ∷ []) (map (λ (x : Connection). x.went) more.told));
      got_is = more.got_is ∙ ap (λ (l : List ℕ). Some l) (append_assoc got (conn_line number c.status) (conn_lines (number + 1) more.told));
      tells = more.tells;
      program = more.program ∙ program;
    }

visited_so_far : (f : Findings) (number : ℕ) (first : Stage) (stages : List Stage) (waiting : List (List ℕ)) (done : List Talk) (got : List ℕ) → IsTold first.station f
    → first.waiting ≡ Some waiting → first.done ≡ Some done → first.got ≡ Some got → Visits number first stages → SoFar f number first (last_stage first stages) stages waiting done got
visited_so_far f number first [] waiting done got told told_w told_d told_g visits = none_so_far f number first waiting done got told told_w told_d told_g
visited_so_far f number first (next ∷ stages) waiting done got told told_w told_d told_g (visit, visits) =
    let one = one_replied f first.station next.station visit.came visit.went first.moments next.moments visit.status first.waiting next.waiting first.done next.done waiting done told told_w told_d visit.passes visit.served in
    let c : Connection = record { bytes = one.bytes; went = one.went; status = visit.status } in
    let got_next = appended first.got next.got got (conn_line number visit.status) told_g visit.told in
    one_so_far f number first next (last_stage next stages) stages waiting one.still done got c one.first one.is one.clock one.program
    (visited_so_far f (number + 1) next stages one.still (done ++ one.went ∷ []) (got ++ conn_line number visit.status) one.told one.waiting_is one.done_is got_next visits)

-- ---- what was written last

front_part : (line got : List ℕ) (old new : Option (List ℕ)) → old ≡ Some got → WroteFront old new line → Part got line new
front_part line got old new told (n, within, wrote) = part_of line got old new told (record { count = n; within = within; wrote = wrote })

pub not_zero : (closing : Closing) → status_of closing ≡ 0 → ⊥
not_zero write_fault e = cc
not_zero disk_fault e = cc
not_zero memory e = cc
not_zero not_at_zero e = cc
not_zero network_fault e = cc

is_eleven : (closing : Closing) → status_of closing ≡ 11 → closing ≡ network_fault
is_eleven write_fault e = absurd (cc e)
is_eleven disk_fault e = absurd (cc e)
is_eleven memory e = absurd (cc e)
is_eleven not_at_zero e = absurd (cc e)
is_eleven network_fault e = refl

untold_status : (closing : Closing) → (closing ≡ write_fault) ⊎ (closing ≡ memory) → (status_of closing ≡ 7) ⊎ (status_of closing ≡ 9)
untold_status closing (inl e) = inl (ap status_of e)
untold_status closing (inr e) = inr (ap status_of e)

untold_door : (closing : Closing) → (closing ≡ write_fault) ⊎ (closing ≡ memory) → closing ≡ network_fault → ⊥
untold_door closing (inl e) f = cc
untold_door closing (inr e) f = cc

stop_status : {R D : Type 0} (halt : StepStop R D) → (status_of (closing_of halt) ≡ 8) ⊎ (status_of (closing_of halt) ≡ 9) ⊎ (status_of (closing_of halt) ≡ 10)
stop_status (Disk rig disk) = inl refl
stop_status (NotZero rig disk) = inr (inr refl)
stop_status (Memory rig disk) = inr (inl refl)

stop_door : {R D : Type 0} (halt : StepStop R D) → closing_of halt ≡ network_fault → ⊥
stop_door (Disk rig disk) e = cc
stop_door (NotZero rig disk) e = cc
stop_door (Memory rig disk) e = cc

-- what a crash behind the serving leaves
kept_same : (s : StationState) (disk : DiskState) → IsStanding s → disk ≡ s.disk → EachImage disk (IsImageOf s.records)
kept_same s disk standing same = subst (λ (d : DiskState). EachImage d (IsImageOf s.records)) (sym same) standing.images

kept_first : (disk : DiskState) (R later : List StationRecord) → EachImage disk (IsImageOf R) → EachImage disk (IsImageOfEither R later)
kept_first disk R later kept honest file told image left = inl (kept honest file told image left)

kept_later : (disk : DiskState) (R later : List StationRecord) → EachImage disk (IsImageOf later) → EachImage disk (IsImageOfEither R later)
kept_later disk R later kept honest file told image left = inr (kept honest file told image left)

kept_stopped : {R D : Type 0} (disk_state : D → DiskState) (halt : StepStop R D) (before later : List StationRecord) → KeepsAt disk_state halt before later
    → EachImage (disk_of disk_state halt) (IsImageOfEither before later)
kept_stopped disk_state (Disk rig disk) before later kept = kept
kept_stopped disk_state (NotZero rig disk) before later kept = kept_first (disk_state disk) before later kept
kept_stopped disk_state (Memory rig disk) before later kept = kept

-- ---- the end

module _ (f : Findings) (first last : Stage) (stages : List Stage) (waiting : List (List ℕ)) (done : List Talk) (got : List ℕ) (so : SoFar f 1 first last stages waiting done got) (count status : ℕ) (left : Left) where
  -- what was written behind the lines
  text_is : (rest : List ℕ) → left.got ≡ Some ((got ++ conn_lines 1 so.told) ++ rest) → left.got ≡ Some (got ++ (conn_lines 1 so.told ++ rest))
  text_is rest is = is ∙ ap (λ (l : List ℕ). Some l) (append_assoc got (conn_lines 1 so.told) rest)

  -- no connection is behind those that were told
  none_behind : (rest : List ℕ) → left.waiting ≡ last.waiting → left.done ≡ last.done → left.got ≡ Some ((got ++ conn_lines 1 so.told) ++ rest) → IsClosing status rest
      → (status ≡ 0 → (length so.told ≡ count) × (rest ≡ [])) → (status ≡ 11 → length so.told < count) → length so.told ≤ count → EachImage left.disk (IsImageOf last.station.records)
      → ServedAtDoor f first count waiting done got status left
  none_behind rest same_waiting same_done wrote closing all fewer few kept =
      record {
        still = so.still;
        finished = map (λ (c : Connection). c.went) (so.told ++ []);
        text = conn_lines 1 so.told ++ rest;
        waiting_is = same_waiting ∙ so.waiting_is;
        done_is = same_done ∙ so.done_is ∙ ap (λ (l : List Connection). Some (done ++ map (λ (c : Connection). c.went) l)) (sym (append-nil so.told));
        got_is = text_is rest wrote;
        serves = record {
          told = so.told;
          records = last.station.records;
          late = last.moments;
          in_turn = so.in_turn;
          last = None;
          later = last.station.records;
          rest = rest;
          ends = (refl, closing);
          order = so.order ∙ ap (λ (l : List Connection). map (λ (c : Connection). c.bytes) l ++ so.still) (sym (append-nil so.told));
          finished_are = refl;
          lines = refl;
          all = λ zero. let both = all zero in (refl, both.0, both.1);
          fewer = λ eleven. (refl, fewer eleven);
          few = omega (arith, few);
        };
        kept = kept_first left.disk last.station.records last.station.records kept;
      }

  -- one is behind them
  one_behind : (c : Connection) (still : List (List ℕ)) (later : List StationRecord) (rest : List ℕ) → so.still ≡ c.bytes ∷ still → left.waiting ≡ Some still
      → left.done ≡ Some ((done ++ map (λ (x : Connection). x.went) so.told) ++ c.went ∷ []) → left.got ≡ Some ((got ++ conn_lines 1 so.told) ++ rest)
      → EndsBehind f first.station.program last.station.records last.moments (length so.told + 1) (Some c) later status rest → (status ≡ 0 → ⊥) → (status ≡ 11 → ⊥)
      → length stages < count → EachImage left.disk (IsImageOfEither last.station.records later) → ServedAtDoor f first count waiting done got status left
  one_behind c still later rest is_first waiting_is done_is wrote ends not_well not_door fewer kept =
      record {
        still = still;
        finished = map (λ (x : Connection). x.went) (so.told ++ c ∷ []);
        text = conn_lines 1 so.told ++ rest;
        waiting_is = waiting_is;
        done_is = done_is ∙ ap (λ (l : List Talk). Some l) (append_assoc done (map (λ (x : Connection). x.went) so.told) (c.went ∷ [])
            ∙ ap (λ (l : List Talk). done ++ l) (sym (map-append (λ (x : Connection). x.went) so.told (c ∷ []))));
        got_is = text_is rest wrote;
        serves = record {
          told = so.told;
          records = last.station.records;
          late = last.moments;
          in_turn = so.in_turn;
          last = Some c;
          later = later;
          rest = rest;
          ends = ends;
          order = so.order ∙ ap (λ (l : List (List ℕ)). map (λ (x : Connection). x.bytes) so.told ++ l) is_first
              ∙ sym (append_assoc (map (λ (x : Connection). x.bytes) so.told) (c.bytes ∷ []) still)
              ∙ ap (λ (l : List (List ℕ)). l ++ still) (sym (map-append (λ (x : Connection). x.bytes) so.told (c ∷ [])));
          finished_are = refl;
          lines = refl;
          all = λ zero. absurd (not_well zero);
          fewer = λ eleven. absurd (not_door eleven);
          few = omega (arith, so.count, fewer);
        };
        kept = kept;
      }

  -- all were served
  well_behind : IsStanding last.station → length stages ≡ count → EndsWell last status left → ServedAtDoor f first count waiting done got status left
  well_behind standing all well =
      let zero = well.status_is in
      none_behind [] well.waiting well.done (well.got ∙ so.got_is ∙ ap (λ (l : List ℕ). Some l) (sym (append-nil (got ++ conn_lines 1 so.told)))) (inl (zero, refl))
      (λ e. (so.count ∙ all, refl)) (λ e. absurd (let never : 0 ≡ 11 = sym zero ∙ e in cc))
      (omega (arith, so.count, all)) (kept_same last.station left.disk standing well.parts.disk_is)

  -- the door refused
  door_behind : IsStanding last.station → (closing : Closing) → status ≡ status_of closing → length stages < count → EndsAtDoor last closing left → ServedAtDoor f first count waiting done got status left
  door_behind standing closing is fewer door =
      let part = front_part (closing_line closing) (got ++ conn_lines 1 so.told) last.got left.got so.got_is door.wrote in
      none_behind part.rest door.waiting door.done part.got_is (inr (closing, is, part.front))
      (λ zero. absurd (not_zero closing (sym is ∙ zero))) (λ e. omega (arith, so.count, fewer))
      (omega (arith, so.count, fewer)) (kept_same last.station left.disk standing door.parts.disk_is)

  -- a connection was served, and its line was not written whole
  untold_behind : IsStanding last.station → (closing : Closing) → status ≡ status_of closing → length stages < count → EndsUntold (length stages + 1) last closing left → ServedAtDoor f first count waiting done got status left
  untold_behind standing closing is fewer untold =
      let one = one_replied f last.station untold.new untold.came untold.went last.moments left.moments untold.status last.waiting left.waiting last.done left.done so.still (done ++ map (λ (x : Connection). x.went) so.told)
      so.tells so.waiting_is so.done_is untold.passes untold.served in
      let c : Connection = record { bytes = one.bytes; went = one.went; status = untold.status } in
      let part = front_part (conn_line (length stages + 1) untold.status) (got ++ conn_lines 1 so.told) last.got left.got so.got_is untold.wrote in
      one_behind c one.still untold.new.records part.rest one.first one.waiting_is one.done_is part.got_is
      (inl (record {
        is = subst (λ (p : Program). IsReplied f p last.station.records last.moments c untold.new.records) so.program one.is;
        line = subst (λ (n : ℕ). IsPrefix part.rest (conn_line (n + 1) untold.status)) (sym so.count) part.front;
        status_is = subst (λ (n : ℕ). (n ≡ 7) ⊎ (n ≡ 9)) (sym is) (untold_status closing untold.why);
      }))
      (λ zero. not_zero closing (sym is ∙ zero)) (λ eleven. untold_door closing untold.why (is_eleven closing (sym is ∙ eleven)))
      fewer (kept_later left.disk last.station.records untold.new.records (kept_same untold.new left.disk (one.standing standing) untold.parts.disk_is))

  -- the station stopped with a connection
  stopped_behind : {R D : Type 0} (rig_state : R → RigState) (disk_state : D → DiskState) → IsStanding last.station → (closing : Closing) → status ≡ status_of closing → length stages < count
      → EndsStopped {R = R} {D = D} rig_state disk_state last closing left → ServedAtDoor f first count waiting done got status left
  stopped_behind {R} {D} rig_state disk_state standing closing is fewer stopped =
      let came = passed last.waiting left.waiting last.done left.done so.still (done ++ map (λ (x : Connection). x.went) so.told) stopped.came stopped.went so.waiting_is so.done_is stopped.passes in
      let c : Connection = record { bytes = came.bytes; went = stopped.went; status = None } in
      let part = front_part (closing_line closing) (got ++ conn_lines 1 so.told) last.got left.got so.got_is stopped.wrote in
      let halted = (stopped_is rig_state disk_state last.station stopped.came stopped.went last.moments left.moments came.bytes standing.images stopped.halt
      (came_left stopped.came came.bytes came.came_is) stopped.served).told f so.tells in
      let says : status ≡ status_of (closing_of stopped.halt) = is ∙ ap status_of stopped.why in
      one_behind c came.still halted.later part.rest came.first came.waiting_is came.done_is part.got_is
      (inr (record {
        is = subst (λ (p : Program). IsLastReply f p last.station.records last.moments came.bytes (as_it_came came.bytes) stopped.went halted.later) so.program
            (subst (λ (t : Talk). IsLastReply f last.station.program last.station.records last.moments came.bytes t stopped.went halted.later) came.came_is halted.is);
        no_status = refl;
        line = inr (closing, is, part.front);
        status_is = subst (λ (n : ℕ). (n ≡ 8) ⊎ (n ≡ 9) ⊎ (n ≡ 10)) (sym says) (stop_status stopped.halt);
      }))
      (λ zero. not_zero closing (sym is ∙ zero)) (λ eleven. stop_door stopped.halt (is_eleven (closing_of stopped.halt) (sym says ∙ eleven)))
      fewer (subst (λ (d : DiskState). EachImage d (IsImageOfEither last.station.records halted.later)) (sym stopped.disk_is)
      (kept_stopped disk_state stopped.halt last.station.records halted.later halted.kept))

-- ---- the whole

pub serves_told : {R D : Type 0} (rig_state : R → RigState) (disk_state : D → DiskState) (count : ℕ) (first : Stage) (status : ℕ) (left : Left) → Serves rig_state disk_state count first status left
    → IsStanding first.station → (f : Findings) → IsTold first.station f → ServesTold f first count status left
serves_told rig_state disk_state count first status left serves standing f told = λ waiting done got told_w told_d told_g.
    let so = visited_so_far f 1 first serves.stages waiting done got told told_w told_d told_g serves.visits in
    let last = last_stage first serves.stages in
    let stands = (visits-turns 1 first serves.stages serves.visits).standing standing in
    ⊎_elim
    (λ all. well_behind f first last serves.stages waiting done got so count status left stands all.0 all.1)
    (λ fewer.
    let ends = fewer.1 in
    ⊎_elim
    (λ door. door_behind f first last serves.stages waiting done got so count status left stands ends.closing ends.status_is fewer.0 door)
    (⊎_elim
    (λ untold. untold_behind f first last serves.stages waiting done got so count status left stands ends.closing ends.status_is fewer.0 untold)
    (λ stopped. stopped_behind f first last serves.stages waiting done got so count status left rig_state disk_state stands ends.closing ends.status_is fewer.0 stopped))
    ends.how)
    serves.ends
