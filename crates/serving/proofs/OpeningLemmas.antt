-- A serving from its opening on.
use Rattle.std.proofs.Common.{◌≡◌, ◌⊎◌, ⊎_elim, inl, inr, refl, sym, subst, arith, ℕ, ◌≤◌, List, [], Some}
use Rattle.base.specs.Causes.{Rose}
use Rattle.bench_edge.specs.Whole.{WroteFront}
use Rattle.disk_edge.specs.Disk.{DiskState}
use Rattle.rig.specs.RigState.{RigState}
use Rattle.wirelist.specs.declared.program.Program.{Program}
use Rattle.unit_outcome.specs.Found.{Findings}
use Rattle.unit_outcome.specs.Tested.{IsInOrderOf}
use Rattle.records.specs.declared.record.StationRecord.{StationRecord}
use Rattle.ledger.specs.Opening.{Opening, found, no_journal, bad_record, failed, no_memory, Opens, BeginsSound, Says, refused, disk_of_stop}
use Rattle.ledger.specs.declared.stop.MountStop.{MountStop}
use Rattle.ledger.specs.Ledger.{Tells}
use Rattle.station.specs.View.{StationState, IsStanding, IsTold}
use Rattle.unopened.specs.Refused.{refused_status, refused_line}
use Rattle.script.specs.Opened.{IsRefusal}
use Rattle.script.proofs.disk.Growing.{prefix_and}
use Rattle.script.proofs.disk.Openings.{is_refusal, refused_complete, run_found, run_images, run_limit, run_tells}
use Rattle.serving.specs.Completes.{Completes}
use Rattle.serving.specs.Counted.{AnswersWithin, TestsSpend}
use Rattle.serving.specs.InTurn.{ServesTold}
use Rattle.serving.specs.Tallied.{ServingShows}
use Rattle.serving.specs.Keeping.{Counts, Causes, InOrderAt, ServingKeeps}
use Rattle.serving.specs.Lines.{Closing, status_of}
use Rattle.serving.specs.Opened.{Around, stage_at, left_at, counts, IsUnheard, ServedAll, ServesFrom, OpenedKeeps, ServeOpened, ServeRefused}
use Rattle.serving.specs.Visits.{Stage, Left, Serves}
use Rattle.serving.proofs.CompleteLemmas.{serving_completes}
use Rattle.serving.proofs.KeepingLemmas.{serving_keeps, serving_limit, serving_order, serving_devices}
use Rattle.serving.proofs.StateLemmas.{same_rig, same_disk, serves-states, answers-states, spent-states}

-- ---- a door that does not listen

-- it is as a door that refuses the first connection
unheard-serves : (first : Stage) (status : ℕ) (left : Left) → IsUnheard first status left → Serves same_rig same_disk 1 first status left
unheard-serves first status left unheard =
    record {
      stages = [];
      visits = tt;
      ends = inr (omega arith, record { closing = unheard.closing; status_is = unheard.status_is; how = inl unheard.at_door });
    }

-- so there is a serving of some connections, whether the door listens or not
pub record ServesSome (first : Stage) (status : ℕ) (left : Left) : Type 0 where
  pub count : ℕ
  pub serves : Serves same_rig same_disk count first status left

pub serves-some : (count : ℕ) (first : Stage) (status : ℕ) (left : Left) → ServesFrom count first status left → ServesSome first status left
serves-some count first status left (inl unheard) = record { count = 1; serves = unheard-serves first status left unheard }
serves-some count first status left (inr all) = record { count = count; serves = all.serves }

-- what a serving promises, said of the states
pub served-all : {R D : Type 0} (rig_state : R → RigState) (disk_state : D → DiskState) (count : ℕ) (first : Stage) (status : ℕ) (left : Left)
    → Serves rig_state disk_state count first status left → AnswersWithin rig_state disk_state count first status left
    → ((findings : Findings) → IsTold first.station findings → ServesTold findings first count status left)
    → (Tells first.station.disk → ServingShows first.station status left.rig left.disk)
    → (Tells first.station.disk → TestsSpend rig_state disk_state count first status left) → ServedAll count first status left
served-all rig_state disk_state count first status left serves answers in_order tests spent =
    record {
      serves = serves-states rig_state disk_state count first status left serves;
      answers = answers-states rig_state disk_state count first status left answers;
      in_order = in_order;
      tests = tests;
      spent = λ tells. spent-states rig_state disk_state count first status left (spent tells);
    }

-- ---- counts

rose-after : (a b c : ℕ) → a ≤ b → Rose b c → Rose a c
rose-after a b c before rose = omega (arith, before, rose)

-- the causes of the rest of a call are those of the whole
pub causes-after : (a b c : Counts) (status : ℕ) → a.out ≤ b.out → a.disk ≤ b.disk → a.rig ≤ b.rig → a.door ≤ b.door → Causes b c status → Causes a c status
causes-after a b c status out disk rig door rest =
    record {
      out = let later = rest.out in omega (arith, out, later);
      disk = let later = rest.disk in omega (arith, disk, later);
      rig = let later = rest.rig in omega (arith, rig, later);
      door = let later = rest.door in omega (arith, door, later);
      write_fault = λ e. rose-after a.out b.out c.out out (rest.write_fault e);
      disk_fault = λ e. rose-after a.disk b.disk c.disk disk (rest.disk_fault e);
      not_at_zero = λ e. rose-after a.rig b.rig c.rig rig (rest.not_at_zero e);
      network_fault = λ e. rose-after a.door b.door c.door door (rest.network_fault e);
    }

-- where no write of the lines failed, and the door failed only where its count rose
pub causes-from : (count : ℕ) (first : Stage) (status : ℕ) (left : Left) (out out' door door' : ℕ) → ServesFrom count first status left → out ≤ out' → door ≤ door'
    → (status ≡ 7 → ⊥) → (status ≡ 11 → Rose door door')
    → Causes (counts out first.station.disk.faults first.station.rig.faults door) (counts out' left.disk.faults left.rig.faults door') status
causes-from count first status left out out' door door' from out_later door_later seven eleven =
    let some = serves-some count first status left from in
    let devices = serving_devices same_rig same_disk some.count first status left some.serves in
    record {
      out = out_later;
      disk = devices.disk_later;
      rig = devices.rig_later;
      door = door_later;
      write_fault = λ e. absurd (seven e);
      disk_fault = devices.disk_fault;
      not_at_zero = devices.not_zero;
      network_fault = eleven;
    }

refused-causes : (began ended : DiskState) (why : Opening) (status out out' rig door : ℕ) → Opens began ended why → IsRefusal why → status ≡ refused_status why → out ≤ out'
    → Causes (counts out began.faults rig door) (counts out' ended.faults rig door) status
refused-causes began ended (found R) status out out' rig door opens refusal is later = absurd refusal
refused-causes began ended (no_journal why) status out out' rig door opens refusal is later =
    record {
      out = later;
      disk = opens.later;
      rig = omega arith;
      door = omega arith;
      write_fault = λ e. cc;
      disk_fault = λ e. cc;
      not_at_zero = λ e. cc;
      network_fault = λ e. cc;
    }
refused-causes began ended (bad_record number place) status out out' rig door opens refusal is later =
    record {
      out = later;
      disk = opens.later;
      rig = omega arith;
      door = omega arith;
      write_fault = λ e. cc;
      disk_fault = λ e. cc;
      not_at_zero = λ e. cc;
      network_fault = λ e. cc;
    }
refused-causes began ended failed status out out' rig door opens refusal is later =
    record {
      out = later;
      disk = opens.later;
      rig = omega arith;
      door = omega arith;
      write_fault = λ e. cc;
      disk_fault = λ e. opens.cause refl;
      not_at_zero = λ e. cc;
      network_fault = λ e. cc;
    }
refused-causes began ended no_memory status out out' rig door opens refusal is later =
    record {
      out = later;
      disk = opens.later;
      rig = omega arith;
      door = omega arith;
      write_fault = λ e. cc;
      disk_fault = λ e. cc;
      not_at_zero = λ e. cc;
      network_fault = λ e. cc;
    }

-- the status that a serving ends with
pub serves-status : (count : ℕ) (first : Stage) (status : ℕ) (left : Left) → ServesFrom count first status left
    → (status ≡ 0) ⊎ ((closing : Closing) × (status ≡ status_of closing))
serves-status count first status left from =
    let some = serves-some count first status left from in
    ⊎_elim (λ all. let well = all.1 in inl well.status_is) (λ fewer. let ends = fewer.1 in inr (ends.closing, ends.status_is)) some.serves.ends

pub serves-complete : (count : ℕ) (first : Stage) (status : ℕ) (left : Left) (before now : Counts) → ServesFrom count first status left → Causes before now status
    → Completes before now status
serves-complete count first status left before now from causes =
    let some = serves-some count first status left from in
    serving_completes same_rig same_disk some.count first status left some.serves before now causes

-- ---- a journal that was not opened

module _ {D : Type 0} (disk_state : D → DiskState) (began : DiskState) (stop : MountStop D) (disk : D) (disk_is : disk ≡ disk_of_stop stop)
    (opens : Opens began (disk_state (disk_of_stop stop)) (refused stop)) (status : ℕ) (status_is : status ≡ refused_status (refused stop)) where
  stop-opens : Opens began (disk_state disk) (refused stop)
  stop-opens = subst (λ (d : D). Opens began (disk_state d) (refused stop)) (sym disk_is) opens

  pub stop-refused : (old new : Around) → WroteFront old.got new.got (refused_line (refused stop)) → new.waiting ≡ old.waiting → new.done ≡ old.done → new.moments ≡ old.moments
      → ServeRefused began old status (disk_state disk) new
  stop-refused old new wrote waiting done moments =
      record {
        why = refused stop;
        refusal = is_refusal stop;
        opens = stop-opens;
        status_is = status_is;
        wrote = wrote;
        waiting = waiting;
        done = done;
        moments = moments;
      }

  pub stop-causes : (out out' rig door : ℕ) → out ≤ out' → Causes (counts out began.faults rig door) (counts out' (disk_state disk).faults rig door) status
  stop-causes out out' rig door later = refused-causes began (disk_state disk) (refused stop) status out out' rig door stop-opens (is_refusal stop) status_is later

  pub stop-complete : (out out' rig rig' door door' : ℕ) (file : List ℕ) (R0 : List StationRecord) → began.reads_as ≡ Some file → Says file (found R0)
      → Completes (counts out began.faults rig door) (counts out' (disk_state disk).faults rig' door') status
  stop-complete out out' rig rig' door door' file R0 reads says quiet =
      inr (refused_complete began (disk_state disk) (refused stop) status stop-opens status_is (is_refusal stop) file R0 reads says quiet.disk)

-- ---- a journal that was opened

module _ (rig0 : RigState) (program : Program) (began : DiskState) (s : StationState) (rig_is : s.rig ≡ rig0) (program_is : s.program ≡ program) (opens : Opens began s.disk (found s.records))
    (standing : IsStanding s) (count : ℕ) (old : Around) (status : ℕ) (rig : RigState) (ended : DiskState) (new : Around)
    (from : ServesFrom count (stage_at s old) status (left_at rig ended new)) where
  some : ServesSome (stage_at s old) status (left_at rig ended new)
  some = serves-some count (stage_at s old) status (left_at rig ended new) from

  opened-keeps : (file : List ℕ) (R0 : List StationRecord) → BeginsSound began file R0 → OpenedKeeps began file R0 s status ended
  opened-keeps file R0 begins =
      let is = run_found began file R0 begins s opens in
      let keeps : ServingKeeps s status ended =
      serving_keeps same_rig same_disk some.count (stage_at s old) status (left_at rig ended new) some.serves standing (run_tells began file R0 begins s opens) in
      record {
        found = is;
        keeps = keeps;
        stopped = run_images began file R0 begins s opens keeps.later ended is (prefix_and s.records keeps.records keeps.later keeps.from keeps.to) keeps.stopped;
      }

  opened-order : IsInOrderOf program rig0 → InOrderAt program status rig
  opened-order =
      subst (λ (p : Program). IsInOrderOf p rig0 → InOrderAt p status rig) program_is
      (subst (λ (r : RigState). IsInOrderOf s.program r → InOrderAt s.program status rig) rig_is
      (serving_order same_rig same_disk some.count (stage_at s old) status (left_at rig ended new) some.serves))

  pub serve-opened : ServeOpened rig0 program began count old status rig ended new
  serve-opened =
      record {
        station = s;
        rig_is = rig_is;
        program_is = program_is;
        opens = opens;
        served = from;
        keeps = opened-keeps;
        limit = run_limit began s opens ended (serving_limit same_rig same_disk some.count (stage_at s old) status (left_at rig ended new) some.serves);
        order = opened-order;
      }
