-- What the test of a unit without an outcome leaves.
use Rattle.std.proofs.Common.{◌≡◌, ◌≤◌, ◌⊎◌, inl, inr, ℕ, false, List, [], ◌∷◌, ◌++◌, Option, Some, None, Result, Ok, Err, refl, sym, ◌∙◌, ap, subst, arith, append_assoc}
use Rattle.std.specs.Prelude.{IfSome, is_some, All}
use Rattle.std.proofs.lemmas.List.Elements.{All-nil}
use Rattle.base.specs.Causes.{Rose}
use Rattle.rig.specs.Discharge.{most_waits}
use Rattle.rig.specs.Happened.{Happens}
use Rattle.rig.specs.RigState.{RigState}
use Rattle.rig.specs.Seating.{Seats}
use Rattle.rig.specs.Source.{Source, source_from}
use Rattle.rig.specs.declared.event.Event.{Event}
use Rattle.rig.specs.declared.event.Event.TheVariants.{Door, Residual}
use Rattle.rig.specs.declared.rig.RigStop.{RigStop}
use Rattle.rig.specs.declared.rig.SeatAnswer.TheVariants.{Absent, Present}
use Rattle.rig.specs.declared.seated.SeatStop.{SeatStop}
use Rattle.rig.specs.declared.seated.SeatStop.TheVariants as seat
use Rattle.rig.specs.Stops.{seat_stop_answer, seat_stop_rig}
use Rattle.rig.specs.declared.unit.Row.{Row}
use Rattle.rig.proofs.Happening.{Happens-none}
use Rattle.rig.proofs.Order.{source_from-append}
use Rattle.wirelist.specs.Programs.{IsProgram}
use Rattle.wirelist.specs.declared.program.Program.{Program}
use Rattle.applications.specs.Measuring.{EndsCharged, EndsOpen}
use Rattle.unit_outcome.specs.Defined.{charged_of, differs, proven_charge, unit_difference}
use Rattle.unit_outcome.specs.Enough.{checking_readings}
use Rattle.unit_outcome.specs.Found.{IsThere, found_of, told_by}
use Rattle.unit_outcome.specs.Tested.{HasNotFallen, IsCharged, IsNotAtZero, IsOpen, IsStopped, Keeps, RunsUnit, StopsAtZero}
use Rattle.unit_outcome.specs.declared.run.UnitRun.{UnitRun}
use Rattle.unit_outcome.specs.declared.run.UnitStop.{UnitStop}
use Rattle.unit_outcome.specs.declared.run.UnitStop.TheVariants.{Empty, InterlockOpen, NotDischarged, RigFault, NotZero, Memory}
use Rattle.sequence.specs.Halted.{seat_stop}
use Rattle.sequence.specs.Stages.{Goes, IsNoReading, LateCharged, LateOpen, LateStuck, StopsLate}
use Rattle.sequence.specs.Whole.{EndsSeated, StopsProven}
use Rattle.sequence.specs.Wired.{IsAsProgrammed, ReadsWiring, StopsReading}
use Rattle.sequence.proofs.Finding.{no-difference-of, tested}
use Rattle.sequence.proofs.Going.{rows-both}
use Rattle.sequence.proofs.stages.Passing.{Passed, mapped-told, passed-begun, passed-keeps, passed-not_charged, passed-unit, read-not_charged, read-order, read-volts}
use Rattle.sequence.proofs.Telling.{Sees, rows-after, sees, tells-none, told-always, told-each}
use Rattle.sequence.proofs.stages.Voltages.{later-trail}

rose-since : (a b c : ℕ) → a ≤ b → Rose b c → Rose a c
rose-since a b c le rose = omega arith

module _ {R : Type 0} (state : R → RigState) (p : Program) (ok : IsProgram p) (serial : List ℕ) (attempt : ℕ) {old s : RigState} (seat : Seats old s serial attempt (Ok Present)) (points : p.nets.points ≡ old.points) (zeroed : old.volts ≡ 0) where
  -- the unit is there
  there : {u : RigState} → Passed p s u → IfSome (told_by p old) (λ findings. IsThere (findings serial attempt))
  there {u} passed =
      told-each (told_by p old) (Sees p serial attempt (λ _. Unit {0})) _ (λ findings seen. (found_of p seen.rows, seen.there))
      (sees p serial attempt (passed-keeps p serial attempt seat passed) (passed-unit p serial attempt seat passed) (λ _. Unit {0}) (λ honest told. always u.truth))
    where
      always : (o : Option (List Row)) → IfSome o (λ _. Unit {0})
      always None = tt
      always (Some rows) = tt

  -- ---- while the wiring was read

  abbrev only : {u : RigState} {stop : Option RigStop} → ReadsWiring p s u stop → Passed p s u
  only {u} {stop} wiring = record { read = u; first = stop; wiring = wiring; events = []; last = None; happens = Happens-none u; no_reading = All-nil IsNoReading }

  read-stop : {u : RigState} {stop : Option RigStop} → ReadsWiring p s u stop → StopsAtZero p serial attempt old u
  read-stop wiring = record {
    begun = passed-begun p serial attempt seat (only wiring);
    at_zero = read-volts p serial attempt seat wiring ∙ zeroed;
    order = read-order p serial attempt seat wiring;
    not_charged = read-not_charged p serial attempt seat wiring;
  }

  pub stopped-reading : (stop : UnitStop R) → StopsReading state p s stop → IsStopped state p serial attempt old stop
  stopped-reading (Empty rig) h = absurd h
  stopped-reading (InterlockOpen rig) h = absurd h
  stopped-reading (NotDischarged rig volts) h = absurd h
  stopped-reading (RigFault rig) h = record {
    keeps = passed-keeps p serial attempt seat (only h);
    cause = (inr (read-stop h), rose-since old.faults s.faults (state rig).faults seat.called.cause.later (h.reads.cause.rose refl));
    told = told-always (told_by p old) _ (λ findings. tt);
  }
  stopped-reading (NotZero stuck) h = absurd h
  stopped-reading (Memory rig) h = record { keeps = passed-keeps p serial attempt seat (only h.1); cause = inr (read-stop h.1); told = told-always (told_by p old) _ (λ findings. tt) }

  -- ---- after the wiring was proven

  module _ {t : RigState} (wired : IsAsProgrammed p (checking_readings p) s t) where
    abbrev passing : {u : RigState} {events : List Event} {last : Option RigStop} → Happens t u events last → All IsNoReading events → Passed p s u
    passing {u} {events} {last} happens none = record { read = t; first = None; wiring = wired.wiring; events = events; last = last; happens = happens; no_reading = none }

    abbrev going : {u : RigState} {last : Option RigStop} → Goes p t u last → Passed p s u
    going goes = passing goes.happens goes.no_reading

    late-stop : {u : RigState} {last : Option RigStop} → Goes p t u last → StopsAtZero p serial attempt old u
    late-stop goes = record {
      begun = passed-begun p serial attempt seat (going goes);
      at_zero = goes.at_zero;
      order = goes.order (read-order p serial attempt seat wired.wiring);
      not_charged = passed-not_charged p serial attempt seat (going goes) goes.not_charged;
    }

    later-open : (events before : List Event) → EndsOpen events → EndsOpen (before ++ events)
    later-open events before door = record {
      before = before ++ door.before;
      after = door.after;
      events_are = ap (λ (es : List Event). before ++ es) door.events_are ∙ sym (append_assoc before door.before (Door false ∷ door.after));
      no_door = door.no_door;
    }

    later-charged : (events before : List Event) (v : ℕ) → EndsCharged events v → EndsCharged (before ++ events) v
    later-charged events before v ends = record {
      before = before ++ ends.before;
      events_are = ap (λ (es : List Event). before ++ es) ends.events_are ∙ sym (append_assoc before ends.before (Residual v ∷ []));
      above = ends.above;
      waited = λ x. let P : Source → Type 0 = λ y. most_waits ≤ y.ticks in subst P (sym (source_from-append x before ends.before)) (ends.waited (source_from x before));
    }

    told-some : (o : Option (List Event)) → IfSome o (λ _. Unit {0})
    told-some None = tt
    told-some (Some es) = tt

    opened : {u : RigState} → LateOpen p t u → IsOpen p serial attempt old u
    opened {u} h = record {
      stops = late-stop h.goes;
      door = later-trail (λ _. Unit {0}) EndsOpen (λ trail k. later-open h.goes.events trail h.door) h.goes.happens (told-some t.trail);
      opens =
          let a = ap (λ (v : RigState). v.opens) wired.wiring.reads.frame in
          let b = ap (λ (v : RigState). v.opens) (seat.present refl) in
          subst (λ (n : ℕ). Rose n u.opens) (a ∙ b) h.opens;
    }

    charged : {u : RigState} {v : ℕ} → LateCharged p (proven_charge p) t u v → IsCharged p serial attempt old u v
    charged {u} {v} h = record {
      begun = passed-begun p serial attempt seat (passing h.happens h.no_reading);
      at_zero = h.at_zero;
      order = h.order (read-order p serial attempt seat wired.wiring);
      ends = later-trail (λ _. Unit {0}) (λ trail. EndsCharged trail v) (λ trail k. later-charged h.events trail v h.ends) h.happens (told-some t.trail);
      truth =
          rows-after _ h.happens
          (rows-both t (λ rows. differs (unit_difference p rows) ≡ false) (λ rows. proven_charge p rows ≡ Some v) (λ rows. charged_of p rows ≡ Some v) (λ rows e is. rw e is)
          (no-difference-of p ok serial attempt seat points zeroed wired) h.truth);
    }

    stuck : {u : RigState} → LateStuck p t u → IsNotAtZero p serial attempt old u
    stuck {u} h = record {
      begun = passed-begun p serial attempt seat (passing h.happens h.no_reading);
      order = h.order (read-order p serial attempt seat wired.wiring);
      not_charged = passed-not_charged p serial attempt seat (passing h.happens h.no_reading) h.not_charged;
      rose = rose-since old.faults t.faults u.faults (omega (arith, seat.called.cause.later, wired.wiring.reads.cause.later)) h.rose;
    }

    pub stopped-late : (stop : UnitStop R) → StopsLate state p (proven_charge p) t stop → IsStopped state p serial attempt old stop
    stopped-late (Empty rig) h = absurd h
    stopped-late (InterlockOpen rig) h = record { keeps = passed-keeps p serial attempt seat (going h.goes); cause = opened h; told = there (going h.goes) }
    stopped-late (NotDischarged rig v) h =
        let passed = passing h.happens h.no_reading in
        record {
          keeps = passed-keeps p serial attempt seat passed;
          cause = charged h;
          told =
              told-each (told_by p old) (Sees p serial attempt (λ rows. charged_of p rows ≡ Some v)) _ (λ findings seen. (found_of p seen.rows, seen.there, seen.so))
              (sees p serial attempt (passed-keeps p serial attempt seat passed) (passed-unit p serial attempt seat passed) _ (charged h).truth);
        }
    stopped-late (RigFault rig) h = record {
      keeps = passed-keeps p serial attempt seat (going h.0.goes);
      cause = (inr (late-stop h.0.goes), rose-since old.faults t.faults (state rig).faults (omega (arith, seat.called.cause.later, wired.wiring.reads.cause.later)) h.1);
      told = told-always (told_by p old) _ (λ findings. tt);
    }
    stopped-late (NotZero rig) h =
        let passed = passing h.happens h.no_reading in
        record { keeps = passed-keeps p serial attempt seat passed; cause = stuck h; told = there passed }
    stopped-late (Memory rig) h = record { keeps = passed-keeps p serial attempt seat (going h.goes); cause = inr (late-stop h.goes); told = told-always (told_by p old) _ (λ findings. tt) }

-- the test of a seated unit was stopped
pub stopped : {R : Type 0} (state : R → RigState) (p : Program) → IsProgram p → (serial : List ℕ) (attempt : ℕ) {old s : RigState} → Seats old s serial attempt (Ok Present) → p.nets.points ≡ old.points → old.volts ≡ 0
    → (stop : UnitStop R) → StopsReading state p s stop ⊎ StopsProven state p s stop → IsStopped state p serial attempt old stop
stopped state p ok serial attempt seat points zeroed stop (inl h) = stopped-reading state p ok serial attempt seat points zeroed stop h
stopped state p ok serial attempt seat points zeroed stop (inr h) = stopped-late state p ok serial attempt seat points zeroed h.wired stop h.stops

-- whatever it answered
pub ended : {R : Type 0} (state : R → RigState) (p : Program) → IsProgram p → (serial : List ℕ) (attempt : ℕ) {old s : RigState} → Seats old s serial attempt (Ok Present) → p.nets.points ≡ old.points → old.volts ≡ 0
    → (result : Result (UnitRun R) (UnitStop R)) → EndsSeated state p s result → RunsUnit state p serial attempt old result
ended state p ok serial attempt seat points zeroed (Ok run) h = tested p ok serial attempt seat points zeroed run.outcome h
ended state p ok serial attempt seat points zeroed (Err stop) h = stopped state p ok serial attempt seat points zeroed stop h

-- ---- a seat without a unit

module _ (p : Program) (serial : List ℕ) (attempt : ℕ) {old : RigState} (zeroed : old.volts ≡ 0) where
  -- what a refused seat leaves
  refused-keeps : {u : RigState} {e : RigStop} → Seats old u serial attempt (Err e) → HasNotFallen old.seats u.seats → Keeps old u
  refused-keeps call seats =
      let frame = call.err in
      record {
        points = ap (λ (v : RigState). v.points) frame;
        honest = ap (λ (v : RigState). v.honest) frame;
        units = ap (λ (v : RigState). v.units) frame;
        states = ap (λ (v : RigState). v.states) frame;
        most_faults = ap (λ (v : RigState). v.most_faults) frame;
        most_opens = ap (λ (v : RigState). v.most_opens) frame;
        trail = ap (λ (v : RigState). is_some v.trail) frame;
        tallies = ap (λ (v : RigState). is_some v.tallies) frame;
        faults = call.called.cause.later;
        opens = let is = ap (λ (v : RigState). v.opens) frame in omega arith;
        spent = let is = ap (λ (v : RigState). v.spent) frame in omega arith;
        seats = seats;
        told = call.called.told;
      }

  absent-keeps : {u : RigState} → Seats old u serial attempt (Ok Absent) → Keeps old u
  absent-keeps call =
      let frame = call.absent refl in
      record {
        points = ap (λ (v : RigState). v.points) frame;
        honest = ap (λ (v : RigState). v.honest) frame;
        units = ap (λ (v : RigState). v.units) frame;
        states = ap (λ (v : RigState). v.states) frame;
        most_faults = ap (λ (v : RigState). v.most_faults) frame;
        most_opens = ap (λ (v : RigState). v.most_opens) frame;
        trail = ap (λ (v : RigState). is_some v.trail) frame ∙ mapped-told _ old.trail;
        tallies = ap (λ (v : RigState). is_some v.tallies) frame;
        faults = call.called.cause.later;
        opens = let is = ap (λ (v : RigState). v.opens) frame in omega arith;
        spent = let is = ap (λ (v : RigState). v.spent) frame in omega arith;
        seats = let is = call.seats (λ e. cc) in omega arith;
        told = call.called.told;
      }

  pub unseated : {R : Type 0} (state : R → RigState) (stop : SeatStop R) → Seats old (state (seat_stop_rig stop)) serial attempt (seat_stop_answer stop) → IsStopped state p serial attempt old (seat_stop stop)
  unseated state (seat.Absent rig) call = record {
    keeps = absent-keeps call;
    cause = (call, ap (λ (v : RigState). v.volts) (call.absent refl) ∙ zeroed);
    told = tells-none p serial attempt old (call.no_unit refl);
  }
  unseated state (seat.Rig rig) call = record {
    keeps = refused-keeps call (let is = call.seats (λ e. cc) in omega arith);
    cause = (inl (record { frame = call.err }, ap (λ (v : RigState). v.volts) call.err ∙ zeroed), call.called.cause.rose refl);
    told = told-always (told_by p old) _ (λ findings. tt);
  }
  unseated state (seat.Memory rig) call = record {
    keeps = refused-keeps call (let is = ap (λ (v : RigState). v.seats) (call.called.memory refl) in omega arith);
    cause = inl (record { frame = call.err }, ap (λ (v : RigState). v.volts) call.err ∙ zeroed);
    told = told-always (told_by p old) _ (λ findings. tt);
  }
