-- What each outcome of a call leaves of a simulator.
use Rattle.std.proofs.Common.{◌≡◌, ◌⊎◌, ℕ, zero, suc, ◌+◌, ◌-◌, ◌^◌, ◌≤◌, Bool, true, false, cond, List, [], ◌∷◌, Option, Some, None, Result, Ok, Err, refl, sym, ◌∙◌, ap, subst, ⊎_elim, arith}
use Rattle.std.specs.Prelude.{All, IsTrue, IfSome, IfOk, OnErr, slice_get, option_map, ◌↔◌}
use Rattle.std.specs.Result.{result_err}
use Rattle.rig.specs.declared.event.Event.{Event}
use Rattle.rig.specs.declared.event.Event.TheVariants.{Reading, Ohms, Junction, Door, Route as RouteEvent, Raise, Leak, Zero, Residual, Tick}
use Rattle.rig.specs.declared.unit.Row.{Row}
use Rattle.rig.specs.declared.unit.Unit.{Unit as HarnessUnit}
use Rattle.base.specs.declared.memory.Memory.{Memory as NoMemory}
use Rattle.rig.specs.declared.rig.RigStop.{RigStop}
use Rattle.rig.specs.declared.rig.RigStop.TheVariants.{Failed, Memory}
use Rattle.rig.specs.Calls.{AreGroups, AreJoined, Raises}
use Rattle.rig.specs.Happened.{Called, IsTold, Records, Refuses, opens_after, route_after, spent_after}
use Rattle.rig.specs.Joins.{IsRowBelow, joined_classes}
use Rattle.rig.specs.RigState.{Groups}
use Rattle.harness.specs.Harness.{IsUnitOf}
use Rattle.rig_sim.specs.declared.sim_rig.SimRig.TheInside.{Inside}
use Rattle.rig_sim.specs.declared.fixture.Route.{Route}
use Rattle.rig_sim.specs.Counters.{Counted, IsNext, next_count, numbers_to}
use Rattle.rig_sim.specs.Fixture.{met_by}
use Rattle.rig_sim.specs.Logs.{Logged, with_event}
use Rattle.rig_sim.specs.SimRig.{SimState, Counts, IsPlainEvent, failed_once, more_faults, with_call, with_command, rows_of}
use Rattle.rig_sim.specs.SimView.{groups_of, sim_state, IsSim}
use Rattle.std.proofs.lemmas.List.Elements.{All-head, All-tail}
use Rattle.rig_sim.proofs.Marks.{met_joined}
use Rattle.rig_sim.proofs.Numbers.{numbers_to-most}

-- every simulator is told
pub sim_told : (a : Inside) → IsSim a → IsTold (sim_state a).state
sim_told a sim = record {
  faults = λ spent seats. let h = sim.few_faults spent seats in let k = numbers_to-most a.calls.listed a.calls.count in omega arith;
  opens = let h = sim.few_opens in let k = numbers_to-most a.doors.listed a.doors.count in omega arith;
  tallies = λ h. refl;
  coming = λ h. refl;
  left = refl;
  few = omega arith;
}

-- What a call does that is an event where it is answered, and nothing else.
pub record Answers {X : Type 0} (old new : SimState) (event : X → Event) (full : Type 0) (result : Result X RigStop) : Type 0 where
  pub called : Called old.state new.state (result_err result)
  pub ok : IfOk result (λ x. Records old.state new.state (event x))
  pub err : OnErr result (Refuses old.state new.state)
  pub spare : old.state.spare ≤ new.state.spare
  pub counts : Counts old new full (result_err result)

pub answers_failed : {X : Type 0} (old new : SimState) (event : X → Event) (full : Type 0) (stop : RigStop) → stop ≡ Failed → new ≡ failed_once old → old.state.faults ≤ new.state.faults → IsTold new.state → IsNext old.calls ⊎ full →
    Answers old new event full (Err stop)
answers_failed {X} old new event full stop is sim later told why = rw is (record {
  called = record {
    cause = record { later = later; rose = λ e. let h = ap (λ (s : SimState). s.state.faults) sim in omega arith };
    no_fault = λ h. absurd (h refl);
    memory = λ e. cc;
    told = told;
  };
  ok = tt;
  err = rw sim refl;
  spare = let h = ap (λ (s : SimState). s.state.spare) sim in omega arith;
  counts = record { counted = λ h. ap (λ (s : SimState). s.calls) sim; memory = λ e. cc; failed = λ h. (λ e. why, λ w. refl) };
})

pub answers_memory : {X : Type 0} (old new : SimState) (event : X → Event) (full : Type 0) (stop : RigStop) → stop ≡ Memory → new ≡ old → IsTold new.state → Answers {X = X} old new event full (Err stop)
answers_memory {X} old new event full stop is sim told = rw is (record {
  called = record {
    cause = record { later = let h = ap (λ (s : SimState). s.state.faults) sim in omega arith; rose = λ e. cc };
    no_fault = λ h. ap (λ (s : SimState). s.state.faults) sim;
    memory = λ e. rw sim refl;
    told = told;
  };
  ok = tt;
  err = rw sim refl;
  spare = let h = ap (λ (s : SimState). s.state.spare) sim in omega arith;
  counts = record { counted = λ h. absurd (h refl); memory = λ e. ap (λ (s : SimState). s.calls) sim; failed = λ h. absurd (h refl) };
})

pub answers_ok : {X : Type 0} (old new : SimState) (event : X → Event) (full : Type 0) (x : X) → new ≡ with_call (event x) old.state.spare old → IsTold new.state → (IsNext old.calls → ⊥) → (full → ⊥) → Answers old new event full (Ok x)
answers_ok {X} old new event full x sim told next room = record {
  called = record {
    cause = record { later = let h = ap (λ (s : SimState). s.state.faults) sim in omega arith; rose = λ e. cc };
    no_fault = λ h. ap (λ (s : SimState). s.state.faults) sim;
    memory = λ e. cc;
    told = told;
  };
  ok = rw sim refl;
  err = tt;
  spare = let h = ap (λ (s : SimState). s.state.spare) sim in omega arith;
  counts = record { counted = λ h. ap (λ (s : SimState). s.calls) sim; memory = λ e. cc; failed = λ h. (λ e. cc, λ w. ⊎_elim (λ n. absurd (next n)) (λ f. absurd (room f)) w) };
}

-- ---- readings of the unit in the fixture

pub by_truth : {X : Type 0} (o : Option (List Row)) (shown : List Row) (classes : List ℕ) (points : ℕ) (f : List ℕ → List Row → X) (r : X) → IfSome o (λ rows. shown ≡ rows) → IfSome o (λ rows. classes ≡ joined_classes rows points) → r ≡ f classes shown →
    IfSome o (λ rows. r ≡ f (joined_classes rows points) rows)
by_truth None shown classes points f r same joined is = tt
by_truth (Some rows) shown classes points f r same joined is = is ∙ ap (λ (rs : List Row). f classes rs) same ∙ ap (λ (m : List ℕ). f m rows) joined

unit_sound : (units : List HarnessUnit) (points i : ℕ) (unit : HarnessUnit) → All (IsUnitOf points) units → slice_get units i ≡ Some unit → IsUnitOf points unit
unit_sound [] points i unit all at = cc
unit_sound (u ∷ units) points zero unit all at = let e : u ≡ unit = cc in subst (IsUnitOf points) e (All-head (IsUnitOf points) u units all)
unit_sound (u ∷ units) points (suc i) unit all at = unit_sound units points i unit (All-tail (IsUnitOf points) u units all) at

pub unit_of : (units : List HarnessUnit) (points i : ℕ) (unit : HarnessUnit) → All (IsUnitOf points) units → slice_get units i ≡ Some unit → IsUnitOf points unit
unit_of units points i unit all at = unit_sound units points i unit all at

rows_sound : (units : List HarnessUnit) (points i : ℕ) (found : Option HarnessUnit) → slice_get units i ≡ found → All (IsUnitOf points) units → IfSome (option_map (λ (u : HarnessUnit). u.rows) found) (All (IsRowBelow points))
rows_sound units points i None at all = tt
rows_sound units points i (Some unit) at all = (unit_sound units points i unit all at).below

pub rows_below : (units : List HarnessUnit) (points : ℕ) (place : Option ℕ) → All (IsUnitOf points) units → IfSome (rows_of units place) (All (IsRowBelow points))
rows_below units points None all = tt
rows_below units points (Some i) all = rows_sound units points i (slice_get units i) refl all

pub groups_by_truth : (o : Option (List Row)) (classes a b : List ℕ) (points : ℕ) (met : Bool) → IfSome o (All (IsRowBelow points)) → IfSome o (λ rows. classes ≡ joined_classes rows points) → AreGroups points a b → met ≡ met_by classes a b →
    IfSome o (λ rows. IsTrue met ↔ AreJoined rows a b)
groups_by_truth None classes a b points met below joined groups is = tt
groups_by_truth (Some rows) classes a b points met below joined groups is = rw is (met_joined rows points classes a b below joined groups)

pub met_of : (r : Result Bool NoMemory) (o : Option (List Row)) (classes a b : List ℕ) (points : ℕ) → IfSome o (All (IsRowBelow points)) → IfSome o (λ rows. classes ≡ joined_classes rows points) → AreGroups points a b → IfOk r (λ met. met ≡ met_by classes a b) →
    IfOk r (λ met. IfSome o (λ rows. IsTrue met ↔ AreJoined rows a b))
met_of (Ok met) o classes a b points below joined groups is = groups_by_truth o classes a b points met below joined groups is
met_of (Err e) o classes a b points below joined groups is = tt

-- ---- events

pub route_plain : (r : Option Groups) (event : Event) → IsPlainEvent event → route_after r event ≡ r
route_plain r (Reading a b met) plain = refl
route_plain r (Ohms a b x) plain = refl
route_plain r (Junction a b d) plain = refl
route_plain r (Leak g) plain = refl
route_plain r (Residual v) plain = refl
route_plain r Tick plain = refl
route_plain r (Door closed) plain = absurd plain
route_plain r (RouteEvent a b) plain = absurd plain
route_plain r (Raise v done) plain = absurd plain
route_plain r (Zero done) plain = absurd plain

pub opens_plain : (n : ℕ) (event : Event) → IsPlainEvent event → opens_after n event ≡ n
opens_plain n (Reading a b met) plain = refl
opens_plain n (Ohms a b x) plain = refl
opens_plain n (Junction a b d) plain = refl
opens_plain n (Leak g) plain = refl
opens_plain n (Residual v) plain = refl
opens_plain n Tick plain = refl
opens_plain n (Door closed) plain = absurd plain
opens_plain n (RouteEvent a b) plain = absurd plain
opens_plain n (Raise v done) plain = absurd plain
opens_plain n (Zero done) plain = absurd plain

spent_grows : (n : ℕ) (event : Event) → n ≤ spent_after n event
spent_grows n (Reading a b met) = omega arith
spent_grows n (Ohms a b x) = omega arith
spent_grows n (Junction a b d) = omega arith
spent_grows n (Leak g) = omega arith
spent_grows n (Residual v) = omega arith
spent_grows n Tick = omega arith
spent_grows n (Door closed) = omega arith
spent_grows n (RouteEvent a b) = omega arith
spent_grows n (Raise v done) = omega arith
spent_grows n (Zero done) = omega arith

-- a simulator after an event that is no command that failed
pub sim_event : (a : Inside) (calls doors : Counted) (log : Logged) (route : Option Route) (event : Event) (spare : ℕ) → IsSim a → calls ≡ next_count a.calls → numbers_to a.calls.count a.calls.listed ≤ numbers_to calls.count a.calls.listed →
    log ≡ with_event event spare a.log → opens_after a.log.meter.opens event ≤ numbers_to doors.count doors.listed → spare ≤ 3 → IfSome route (λ r. AreGroups a.points r.left r.right) →
    IsSim (record a { calls = calls; doors = doors; log = log; route = route })
sim_event a calls doors log route event spare sim counted left logged opens few_spare routed = record {
  some_points = sim.some_points;
  few_points = sim.few_points;
  units = sim.units;
  placed = sim.placed;
  routed = routed;
  size = sim.size;
  all = sim.all;
  joined = sim.joined;
  room = let h = ap (λ (l : Logged). l.trail.spare) logged in omega arith;
  fits = sim.fits;
  seats_fits = sim.seats_fits;
  few_faults = λ spent seats.
      let meter : log.meter.spent ≡ spent_after a.log.meter.spent event = ap (λ (l : Logged). l.meter.spent) logged in
      let grows = spent_grows a.log.meter.spent event in
      let few = sim.few_faults (omega arith) seats in
      let same : calls.listed ≡ a.calls.listed = ap (λ (c : Counted). c.listed) counted in
      subst (λ (ks : List ℕ). a.faults ≤ numbers_to calls.count ks) (sym same) (omega arith);
  few_opens = let meter : log.meter.opens ≡ opens_after a.log.meter.opens event = ap (λ (l : Logged). l.meter.opens) logged in omega arith;
}

pub record_is : (a : Inside) (calls : Counted) (log : Logged) (event : Event) → IsPlainEvent event → calls ≡ next_count a.calls → log ≡ with_event event a.log.trail.spare a.log →
    sim_state (record a { calls = calls; log = log }) ≡ with_call event (sim_state a).state.spare (sim_state a)
record_is a calls log event plain counted logged = rw counted (rw logged (rw (route_plain (option_map groups_of a.route) event plain) refl))

door_opens : (n a b : ℕ) (closed : Bool) → n ≤ a → a ≤ b → (closed ≡ false → a + 1 ≤ b) → opens_after n (Door closed) ≤ b
door_opens n a b true few kept more = omega arith
door_opens n a b false few kept more = let h = more refl in omega arith

pub sim_door : (a : Inside) (calls doors : Counted) (log : Logged) (closed : Bool) → IsSim a → calls ≡ next_count a.calls → numbers_to a.calls.count a.calls.listed ≤ numbers_to calls.count a.calls.listed →
    log ≡ with_event (Door closed) a.log.trail.spare a.log → doors ≡ next_count a.doors → numbers_to a.doors.count a.doors.listed ≤ numbers_to doors.count a.doors.listed →
    (IsNext a.doors → numbers_to a.doors.count a.doors.listed + 1 ≤ numbers_to doors.count a.doors.listed) → (closed ≡ false → IsNext a.doors) →
    IsSim (record a { calls = calls; doors = doors; log = log })
sim_door a calls doors log closed sim counted left logged doors_are kept more open_ =
    let same : doors.listed ≡ a.doors.listed = ap (λ (c : Counted). c.listed) doors_are in
    sim_event a calls doors log a.route (Door closed) a.log.trail.spare sim counted left logged
    (subst (λ (ks : List ℕ). opens_after a.log.meter.opens (Door closed) ≤ numbers_to doors.count ks) (sym same)
    (door_opens a.log.meter.opens (numbers_to a.doors.count a.doors.listed) (numbers_to doors.count a.doors.listed) closed sim.few_opens kept (λ e. more (open_ e))))
    sim.room sim.routed

-- a command to the source, which is a fault where it failed
pub sim_command : (a : Inside) (calls : Counted) (log : Logged) (faults : ℕ) (done : Bool) (event : Event) (spare : ℕ) → IsSim a → calls ≡ next_count a.calls → numbers_to a.calls.count a.calls.listed ≤ numbers_to calls.count a.calls.listed →
    (IsNext a.calls → numbers_to a.calls.count a.calls.listed + 1 ≤ numbers_to calls.count a.calls.listed) → (done ≡ false → IsNext a.calls) → faults ≡ cond done a.faults (more_faults a.faults) →
    log ≡ with_event event spare a.log → opens_after a.log.meter.opens event ≡ a.log.meter.opens → spare ≤ 3 →
    IsSim (record a { calls = calls; log = log; faults = faults })
sim_command a calls log faults done event spare sim counted left more failed faults_are logged opens few_spare =
    let few = sim.few_opens in
    let next = sim_event a calls a.doors log a.route event spare sim counted left logged (omega arith) few_spare sim.routed in record {
      some_points = sim.some_points;
      few_points = sim.few_points;
      units = sim.units;
      placed = sim.placed;
      routed = sim.routed;
      size = sim.size;
      all = sim.all;
      joined = sim.joined;
      room = next.room;
      fits = fits_of done faults_are;
      seats_fits = sim.seats_fits;
      few_faults = λ spent seats.
          let meter : log.meter.spent ≡ spent_after a.log.meter.spent event = ap (λ (l : Logged). l.meter.spent) logged in
          let grows = spent_grows a.log.meter.spent event in
          let had = sim.few_faults (omega arith) seats in
          let same : calls.listed ≡ a.calls.listed = ap (λ (c : Counted). c.listed) counted in
          subst (λ (ks : List ℕ). faults ≤ numbers_to calls.count ks) (sym same) (bound done faults_are failed had);
      few_opens = next.few_opens;
    }
  where
    fits_of : (d : Bool) → faults ≡ cond d a.faults (more_faults a.faults) → faults ≤ 2 ^ 64 - 1
    fits_of true e = let h = sim.fits in omega arith
    fits_of false e = omega arith

    bound : (d : Bool) → faults ≡ cond d a.faults (more_faults a.faults) → (d ≡ false → IsNext a.calls) → a.faults ≤ numbers_to a.calls.count a.calls.listed → faults ≤ numbers_to calls.count a.calls.listed
    bound true e why had = omega arith
    bound false e why had = let h = more (why refl) in omega arith

-- a simulator that was refused
pub sim_same : (a : Inside) (log : Logged) → log ≡ a.log → IsSim a → IsTold (sim_state (record a { log = log })).state
sim_same a log same sim = subst (λ (l : Logged). IsTold (sim_state (record a { log = l })).state) (sym same) (sim_told a sim)

pub command_is : (a : Inside) (calls : Counted) (log : Logged) (faults : ℕ) (done : Bool) (event : Event) (spare : ℕ) → calls ≡ next_count a.calls → faults ≡ cond done a.faults (more_faults a.faults) → log ≡ with_event event spare a.log →
    route_after (option_map groups_of a.route) event ≡ option_map groups_of a.route →
    sim_state (record a { calls = calls; log = log; faults = faults }) ≡ with_command event spare done (sim_state a)
command_is a calls log faults done event spare counted faults_are logged route = rw counted (rw faults_are (rw logged (rw route refl)))

-- ---- commands to the source

pub raises_failed : (old new : SimState) (volts : ℕ) (done : Bool) → done ≡ false → new ≡ with_command (Raise volts done) 3 done old → IsTold new.state → old.state.faults ≤ new.state.faults → old.state.spare ≤ 3 → Raises old.state new.state volts (Err Failed)
raises_failed old new volts done is sim told later room =
    let so : new ≡ with_command (Raise volts false) 3 false old = subst (λ d. new ≡ with_command (Raise volts d) 3 d old) is sim in record {
      called = record {
        cause = record { later = later; rose = λ e. let h = ap (λ (s : SimState). s.state.faults) so in omega arith };
        no_fault = λ h. absurd (h refl);
        memory = λ e. cc;
        told = told;
      };
      ok = tt;
      failed = λ e. rw so refl;
      memory = λ e. cc;
      room = λ h. let s = ap (λ (s : SimState). s.state.spare) so in omega arith;
      spare = let s = ap (λ (s : SimState). s.state.spare) so in omega arith;
    }

pub raises_done : (old new : SimState) (volts : ℕ) (done : Bool) → done ≡ true → new ≡ with_command (Raise volts done) 3 done old → IsTold new.state → old.state.spare ≤ 3 → Raises old.state new.state volts (Ok tt)
raises_done old new volts done is sim told room =
    let so : new ≡ with_command (Raise volts true) 3 true old = subst (λ d. new ≡ with_command (Raise volts d) 3 d old) is sim in record {
      called = record {
        cause = record { later = let h = ap (λ (s : SimState). s.state.faults) so in omega arith; rose = λ e. cc };
        no_fault = λ h. ap (λ (s : SimState). s.state.faults) so;
        memory = λ e. cc;
        told = told;
      };
      ok = rw so refl;
      failed = λ e. cc;
      memory = λ e. cc;
      room = λ h. let s = ap (λ (s : SimState). s.state.spare) so in omega arith;
      spare = let s = ap (λ (s : SimState). s.state.spare) so in omega arith;
    }
