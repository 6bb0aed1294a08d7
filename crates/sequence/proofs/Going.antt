-- Events after the wiring, one after the other, and stops after them.
use Rattle.std.proofs.Common.{◌≡◌, ◌≤◌, ◌⊎◌, ◌^◌, ◌-◌, min, inl, inr, ℕ, zero, suc, Bool, true, false, List, [], ◌∷◌, ◌++◌, Option, Some, None, IsTrue, refl, sym, ◌∙◌, ap, subst, arith, append_assoc}
use Rattle.std.specs.Prelude.{All, IfSome, IsSome, is_some, nat_le, ◌||◌, ◌&&◌}
use Rattle.std.proofs.lemmas.Bool.{le-leb}
use Rattle.std.proofs.lemmas.List.Elements.{All-append, All-head, All-nil}
use Rattle.base.specs.Causes.{Rose}
use Rattle.partition.specs.NetTable.{programmed_of}
use Rattle.rig.specs.Happened.{Happens}
use Rattle.rig.specs.RigState.{RigState}
use Rattle.rig.specs.Source.{Source, source_from}
use Rattle.rig.specs.Trail.{IsOfSource}
use Rattle.rig.specs.Discharge.{most_waits}
use Rattle.rig.specs.declared.event.Event.{Event}
use Rattle.rig.specs.declared.event.Event.TheVariants.{Door, Leak, Raise, Residual, Route, Tick, Zero}
use Rattle.rig.specs.declared.rig.RigStop.{RigStop}
use Rattle.rig.specs.declared.rig.RigStop.TheVariants.{Failed}
use Rattle.rig.specs.declared.unit.Row.{Row}
use Rattle.rig.specs.Values.{charge_of}
use Rattle.rig.proofs.Happening.{Happens-honest, Happens-none, Happens-then, Happens-trail, Happens-truth, all_right, followed}
use Rattle.rig.proofs.Order.{source_from-append}
use Rattle.wirelist.specs.Clusters.{cluster_classes, cluster_count}
use Rattle.wirelist.specs.declared.program.Program.{Program}
use Rattle.applications.specs.Charge.{lasting}
use Rattle.applications.specs.Measuring.{HvStopped, IsNotCharged, Runs}
use Rattle.applications.specs.Ordered.{StopsAtZero, StopsInOrder}
use Rattle.applications.specs.declared.stop.HvStop.{HvStop}
use Rattle.applications.specs.declared.stop.HvStop.TheVariants as hv
use Rattle.applications.proofs.NotCharged.{IsNoResidual, charged-append, charged-none}
use Rattle.applications.proofs.Resting.{opens-all}
use Rattle.hv.specs.Alone.{IsUntouched}
use Rattle.unit_outcome.specs.Defined.{has_voltage, voltage_charge}
use Rattle.unit_outcome.specs.Spent.{OfRows}
use Rattle.unit_outcome.specs.Tested.{HasNotFallen, IsInOrderOf}
use Rattle.unit_outcome.specs.declared.run.UnitStop.{UnitStop}
use Rattle.unit_outcome.specs.declared.run.UnitStop.TheVariants.{Empty, InterlockOpen, NotDischarged, RigFault, NotZero, Memory}
use Rattle.sequence.specs.Halted.{unit_stop}
use Rattle.sequence.specs.Stages.{Goes, IsNoReading, LateCharged, LateCut, LateOpen, LateStuck, StopsLate}

-- ---- events

source-no_reading : (e : Event) → IsOfSource e → IsNoReading e
source-no_reading (Door closed) h = tt
source-no_reading (Route a b) h = tt
source-no_reading (Raise v done) h = tt
source-no_reading (Leak g) h = tt
source-no_reading (Zero done) h = tt
source-no_reading (Residual v) h = tt
source-no_reading Tick h = tt
source-no_reading _ h = absurd h

pub all-each : {P Q : Event → Type 0} (es : List Event) → ((e : Event) → P e → Q e) → All P es → All Q es
all-each es f all = λ k d lt. f _ (all k d lt)

pub source-no_readings : (es : List Event) → All IsOfSource es → All IsNoReading es
source-no_readings es all = all-each es source-no_reading all

-- no residual is the last
pub not_charged-of : (es : List Event) → All IsNoResidual es → IsNotCharged es
not_charged-of es all = λ before v is high s.
    absurd (All-head IsNoResidual (Residual v) [] (all_right IsNoResidual before (Residual v ∷ []) (subst (All IsNoResidual) is all)))

-- ---- what an honest rig says, after some events

told-after : (es : List Event) (o : Option (List Event)) → IsSome o → IsSome (followed es o)
told-after es None told = told
told-after es (Some trail) told = refl

pub rows-before : {s t : RigState} {es : List Event} {stop : Option RigStop} (P : List Row → Type 0) → Happens s t es stop → OfRows t P → OfRows s P
rows-before {s} {t} {es} {stop} P h says = λ honest told.
    subst (λ (o : Option (List Row)). IfSome o P) (Happens-truth h)
    (says (subst IsTrue (sym (Happens-honest h)) honest) (subst (λ (o : Option (List Event)). IsSome o) (sym (Happens-trail h)) (told-after es s.trail told)))

-- both of two facts
pub rows-both : (s : RigState) (P Q S : List Row → Type 0) → ((rows : List Row) → P rows → Q rows → S rows) → OfRows s P → OfRows s Q → OfRows s S
rows-both s P Q S f first second = λ honest told. at s.truth (first honest told) (second honest told)
  where
    at : (o : Option (List Row)) → IfSome o P → IfSome o Q → IfSome o S
    at None h k = tt
    at (Some rows) h k = f rows h k

pub rows-each : (s : RigState) (P Q : List Row → Type 0) → ((rows : List Row) → P rows → Q rows) → OfRows s P → OfRows s Q
rows-each s P Q f first = rows-both s P P Q (λ rows h k. f rows h) first first

pub rows-all : (s : RigState) (P : List Row → Type 0) → ((rows : List Row) → P rows) → OfRows s P
rows-all s P f = λ honest told. at s.truth
  where
    at : (o : Option (List Row)) → IfSome o P
    at None = tt
    at (Some rows) = f rows

-- ---- one after the other

abbrev pub goes-none : (p : Program) (s : RigState) → s.volts ≡ 0 → Goes p s s None
goes-none p s zeroed = record { events = []; happens = Happens-none s; no_reading = All-nil IsNoReading; not_charged = charged-none; order = λ h. h; at_zero = zeroed }

abbrev pub goes-then : {p : Program} {s t u : RigState} {stop : Option RigStop} → Goes p s t None → Goes p t u stop → Goes p s u stop
goes-then {p} {s} {t} {u} first second = record {
  events = first.events ++ second.events;
  happens = Happens-then first.happens second.happens;
  no_reading = All-append IsNoReading first.events second.events first.no_reading second.no_reading;
  not_charged = charged-append first.events second.events first.not_charged second.not_charged;
  order = λ h. second.order (first.order h);
  at_zero = second.at_zero;
}

abbrev pub goes-runs : (p : Program) {s t : RigState} {es : List Event} {stop : Option RigStop} → Runs (cluster_classes p) s t es stop → (IsInOrderOf p s → IsInOrderOf p t) → t.volts ≡ 0 → Goes p s t stop
goes-runs p {s} {t} {es} runs order zeroed = record {
  events = es;
  happens = runs.happens;
  no_reading = source-no_readings es runs.of_source;
  not_charged = runs.not_charged;
  order = order;
  at_zero = zeroed;
}

-- a later stop
rose-later : (a b c : ℕ) → HasNotFallen a b → Rose b c → Rose a c
rose-later a b c le rose = omega arith

not_fallen : (a b : ℕ) → a ≤ b → HasNotFallen a b
not_fallen a b le = omega arith

pub opens-kept : {s t : RigState} {es : List Event} {stop : Option RigStop} → Happens s t es stop → HasNotFallen s.opens t.opens
opens-kept {s} {t} {es} h = subst (λ (n : ℕ). min s.opens (2 ^ 64 - 1) ≤ n) (sym (ap (λ (x : RigState). x.opens) h.frame)) (opens-all s.opens es s (omega arith))

module _ {R : Type 0} (state : R → RigState) (p : Program) {s t : RigState} (first : Goes p s t None) (due later : List Row → Option ℕ) where
  later-open : {u : RigState} → LateOpen p t u → LateOpen p s u
  later-open {u} h =
      let door = h.door in
      record {
        goes = goes-then first h.goes;
        door = record {
          before = first.events ++ door.before;
          after = door.after;
          events_are = ap (λ (es : List Event). first.events ++ es) door.events_are ∙ sym (append_assoc first.events door.before (Door false ∷ door.after));
          no_door = door.no_door;
        };
        opens = rose-later s.opens t.opens u.opens (opens-kept first.happens) h.opens;
      }

  later-charged : {u : RigState} {v : ℕ} → (OfRows s (λ rows. later rows ≡ Some v) → OfRows s (λ rows. due rows ≡ Some v)) → LateCharged p later t u v → LateCharged p due s u v
  later-charged {u} {v} f h =
      let ends = h.ends in
      record {
        events = first.events ++ h.events;
        happens = Happens-then first.happens h.happens;
        no_reading = All-append IsNoReading first.events h.events first.no_reading h.no_reading;
        order = λ k. h.order (first.order k);
        at_zero = h.at_zero;
        ends = record {
          before = first.events ++ ends.before;
          events_are = ap (λ (es : List Event). first.events ++ es) ends.events_are ∙ sym (append_assoc first.events ends.before (Residual v ∷ []));
          above = ends.above;
          waited = λ x. let P : Source → Type 0 = λ y. most_waits ≤ y.ticks in subst P (sym (source_from-append x first.events ends.before)) (ends.waited (source_from x first.events));
        };
        truth = f (rows-before (λ rows. later rows ≡ Some v) first.happens h.truth);
      }

  later-stuck : {u : RigState} → LateStuck p t u → LateStuck p s u
  later-stuck {u} h = record {
    events = first.events ++ h.events;
    stop = h.stop;
    happens = Happens-then first.happens h.happens;
    no_reading = All-append IsNoReading first.events h.events first.no_reading h.no_reading;
    not_charged = charged-append first.events h.events first.not_charged h.not_charged;
    order = λ k. h.order (first.order k);
    rose = rose-later s.faults t.faults u.faults (not_fallen s.faults t.faults first.happens.cause.later) h.rose;
  }

  later-cut : {u : RigState} → LateCut p t u → LateCut p s u
  later-cut h = record { stop = h.stop; goes = goes-then first h.goes }

  pub stops-later : ((v : ℕ) → OfRows s (λ rows. later rows ≡ Some v) → OfRows s (λ rows. due rows ≡ Some v)) → (stop : UnitStop R) → StopsLate state p later t stop → StopsLate state p due s stop
  stops-later f (Empty rig) h = h
  stops-later f (InterlockOpen rig) h = later-open h
  stops-later f (NotDischarged rig v) h = later-charged (f v) h
  stops-later f (RigFault rig) h = (later-cut h.0, rose-later s.faults t.faults (state rig).faults (not_fallen s.faults t.faults first.happens.cause.later) h.1)
  stops-later f (NotZero stuck) h = later-stuck h
  stops-later f (Memory rig) h = later-cut h

-- ---- a stop of a test at high voltage

two_or_less : (c : ℕ) → (2 ≤ c) ⊎ (c ≤ 1)
two_or_less zero = inr (omega arith)
two_or_less (suc zero) = inr (omega arith)
two_or_less (suc (suc c)) = inl (omega arith)

-- so many volts last on a unit that is tested
pub lasting-charge : (p : Program) (rows : List Row) (volts : Option ℕ) → (is_some p.insulation || is_some p.withstand) ≡ true → 2 ≤ cluster_count p → lasting (charge_of rows) ≡ volts → voltage_charge p rows ≡ volts
lasting-charge p rows volts some two is =
    let has : has_voltage p ≡ true = ap (λ (b : Bool). b && nat_le 2 (cluster_count p)) some ∙ le-leb 2 (cluster_count p) two in
    rw has is

module _ {R : Type 0} (state : R → RigState) (p : Program) (some : (is_some p.insulation || is_some p.withstand) ≡ true) (s : RigState) (rig : R) where
  late-charged : (safe : _) (v : ℕ) → HvStopped state (cluster_classes p) s (hv.NotDischarged safe v) → (IsInOrderOf p s → IsInOrderOf p (state safe.rig)) → (state safe.rig).volts ≡ 0
      → (cluster_count p ≤ 1 → ⊥) → LateCharged p (voltage_charge p) s (state safe.rig) v
  late-charged safe v h order zeroed alone = record {
    events = h.events;
    happens = h.happens;
    no_reading = source-no_readings h.events h.of_source;
    order = order;
    at_zero = zeroed;
    ends = h.charged;
    truth =
        elim (two_or_less (cluster_count p)) as (λ _. OfRows s (λ rows. voltage_charge p rows ≡ Some v)) [
          | inl two ↦ rows-each s (λ rows. lasting (charge_of rows) ≡ Some v) (λ rows. voltage_charge p rows ≡ Some v) (λ rows is. lasting-charge p rows (Some v) some two is) h.lasts
          | inr few ↦ absurd (alone few)
        ];
  }

  pub late-of : (stop : HvStop R) → HvStopped state (cluster_classes p) s stop → (IsInOrderOf p s → StopsInOrder state (programmed_of p.nets) (cluster_classes p) stop) → StopsAtZero state stop
      → (cluster_count p ≤ 1 → IsUntouched rig stop) → StopsLate state p (voltage_charge p) s (unit_stop stop)
  late-of (hv.InterlockOpen safe) h order zeroed alone = record { goes = goes-runs p h.runs order zeroed; door = h.door; opens = h.opens }
  late-of (hv.NotDischarged safe v) h order zeroed alone = late-charged safe v h order zeroed alone
  late-of (hv.RigWhileSafe safe) h order zeroed alone = (record { stop = Some Failed; goes = goes-runs p h.runs order zeroed }, h.runs.happens.cause.rose refl)
  late-of (hv.RigBefore proven) h order zeroed alone = (record { stop = Some Failed; goes = goes-runs p h.runs order zeroed }, h.runs.happens.cause.rose refl)
  late-of (hv.NotZero stuck) h order zeroed alone = record {
    events = h.events;
    stop = Some Failed;
    happens = h.happens;
    no_reading = source-no_readings h.events h.of_source;
    not_charged = h.not_charged;
    order = order;
    rose = h.happens.cause.rose refl;
  }
  late-of (hv.Memory r) h order zeroed alone = record { stop = None; goes = goes-runs p h.runs order zeroed }
