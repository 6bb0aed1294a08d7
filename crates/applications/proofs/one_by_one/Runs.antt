-- Events that leave the source at rest, one after the other, and stops after them.
use Rattle.std.proofs.Common.{◌≡◌, ℕ, ◌≤◌, false, List, [], ◌∷◌, ◌++◌, Option, Some, None, Result, Ok, Err, refl, sym, ◌∙◌, ap, subst, append_assoc}
use Rattle.std.specs.Prelude.{IfErr, IsErrAnd}
use Rattle.std.proofs.lemmas.List.Elements.{All-append, All-nil}
use Rattle.base.specs.Causes.{Rose}
use Rattle.rig.specs.declared.event.Event.{Event}
use Rattle.rig.specs.declared.event.Event.TheVariants.{Residual, Door}
use Rattle.rig.specs.declared.event.Leak.{Leak}
use Rattle.rig.specs.declared.rig.RigStop.{RigStop}
use Rattle.rig.specs.RigState.{RigState}
use Rattle.rig.specs.Discharge.{most_waits}
use Rattle.rig.specs.Happened.{happened_all}
use Rattle.rig.specs.Source.{Source, source_from}
use Rattle.rig.specs.Trail.{IsOfSource}
use Rattle.rig.proofs.Happening.{Happens-none, Happens-then, all_left, all_right}
use Rattle.rig.proofs.Order.{MayFollowAll-append, source_from-append}
use Rattle.applications.specs.declared.stop.HvStop.{HvStop}
use Rattle.applications.specs.declared.stop.HvStop.TheVariants.{InterlockOpen, NotDischarged, RigWhileSafe, RigBefore, NotZero, Memory}
use Rattle.applications.specs.Measuring.{HvStopped, IsNoFailedZero, Measures, Runs, StopsAtRest, StopsCharged, StopsOpen, StopsStuck}
use Rattle.applications.proofs.one_by_one.Lasting.{lasting-before}
use Rattle.applications.proofs.NotCharged.{charged-append, charged-none}
use Rattle.applications.proofs.Resting.{opens-rose, rest-append, rest-none}

-- ---- runs, one after the other

pub Runs-none : (bonds : List ℕ) (s : RigState) → Runs bonds s s [] None
Runs-none bonds s = record { happens = Happens-none s; of_source = All-nil IsOfSource; rest = rest-none bonds; no_fault = λ calm zeros. refl; not_charged = charged-none }

pub Runs-then : {bonds : List ℕ} {s t u : RigState} {xs ys : List Event} {stop : Option RigStop} → Runs bonds s t xs None → Runs bonds t u ys stop → Runs bonds s u (xs ++ ys) stop
Runs-then {bonds} {s} {t} {u} {xs} {ys} first second = record {
  happens = Happens-then first.happens second.happens;
  of_source = All-append IsOfSource xs ys first.of_source second.of_source;
  rest = rest-append bonds xs ys first.rest second.rest;
  no_fault = λ calm zeros. second.no_fault calm (all_right IsNoFailedZero xs ys zeros) ∙ first.no_fault (λ is. cc) (all_left IsNoFailedZero xs ys zeros);
  not_charged = charged-append xs ys first.not_charged second.not_charged;
}

-- a stop after some runs
module _ {bonds : List ℕ} {s t : RigState} {xs : List Event} (first : Runs bonds s t xs None) where
  rests-after : {u : RigState} {stop : Option RigStop} → StopsAtRest bonds t u stop → StopsAtRest bonds s u stop
  rests-after stops = record { events = xs ++ stops.events; runs = Runs-then first stops.runs }

  open-after : {u : RigState} → StopsOpen bonds t u → StopsOpen bonds s u
  open-after {u} stops =
      let door = stops.door in
      let runs = Runs-then first stops.runs in
      let is : xs ++ stops.events ≡ (xs ++ door.before) ++ Door false ∷ door.after = ap (λ (es : List Event). xs ++ es) door.events_are ∙ sym (append_assoc xs door.before (Door false ∷ door.after)) in
      record {
        events = xs ++ stops.events;
        runs = runs;
        door = record { before = xs ++ door.before; after = door.after; events_are = is; no_door = door.no_door };
        opens =
            subst (λ (n : ℕ). Rose s.opens n) (sym (ap (λ (x : RigState). x.opens) runs.happens.frame))
            (subst (λ (es : List Event). Rose s.opens (happened_all es s).opens) (sym is) (opens-rose (xs ++ door.before) door.after s));
      }

  charged-after : {u : RigState} {v : ℕ} → StopsCharged bonds t u v → StopsCharged bonds s u v
  charged-after {u} {v} stops =
      let charged = stops.charged in
      record {
        events = xs ++ stops.events;
        happens = Happens-then first.happens stops.happens;
        of_source = All-append IsOfSource xs stops.events first.of_source stops.of_source;
        rest = rest-append bonds xs stops.events first.rest stops.rest;
        no_fault = λ zeros. stops.no_fault (all_right IsNoFailedZero xs stops.events zeros) ∙ first.no_fault (λ is. cc) (all_left IsNoFailedZero xs stops.events zeros);
        charged = record {
          before = xs ++ charged.before;
          events_are = ap (λ (es : List Event). xs ++ es) charged.events_are ∙ sym (append_assoc xs charged.before (Residual v ∷ []));
          above = charged.above;
          waited = λ x. let P : Source → Type 0 = λ y. most_waits ≤ y.ticks in subst P (sym (source_from-append x xs charged.before)) (charged.waited (source_from x xs));
        };
        lasts = lasting-before (Some v) first.happens stops.lasts;
      }

  stuck-after : {u : RigState} → StopsStuck bonds t u → StopsStuck bonds s u
  stuck-after {u} stops = record {
    events = xs ++ stops.events;
    happens = Happens-then first.happens stops.happens;
    of_source = All-append IsOfSource xs stops.events first.of_source stops.of_source;
    stuck = λ x r.
        let one = first.rest x r in
        let two = stops.stuck (source_from x xs) one.rests in
        let P : Source → Type 0 = λ y. 3 ≤ y.failed_zeros in
        record {
          allowed = MayFollowAll-append bonds x xs stops.events one.allowed two.allowed;
          stuck = subst P (sym (source_from-append x xs stops.events)) two.stuck;
        };
    not_charged = charged-append xs stops.events first.not_charged stops.not_charged;
  }

  pub stopped-after : {R : Type 0} (state : R → RigState) (stop : HvStop R) → HvStopped state bonds t stop → HvStopped state bonds s stop
  stopped-after state (InterlockOpen safe) h = open-after h
  stopped-after state (NotDischarged safe v) h = charged-after h
  stopped-after state (RigWhileSafe safe) h = rests-after h
  stopped-after state (RigBefore proven) h = rests-after h
  stopped-after state (NotZero stuck) h = stuck-after h
  stopped-after state (Memory rig) h = rests-after h

pub measures-of : {bonds : List ℕ} {s t : RigState} {a b left right : List ℕ} {v k : ℕ} {leak : Leak} → a ≡ left → b ≡ right → Measures bonds s t a b v k leak → Measures bonds s t left right v k leak
measures-of {bonds} {s} {t} {a} {b} {left} {right} {v} {k} {leak} l r h =
    subst (λ (x : List ℕ). Measures bonds s t left x v k leak) r (subst (λ (x : List ℕ). Measures bonds s t x b v k leak) l h)

-- the exit of a `?`
pub IfErr-by : {T E : Type 0} (r : Result T E) (P : E → Type 0) (e : E) → IsErrAnd r (λ y. y ≡ e) → P e → IfErr r P
IfErr-by (Ok x) P e is h = absurd is
IfErr-by (Err y) P e is h = subst P (sym is) h
