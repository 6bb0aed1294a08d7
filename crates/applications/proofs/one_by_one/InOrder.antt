-- The order and the end of the trail after events that stay at rest.
use Rattle.std.proofs.Common.{◌≡◌, ℕ, List, [], ◌∷◌, ◌++◌, Option, Some, None, Result, Ok, Err, refl, sym, ◌∙◌, ap, subst, true, false, ◌≤◌}
use Rattle.std.specs.Prelude.{IfErr, IfOk, IfSome, MatchResult}
use Rattle.rig.specs.declared.event.Event.{Event}
use Rattle.rig.specs.declared.rig.RigStop.{RigStop}
use Rattle.rig.specs.RigState.{RigState}
use Rattle.rig.specs.HvOrder.{HvOrder}
use Rattle.rig.specs.Happened.{Happens, happened, happened_all, volts_after, volts_all}
use Rattle.rig.specs.declared.event.Event.TheVariants.{Reading, Ohms, Junction, Door, Route, Raise, Leak, Zero, Residual, Tick}
use Rattle.rig.specs.Source.{Source, Ends, StuckEnd, at_rest, source_after, source_from, source_of}
use Rattle.rig.specs.Trail.{Determines}
use Rattle.rig.proofs.Happening.{Happens-trail, followed}
use Rattle.rig.proofs.Order.{HvOrder-more, rest-of, source_from-append, state-determined}
use Rattle.applications.specs.declared.stop.HvStop.{HvStop}
use Rattle.applications.specs.declared.stop.HvStop.TheVariants.{InterlockOpen, NotDischarged, RigWhileSafe, RigBefore, NotZero, Memory}
use Rattle.applications.specs.Measuring.{HvStopped, Rests, Runs, StaysAtRest, StopsStuck}
use Rattle.applications.specs.Ordered.{IsInOrder, IsStuckInOrder, StopsAtZero, StopsInOrder}

rests-of : (trail : List Event) → Ends trail → Rests (source_of trail)
rests-of trail ended = let r = rest-of trail ended in record { volts = r.0; ended = ended; no_stop = r.1 }

module _ (classes bonds : List ℕ) {s : RigState} (t : RigState) (determines : Determines s classes) where
  -- by whether a trail is told
  moved : (P : List Event → Type 0) (es : List Event) → t.trail ≡ followed es s.trail → ((trail : List Event) → s.trail ≡ Some trail → HvOrder classes bonds trail × Ends trail → P (trail ++ es))
      → IsInOrder classes bonds s → IfSome t.trail P
  moved P es is f before = let Q : Option (List Event) → Type 0 = λ o. IfSome o P in subst Q (sym is) (at s.trail refl before)
    where
      at : (o : Option (List Event)) → s.trail ≡ o → IfSome o (λ trail. HvOrder classes bonds trail × Ends trail) → IfSome (followed es o) P
      at None told h = tt
      at (Some trail) told h = f trail told h

  pub rest-in_order : {es : List Event} {stop : Option RigStop} → Happens s t es stop → StaysAtRest bonds es → IsInOrder classes bonds s → IsInOrder classes bonds t
  rest-in_order {es} happens stays before =
      moved (λ trail. HvOrder classes bonds trail × Ends trail) es (Happens-trail happens)
      (λ trail told h.
      let rest = stays (source_of trail) (rests-of trail h.1) in
      let E : Source → Type 0 = λ x. x.ended ≡ true in (
        HvOrder-more classes bonds trail es h.0 (state-determined s trail classes told determines) rest.allowed,
        subst E (sym (source_from-append at_rest trail es)) rest.rests.ended,
      ))
      before

  pub runs-in_order : {es : List Event} {stop : Option RigStop} → Runs bonds s t es stop → IsInOrder classes bonds s → IsInOrder classes bonds t
  runs-in_order runs before = rest-in_order runs.happens runs.rest before

  pub stuck-in_order : StopsStuck bonds s t → IsInOrder classes bonds s → IsStuckInOrder classes bonds t
  stuck-in_order stops before =
      moved (λ trail. HvOrder classes bonds trail × StuckEnd trail) stops.events (Happens-trail stops.happens)
      (λ trail told h.
      let stuck = stops.stuck (source_of trail) (rests-of trail h.1) in
      let E : Source → Type 0 = λ x. 3 ≤ x.failed_zeros in (
        HvOrder-more classes bonds trail stops.events h.0 (state-determined s trail classes told determines) stuck.allowed,
        subst E (sym (source_from-append at_rest trail stops.events)) stuck.stuck,
      ))
      before

pub stop-in_order : (classes bonds : List ℕ) {R : Type 0} (state : R → RigState) (s : RigState) (stop : HvStop R) → Determines s classes → HvStopped state bonds s stop → IsInOrder classes bonds s → StopsInOrder state classes bonds stop
stop-in_order classes bonds state s (InterlockOpen safe) determines stopped before = runs-in_order classes bonds _ determines stopped.runs before
stop-in_order classes bonds state s (NotDischarged safe v) determines stopped before = rest-in_order classes bonds _ determines stopped.happens stopped.rest before
stop-in_order classes bonds state s (RigWhileSafe safe) determines stopped before = runs-in_order classes bonds _ determines stopped.runs before
stop-in_order classes bonds state s (RigBefore proven) determines stopped before = runs-in_order classes bonds _ determines stopped.runs before
stop-in_order classes bonds state s (NotZero stuck) determines stopped before = stuck-in_order classes bonds _ determines stopped before
stop-in_order classes bonds state s (Memory rig) determines stopped before = runs-in_order classes bonds _ determines stopped.runs before

-- ---- the volts

-- the volts of the source are those of the rig
source-volts : (es : List Event) (x : Source) → (source_from x es).volts ≡ volts_all x.volts es
source-volts [] x = refl
source-volts (e ∷ es) x = source-volts es (source_after x e) ∙ ap (λ (v : ℕ). volts_all v es) (one e)
  where
    one : (e : Event) → (source_after x e).volts ≡ volts_after x.volts e
    one (Reading a b met) = refl
    one (Ohms a b r) = refl
    one (Junction a b d) = refl
    one (Door true) = refl
    one (Door false) = refl
    one (Route a b) = refl
    one (Raise v done) = refl
    one (Leak g) = refl
    one (Zero true) = refl
    one (Zero false) = refl
    one (Residual v) = refl
    one Tick = refl

state-volts : (es : List Event) (s : RigState) → (happened_all es s).volts ≡ volts_all s.volts es
state-volts [] s = refl
state-volts (e ∷ es) s = state-volts es (happened e s)

-- what stays at rest leaves the rig at zero
pub rest-zero : {bonds : List ℕ} {s t : RigState} {es : List Event} {stop : Option RigStop} → s.volts ≡ 0 → Happens s t es stop → StaysAtRest bonds es → t.volts ≡ 0
rest-zero {bonds} {s} {t} {es} zeroed happens stays =
    let rests = stays at_rest (record { volts = refl; ended = refl; no_stop = refl }) in
    ap (λ (x : RigState). x.volts) happens.frame ∙ state-volts es s ∙ ap (λ (v : ℕ). volts_all v es) zeroed ∙ sym (source-volts es at_rest) ∙ rests.rests.volts

pub stop-zero : (bonds : List ℕ) {R : Type 0} (state : R → RigState) (s : RigState) (stop : HvStop R) → s.volts ≡ 0 → HvStopped state bonds s stop → StopsAtZero state stop
stop-zero bonds state s (InterlockOpen safe) zeroed stopped = rest-zero zeroed stopped.runs.happens stopped.runs.rest
stop-zero bonds state s (NotDischarged safe v) zeroed stopped = rest-zero zeroed stopped.happens stopped.rest
stop-zero bonds state s (RigWhileSafe safe) zeroed stopped = rest-zero zeroed stopped.runs.happens stopped.runs.rest
stop-zero bonds state s (RigBefore proven) zeroed stopped = rest-zero zeroed stopped.runs.happens stopped.runs.rest
stop-zero bonds state s (NotZero stuck) zeroed stopped = tt
stop-zero bonds state s (Memory rig) zeroed stopped = rest-zero zeroed stopped.runs.happens stopped.runs.rest

-- at both exits
pub voltage-by : {T E : Type 0} (r : Result T E) (P P' : T → Type 0) (Q Q' : E → Type 0) → ((x : T) → P x → P' x) → ((e : E) → Q e → Q' e) → IfOk r P → IfErr r Q → MatchResult r P' Q'
voltage-by (Ok x) P P' Q Q' f g ok err = f x ok
voltage-by (Err e) P P' Q Q' f g ok err = g e err
