-- The turns of the two loops.
use Rattle.std.proofs.Common.{◌≡◌, ℕ, zero, suc, ◌+◌, ◌*◌, ◌%◌, ◌<◌, ◌≤◌, true, false, List, [], ◌∷◌, ◌++◌, Option, Some, None, Result, Ok, Err, refl, sym, ◌∙◌, ap, subst, arith, inl, inr, add-one, append_assoc}
use Rattle.std.specs.Prelude.{All, IsErrAnd, IfErr}
use Rattle.std.proofs.lemmas.List.Elements.{All-append, All-cons, All-head, All-nil, All-tail}
use Rattle.rig.specs.declared.event.Event.{Event}
use Rattle.rig.specs.declared.event.Event.TheVariants.{Door, Raise, Tick}
use Rattle.rig.specs.declared.rig.RigStop.{RigStop}
use Rattle.rig.specs.declared.rig.RigStop.TheVariants.{Failed, Memory as NoMemory}
use Rattle.rig.specs.declared.powered.RaiseStop.{RaiseStop}
use Rattle.rig.specs.declared.powered.RaiseStop.TheVariants.{DoorOpen, Rig, Memory}
use Rattle.rig.specs.RigState.{RigState}
use Rattle.rig.specs.Calls.{ReadsInterlock, Ticks}
use Rattle.rig.specs.Happened.{Happens, IsDone, happened_all}
use Rattle.rig.specs.Powered.{Steps, raise_stop_of, stop_cause}
use Rattle.rig.specs.Trail.{IsOfSource}
use Rattle.rig.proofs.CallEvents.{Happens-interlock, Happens-tick}
use Rattle.rig.proofs.Happening.{Happens-as, Happens-none, Happens-then, happened_all-append}
use Rattle.applications.specs.Holding.{BreaksOff, IsCalm, Leads, MayFollowAt}
use Rattle.applications.specs.Steps.{dwelling, ramp, step_to}
use Rattle.applications.proofs.Allowed.{allowed-append, closed_allowed, dwelling_leads, none_allowed, open_allowed, raise_allowed, ramp_leads}

-- ---- events of the source of calls that did not fail

pub calm_source : (es : List Event) → All IsCalm es → All IsOfSource es
calm_source [] all = All-nil IsOfSource
calm_source (e ∷ es) all = All-cons IsOfSource e es (All-head IsCalm e es all).0 (calm_source es (All-tail IsCalm e es all))

pub calm_done : (es : List Event) → All IsCalm es → All IsDone es
calm_done [] all = All-nil IsDone
calm_done (e ∷ es) all = All-cons IsDone e es (All-head IsCalm e es all).1 (calm_done es (All-tail IsCalm e es all))

pub one_of : (e : Event) → IsCalm e → All IsCalm (e ∷ [])
one_of e is = All-cons IsCalm e [] is (All-nil IsCalm)

pub two_of : (e f : Event) → IsCalm e → IsCalm f → All IsCalm (e ∷ f ∷ [])
two_of e f is also = All-cons IsCalm e (f ∷ []) is (one_of f also)

pub ramp-calm : (n : ℕ) → All IsCalm (ramp n)
ramp-calm zero = All-nil IsCalm
ramp-calm (suc n) =
    All-append IsCalm (ramp n) (step_to (50 * n + 50)) (ramp-calm n)
    (All-cons IsCalm (Door true) (Raise (50 * n + 50) true ∷ Tick ∷ []) (tt, tt) (All-cons IsCalm (Raise (50 * n + 50) true) (Tick ∷ []) (tt, tt) (one_of Tick (tt, tt))))

pub dwelling-calm : (n : ℕ) → All IsCalm (dwelling n)
dwelling-calm zero = All-nil IsCalm
dwelling-calm (suc n) =
    All-append IsCalm (dwelling n) (Door true ∷ Tick ∷ []) (dwelling-calm n) (two_of (Door true) Tick (tt, tt) (tt, tt))

-- the volts after a ramp, and while they are held

pub ramp-volts : (n : ℕ) (s : RigState) → s.volts ≡ 0 → (happened_all (ramp n) s).volts ≡ 50 * n
ramp-volts zero s zeroed = zeroed
ramp-volts (suc n) s zeroed =
    let next : 50 * n + 50 ≡ 50 * suc n = omega arith in
    ap (λ (v : RigState). v.volts) (happened_all-append (ramp n) (step_to (50 * n + 50)) s) ∙ next

pub dwelling-volts : (n : ℕ) (s : RigState) → (happened_all (dwelling n) s).volts ≡ s.volts
dwelling-volts zero s = refl
dwelling-volts (suc n) s = ap (λ (v : RigState). v.volts) (happened_all-append (dwelling n) (Door true ∷ Tick ∷ []) s) ∙ dwelling-volts n s

pub dwelling-route : (n : ℕ) (s : RigState) → (happened_all (dwelling n) s).route ≡ s.route
dwelling-route zero s = refl
dwelling-route (suc n) s = ap (λ (v : RigState). v.route) (happened_all-append (dwelling n) (Door true ∷ Tick ∷ []) s) ∙ dwelling-route n s

pub ramp-route : (n : ℕ) (s : RigState) → (happened_all (ramp n) s).route ≡ s.route
ramp-route zero s = refl
ramp-route (suc n) s = ap (λ (v : RigState). v.route) (happened_all-append (ramp n) (step_to (50 * n + 50)) s) ∙ ramp-route n s

-- ---- a stop after some turns

-- the last event is an open interlock, where this was the stop
abbrev pub EndsOpen : RaiseStop → List Event → Type 0
EndsOpen stop events = stop ≡ DoorOpen → (before : List Event) × (events ≡ before ++ Door false ∷ [])

-- events of the source; of calls that did not fail, where no failure was the stop
abbrev pub OfStop : RaiseStop → List Event → Type 0
OfStop stop events = All IsOfSource events × ((stop ≡ Rig → ⊥) → All IsDone events)

pub calm_stop : {stop : RaiseStop} (es : List Event) → All IsCalm es → OfStop stop es
calm_stop es calm = (calm_source es calm, λ is. calm_done es calm)

pub none_stop : {stop : RaiseStop} → OfStop stop []
none_stop = calm_stop [] (All-nil IsCalm)

-- the turns before it, and the events of the turn that was broken off
pub breaks-off : {s t u : RigState} {xs ys : List Event} {v : ℕ} {stop : RaiseStop} → Happens s t xs None → Leads s.volts v xs → All IsCalm xs
    → Happens t u ys (stop_cause stop) → MayFollowAt v ys → OfStop stop ys → EndsOpen stop ys → BreaksOff s u stop
breaks-off {s} {t} {u} {xs} {ys} {v} {stop} before leads calm now allowed of_stop ends_open = record {
  events = xs ++ ys;
  happens = Happens-then before now;
  of_source = All-append IsOfSource xs ys (calm_source xs calm) of_stop.0;
  allowed = allowed-append ys leads allowed;
  door = λ is. let e = ends_open is in (xs ++ e.0, ap (λ (es : List Event). xs ++ es) e.1 ∙ sym (append_assoc xs e.0 (Door false ∷ [])));
  done = λ is. All-append IsDone xs ys (calm_done xs calm) (of_stop.1 is);
}

-- what a raise that was refused adds
pub record Broken (old new : RigState) (v : ℕ) (stop : RaiseStop) : Type 0 where
  pub events : List Event
  pub happens : Happens old new events (stop_cause stop)
  pub of_stop : OfStop stop events
  pub allowed : MayFollowAt v events
  pub ends_open : EndsOpen stop events

broken : {s t : RigState} {v : ℕ} {stop : RaiseStop} (ys : List Event) (events : List Event) → events ≡ ys → Happens s t events (stop_cause stop) → OfStop stop ys → MayFollowAt v ys → EndsOpen stop ys → Broken s t v stop
broken {s} {t} {v} {stop} ys events is happens of_stop allowed ends_open = record { events = ys; happens = Happens-as is happens; of_stop = of_stop; allowed = allowed; ends_open = ends_open }

pub steps-broken : {s t : RigState} (v : ℕ) (stop : RaiseStop) → s.volts ≡ v → v % 50 ≡ 0 → v + 50 ≤ 2000 → Steps s t (Err stop) → Broken s t v stop
steps-broken v DoorOpen at by low steps = broken (Door false ∷ []) steps.events steps.which steps.happens (calm_stop (Door false ∷ []) (one_of (Door false) (tt, tt))) (open_allowed v) (λ is. ([], refl))
steps-broken {s} {t} v Rig at by low steps = elim steps.which as (λ _. Broken s t v Rig) [
  | inl is ↦ broken [] steps.events is steps.happens none_stop (none_allowed v) (λ no_door. cc)
  | inr is ↦
      broken (Door true ∷ Raise (v + 50) false ∷ []) steps.events (is ∙ ap (λ (w : ℕ). Door true ∷ Raise (w + 50) false ∷ []) at) steps.happens
      (All-cons IsOfSource (Door true) (Raise (v + 50) false ∷ []) tt (All-cons IsOfSource (Raise (v + 50) false) [] tt (All-nil IsOfSource)), λ calm. absurd (calm refl)) (raise_allowed v by low false) (λ no_door. cc)
]
steps-broken {s} {t} v Memory at by low steps = elim steps.which as (λ _. Broken s t v Memory) [
  | inl is ↦ broken [] steps.events is steps.happens none_stop (none_allowed v) (λ no_door. cc)
  | inr is ↦ broken (Door true ∷ []) steps.events is steps.happens (calm_stop (Door true ∷ []) (one_of (Door true) (tt, tt))) (closed_allowed v) (λ no_door. cc)
]

-- a refusal of the rig as a stop
pub cause_of : (e : RigStop) → stop_cause (raise_stop_of e) ≡ Some e
cause_of Failed = refl
cause_of NoMemory = refl

pub no_door : (e : RigStop) → raise_stop_of e ≡ DoorOpen → ⊥
no_door Failed is = cc
no_door NoMemory is = cc

pub Happens-cause : {s t : RigState} {es : List Event} (e : RigStop) → Happens s t es (Some e) → Happens s t es (stop_cause (raise_stop_of e))
Happens-cause {s} {t} {es} e h = subst (λ (o : Option RigStop). Happens s t es o) (sym (cause_of e)) h

-- ---- climbing

-- so many steps were done
pub record Climbing (start now : RigState) (i : ℕ) : Type 0 where
  pub happens : Happens start now (ramp i) None

pub Climbing-none : (s : RigState) → Climbing s s 0
Climbing-none s = record { happens = Happens-none s }

pub Climbing-volts : {s t : RigState} {i : ℕ} → s.volts ≡ 0 → Climbing s t i → t.volts ≡ 50 * i
Climbing-volts {s} {t} {i} zeroed before = ap (λ (v : RigState). v.volts) before.happens.frame ∙ ramp-volts i s zeroed

pub Climbing-more : {s t u w : RigState} {i : ℕ} {x y : Unit} → s.volts ≡ 0 → Climbing s t i → Steps t u (Ok x) → Ticks u w (Ok y) → Climbing s w (i + 1)
Climbing-more {s} {t} {u} {w} {i} {x} {y} zeroed before steps tick =
    let at = Climbing-volts zeroed before in
    let raised : Happens t u (Door true ∷ Raise (50 * i + 50) true ∷ []) None = Happens-as (steps.which ∙ ap (λ (v : ℕ). Door true ∷ Raise (v + 50) true ∷ []) at) steps.happens in
    record { happens = Happens-as (ap ramp (sym (add-one i))) (Happens-then before.happens (Happens-then raised (Happens-tick (Ok y) tick))) }

pub climb-leads : (s : RigState) (i : ℕ) → s.volts ≡ 0 → 50 * i ≤ 2000 → Leads s.volts (50 * i) (ramp i)
climb-leads s i zeroed low = subst (λ (v : ℕ). Leads v (50 * i) (ramp i)) (sym zeroed) (ramp_leads i low)

pub climb-broken : {s t u : RigState} {i steps : ℕ} {stop : RaiseStop} → s.volts ≡ 0 → i < steps → 50 * steps ≤ 2000 → Climbing s t i → Steps t u (Err stop) → BreaksOff s u stop
climb-broken {s} {t} {u} {i} {steps} {stop} zeroed less low before refused =
    let b = steps-broken (50 * i) stop (Climbing-volts zeroed before) (omega arith) (omega arith) refused in
    breaks-off before.happens (climb-leads s i zeroed (omega arith)) (ramp-calm i) b.happens b.allowed b.of_stop b.ends_open

pub climb-no_tick : {s t u w : RigState} {i steps : ℕ} {x : Unit} {e : RigStop} → s.volts ≡ 0 → i < steps → 50 * steps ≤ 2000 → Climbing s t i → Steps t u (Ok x) → Ticks u w (Err e) → BreaksOff s w (raise_stop_of e)
climb-no_tick {s} {t} {u} {w} {i} {steps} {x} {e} zeroed less low before done refused =
    let at = Climbing-volts zeroed before in
    let raised : Happens t u (Door true ∷ Raise (50 * i + 50) true ∷ []) None = Happens-as (done.which ∙ ap (λ (v : ℕ). Door true ∷ Raise (v + 50) true ∷ []) at) done.happens in
    breaks-off before.happens (climb-leads s i zeroed (omega arith)) (ramp-calm i) (Happens-cause e (Happens-then raised (Happens-tick (Err e) refused)))
    (raise_allowed (50 * i) (omega arith) (omega arith) true) (calm_stop (Door true ∷ Raise (50 * i + 50) true ∷ []) (two_of (Door true) (Raise (50 * i + 50) true) (tt, tt) (tt, tt))) (λ is. absurd (no_door e is))

-- ---- dwelling

pub record Dwelling (start now : RigState) (i : ℕ) : Type 0 where
  pub happens : Happens start now (dwelling i) None

pub Dwelling-none : (s : RigState) → Dwelling s s 0
Dwelling-none s = record { happens = Happens-none s }

pub Dwelling-more : {s t u w : RigState} {i : ℕ} {y : Unit} → Dwelling s t i → ReadsInterlock t u (Ok true) → Ticks u w (Ok y) → Dwelling s w (i + 1)
Dwelling-more {s} {t} {u} {w} {i} {y} before door tick =
    record { happens = Happens-as (ap dwelling (sym (add-one i))) (Happens-then before.happens (Happens-then (Happens-interlock (Ok true) door) (Happens-tick (Ok y) tick))) }

pub dwell-no_door : {s t u : RigState} {i : ℕ} {e : RigStop} → Dwelling s t i → ReadsInterlock t u (Err e) → BreaksOff s u (raise_stop_of e)
dwell-no_door {s} {t} {u} {i} {e} before refused =
    breaks-off before.happens (dwelling_leads s.volts i) (dwelling-calm i) (Happens-cause e (Happens-interlock (Err e) refused)) (none_allowed s.volts) none_stop (λ is. absurd (no_door e is))

pub dwell-open : {s t u : RigState} {i : ℕ} → Dwelling s t i → ReadsInterlock t u (Ok false) → BreaksOff s u DoorOpen
dwell-open {s} {t} {u} {i} before ends_open =
    breaks-off before.happens (dwelling_leads s.volts i) (dwelling-calm i) (Happens-interlock (Ok false) ends_open) (open_allowed s.volts) (calm_stop (Door false ∷ []) (one_of (Door false) (tt, tt))) (λ is. ([], refl))

pub dwell-no_tick : {s t u w : RigState} {i : ℕ} {e : RigStop} → Dwelling s t i → ReadsInterlock t u (Ok true) → Ticks u w (Err e) → BreaksOff s w (raise_stop_of e)
dwell-no_tick {s} {t} {u} {w} {i} {e} before closed refused =
    breaks-off before.happens (dwelling_leads s.volts i) (dwelling-calm i) (Happens-cause e (Happens-then (Happens-interlock (Ok true) closed) (Happens-tick (Err e) refused)))
    (closed_allowed s.volts) (calm_stop (Door true ∷ []) (one_of (Door true) (tt, tt))) (λ is. absurd (no_door e is))

-- ---- the exits of a `?`

pub stopped : {T : Type 0} {s t : RigState} (e : RigStop) → BreaksOff s t (raise_stop_of e) → (result : Result T RaiseStop) → IsErrAnd result (λ y. y ≡ raise_stop_of e) → IfErr result (BreaksOff s t)
stopped e off (Ok x) is = absurd is
stopped {T} {s} {t} e off (Err y) is = let P : RaiseStop → Type 0 = λ z. BreaksOff s t z in subst P (sym is) off

pub passed_on : {T : Type 0} {s t : RigState} {stop : RaiseStop} → BreaksOff s t stop → (result : Result T RaiseStop) → IsErrAnd result (λ y. y ≡ stop) → IfErr result (BreaksOff s t)
passed_on off (Ok x) is = absurd is
passed_on {T} {s} {t} off (Err y) is = let P : RaiseStop → Type 0 = λ z. BreaksOff s t z in subst P (sym is) off
