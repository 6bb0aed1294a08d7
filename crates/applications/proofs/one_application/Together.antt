-- The parts of an application, put together.
use Rattle.std.proofs.Common.{◌≡◌, ℕ, zero, suc, ◌+◌, ◌-◌, ◌*◌, ◌/◌, ◌%◌, ◌<◌, ◌≤◌, Bool, true, false, List, [], ◌∷◌, ◌++◌, replicate, Option, Some, None, Result, Ok, Err, IsTrue, refl, sym, ◌∙◌, ap, subst, arith, inl, inr, append_assoc, append-nil}
use Rattle.std.specs.Prelude.{All, IfErr, IfOk, IfSome}
use Rattle.std.proofs.lemmas.List.Elements.{All-append, All-cons, All-nil}
use Rattle.partition.specs.Partitions.{Meets}
use Rattle.base.specs.Causes.{Rose}
use Rattle.rig.specs.declared.event.Event.{Event}
use Rattle.rig.specs.declared.event.Event.TheVariants.{Door, Leak, Raise, Residual, Route, Tick, Zero}
use Rattle.rig.specs.declared.event.Leak.{Leak as LeakReading}
use Rattle.rig.specs.declared.rig.RigStop.{RigStop}
use Rattle.rig.specs.declared.rig.RigStop.TheVariants.{Failed, Memory as NoMemory}
use Rattle.rig.specs.declared.powered.RaiseStop.{RaiseStop}
use Rattle.rig.specs.declared.powered.RaiseStop.TheVariants.{DoorOpen, Rig as RigFailed, Memory as MemoryRanOut}
use Rattle.rig.specs.declared.unit.Row.{Row}
use Rattle.rig.specs.RigState.{RigState, Groups}
use Rattle.rig.specs.Calls.{Routes}
use Rattle.rig.specs.Discharge.{Waits, waited}
use Rattle.rig.specs.Happened.{Happens, IsDone, happened_all}
use Rattle.rig.specs.Powered.{GoesDown, IsStuck, stop_cause}
use Rattle.rig.specs.Source.{source_after}
use Rattle.rig.specs.Trail.{IsOfSource}
use Rattle.rig.specs.Values.{leak_of}
use Rattle.rig.proofs.CallEvents.{Happens-route}
use Rattle.rig.proofs.Happening.{Happens-after, Happens-failed, Happens-honest, Happens-no_memory, Happens-points, Happens-then, Happens-truth, all_left, all_right}
use Rattle.applications.specs.declared.stop.HvStop.{HvStop}
use Rattle.applications.specs.declared.stop.HvStop.TheVariants.{InterlockOpen, NotDischarged, RigWhileSafe, RigBefore, NotZero, Memory}
use Rattle.applications.specs.Holding.{BreaksOff, Holds, IsCalm, MayFollowAt}
use Rattle.applications.specs.Measuring.{FinishStops, Finishes, HvStopped, IsMeasuring, IsNoFailedZero, IsNoRoute, IsNotCharged, IsOfDwell, Measures, Runs, Starts, StaysAtRest, StopsAtRest, StopsCharged, StopsOpen, StopsStuck, tick_count}
use Rattle.applications.specs.Steps.{dwelling, ramp, step_to}
use Rattle.applications.proofs.Allowed.{Leads-append, dwelling_leads, leak_leads, ramp_leads}
use Rattle.applications.specs.Counting.{Gains}
use Rattle.applications.proofs.Counted.{dwelling_gains, gain_leak, gain_route, gains-append, gains-less, last_gains, ramp_gains, waited_gains, zeros_gains}
use Rattle.applications.proofs.one_application.Climbing.{calm_done, calm_source, dwelling-calm, one_of, ramp-calm}
use Rattle.applications.proofs.one_application.Held.{whole_steps}
use Rattle.applications.proofs.one_by_one.Lasting.{charged-some, discharged-none, leads-raised}
use Rattle.applications.proofs.NotCharged.{IsNoCharge, charged-none, charged-other, charged-wait, charged-zeros, waited-since}
use Rattle.applications.proofs.Resting.{held-rest, held-stuck, last-done, last-of_source, last-rest, opens-rose, rest-append, rest-none, waited-done, waited-of_source, waited-rest, zeros, zeros-done, zeros-no_door, zeros-of_source}

-- ---- nothing happened

pub nothing-runs : (bonds : List ℕ) {s t : RigState} {stop : Option RigStop} → Happens s t [] stop → StopsAtRest bonds s t stop
nothing-runs bonds h = record { events = []; runs = record { happens = h; of_source = All-nil IsOfSource; rest = rest-none bonds; no_fault = λ calm zeros. h.no_fault calm (All-nil IsDone); not_charged = charged-none } }

pub route-refused-runs : (bonds : List ℕ) {s t : RigState} {a b : List ℕ} {e : RigStop} → Routes s t a b (Err e) → StopsAtRest bonds s t (Some e)
route-refused-runs bonds {s} {t} {a} {b} {e} call = nothing-runs bonds (Happens-route (Err e) call)

-- a refusal for memory is a stop of its own
pub stops-memory : {bonds : List ℕ} {s t : RigState} → StopsAtRest bonds s t (Some NoMemory) → StopsAtRest bonds s t None
stops-memory stops =
    let runs = stops.runs in
    record {
      events = stops.events;
      runs = record { happens = Happens-no_memory runs.happens; of_source = runs.of_source; rest = runs.rest; no_fault = λ calm zeros. runs.no_fault (λ is. cc) zeros; not_charged = runs.not_charged };
    }

pub IfOk-map : {T E : Type 0} (r : Result T E) (P Q : T → Type 0) → ((x : T) → P x → Q x) → IfOk r P → IfOk r Q
IfOk-map (Ok x) P Q f h = f x h
IfOk-map (Err e) P Q f h = tt

pub IfErr-map : {T E : Type 0} (r : Result T E) (P Q : E → Type 0) → ((x : E) → P x → Q x) → IfErr r P → IfErr r Q
IfErr-map (Ok x) P Q f h = tt
IfErr-map (Err e) P Q f h = f e h

-- ---- ranges of the closed form

ramp-no_route : (n : ℕ) → All IsNoRoute (ramp n)
ramp-no_route zero = All-nil IsNoRoute
ramp-no_route (suc n) =
    All-append IsNoRoute (ramp n) (step_to (50 * n + 50)) (ramp-no_route n)
    (All-cons IsNoRoute (Door true) (Raise (50 * n + 50) true ∷ Tick ∷ []) tt (All-cons IsNoRoute (Raise (50 * n + 50) true) (Tick ∷ []) tt (All-cons IsNoRoute Tick [] tt (All-nil IsNoRoute))))

dwelling-of_dwell : (n : ℕ) → All IsOfDwell (dwelling n)
dwelling-of_dwell zero = All-nil IsOfDwell
dwelling-of_dwell (suc n) =
    All-append IsOfDwell (dwelling n) (Door true ∷ Tick ∷ []) (dwelling-of_dwell n) (All-cons IsOfDwell (Door true) (Tick ∷ []) tt (All-cons IsOfDwell Tick [] tt (All-nil IsOfDwell)))

dwelling-count : (n : ℕ) (es : List Event) → tick_count (dwelling n ++ es) ≡ n + tick_count es
dwelling-count zero es = omega arith
dwelling-count (suc n) es =
    let regrouped = append_assoc (dwelling n) (Door true ∷ Tick ∷ []) es in
    omega (arith, ap tick_count regrouped, dwelling-count n (Door true ∷ Tick ∷ es))

dwelling-ticks : (n : ℕ) → n ≤ tick_count (dwelling n)
dwelling-ticks n = omega (arith, dwelling-count n [], ap tick_count (append-nil (dwelling n)))

-- the events of a whole application, under the names of its parts
inner : (ys : List Event) (l z : Event) (zs tail : List Event) → ((ys ++ l ∷ []) ++ (z ∷ zs)) ++ tail ≡ (ys ++ (l ∷ z ∷ [])) ++ (zs ++ tail)
inner [] l z zs tail = refl
inner (y ∷ ys) l z zs tail = ap (λ (es : List Event). y ∷ es) (inner ys l z zs tail)

regroup : (xs ys : List Event) (d r k l z : Event) (zs tail : List Event)
    → (((xs ++ (d ∷ r ∷ k ∷ [])) ++ ys ++ l ∷ []) ++ (z ∷ zs)) ++ tail ≡ ((xs ++ d ∷ []) ++ (r ∷ k ∷ ys) ++ (l ∷ z ∷ [])) ++ (zs ++ tail)
regroup [] ys d r k l z zs tail = ap (λ (es : List Event). d ∷ r ∷ k ∷ es) (inner ys l z zs tail)
regroup (x ∷ xs) ys d r k l z zs tail = ap (λ (es : List Event). x ∷ es) (regroup xs ys d r k l z zs tail)

-- the first zero call, and the others
pub record Zeros (k : ℕ) : Type 0 where
  pub first : Bool
  pub others : List Event
  pub are : zeros k ≡ Zero first ∷ others

abbrev pub zeros-split : (k : ℕ) → Zeros k
zeros-split zero = record { first = true; others = []; are = refl }
zeros-split (suc k) = record { first = false; others = zeros k; are = refl }

module _ (a b : List ℕ) (m t : ℕ) (g : LeakReading) (k : ℕ) (tail : List Event) where
  abbrev pub run_of : List Event
  run_of = Route a b ∷ (ramp m ++ Door true ∷ []) ++ (Raise (50 * m + 50) true ∷ Tick ∷ dwelling t) ++ (Leak g ∷ Zero (zeros-split k).first ∷ [])

  pub whole-is : Route a b ∷ ((ramp (suc m) ++ dwelling t ++ Leak g ∷ []) ++ zeros k) ++ tail ≡ run_of ++ ((zeros-split k).others ++ tail)
  whole-is =
      ap (λ (zs : List Event). Route a b ∷ ((ramp (suc m) ++ dwelling t ++ Leak g ∷ []) ++ zs) ++ tail) (zeros-split k).are
      ∙ ap (λ (es : List Event). Route a b ∷ es) (regroup (ramp m) (dwelling t) (Door true) (Raise (50 * m + 50) true) Tick (Leak g) (Zero (zeros-split k).first) (zeros-split k).others tail)

  pub run-measuring : (v : ℕ) → v ≡ 50 * m + 50 → IsMeasuring a b v t g run_of
  run-measuring v is = record {
    climb = ramp m ++ Door true ∷ [];
    dwell = Tick ∷ dwelling t;
    zeroed = (zeros-split k).first;
    events = ap (λ (w : ℕ). Route a b ∷ (ramp m ++ Door true ∷ []) ++ (Raise w true ∷ Tick ∷ dwelling t) ++ (Leak g ∷ Zero (zeros-split k).first ∷ [])) (sym is);
    no_route = All-append IsNoRoute (ramp m) (Door true ∷ []) (ramp-no_route m) (All-cons IsNoRoute (Door true) [] tt (All-nil IsNoRoute));
    of_dwell = All-cons IsOfDwell Tick (dwelling t) tt (dwelling-of_dwell t);
    ticks = let more = dwelling-ticks t in omega arith;
  }

-- what the whole counts
pub whole-gains : (a b : List ℕ) (m t : ℕ) (g : LeakReading) (k : ℕ) {r w : RigState} {result : Result (Option ℕ) RigStop} (waits : Waits r w result)
    → Gains 0 0 1 (suc m) t 1 ((Route a b ∷ (ramp (suc m) ++ dwelling t ++ Leak g ∷ []) ++ zeros k) ++ (waited waits.waits ++ waits.last))
whole-gains a b m t g k {r} {w} {result} waits =
    let v : ℕ = 50 * m + 49 in
    let at : 50 * suc m ≡ suc v = omega arith in
    let ramped : Gains 0 (suc v) 0 (suc m) 0 0 (ramp (suc m)) = subst (λ (x : ℕ). Gains 0 x 0 (suc m) 0 0 (ramp (suc m))) at (ramp_gains (suc m)) in
    gains-less (omega arith) (omega arith) (omega arith) (omega arith)
    (gains-append (gains-append (gain_route 0 a b) (gains-append (gains-append (gains-append ramped (dwelling_gains v t)) (gain_leak (suc v) g)) (zeros_gains (suc v) k)))
    (gains-append (waited_gains 0 waits.waits) (last_gains 0 result waits.waits waits.last waits.ends)))

-- ---- what was held, in short

-- the events between the route and the zero calls
pub record Powering (old new : RigState) (events : List Event) (stop : Option RigStop) : Type 0 where
  pub happens : Happens old new events stop
  pub of_source : All IsOfSource events
  pub allowed : MayFollowAt 0 events
  pub done : (stop ≡ Some Failed → ⊥) → All IsDone events

held_calm : (n ticks : ℕ) (g : LeakReading) → All IsCalm (ramp n ++ dwelling ticks ++ Leak g ∷ [])
held_calm n ticks g =
    All-append IsCalm (ramp n ++ dwelling ticks) (Leak g ∷ []) (All-append IsCalm (ramp n) (dwelling ticks) (ramp-calm n) (dwelling-calm ticks)) (one_of (Leak g) (tt, tt))

-- only a failure of the rig has a failure as its cause
no_failure : (stop : RaiseStop) → (stop_cause stop ≡ Some Failed → ⊥) → stop ≡ RigFailed → ⊥
no_failure stop calm is = calm (ap stop_cause is)

pub holds-powering : {s t : RigState} {v ticks : ℕ} {g : LeakReading} → v % 50 ≡ 0 → v ≤ 2000 → Holds s t v ticks g → Powering s t (ramp (v / 50) ++ dwelling ticks ++ Leak g ∷ []) None
holds-powering {s} {t} {v} {ticks} {g} by most holds = record {
  happens = holds.happens;
  of_source = calm_source (ramp (v / 50) ++ dwelling ticks ++ Leak g ∷ []) (held_calm (v / 50) ticks g);
  allowed = (Leads-append (Leads-append (ramp_leads (v / 50) (let whole = whole_steps v by in omega arith)) (dwelling_leads (50 * (v / 50)) ticks)) (leak_leads (50 * (v / 50)) g)).allowed;
  done = λ calm. calm_done (ramp (v / 50) ++ dwelling ticks ++ Leak g ∷ []) (held_calm (v / 50) ticks g);
}

pub broken-powering : {s t : RigState} {stop : RaiseStop} → s.volts ≡ 0 → (off : BreaksOff s t stop) → Powering s t off.events (stop_cause stop)
broken-powering {s} {t} {stop} zeroed off = record { happens = off.happens; of_source = off.of_source; allowed = subst (λ (v : ℕ). MayFollowAt v off.events) zeroed off.allowed; done = λ calm. off.done (no_failure stop calm) }

-- ---- put together

route-of_source : (a b : List ℕ) (es : List Event) → All IsOfSource es → All IsOfSource (Route a b ∷ es)
route-of_source a b es all = All-cons IsOfSource (Route a b) es tt all

pub rests-now : {bonds : List ℕ} {s r w : RigState} {stop : Option RigStop} → w ≡ r → StopsAtRest bonds s r stop → StopsAtRest bonds s w stop
rests-now {bonds} {s} {r} {w} {stop} same stops = subst (λ (x : RigState). StopsAtRest bonds s x stop) (sym same) stops

-- what was held, however it ended
abbrev pub WasHeld : RigState → RigState → ℕ → ℕ → Result LeakReading RaiseStop → Type 0
WasHeld p q v ticks held = IfOk held (Holds p q v ticks) × IfErr held (BreaksOff p q)

module _ (bonds a b : List ℕ) (apart : Meets bonds a b → ⊥) {s p : RigState} (q : RigState) (starts : Starts s p a b) where
  -- powered, and down again
  pub down-runs : {es : List Event} {stop : Option RigStop} {r : RigState} → Powering p q es stop → (down : GoesDown q r) → Runs bonds s r (Route a b ∷ es ++ zeros down.failed) stop
  down-runs {es} {stop} {r} powering down = record {
    happens = Happens-after (Happens-then starts.happens powering.happens) down.happens;
    of_source = route-of_source a b (es ++ zeros down.failed) (All-append IsOfSource es (zeros down.failed) powering.of_source (zeros-of_source down.failed));
    rest = held-rest bonds a b apart es down.failed powering.allowed;
    no_fault = λ calm none.
        let zs = zeros-done down.failed (all_right IsNoFailedZero (Route a b ∷ es) (zeros down.failed) none) in
        (Happens-after (Happens-then starts.happens powering.happens) down.happens).no_fault calm (All-cons IsDone (Route a b) (es ++ zeros down.failed) tt (All-append IsDone es (zeros down.failed) (powering.done calm) zs));
    not_charged = charged-zeros (Route a b ∷ es) down.failed;
  }

  pub stuck-runs : {es : List Event} {stop : Option RigStop} {r : RigState} → Powering p q es stop → IsStuck q r → StopsStuck bonds s r
  stuck-runs {es} {stop} {r} powering stuck = record {
    events = Route a b ∷ es ++ replicate 3 (Zero false);
    happens = Happens-failed (Happens-then starts.happens powering.happens) stuck.happens;
    of_source = route-of_source a b (es ++ replicate 3 (Zero false)) (All-append IsOfSource es (replicate 3 (Zero false)) powering.of_source
        (All-cons IsOfSource (Zero false) (replicate 2 (Zero false)) tt (All-cons IsOfSource (Zero false) (replicate 1 (Zero false)) tt (All-cons IsOfSource (Zero false) [] tt (All-nil IsOfSource)))));
    stuck = held-stuck bonds a b apart es powering.allowed;
    not_charged = subst IsNotCharged (append_assoc (Route a b ∷ es) (replicate 2 (Zero false)) (Zero false ∷ [])) (charged-other ((Route a b ∷ es) ++ replicate 2 (Zero false)) (Zero false) tt);
  }

  -- and waited for
  wait-happens : {es : List Event} {r w : RigState} {result : Result (Option ℕ) RigStop} {stop : Option RigStop} → Powering p q es None → (down : GoesDown q r) → (waits : Waits r w result)
      → Happens r w (waited waits.waits ++ waits.last) stop → Happens s w ((Route a b ∷ es ++ zeros down.failed) ++ (waited waits.waits ++ waits.last)) stop
  wait-happens powering down waits happens = Happens-then (down-runs powering down).happens happens

  wait-of_source : {es : List Event} {r w : RigState} {result : Result (Option ℕ) RigStop} → Powering p q es None → (down : GoesDown q r) → (waits : Waits r w result)
      → All IsOfSource ((Route a b ∷ es ++ zeros down.failed) ++ (waited waits.waits ++ waits.last))
  wait-of_source {es} {r} {w} {result} powering down waits =
      All-append IsOfSource (Route a b ∷ es ++ zeros down.failed) (waited waits.waits ++ waits.last) (down-runs powering down).of_source
      (All-append IsOfSource (waited waits.waits) waits.last (waited-of_source waits.waits) (last-of_source result waits.waits waits.last waits.ends))

  wait-rest : {es : List Event} {r w : RigState} {result : Result (Option ℕ) RigStop} → Powering p q es None → (down : GoesDown q r) → (waits : Waits r w result)
      → StaysAtRest bonds ((Route a b ∷ es ++ zeros down.failed) ++ (waited waits.waits ++ waits.last))
  wait-rest {es} {r} {w} {result} powering down waits =
      rest-append bonds (Route a b ∷ es ++ zeros down.failed) (waited waits.waits ++ waits.last) (down-runs powering down).rest
      (rest-append bonds (waited waits.waits) waits.last (waited-rest bonds waits.waits) (last-rest bonds result waits.waits waits.last waits.ends))

  wait-no_fault : {es : List Event} {r w : RigState} {result : Result (Option ℕ) RigStop} {stop : Option RigStop} → Powering p q es None → (down : GoesDown q r) → (waits : Waits r w result)
      → Happens r w (waited waits.waits ++ waits.last) stop → (stop ≡ Some Failed → ⊥) → All IsNoFailedZero ((Route a b ∷ es ++ zeros down.failed) ++ (waited waits.waits ++ waits.last)) → w.faults ≡ s.faults
  wait-no_fault {es} {r} {w} {result} powering down waits happens calm none =
      happens.no_fault calm (All-append IsDone (waited waits.waits) waits.last (waited-done waits.waits) (last-done result waits.waits waits.last waits.ends))
      ∙ (down-runs powering down).no_fault (λ is. cc) (all_left IsNoFailedZero (Route a b ∷ es ++ zeros down.failed) (waited waits.waits ++ waits.last) none)

  -- and discharged, or not, but for a unit that stayed charged
  pub wait-runs : {es : List Event} {r w : RigState} {result : Result (Option ℕ) RigStop} {stop : Option RigStop} → Powering p q es None → (down : GoesDown q r) → (waits : Waits r w result)
      → Happens r w (waited waits.waits ++ waits.last) stop → IsNoCharge result → Runs bonds s w ((Route a b ∷ es ++ zeros down.failed) ++ (waited waits.waits ++ waits.last)) stop
  wait-runs {es} {r} {w} {result} {stop} powering down waits happens uncharged = record {
    happens = wait-happens powering down waits happens;
    of_source = wait-of_source powering down waits;
    rest = wait-rest powering down waits;
    no_fault = wait-no_fault powering down waits happens;
    not_charged = charged-wait (Route a b ∷ es) down.failed result waits.waits waits.last waits.ends uncharged;
  }

  -- the interlock was open
  pub open-runs : {r : RigState} → (off : BreaksOff p q DoorOpen) → GoesDown q r → StopsOpen bonds s r
  open-runs {r} off down =
      let runs = down-runs (broken-powering starts.zero off) down in
      let door = off.door refl in
      let is : Route a b ∷ off.events ++ zeros down.failed ≡ (Route a b ∷ door.0) ++ Door false ∷ zeros down.failed =
      ap (λ (es : List Event). Route a b ∷ es ++ zeros down.failed) door.1 ∙ ap (λ (es : List Event). Route a b ∷ es) (append_assoc door.0 (Door false ∷ []) (zeros down.failed)) in
      record {
        events = Route a b ∷ off.events ++ zeros down.failed;
        runs = runs;
        door = record { before = Route a b ∷ door.0; after = zeros down.failed; events_are = is; no_door = zeros-no_door down.failed };
        opens =
            subst (λ (n : ℕ). Rose s.opens n) (sym (ap (λ (x : RigState). x.opens) runs.happens.frame))
            (subst (λ (es : List Event). Rose s.opens (happened_all es s).opens) (sym is) (opens-rose (Route a b ∷ door.0) (zeros down.failed) s));
      }

  -- the unit stayed charged
  pub charged-runs : {es : List Event} {r w : RigState} {v : ℕ} → Powering p q es None → GoesDown q r → Waits r w (Ok (Some v)) → StopsCharged bonds s w v
  charged-runs {es} {r} {w} {v} powering down waits =
      let first : List Event = Route a b ∷ es ++ zeros down.failed in
      record {
        events = first ++ (waited waits.waits ++ waits.last);
        happens = wait-happens powering down waits waits.happens;
        of_source = wait-of_source powering down waits;
        rest = wait-rest powering down waits;
        no_fault = wait-no_fault powering down waits waits.happens (λ is. cc);
        charged = record {
          before = first ++ waited waits.waits;
          events_are = ap (λ (l : List Event). first ++ (waited waits.waits ++ l)) waits.ends.2 ∙ sym (append_assoc first (waited waits.waits) (Residual v ∷ []));
          above = waits.ends.0;
          waited = λ x. let since = waited-since (Route a b ∷ es) down.failed waits.waits x in let count = waits.ends.1 in omega arith;
        };
        lasts = charged-some (Route a b ∷ es) down.failed (down-runs powering down).happens waits;
      }

  -- one whole application
  pub measured-runs : {r w : RigState} {v ticks : ℕ} {g : LeakReading} → 0 < v → v % 50 ≡ 0 → v ≤ 2000 → Holds p q v ticks g → GoesDown q r → Waits r w (Ok None) → Measures bonds s w a b v ticks g
  measured-runs {r} {w} {v} {ticks} {g} some by most holds down waits =
      let m : ℕ = v / 50 - 1 in
      let next : v / 50 ≡ suc m = omega arith in
      let is : v ≡ 50 * m + 50 = let whole = whole_steps v by in omega arith in
      let tail : List Event = waited waits.waits ++ waits.last in
      let runs = wait-runs (holds-powering by most holds) down waits waits.happens tt in
      let D : ℕ → Type 0 = λ n. Gains 0 0 1 n ticks 1 ((Route a b ∷ (ramp (suc m) ++ dwelling ticks ++ Leak g ∷ []) ++ zeros down.failed) ++ tail) in
      let P : ℕ → Type 0 = λ n. Runs bonds s w ((Route a b ∷ (ramp n ++ dwelling ticks ++ Leak g ∷ []) ++ zeros down.failed) ++ tail) None in
      record {
        run = run_of a b m ticks g down.failed tail;
        rest = (zeros-split down.failed).others ++ tail;
        runs = subst (λ (es : List Event). Runs bonds s w es None) (whole-is a b m ticks g down.failed tail) (subst P next runs);
        measuring = run-measuring a b m ticks g down.failed tail v is;
        counts = subst (Gains 0 0 1 (v / 50) ticks 1) (whole-is a b m ticks g down.failed tail) (subst D (sym next) (whole-gains a b m ticks g down.failed waits));
        truth = λ honest.
            let one = starts.happens in
            let Q : Option (List Row) → Option Groups → ℕ → Type 0 = λ o x n. IfSome o (λ rows. IfSome x (λ groups. g ≡ leak_of rows n groups.left groups.right v)) in
            subst (λ o. Q o (Some (record { left = a; right = b })) s.points) (Happens-truth one)
            (subst (λ n. Q p.truth (Some (record { left = a; right = b })) n) (Happens-points one)
            (subst (λ x. Q p.truth x p.points) (ap (λ (x : RigState). x.route) one.frame) (holds.truth (subst IsTrue (sym (Happens-honest one)) honest))));
        discharged =
            let at : v ≡ 50 * (v / 50) = let whole = whole_steps v by in omega arith in
            let leads = Leads-append (Leads-append (ramp_leads (v / 50) (omega arith)) (dwelling_leads (50 * (v / 50)) ticks)) (leak_leads (50 * (v / 50)) g) in
            discharged-none (Route a b ∷ (ramp (v / 50) ++ dwelling ticks ++ Leak g ∷ [])) down.failed (down-runs (holds-powering by most holds) down).happens
            (λ x. leads-raised leads (omega arith) (source_after x (Route a b))) waits;
      }

  -- ---- the exits

  pub measure-ok : {r w : RigState} {v ticks : ℕ} (held : Result LeakReading RaiseStop) (g : LeakReading) → 0 < v → v % 50 ≡ 0 → v ≤ 2000 → WasHeld p q v ticks held → GoesDown q r → Finishes r w held g → Measures bonds s w a b v ticks g
  measure-ok {r} {w} {v} {ticks} held g some by most was down finishes =
      measured-runs some by most (subst (λ (h : Result LeakReading RaiseStop). IfOk h (Holds p q v ticks)) finishes.held_so was.0) down finishes.waits

  pub measure-stuck : {r : RigState} (v ticks : ℕ) (held : Result LeakReading RaiseStop) → v % 50 ≡ 0 → v ≤ 2000 → WasHeld p q v ticks held → IsStuck q r → StopsStuck bonds s r
  measure-stuck v ticks (Ok g) by most was stuck = stuck-runs (holds-powering by most was.0) stuck
  measure-stuck v ticks (Err stop) by most was stuck = stuck-runs (broken-powering starts.zero was.1) stuck

  held-ok : (v ticks : ℕ) (held : Result LeakReading RaiseStop) (g : LeakReading) → held ≡ Ok g → WasHeld p q v ticks held → Holds p q v ticks g
  held-ok v ticks held g is was = subst (λ (h : Result LeakReading RaiseStop). IfOk h (Holds p q v ticks)) is was.0

  held-err : (v ticks : ℕ) (held : Result LeakReading RaiseStop) (stop : RaiseStop) → held ≡ Err stop → WasHeld p q v ticks held → BreaksOff p q stop
  held-err v ticks held stop is was = subst (λ (h : Result LeakReading RaiseStop). IfErr h (BreaksOff p q)) is was.1

  broken-rests : {r : RigState} {stop : RaiseStop} → BreaksOff p q stop → GoesDown q r → StopsAtRest bonds s r (stop_cause stop)
  broken-rests off down = record { events = Route a b ∷ off.events ++ zeros down.failed; runs = down-runs (broken-powering starts.zero off) down }

  waited-rests : {r w : RigState} {v ticks : ℕ} {g : LeakReading} {e : RigStop} → v % 50 ≡ 0 → v ≤ 2000 → Holds p q v ticks g → GoesDown q r → Waits r w (Err e) → StopsAtRest bonds s w (Some e)
  waited-rests by most holds down waits = record { events = _; runs = wait-runs (holds-powering by most holds) down waits waits.happens tt }

  pub measure-err : {R : Type 0} (state : R → RigState) {r : RigState} (v ticks : ℕ) (held : Result LeakReading RaiseStop) (stop : HvStop R) → v % 50 ≡ 0 → v ≤ 2000 → WasHeld p q v ticks held → GoesDown q r → FinishStops state r held stop → HvStopped state bonds s stop
  measure-err state {r} v ticks held (InterlockOpen safe) by most was down f = subst (λ (x : RigState). StopsOpen bonds s x) (sym f.1) (open-runs (held-err v ticks held DoorOpen f.0 was) down)
  measure-err state v ticks held (NotDischarged safe w) by most was down f = charged-runs (holds-powering by most (held-ok v ticks held f.0 f.1 was)) down f.2
  measure-err state {r} v ticks held (RigWhileSafe safe) by most was down f = elim f as (λ _. StopsAtRest bonds s (state safe.rig) (Some Failed)) [
    | inl x ↦ rests-now x.1 (broken-rests (held-err v ticks held RigFailed x.0 was) down)
    | inr x ↦ waited-rests by most (held-ok v ticks held x.0 x.1 was) down x.2
  ]
  measure-err state v ticks held (RigBefore proven) by most was down f = absurd f
  measure-err state v ticks held (NotZero stuck) by most was down f = absurd f
  measure-err state {r} v ticks held (Memory rig) by most was down f = elim f as (λ _. StopsAtRest bonds s (state rig) None) [
    | inl x ↦ rests-now x.1 (stops-memory (broken-rests (held-err v ticks held MemoryRanOut x.0 was) down))
    | inr x ↦ stops-memory (waited-rests by most (held-ok v ticks held x.0 x.1 was) down x.2)
  ]
