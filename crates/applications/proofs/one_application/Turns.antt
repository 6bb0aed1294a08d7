-- The turns of the loops that raise and hold a voltage with a reading of the leak before each tick.
use Rattle.std.proofs.Common.{◌≡◌, ℕ, ◌+◌, ◌*◌, ◌/◌, ◌%◌, ◌<◌, ◌≤◌, true, false, List, [], ◌∷◌, ◌++◌, Option, Some, None, Ok, Err, IsTrue, refl, sym, ◌∙◌, ap, subst, arith, append_assoc}
use Rattle.std.specs.Prelude.{IsFalse}
use Rattle.std.proofs.lemmas.List.Elements.{All-append, All-cons, All-nil}
use Rattle.rig.specs.declared.event.Event.{Event}
use Rattle.rig.specs.declared.event.Event.TheVariants.{Door, Leak, Raise, Tick}
use Rattle.rig.specs.declared.event.Leak.{Leak as LeakReading}
use Rattle.rig.specs.declared.rig.RigStop.{RigStop}
use Rattle.rig.specs.declared.powered.RaiseStop.{RaiseStop}
use Rattle.rig.specs.declared.powered.RaiseStop.TheVariants.{DoorOpen}
use Rattle.rig.specs.RigState.{RigState}
use Rattle.rig.specs.Calls.{ReadsInterlock, ReadsLeak, Ticks}
use Rattle.rig.specs.Happened.{Happens}
use Rattle.rig.specs.Powered.{Steps, raise_stop_of, stop_cause}
use Rattle.rig.proofs.CallEvents.{Happens-interlock, Happens-leak, Happens-tick}
use Rattle.rig.proofs.Happening.{Happens-as, Happens-none, Happens-then}
use Rattle.applications.specs.declared.endurance.Breakdown.{Breakdown}
use Rattle.applications.specs.declared.endurance.Endurance.{Endurance}
use Rattle.applications.specs.Holding.{BreaksOff, Leads, MayFollowAt}
use Rattle.applications.specs.Measuring.{IsNoRoute}
use Rattle.applications.specs.Enduring.{Breaks, Endures, Held, HoldsBelow, IsEndurance, IsNoZero, LastStep, Part, Risen, StayBreaks, Stayed, Stays, TellsLeaks, breaks_down, rise_to, stay_turn}
use Rattle.applications.proofs.Allowed.{leak_leads, none_allowed, open_allowed}
use Rattle.applications.proofs.one_application.Climbing.{EndsOpen, OfStop, calm_stop, none_stop, Happens-cause, breaks-off, no_door, one_of, steps-broken}
use Rattle.applications.proofs.one_application.Parts.{Part-append, Part-less, Part-none, below-more, below-none, count-append, count-none, count-turn, door_part, part-route, part-volts, raise_to, raised_part, read-append, read-none, read-turn, rise_part, stay_part, tells-always, tells-before, tells-both}

-- a turn that was broken off, after some events
pub off-at : {s t u : RigState} {xs ys : List Event} {nanoamps v w r k l : ℕ} {stop : RaiseStop} → s.volts ≡ v → Happens s t xs None → Part nanoamps v w r k l xs
    → Happens t u ys (stop_cause stop) → MayFollowAt w ys → OfStop stop ys → EndsOpen stop ys → BreaksOff s u stop
off-at {s} {t} {u} {xs} {ys} {nanoamps} {v} {w} at before part now allowed of_stop ends =
    breaks-off before (subst (λ (n : ℕ). Leads n w xs) (sym at) part.leads) part.calm now allowed of_stop ends

-- the volts and the leak that an honest rig read
leak-told : {s t u : RigState} {es : List Event} {g : LeakReading} (w : ℕ) → Happens s t es None → t.route ≡ s.route → t.volts ≡ w → ReadsLeak t u (Ok g) → TellsLeaks s (λ f. g ≡ f w)
leak-told {s} {t} {u} {es} {g} w h same at read =
    tells-before (λ f. g ≡ f w) h same (subst (λ (n : ℕ). TellsLeaks t (λ f. g ≡ f n)) at read.truth)

-- ---- the rise

pub Risen-none : (s : RigState) (nanoamps : ℕ) → Risen s s 0 nanoamps
Risen-none s nanoamps = record {
  events = [];
  happens = Happens-none s;
  part = Part-none nanoamps 0;
  last = λ some. absurd (omega arith);
  truth = tells-always s (λ f. HoldsBelow f nanoamps 50) (λ f. below-none f nanoamps);
}

pub Risen-volts : {s t : RigState} {i nanoamps : ℕ} → s.volts ≡ 0 → Risen s t i nanoamps → t.volts ≡ 50 * i
Risen-volts zeroed before = part-volts before.happens before.part zeroed

by_fifty : (i : ℕ) → (50 * i) % 50 ≡ 0
by_fifty i = omega arith

module _ {s t u : RigState} {i steps nanoamps : ℕ} (zeroed : s.volts ≡ 0) (less : i < steps) (low : 50 * steps ≤ 2000) (before : Risen s t i nanoamps) where
  pub rise-no_step : {stop : RaiseStop} → Steps t u (Err stop) → BreaksOff s u stop
  rise-no_step {stop} refused =
      let b = steps-broken (50 * i) stop (Risen-volts zeroed before) (by_fifty i) (omega arith) refused in
      off-at zeroed before.happens before.part b.happens b.allowed b.of_stop b.ends_open

  module _ {x : Unit} (done : Steps t u (Ok x)) where
    raised : Happens t u (raise_to (50 * i + 50)) None
    raised = Happens-as (done.which ∙ ap (λ (v : ℕ). Door true ∷ Raise (v + 50) true ∷ []) (Risen-volts zeroed before)) done.happens

    here_part : Part nanoamps (50 * i) (50 * i + 50) 1 0 0 (raise_to (50 * i + 50))
    here_part = raised_part nanoamps (50 * i) (by_fifty i) (omega arith)

    pub raised-volts : u.volts ≡ 50 * i + 50
    raised-volts = part-volts raised here_part (Risen-volts zeroed before)

    both : Happens s u (before.events ++ raise_to (50 * i + 50)) None
    both = Happens-then before.happens raised

    both_part : Part nanoamps 0 (50 * i + 50) (i + 1) 0 0 (before.events ++ raise_to (50 * i + 50))
    both_part = Part-append before.part here_part

    told : {w : RigState} {g : LeakReading} → ReadsLeak u w (Ok g) → TellsLeaks s (λ f. g ≡ f (50 * i + 50))
    told read = leak-told (50 * i + 50) both (part-route both both_part) raised-volts read

    pub rise-no_leak : {w : RigState} {e : RigStop} → ReadsLeak u w (Err e) → BreaksOff s w (raise_stop_of e)
    rise-no_leak {w} {e} refused =
        off-at zeroed both both_part (Happens-cause e (Happens-leak (Err e) refused)) (none_allowed (50 * i + 50)) none_stop (λ is. absurd (no_door e is))

    module _ {w : RigState} {g : LeakReading} (read : ReadsLeak u w (Ok g)) where
      pub rise-breaks : IsTrue (breaks_down nanoamps (50 * i + 50) g) → Breaks s w (50 * steps) nanoamps (record { volts = 50 * i + 50; leak = g })
      rise-breaks above = record {
        climb = before.events ++ raise_to (50 * i + 50);
        happens = Happens-then both (Happens-leak (Ok g) read);
        part = Part-less (omega arith) (omega arith) (omega arith) both_part;
        some = omega arith;
        by_fifty = omega arith;
        at_most = omega arith;
        above = above;
        truth = tells-both s (λ f. HoldsBelow f nanoamps (50 * i + 50)) (λ f. g ≡ f (50 * i + 50)) (λ f. HoldsBelow f nanoamps (50 * i + 50) × (g ≡ f (50 * i + 50))) (λ f p q. (p, q)) before.truth (told read);
      }

      pub rise-no_tick : {z : RigState} {e : RigStop} → Ticks w z (Err e) → BreaksOff s z (raise_stop_of e)
      rise-no_tick {z} {e} refused =
          off-at zeroed both both_part (Happens-cause e (Happens-then (Happens-leak (Ok g) read) (Happens-tick (Err e) refused))) (leak_leads (50 * i + 50) g).allowed (calm_stop (Leak g ∷ []) (one_of (Leak g) (tt, tt))) (λ is. absurd (no_door e is))

      pub Risen-more : {z : RigState} {y : Unit} → IsFalse (breaks_down nanoamps (50 * i + 50) g) → Ticks w z (Ok y) → Risen s z (i + 1) nanoamps
      Risen-more {z} {y} below tick =
          let next : 50 * i + 50 ≡ 50 * (i + 1) = omega arith in
          let turn : List Event = rise_to (50 * i + 50) g in
          let grown : Part nanoamps 0 (50 * i + 50) (i + 1) 0 0 (before.events ++ turn) = Part-append before.part (rise_part nanoamps (50 * i) (by_fifty i) (omega arith) g below) in
          let ends : LastStep (50 * i + 50) (before.events ++ turn) = record { before = before.events; leak = g; events_are = refl; no_route = before.part.no_route } in
          let truth : TellsLeaks s (λ f. HoldsBelow f nanoamps ((50 * i + 50) + 50)) =
          tells-both s (λ f. HoldsBelow f nanoamps (50 * i + 50)) (λ f. g ≡ f (50 * i + 50)) (λ f. HoldsBelow f nanoamps ((50 * i + 50) + 50))
          (λ f p q. below-more f nanoamps (50 * i + 50) (omega arith) p (subst (λ (x : LeakReading). IsFalse (breaks_down nanoamps (50 * i + 50) x)) q below)) before.truth (told read) in
          record {
            events = before.events ++ turn;
            happens = Happens-then before.happens (Happens-then raised (Happens-then (Happens-leak (Ok g) read) (Happens-tick (Ok y) tick)));
            part = subst (λ (n : ℕ). Part nanoamps 0 n (i + 1) 0 0 (before.events ++ turn)) next grown;
            last = λ some. subst (λ (n : ℕ). LastStep n (before.events ++ turn)) next ends;
            truth = subst (λ (n : ℕ). TellsLeaks s (λ f. HoldsBelow f nanoamps (n + 50))) next truth;
          }

pub Risen-all : {s t : RigState} {i steps nanoamps : ℕ} → i ≡ steps → Risen s t i nanoamps → Risen s t steps nanoamps
Risen-all {s} {t} {i} {steps} {nanoamps} is rose = subst (λ (n : ℕ). Risen s t n nanoamps) is rose

-- ---- the dwell

pub Stayed-none : (s : RigState) (v nanoamps : ℕ) → Stayed s s v 0 nanoamps
Stayed-none s v nanoamps = record { events = []; happens = Happens-none s; part = Part-none nanoamps v; count = count-none; read = read-none }

module _ {s t u : RigState} {v i nanoamps : ℕ} (at : s.volts ≡ v) (before : Stayed s t v i nanoamps) where
  pub stay-no_door : {e : RigStop} → ReadsInterlock t u (Err e) → BreaksOff s u (raise_stop_of e)
  stay-no_door {e} refused =
      off-at at before.happens before.part (Happens-cause e (Happens-interlock (Err e) refused)) (none_allowed v) none_stop (λ is. absurd (no_door e is))

  pub stay-open : ReadsInterlock t u (Ok false) → BreaksOff s u DoorOpen
  stay-open is_open = off-at at before.happens before.part (Happens-interlock (Ok false) is_open) (open_allowed v) (calm_stop (Door false ∷ []) (one_of (Door false) (tt, tt))) (λ is. ([], refl))

  module _ (closed : ReadsInterlock t u (Ok true)) where
    door : Happens s u (before.events ++ Door true ∷ []) None
    door = Happens-then before.happens (Happens-interlock (Ok true) closed)

    door_there : Part nanoamps v v (0 + 0) (i + 0) (i + 0) (before.events ++ Door true ∷ [])
    door_there = Part-append before.part (door_part nanoamps v)

    pub closed-volts : u.volts ≡ v
    closed-volts = part-volts door door_there at

    pub stay-no_leak : {w : RigState} {e : RigStop} → ReadsLeak u w (Err e) → BreaksOff s w (raise_stop_of e)
    stay-no_leak {w} {e} refused =
        off-at at door door_there (Happens-cause e (Happens-leak (Err e) refused)) (none_allowed v) none_stop (λ is. absurd (no_door e is))

    module _ {w : RigState} {g : LeakReading} (read : ReadsLeak u w (Ok g)) where
      pub stay-breaks : IsTrue (breaks_down nanoamps v g) → StayBreaks s w v nanoamps (record { volts = v; leak = g })
      stay-breaks above = record {
        climb = before.events ++ Door true ∷ [];
        happens = Happens-then door (Happens-leak (Ok g) read);
        part = Part-less (omega arith) (omega arith) (omega arith) door_there;
        at = refl;
        above = above;
        truth = leak-told v door (part-route door door_there) closed-volts read;
      }

      pub stay-no_tick : {z : RigState} {e : RigStop} → Ticks w z (Err e) → BreaksOff s z (raise_stop_of e)
      stay-no_tick {z} {e} refused =
          off-at at door door_there (Happens-cause e (Happens-then (Happens-leak (Ok g) read) (Happens-tick (Err e) refused))) (leak_leads v g).allowed (calm_stop (Leak g ∷ []) (one_of (Leak g) (tt, tt))) (λ is. absurd (no_door e is))

      pub Stayed-more : {z : RigState} {y : Unit} → 0 < v → IsFalse (breaks_down nanoamps v g) → Ticks w z (Ok y) → Stayed s z v (i + 1) nanoamps
      Stayed-more {z} {y} some below tick = record {
        events = before.events ++ stay_turn g;
        happens = Happens-then before.happens (Happens-then (Happens-interlock (Ok true) closed) (Happens-then (Happens-leak (Ok g) read) (Happens-tick (Ok y) tick)));
        part = Part-append before.part (stay_part nanoamps v some g below);
        count = count-append i 1 before.events (stay_turn g) before.count (count-turn g);
        read = read-append before.events (stay_turn g) before.read (read-turn g);
      }

pub Stayed-all : {s t : RigState} {v i ticks nanoamps : ℕ} → i ≡ ticks → Stayed s t v i nanoamps → Stayed s t v ticks nanoamps
Stayed-all {s} {t} {v} {i} {ticks} {nanoamps} is stayed = subst (λ (n : ℕ). Stayed s t v n nanoamps) is stayed

-- ---- both

module _ {s t : RigState} (test : Endurance) (zeroed : s.volts ≡ 0) (is : IsEndurance test) (rose : Risen s t (test.volts / 50) test.nanoamps) where
  pub whole : 50 * (test.volts / 50) ≡ test.volts
  whole = let by = is.by_fifty in omega arith

  steps-some : 0 < test.volts / 50
  steps-some = let some = is.some in let by = is.by_fifty in omega arith

  rose_part : Part test.nanoamps 0 test.volts (test.volts / 50) 0 0 rose.events
  rose_part = subst (λ (n : ℕ). Part test.nanoamps 0 n (test.volts / 50) 0 0 rose.events) whole rose.part

  pub endure-volts : t.volts ≡ test.volts
  endure-volts = part-volts rose.happens rose_part zeroed

  rose_truth : TellsLeaks s (λ f. HoldsBelow f test.nanoamps (test.volts + 50))
  rose_truth = subst (λ (n : ℕ). TellsLeaks s (λ f. HoldsBelow f test.nanoamps (n + 50))) whole rose.truth

  pub endure-off : {u : RigState} (stop : RaiseStop) → BreaksOff t u stop → BreaksOff s u stop
  endure-off {u} stop off = off-at zeroed rose.happens rose_part off.happens (subst (λ (n : ℕ). MayFollowAt n off.events) endure-volts off.allowed) (off.of_source, off.done) off.door

  stay_held : {u : RigState} → Stayed t u test.volts test.ticks test.nanoamps → Held s u test
  stay_held {u} stayed =
      let last : LastStep test.volts rose.events = subst (λ (n : ℕ). LastStep n rose.events) whole (rose.last steps-some) in
      let climb : List Event = last.before ++ Door true ∷ [] in
      let dwell : List Event = Leak last.leak ∷ Tick ∷ stayed.events in
      let regroup : rose.events ++ stayed.events ≡ climb ++ Raise test.volts true ∷ dwell =
      ap (λ (es : List Event). es ++ stayed.events) last.events_are ∙ append_assoc last.before (rise_to test.volts last.leak) stayed.events ∙ sym (append_assoc last.before (Door true ∷ []) (Raise test.volts true ∷ dwell)) in
      let parts : Part test.nanoamps 0 test.volts (test.volts / 50) test.ticks test.ticks (rose.events ++ stayed.events) = Part-less (omega arith) (omega arith) (omega arith) (Part-append rose_part stayed.part) in
      record {
        climb = climb;
        dwell = dwell;
        happens = Happens-as regroup (Happens-then rose.happens stayed.happens);
        part = subst (Part test.nanoamps 0 test.volts (test.volts / 50) test.ticks test.ticks) regroup parts;
        no_route = All-append IsNoRoute last.before (Door true ∷ []) last.no_route (All-cons IsNoRoute (Door true) [] tt (All-nil IsNoRoute));
        no_zero = All-cons IsNoZero (Leak last.leak) (Tick ∷ stayed.events) tt (All-cons IsNoZero Tick stayed.events tt stayed.part.no_zero);
        count = λ more. let later = stayed.count more in omega arith;
        read = λ more h. (refl, stayed.read more h);
        truth = rose_truth;
      }

  stay_breaks : {u : RigState} (broken : Breakdown) → StayBreaks t u test.volts test.nanoamps broken → Breaks s u test.volts test.nanoamps broken
  stay_breaks {u} broken b =
      let volts = b.at in
      let P : ℕ → Type 0 = λ n. Part test.nanoamps 0 n (test.volts / 50) 0 0 (rose.events ++ b.climb) in
      let at_test : Part test.nanoamps 0 test.volts (test.volts / 50) 0 0 (rose.events ++ b.climb) = Part-less (omega arith) (omega arith) (omega arith) (Part-append rose_part b.part) in
      let steps : broken.volts / 50 ≡ test.volts / 50 = ap (λ (n : ℕ). n / 50) volts in
      let later : TellsLeaks s (λ f. broken.leak ≡ f test.volts) = tells-before (λ f. broken.leak ≡ f test.volts) rose.happens (part-route rose.happens rose_part) b.truth in
      let truth : TellsLeaks s (λ f. HoldsBelow f test.nanoamps test.volts × (broken.leak ≡ f test.volts)) =
      tells-both s (λ f. HoldsBelow f test.nanoamps (test.volts + 50)) (λ f. broken.leak ≡ f test.volts) (λ f. HoldsBelow f test.nanoamps test.volts × (broken.leak ≡ f test.volts))
      (λ f p q. (λ w some by less. p w some by (omega arith), q)) rose_truth later in
      record {
        climb = rose.events ++ b.climb;
        happens = Happens-as (sym (append_assoc rose.events b.climb (Leak broken.leak ∷ []))) (Happens-then rose.happens b.happens);
        part = subst (λ (n : ℕ). Part test.nanoamps 0 broken.volts n 0 0 (rose.events ++ b.climb)) (sym steps) (subst P (sym volts) at_test);
        some = let some = is.some in omega arith;
        by_fifty = ap (λ (n : ℕ). n % 50) volts ∙ is.by_fifty;
        at_most = omega arith;
        above = subst (λ (n : ℕ). IsTrue (breaks_down test.nanoamps n broken.leak)) (sym volts) b.above;
        truth = subst (λ (n : ℕ). TellsLeaks s (λ f. HoldsBelow f test.nanoamps n × (broken.leak ≡ f n))) (sym volts) truth;
      }

  pub endures : (u : RigState) (broken : Option Breakdown) → Stays t u test.volts test.ticks test.nanoamps broken → Endures s u test broken
  endures u None stayed = stay_held stayed
  endures u (Some broken) b = stay_breaks broken b

-- a breakdown in the rise
pub rise-endures : {s t : RigState} (test : Endurance) (broken : Breakdown) → IsEndurance test → Breaks s t (50 * (test.volts / 50)) test.nanoamps broken → Breaks s t test.volts test.nanoamps broken
rise-endures {s} {t} test broken is b = subst (λ (n : ℕ). Breaks s t n test.nanoamps broken) (let by = is.by_fifty in omega arith) b
