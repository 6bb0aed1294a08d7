-- Events while a voltage stands, one part after the other.
use Rattle.std.proofs.Common.{◌≡◌, ℕ, ◌+◌, ◌%◌, ◌<◌, ◌≤◌, true, false, List, [], ◌∷◌, ◌++◌, Option, Some, None, IsTrue, refl, sym, ◌∙◌, ap, subst, arith, inl, inr, append_assoc}
use Rattle.std.specs.Prelude.{All, IfSome, IsFalse}
use Rattle.std.proofs.lemmas.Bool.{cases_lt}
use Rattle.std.proofs.lemmas.List.Elements.{All-append, All-cons, All-head, All-nil, All-tail}
use Rattle.rig.specs.declared.event.Event.{Event}
use Rattle.rig.specs.declared.event.Event.TheVariants.{Reading, Ohms, Junction, Door, Route, Raise, Leak, Zero, Residual, Tick}
use Rattle.rig.specs.declared.event.Leak.{Leak as LeakReading}
use Rattle.rig.specs.declared.rig.RigStop.{RigStop}
use Rattle.rig.specs.declared.unit.Row.{Row}
use Rattle.rig.specs.RigState.{RigState, Groups}
use Rattle.rig.specs.Happened.{Happens, happened, happened_all, volts_after, volts_all}
use Rattle.applications.specs.Holding.{IsCalm}
use Rattle.rig.specs.Values.{leak_of}
use Rattle.rig.proofs.Happening.{Happens-honest, Happens-points, Happens-truth}
use Rattle.applications.specs.Measuring.{IsNoRoute, tick_count}
use Rattle.applications.specs.Enduring.{AllWithin, CountTicks, HoldsBelow, IsNoZero, LeaksBetween, Part, ReadLeaks, TellsLeaks, breaks_down, rise_to, stay_turn}
use Rattle.applications.proofs.Allowed.{Leads-append, Leads-none, raise_allowed}
use Rattle.applications.proofs.one_application.Climbing.{one_of, two_of}
use Rattle.applications.proofs.Counted.{gain_door, gain_leak, gain_raise, gain_tick, gain_tick_at, gains-append, gains-less, gains-none}

-- ---- put together

pub within-append : (nanoamps v : ℕ) (xs ys : List Event) → AllWithin nanoamps v xs → AllWithin nanoamps (volts_all v xs) ys → AllWithin nanoamps v (xs ++ ys)
within-append nanoamps v [] ys h k = k
within-append nanoamps v (x ∷ xs) ys h k = (h.0, within-append nanoamps (volts_after v x) xs ys h.1 k)

pub Part-none : (nanoamps v : ℕ) → Part nanoamps v v 0 0 0 []
Part-none nanoamps v = record { leads = Leads-none v; calm = All-nil IsCalm; no_route = All-nil IsNoRoute; no_zero = All-nil IsNoZero; gains = gains-none v; within = tt }

pub Part-append : {nanoamps u v w r t l r' t' l' : ℕ} {xs ys : List Event} → Part nanoamps u v r t l xs → Part nanoamps v w r' t' l' ys → Part nanoamps u w (r + r') (t + t') (l + l') (xs ++ ys)
Part-append {nanoamps} {u} {v} {w} {r} {t} {l} {r'} {t'} {l'} {xs} {ys} first second = record {
  leads = Leads-append first.leads second.leads;
  calm = All-append IsCalm xs ys first.calm second.calm;
  no_route = All-append IsNoRoute xs ys first.no_route second.no_route;
  no_zero = All-append IsNoZero xs ys first.no_zero second.no_zero;
  gains = gains-append first.gains second.gains;
  within = within-append nanoamps u xs ys first.within (subst (λ (n : ℕ). AllWithin nanoamps n ys) (sym first.gains.volts) second.within);
}

pub Part-less : {nanoamps v w r t l r' t' l' : ℕ} {es : List Event} → r' ≤ r → t' ≤ t → l' ≤ l → Part nanoamps v w r t l es → Part nanoamps v w r' t' l' es
Part-less lr lt ll part = record {
  leads = part.leads;
  calm = part.calm;
  no_route = part.no_route;
  no_zero = part.no_zero;
  gains = gains-less (omega arith) lr lt ll part.gains;
  within = part.within;
}

-- ---- one turn

abbrev pub raise_to : ℕ → List Event
raise_to v = Door true ∷ Raise v true ∷ []

all_two : (P : Event → Type 0) (a b : Event) → P a → P b → All P (a ∷ b ∷ [])
all_two P a b x y = All-cons P a (b ∷ []) x (All-cons P b [] y (All-nil P))

all_three : (P : Event → Type 0) (a b c : Event) → P a → P b → P c → All P (a ∷ b ∷ c ∷ [])
all_three P a b c x y z = All-cons P a (b ∷ c ∷ []) x (all_two P b c y z)

all_four : (P : Event → Type 0) (a b c d : Event) → P a → P b → P c → P d → All P (a ∷ b ∷ c ∷ d ∷ [])
all_four P a b c d w x y z = All-cons P a (b ∷ c ∷ d ∷ []) w (all_three P b c d x y z)

pub door_part : (nanoamps v : ℕ) → Part nanoamps v v 0 0 0 (Door true ∷ [])
door_part nanoamps v = record {
  leads = record { allowed = λ bonds s at. (tt, tt); then = λ s at. record { routed = at.routed; volts = at.volts; no_stop = at.no_stop } };
  calm = one_of (Door true) (tt, tt);
  no_route = All-cons IsNoRoute (Door true) [] tt (All-nil IsNoRoute);
  no_zero = All-cons IsNoZero (Door true) [] tt (All-nil IsNoZero);
  gains = gain_door v true;
  within = (tt, tt);
}

module _ (nanoamps v : ℕ) (by : v % 50 ≡ 0) (low : v + 50 ≤ 2000) where
  pub raised_part : Part nanoamps v (v + 50) 1 0 0 (raise_to (v + 50))
  raised_part = record {
    leads = record { allowed = raise_allowed v by low true; then = λ s at. record { routed = at.routed; volts = refl; no_stop = at.no_stop } };
    calm = two_of (Door true) (Raise (v + 50) true) (tt, tt) (tt, tt);
    no_route = all_two IsNoRoute (Door true) (Raise (v + 50) true) tt tt;
    no_zero = all_two IsNoZero (Door true) (Raise (v + 50) true) tt tt;
    gains = gains-append (gain_door v true) (gain_raise v (v + 50));
    within = (tt, (tt, tt));
  }

  pub rise_part : (g : LeakReading) → IsFalse (breaks_down nanoamps (v + 50) g) → Part nanoamps v (v + 50) 1 0 0 (rise_to (v + 50) g)
  rise_part g below = record {
    leads = record {
      allowed = λ bonds s at. (
        tt,
        (
          record {
            routed = at.routed;
            closed = refl;
            by_fifty = omega arith;
            at_most = low;
            step = let same = at.volts in omega arith;
            no_stop = at.no_stop;
          },
          (tt, (record { door_read = λ powered. refl; no_stop = at.no_stop }, tt)),
        ),
      );
      then = λ s at. record { routed = at.routed; volts = refl; no_stop = at.no_stop };
    };
    calm = all_four IsCalm (Door true) (Raise (v + 50) true) (Leak g) Tick (tt, tt) (tt, tt) (tt, tt) (tt, tt);
    no_route = all_four IsNoRoute (Door true) (Raise (v + 50) true) (Leak g) Tick tt tt tt tt;
    no_zero = all_four IsNoZero (Door true) (Raise (v + 50) true) (Leak g) Tick tt tt tt tt;
    gains =
        gains-less (omega arith) (omega arith) (omega arith) (omega arith)
        (gains-append (gains-append (gains-append (gain_door v true) (gain_raise v (v + 50))) (gain_leak (v + 50) g)) (gain_tick (v + 50)));
    within = (tt, (tt, (below, (tt, tt))));
  }

pub stay_part : (nanoamps v : ℕ) → 0 < v → (g : LeakReading) → IsFalse (breaks_down nanoamps v g) → Part nanoamps v v 0 1 1 (stay_turn g)
stay_part nanoamps v some g below = record {
  leads = record {
    allowed = λ bonds s at. (tt, (tt, (record { door_read = λ powered. refl; no_stop = at.no_stop }, tt)));
    then = λ s at. record { routed = at.routed; volts = at.volts; no_stop = at.no_stop };
  };
  calm = all_three IsCalm (Door true) (Leak g) Tick (tt, tt) (tt, tt) (tt, tt);
  no_route = all_three IsNoRoute (Door true) (Leak g) Tick tt tt tt;
  no_zero = all_three IsNoZero (Door true) (Leak g) Tick tt tt tt;
  gains = gains-append (gains-append (gain_door v true) (gain_leak v g)) (gain_tick_at v some);
  within = (tt, (below, (tt, tt)));
}

-- ---- ticks and the leaks between them

pub count-none : CountTicks 0 []
count-none = λ more. omega arith

pub count-append : (n m : ℕ) (xs ys : List Event) → CountTicks n xs → CountTicks m ys → CountTicks (n + m) (xs ++ ys)
count-append n m xs ys first second = λ more.
    let one = first (ys ++ more) in
    let two = second more in
    let same = ap tick_count (append_assoc xs ys more) in
    omega arith

pub count-turn : (g : LeakReading) → CountTicks 1 (stay_turn g)
count-turn g = λ more. omega arith

pub read-none : ReadLeaks []
read-none = λ more h. h

pub read-append : (xs ys : List Event) → ReadLeaks xs → ReadLeaks ys → ReadLeaks (xs ++ ys)
read-append xs ys first second = λ more h. subst (LeaksBetween false) (sym (append_assoc xs ys more)) (first (ys ++ more) (second more h))

pub read-turn : (g : LeakReading) → ReadLeaks (stay_turn g)
read-turn g = λ more h. (refl, h)

-- ---- the state after a part

route_kept : (e : Event) (s : RigState) → IsNoRoute e → (happened e s).route ≡ s.route
route_kept (Reading a b met) s none = refl
route_kept (Ohms a b r) s none = refl
route_kept (Junction a b d) s none = refl
route_kept (Door closed) s none = refl
route_kept (Route a b) s none = absurd none
route_kept (Raise v done) s none = refl
route_kept (Leak g) s none = refl
route_kept (Zero done) s none = refl
route_kept (Residual v) s none = refl
route_kept Tick s none = refl

pub route-all : (es : List Event) (s : RigState) → All IsNoRoute es → (happened_all es s).route ≡ s.route
route-all [] s none = refl
route-all (e ∷ es) s none = route-all es (happened e s) (All-tail IsNoRoute e es none) ∙ route_kept e s (All-head IsNoRoute e es none)

volts_all-state : (es : List Event) (s : RigState) → (happened_all es s).volts ≡ volts_all s.volts es
volts_all-state [] s = refl
volts_all-state (e ∷ es) s = volts_all-state es (happened e s)

module _ {s t : RigState} {es : List Event} {nanoamps v w r k l : ℕ} {stop : Option RigStop} (h : Happens s t es stop) (part : Part nanoamps v w r k l es) where
  pub part-volts : s.volts ≡ v → t.volts ≡ w
  part-volts at = ap (λ (x : RigState). x.volts) h.frame ∙ volts_all-state es s ∙ ap (λ (n : ℕ). volts_all n es) at ∙ part.gains.volts

  pub part-route : t.route ≡ s.route
  part-route = ap (λ (x : RigState). x.route) h.frame ∙ route-all es s part.no_route

-- ---- what an honest rig tells

tells_two : (truth : Option (List Row)) (route : Option Groups) (leak : List Row → Groups → ℕ → LeakReading) (P Q S : (ℕ → LeakReading) → Type 0) → ((f : ℕ → LeakReading) → P f → Q f → S f)
    → IfSome truth (λ rows. IfSome route (λ groups. P (leak rows groups))) → IfSome truth (λ rows. IfSome route (λ groups. Q (leak rows groups))) → IfSome truth (λ rows. IfSome route (λ groups. S (leak rows groups)))
tells_two None route leak P Q S f p q = tt
tells_two (Some rows) None leak P Q S f p q = tt
tells_two (Some rows) (Some groups) leak P Q S f p q = f (leak rows groups) p q

pub tells-both : (s : RigState) (P Q S : (ℕ → LeakReading) → Type 0) → ((f : ℕ → LeakReading) → P f → Q f → S f) → TellsLeaks s P → TellsLeaks s Q → TellsLeaks s S
tells-both s P Q S f p q = λ honest. tells_two s.truth s.route (λ rows groups. leak_of rows s.points groups.left groups.right) P Q S f (p honest) (q honest)

tells_none : (truth : Option (List Row)) (route : Option Groups) (leak : List Row → Groups → ℕ → LeakReading) (P : (ℕ → LeakReading) → Type 0) → ((f : ℕ → LeakReading) → P f)
    → IfSome truth (λ rows. IfSome route (λ groups. P (leak rows groups)))
tells_none None route leak P f = tt
tells_none (Some rows) None leak P f = tt
tells_none (Some rows) (Some groups) leak P f = f (leak rows groups)

pub tells-always : (s : RigState) (P : (ℕ → LeakReading) → Type 0) → ((f : ℕ → LeakReading) → P f) → TellsLeaks s P
tells-always s P f = λ honest. tells_none s.truth s.route (λ rows groups. leak_of rows s.points groups.left groups.right) P f

-- told later, of the same route
pub tells-before : {s t : RigState} {es : List Event} {stop : Option RigStop} (P : (ℕ → LeakReading) → Type 0) → Happens s t es stop → t.route ≡ s.route → TellsLeaks t P → TellsLeaks s P
tells-before {s} {t} P h same tells = λ honest.
    let Q : Option (List Row) → Option Groups → ℕ → Type 0 = λ o r n. IfSome o (λ rows. IfSome r (λ groups. P (leak_of rows n groups.left groups.right))) in
    subst (λ o. Q o s.route s.points) (Happens-truth h)
    (subst (λ r. Q t.truth r s.points) same
    (subst (λ n. Q t.truth t.route n) (Happens-points h)
    (tells (subst IsTrue (sym (Happens-honest h)) honest))))

-- ---- no breakdown below some volts

pub below-none : (leak : ℕ → LeakReading) (nanoamps : ℕ) → HoldsBelow leak nanoamps 50
below-none leak nanoamps = λ w some by less. absurd (omega arith)

pub below-more : (leak : ℕ → LeakReading) (nanoamps v : ℕ) → v % 50 ≡ 0 → HoldsBelow leak nanoamps v → IsFalse (breaks_down nanoamps v (leak v)) → HoldsBelow leak nanoamps (v + 50)
below-more leak nanoamps v by before here = λ w some by_w less. elim (cases_lt w v) as (λ _. IsFalse (breaks_down nanoamps w (leak w))) [
  | inl is ↦ before w some by_w is
  | inr is ↦ subst (λ (x : ℕ). IsFalse (breaks_down nanoamps x (leak x))) (let same : v ≡ w = omega arith in same) here
]
