-- What the events of an application count.
use Rattle.std.proofs.Common.{◌≡◌, ℕ, zero, suc, ◌+◌, ◌*◌, ◌<◌, ◌≤◌, Bool, true, false, cond, List, [], ◌∷◌, ◌++◌, Option, Result, refl, sym, ◌∙◌, ap, subst, arith, inl, inr}
use Rattle.std.specs.Prelude.{nat_lt}
use Rattle.std.proofs.lemmas.Bool.{lt-ltb}
use Rattle.rig.specs.declared.event.Event.{Event}
use Rattle.rig.specs.declared.event.Event.TheVariants.{Door, Leak, Raise, Residual, Route, Tick, Zero}
use Rattle.rig.specs.declared.event.Leak.{Leak as LeakReading}
use Rattle.rig.specs.declared.event.Tally.{Tally}
use Rattle.rig.specs.declared.rig.RigStop.{RigStop}
use Rattle.rig.specs.RigState.{RigState}
use Rattle.rig.specs.Discharge.{WaitEnds, waited}
use Rattle.rig.specs.Happened.{Happens, tally_all, volts_all}
use Rattle.rig.proofs.Tallies.{Happens-tallies, tally_all-append, volts_all-append}
use Rattle.applications.specs.Counting.{Gains, HasMore, TalliesMore}
use Rattle.applications.specs.Steps.{dwelling, ramp, step_to}
use Rattle.applications.proofs.Resting.{last-cases, zeros}

same_tally : (y : Tally) → HasMore 0 0 0 0 y y
same_tally y = record { serial = refl; attempt = refl; readings = refl; probes = refl; more_routes = omega arith; more_raises = omega arith; more_ticks = omega arith; more_leaks = omega arith }

has_both : {a b c d a' b' c' d' : ℕ} {x y z : Tally} → HasMore a b c d x y → HasMore a' b' c' d' y z → HasMore (a + a') (b + b') (c + c') (d + d') x z
has_both h k = record {
  serial = k.serial ∙ h.serial;
  attempt = k.attempt ∙ h.attempt;
  readings = k.readings ∙ h.readings;
  probes = k.probes ∙ h.probes;
  more_routes = omega (arith, h.more_routes, k.more_routes);
  more_raises = omega (arith, h.more_raises, k.more_raises);
  more_ticks = omega (arith, h.more_ticks, k.more_ticks);
  more_leaks = omega (arith, h.more_leaks, k.more_leaks);
}

pub gains-none : (v : ℕ) → Gains v v 0 0 0 0 []
gains-none v = record { volts = refl; counts = same_tally }

pub gains-append : {u v w a b c d a' b' c' d' : ℕ} {xs ys : List Event} → Gains u v a b c d xs → Gains v w a' b' c' d' ys → Gains u w (a + a') (b + b') (c + c') (d + d') (xs ++ ys)
gains-append {u} {v} {w} {a} {b} {c} {d} {a'} {b'} {c'} {d'} {xs} {ys} first second = record {
  volts = volts_all-append u xs ys ∙ ap (λ (n : ℕ). volts_all n ys) first.volts ∙ second.volts;
  counts = λ y.
      let z = tally_all u xs y in
      let is : tally_all v ys z ≡ tally_all u (xs ++ ys) y = ap (λ (n : ℕ). tally_all n ys z) (sym first.volts) ∙ sym (tally_all-append u xs ys y) in
      subst (HasMore (a + a') (b + b') (c + c') (d + d') y) is (has_both (first.counts y) (second.counts z));
}

pub gains-less : {v w a b c d a' b' c' d' : ℕ} {es : List Event} → a' ≤ a → b' ≤ b → c' ≤ c → d' ≤ d → Gains v w a b c d es → Gains v w a' b' c' d' es
gains-less la lb lc ld gains = record {
  volts = gains.volts;
  counts = λ y. let h = gains.counts y in record {
    serial = h.serial;
    attempt = h.attempt;
    readings = h.readings;
    probes = h.probes;
    more_routes = omega (arith, h.more_routes);
    more_raises = omega (arith, h.more_raises);
    more_ticks = omega (arith, h.more_ticks);
    more_leaks = omega (arith, h.more_leaks);
  };
}

-- ---- one event

pub gain_door : (v : ℕ) (closed : Bool) → Gains v v 0 0 0 0 (Door closed ∷ [])
gain_door v closed = record { volts = refl; counts = same_tally }

gain_residual : (v w : ℕ) → Gains v v 0 0 0 0 (Residual w ∷ [])
gain_residual v w = record { volts = refl; counts = same_tally }

gain_zero : (v : ℕ) → Gains v 0 0 0 0 0 (Zero true ∷ [])
gain_zero v = record { volts = refl; counts = same_tally }

gain_failed : (v : ℕ) → Gains v v 0 0 0 0 (Zero false ∷ [])
gain_failed v = record { volts = refl; counts = same_tally }

pub gain_route : (v : ℕ) (a b : List ℕ) → Gains v v 1 0 0 0 (Route a b ∷ [])
gain_route v a b = record { volts = refl; counts = λ y. record { serial = refl; attempt = refl; readings = refl; probes = refl; more_routes = omega arith; more_raises = omega arith; more_ticks = omega arith; more_leaks = omega arith } }

pub gain_raise : (v w : ℕ) → Gains v w 0 1 0 0 (Raise w true ∷ [])
gain_raise v w = record { volts = refl; counts = λ y. record { serial = refl; attempt = refl; readings = refl; probes = refl; more_routes = omega arith; more_raises = omega arith; more_ticks = omega arith; more_leaks = omega arith } }

pub gain_leak : (v : ℕ) (g : LeakReading) → Gains v v 0 0 0 1 (Leak g ∷ [])
gain_leak v g = record { volts = refl; counts = λ y. record { serial = refl; attempt = refl; readings = refl; probes = refl; more_routes = omega arith; more_raises = omega arith; more_ticks = omega arith; more_leaks = omega arith } }

-- a tick counts where a voltage stands
ticked : (powered : Bool) (y : Tally) → HasMore 0 0 0 0 y (cond powered (record y { ticks = y.ticks + 1 }) y)
ticked true y = record { serial = refl; attempt = refl; readings = refl; probes = refl; more_routes = omega arith; more_raises = omega arith; more_ticks = omega arith; more_leaks = omega arith }
ticked false y = same_tally y

ticked_powered : (powered : Bool) (y : Tally) → powered ≡ true → HasMore 0 0 1 0 y (cond powered (record y { ticks = y.ticks + 1 }) y)
ticked_powered true y is = record { serial = refl; attempt = refl; readings = refl; probes = refl; more_routes = omega arith; more_raises = omega arith; more_ticks = omega arith; more_leaks = omega arith }
ticked_powered false y is = absurd (let e : false ≡ true = is in cc)

pub gain_tick : (v : ℕ) → Gains v v 0 0 0 0 (Tick ∷ [])
gain_tick v = record { volts = refl; counts = ticked (nat_lt 0 v) }

gain_powered_tick : (v : ℕ) → Gains (suc v) (suc v) 0 0 1 0 (Tick ∷ [])
gain_powered_tick v = record { volts = refl; counts = λ y. ticked_powered (nat_lt 0 (suc v)) y (lt-ltb 0 (suc v) (omega arith)) }

pub gain_tick_at : (v : ℕ) → 0 < v → Gains v v 0 0 1 0 (Tick ∷ [])
gain_tick_at v some = record { volts = refl; counts = λ y. ticked_powered (nat_lt 0 v) y (lt-ltb 0 v some) }

-- ---- many

pub ramp_gains : (n : ℕ) → Gains 0 (50 * n) 0 n 0 0 (ramp n)
ramp_gains zero = gains-none 0
ramp_gains (suc n) =
    let v : ℕ = 50 * n + 50 in
    let next : v ≡ 50 * suc n = omega arith in
    let step : Gains (50 * n) v 0 1 0 0 (step_to v) =
    gains-append (gains-append (gain_door (50 * n) true) (gain_raise (50 * n) v)) (gain_tick v) in
    subst (λ (w : ℕ). Gains 0 w 0 (suc n) 0 0 (ramp (suc n))) next (gains-less (omega arith) (omega arith) (omega arith) (omega arith) (gains-append (ramp_gains n) step))

pub dwelling_gains : (v n : ℕ) → Gains (suc v) (suc v) 0 0 n 0 (dwelling n)
dwelling_gains v zero = gains-none (suc v)
dwelling_gains v (suc n) =
    gains-less (omega arith) (omega arith) (omega arith) (omega arith) (gains-append (dwelling_gains v n) (gains-append (gain_door (suc v) true) (gain_powered_tick v)))

pub zeros_gains : (v k : ℕ) → Gains v 0 0 0 0 0 (zeros k)
zeros_gains v zero = gain_zero v
zeros_gains v (suc k) = gains-append (gain_failed v) (zeros_gains v k)

pub waited_gains : (v : ℕ) (vs : List ℕ) → Gains v v 0 0 0 0 (waited vs)
waited_gains v [] = gains-none v
waited_gains v (w ∷ vs) = gains-append (gains-append (gain_residual v w) (gain_tick v)) (waited_gains v vs)

pub last_gains : (v : ℕ) (result : Result (Option ℕ) RigStop) (waits : List ℕ) (last : List Event) → WaitEnds result waits last → Gains v v 0 0 0 0 last
last_gains v result waits last ends = elim (last-cases result waits last ends) as (λ _. Gains v v 0 0 0 0 last) [
  | inl is ↦ subst (Gains v v 0 0 0 0) (sym is) (gains-none v)
  | inr is ↦ subst (Gains v v 0 0 0 0) (sym is.1) (gain_residual v is.0)
]

-- the tallies of a rig that was at zero
pub tallies-more : {s t : RigState} {es : List Event} {stop : Option RigStop} {a b c d : ℕ} → s.volts ≡ 0 → Happens s t es stop → Gains 0 0 a b c d es → TalliesMore a b c d s t
tallies-more {s} {t} {es} {stop} {a} {b} {c} {d} zeroed h gains = record {
  change = tally_all s.volts es;
  tallies = Happens-tallies h;
  counts = λ y. subst (λ (v : ℕ). HasMore a b c d y (tally_all v es y)) (sym zeroed) (gains.counts y);
}
