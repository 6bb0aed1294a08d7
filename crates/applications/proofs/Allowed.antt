-- What the order allows of an application's events.
use Rattle.std.proofs.Common.{◌≡◌, ℕ, zero, suc, ◌+◌, ◌*◌, ◌%◌, ◌≤◌, Bool, true, false, List, [], ◌∷◌, ◌++◌, refl, sym, subst, arith}
use Rattle.rig.specs.declared.event.Event.{Event}
use Rattle.rig.specs.declared.event.Event.TheVariants.{Door, Leak, Raise, Tick}
use Rattle.rig.specs.declared.event.Leak.{Leak as LeakReading}
use Rattle.rig.specs.Source.{Source, source_from}
use Rattle.rig.proofs.Order.{MayFollowAll-append, source_from-append}
use Rattle.applications.specs.Holding.{Leads, MayFollowAt, StandsAt}
use Rattle.applications.specs.Steps.{dwelling, ramp, step_to}

pub Leads-none : (v : ℕ) → Leads v v []
Leads-none v = record { allowed = λ bonds s at. tt; then = λ s at. at }

pub allowed-append : {u v : ℕ} {xs : List Event} (ys : List Event) → Leads u v xs → MayFollowAt v ys → MayFollowAt u (xs ++ ys)
allowed-append {u} {v} {xs} ys first second = λ bonds s at. MayFollowAll-append bonds s xs ys (first.allowed bonds s at) (second bonds (source_from s xs) (first.then s at))

pub Leads-append : {u v w : ℕ} {xs ys : List Event} → Leads u v xs → Leads v w ys → Leads u w (xs ++ ys)
Leads-append {u} {v} {w} {xs} {ys} first second = record {
  allowed = allowed-append ys first second.allowed;
  then = λ s at. let P : Source → Type 0 = λ r. StandsAt r w in subst P (sym (source_from-append s xs ys)) (second.then (source_from s xs) (first.then s at));
}

-- ---- a step

module _ (v : ℕ) (by : v % 50 ≡ 0) (low : v + 50 ≤ 2000) where
  pub raise_allowed : (done : Bool) → MayFollowAt v (Door true ∷ Raise (v + 50) done ∷ [])
  raise_allowed done = λ bonds s at. (
    tt,
    (
      record {
        routed = at.routed;
        closed = refl;
        by_fifty = omega arith;
        at_most = low;
        step = let same = at.volts in omega arith;
        no_stop = at.no_stop;
      },
      tt,
    ),
  )

  pub step_leads : Leads v (v + 50) (step_to (v + 50))
  step_leads = record {
    allowed = λ bonds s at. (
      tt,
      (
        record {
          routed = at.routed;
          closed = refl;
          by_fifty = omega arith;
          at_most = low;
          step = let same = at.volts in omega arith;
          no_stop = at.no_stop;
        },
        (record { door_read = λ powered. refl; no_stop = at.no_stop }, tt),
      ),
    );
    then = λ s at. record { routed = at.routed; volts = refl; no_stop = at.no_stop };
  }

pub closed_allowed : (v : ℕ) → MayFollowAt v (Door true ∷ [])
closed_allowed v = λ bonds s at. (tt, tt)

pub open_allowed : (v : ℕ) → MayFollowAt v (Door false ∷ [])
open_allowed v = λ bonds s at. (tt, tt)

pub none_allowed : (v : ℕ) → MayFollowAt v []
none_allowed v = λ bonds s at. tt

pub dwell_leads : (v : ℕ) → Leads v v (Door true ∷ Tick ∷ [])
dwell_leads v = record {
  allowed = λ bonds s at. (tt, (record { door_read = λ powered. refl; no_stop = at.no_stop }, tt));
  then = λ s at. record { routed = at.routed; volts = at.volts; no_stop = at.no_stop };
}

pub leak_leads : (v : ℕ) (g : LeakReading) → Leads v v (Leak g ∷ [])
leak_leads v g = record { allowed = λ bonds s at. (tt, tt); then = λ s at. at }

-- ---- many

pub ramp_leads : (n : ℕ) → 50 * n ≤ 2000 → Leads 0 (50 * n) (ramp n)
ramp_leads zero low = Leads-none 0
ramp_leads (suc n) low =
    let next : 50 * n + 50 ≡ 50 * suc n = omega arith in
    subst (λ (w : ℕ). Leads 0 w (ramp (suc n))) next (Leads-append (ramp_leads n (omega arith)) (step_leads (50 * n) (fifty n) (omega arith)))
  where
    fifty : (n : ℕ) → (50 * n) % 50 ≡ 0
    fifty n = omega arith

pub dwelling_leads : (v n : ℕ) → Leads v v (dwelling n)
dwelling_leads v zero = Leads-none v
dwelling_leads v (suc n) = Leads-append (dwelling_leads v n) (dwell_leads v)
