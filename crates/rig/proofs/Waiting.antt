-- Readings of the volts that are left, with a tick after each.
use Rattle.std.proofs.Common.{◌≡◌, ℕ, ◌+◌, ◌<◌, ◌≤◌, List, [], ◌∷◌, ◌++◌, length, Option, Some, None, Result, Ok, Err, IsTrue, refl, sym, ◌∙◌, ap, subst, arith, inl, inr, length-append}
use Rattle.std.specs.Prelude.{All, IfSome, IsErrAnd}
use Rattle.std.proofs.lemmas.List.Elements.{All-nil, All-push}
use Rattle.rig.specs.declared.event.Event.{Event}
use Rattle.rig.specs.declared.event.Event.TheVariants.{Residual, Tick}
use Rattle.rig.specs.declared.rig.RigStop.{RigStop}
use Rattle.rig.specs.declared.unit.Row.{Row}
use Rattle.rig.specs.RigState.{RigState}
use Rattle.rig.specs.Happened.{Happens}
use Rattle.rig.specs.Calls.{ReadsResidual, Ticks}
use Rattle.rig.specs.Discharge.{IsTrueCharge, Waits, discharged_volts, most_waits, waited}
use Rattle.rig.specs.Source.{source_of, residual_of}
use Rattle.rig.specs.Values.{charge_of}
use Rattle.rig.proofs.Happening.{Happens-as, Happens-honest, Happens-none, Happens-then, Happens-trail, Happens-truth, followed}
use Rattle.rig.proofs.CallEvents.{Happens-residual, Happens-tick}

-- so many readings were above the limit, and a tick was waited for after each
pub record Waiting (start now : RigState) (i : ℕ) : Type 0 where
  pub waits : List ℕ
  pub count : length waits ≡ i
  pub above : All (λ v. discharged_volts < v) waits
  pub happens : Happens start now (waited waits) None

pub Waiting-none : (s : RigState) → Waiting s s 0
Waiting-none s = record { waits = []; count = refl; above = All-nil (λ v. discharged_volts < v); happens = Happens-none s }

waited-push : (vs : List ℕ) (v : ℕ) → waited vs ++ (Residual v ∷ Tick ∷ []) ≡ waited (vs ++ v ∷ [])
waited-push [] v = refl
waited-push (x ∷ vs) v = ap (λ (es : List Event). Residual x ∷ Tick ∷ es) (waited-push vs v)

pub Waiting-more : {s t u w : RigState} {i v : ℕ} {x : Unit} → Waiting s t i → ReadsResidual t u (Ok v) → discharged_volts < v → Ticks u w (Ok x) → Waiting s w (i + 1)
Waiting-more {s} {t} {u} {w} {i} {v} {x} before read high tick =
    let count = before.count in
    record {
      waits = before.waits ++ v ∷ [];
      count = omega (arith, length-append before.waits (v ∷ []));
      above = All-push (λ y. discharged_volts < y) before.waits v before.above high;
      happens = Happens-as (waited-push before.waits v) (Happens-then before.happens (Happens-then (Happens-residual (Ok v) read) (Happens-tick (Ok x) tick)));
    }

-- the last reading is true
moved_truth : (es : List Event) (v : ℕ) (truth : Option (List Row)) (trail : Option (List Event))
    → IfSome truth (λ rows. IfSome (followed es trail) (λ t. v ≡ residual_of (charge_of rows) (source_of t))) → IfSome truth (λ rows. IfSome trail (λ t. v ≡ residual_of (charge_of rows) (source_of (t ++ es))))
moved_truth es v None trail h = tt
moved_truth es v (Some rows) None h = tt
moved_truth es v (Some rows) (Some t) h = h

last_true : {s t u : RigState} {i v : ℕ} (before : Waiting s t i) → ReadsResidual t u (Ok v) → IsTrueCharge s (waited before.waits) (Residual v ∷ [])
last_true {s} {t} {u} {i} {v} before read = λ honest.
    let h = before.happens in
    let Q : Option (List Row) → Option (List Event) → Type 0 = λ o trail. IfSome o (λ rows. IfSome trail (λ e. v ≡ residual_of (charge_of rows) (source_of e))) in
    moved_truth (waited before.waits) v s.truth s.trail
    (subst (λ o. Q o (followed (waited before.waits) s.trail)) (Happens-truth h)
    (subst (λ trail. Q t.truth trail) (Happens-trail h)
    (read.truth (subst IsTrue (sym (Happens-honest h)) honest))))

pub waits-discharged : {s t u : RigState} {i v : ℕ} → Waiting s t i → i ≤ most_waits → ReadsResidual t u (Ok v) → v ≤ discharged_volts → Waits s u (Ok None)
waits-discharged {s} {t} {u} {i} {v} before few read low = record {
  waits = before.waits;
  last = Residual v ∷ [];
  above = before.above;
  few = let count = before.count in omega arith;
  ends = (v, low, refl);
  happens = Happens-then before.happens (Happens-residual (Ok v) read);
  truth = last_true before read;
}

pub waits-charged : {s t u : RigState} {i v : ℕ} → Waiting s t i → i ≡ most_waits → ReadsResidual t u (Ok v) → discharged_volts < v → Waits s u (Ok (Some v))
waits-charged {s} {t} {u} {i} {v} before all read high = record {
  waits = before.waits;
  last = Residual v ∷ [];
  above = before.above;
  few = let count = before.count in omega arith;
  ends = (high, before.count ∙ all, refl);
  happens = Happens-then before.happens (Happens-residual (Ok v) read);
  truth = last_true before read;
}

waits-no_reading : {s t u : RigState} {i : ℕ} {e : RigStop} → Waiting s t i → i ≤ most_waits → ReadsResidual t u (Err e) → Waits s u (Err e)
waits-no_reading {s} {t} {u} {i} {e} before few read = record {
  waits = before.waits;
  last = [];
  above = before.above;
  few = let count = before.count in omega arith;
  ends = inl refl;
  happens = Happens-then before.happens (Happens-residual (Err e) read);
  truth = tt;
}

waits-no_tick : {s t u w : RigState} {i v : ℕ} {e : RigStop} → Waiting s t i → i < most_waits → ReadsResidual t u (Ok v) → Ticks u w (Err e) → Waits s w (Err e)
waits-no_tick {s} {t} {u} {w} {i} {v} {e} before few read tick = record {
  waits = before.waits;
  last = Residual v ∷ [];
  above = before.above;
  few = let count = before.count in omega arith;
  ends = inr (v, (let count = before.count in omega arith), refl);
  happens = Happens-then before.happens (Happens-then (Happens-residual (Ok v) read) (Happens-tick (Err e) tick));
  truth = last_true before read;
}

-- at the exits of a `?`
pub waits-refused : {s t u : RigState} {i : ℕ} {e : RigStop} → Waiting s t i → i ≤ most_waits → ReadsResidual t u (Err e) → (result : Result (Option ℕ) RigStop) → IsErrAnd result (λ y. y ≡ e) → Waits s u result
waits-refused before few read (Ok x) is = absurd is
waits-refused {s} {t} {u} before few read (Err y) is = let P : RigStop → Type 0 = λ z. Waits s u (Err z) in subst P (sym is) (waits-no_reading before few read)

pub waits-stopped : {s t u w : RigState} {i v : ℕ} {e : RigStop} → Waiting s t i → i < most_waits → ReadsResidual t u (Ok v) → Ticks u w (Err e) → (result : Result (Option ℕ) RigStop) → IsErrAnd result (λ y. y ≡ e) → Waits s w result
waits-stopped before few read tick (Ok x) is = absurd is
waits-stopped {s} {t} {u} {w} before few read tick (Err y) is = let P : RigStop → Type 0 = λ z. Waits s w (Err z) in subst P (sym is) (waits-no_tick before few read tick)
