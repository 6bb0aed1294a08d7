-- A raise, a route and zero calls as events.
use Rattle.std.proofs.Common.{◌≡◌, ℕ, zero, suc, ◌+◌, ◌<◌, ◌≤◌, ◌%◌, true, false, List, [], ◌∷◌, ◌++◌, Option, Some, None, Result, Ok, Err, replicate, refl, sym, ◌∙◌, ap, subst, arith, inr, add-one}
use Rattle.std.specs.Prelude.{All, IsSomeAnd}
use Rattle.std.proofs.lemmas.List.Elements.{All-cons, All-head, All-nil}
use Rattle.base.specs.Causes.{Rose}
use Rattle.rig.specs.declared.event.Event.{Event}
use Rattle.rig.specs.declared.event.Event.TheVariants.{Door, Raise, Zero}
use Rattle.rig.specs.declared.rig.RigStop.{RigStop}
use Rattle.rig.specs.declared.rig.RigStop.TheVariants.{Failed, Memory}
use Rattle.rig.specs.declared.powered.RaiseStop.TheVariants.{Rig as RigFailed, Memory as NoMemory}
use Rattle.rig.specs.declared.unit.Row.{Row}
use Rattle.rig.specs.RigState.{RigState, Groups}
use Rattle.rig.specs.Happened.{Happens, IsDone, happened, happened_all}
use Rattle.rig.specs.Calls.{Permission, Permits, Raises, ReadsInterlock, Routes, Zeroes}
use Rattle.rig.specs.Powered.{GoesDown, IsLive, IsStuck, Steps}
use Rattle.rig.specs.Seating.{IsSeated, IsSeating, IsTrueOf}
use Rattle.rig.specs.States.{IsProven}
use Rattle.rig.proofs.Happening.{Happens-as, Happens-none, Happens-records, Happens-refuses, Happens-then, IsProven-happens, IsSeated-happens, IsSeating-steady, Permits-happens}
use Rattle.rig.proofs.CallEvents.{Happens-interlock, IsLive-steady, Happens-route, live-interlock, live-raised}

-- ---- a raise

pub raise-done : {s t : RigState} {v : ℕ} {x : Unit} → Raises s t v (Ok x) → Happens s t (Raise v true ∷ []) None
raise-done {s} {t} {v} call = Happens-records (Raise v true) call.called call.ok

pub raise-failed : {s t : RigState} {v : ℕ} → Raises s t v (Err Failed) → Happens s t (Raise v false ∷ []) (Some Failed)
raise-failed {s} {t} {v} call = Happens-records (Raise v false) call.called (call.failed refl)

pub raise-no_memory : {s t : RigState} {v : ℕ} → Raises s t v (Err Memory) → Happens s t [] (Some Memory)
raise-no_memory call = Happens-refuses call.called (call.memory refl)

module _ {s t u : RigState} {classes : List ℕ} {permit : Permission} {v : ℕ} (closed : ReadsInterlock s t (Ok true)) (low : s.volts + 50 ≤ 2000) (live : IsLive s classes permit × (v ≡ s.volts)) where
  pub live-after_raise : {x : Unit} → Raises t u (v + 50) (Ok x) → IsLive u classes permit × (v + 50 ≡ u.volts)
  live-after_raise call = live-raised (raise-done call) call.spare (let same = live.1 in omega arith) (live-interlock (Ok true) closed live)

  pub live-after_failure : Raises t u (v + 50) (Err Failed) → IsLive u classes permit × (v + 50 ≡ u.volts)
  live-after_failure call = live-raised (raise-failed call) call.spare (let same = live.1 in omega arith) (live-interlock (Ok true) closed live)

  pub live-after_no_memory : Raises t u (v + 50) (Err Memory) → IsLive u classes permit × (v ≡ u.volts)
  live-after_no_memory call =
      let now = live-interlock (Ok true) closed live in
      let h = raise-no_memory call in
      (IsLive-steady h tt call.spare now.0, now.1 ∙ sym (ap (λ (x : RigState). x.volts) h.frame))

pub steps-failed : {s t u : RigState} {v : ℕ} → v ≡ s.volts → ReadsInterlock s t (Ok true) → Raises t u (v + 50) (Err Failed) → Steps s u (Err RigFailed)
steps-failed {s} {t} {u} {v} same closed call = record {
  events = Door true ∷ Raise (s.volts + 50) false ∷ [];
  which = inr refl;
  happens = Happens-as (ap (λ (n : ℕ). Door true ∷ Raise (n + 50) false ∷ []) same) (Happens-then (Happens-interlock (Ok true) closed) (raise-failed call));
}

pub steps-no_memory : {s t u : RigState} (v : ℕ) → ReadsInterlock s t (Ok true) → Raises t u (v + 50) (Err Memory) → Steps s u (Err NoMemory)
steps-no_memory {s} {t} {u} v closed call = record {
  events = Door true ∷ [];
  which = inr refl;
  happens = Happens-then (Happens-interlock (Ok true) closed) (raise-no_memory call);
}

-- ---- a route

pub route-live : {s t : RigState} {a b classes : List ℕ} {permit : Permission} {x : Unit} → Routes s t a b (Ok x) → IsSeating s → IsProven s classes → Permits s permit (record { left = a; right = b }) → IsLive t classes permit × (0 ≡ t.volts)
route-live {s} {t} {a} {b} {classes} {permit} {x} call seating proven permits =
    let h = Happens-route (Ok x) call in
    let volts : t.volts ≡ s.volts = ap (λ (v : RigState). v.volts) h.frame in
    let zeroed = seating.unpowered in
    let Q : Option Groups → Type 0 = λ r. IsSomeAnd r (Permits t permit) in (
      record {
        unit = IsSeated-happens h (λ rows. All-cons (IsTrueOf rows s.points) _ [] tt (All-nil (IsTrueOf rows s.points))) seating.unit;
        proven = IsProven-happens h proven;
        permitted = subst Q (sym (ap (λ (v : RigState). v.route) h.frame)) (Permits-happens h permits);
        by_fifty = ap (λ (v : ℕ). v % 50) (volts ∙ zeroed);
        at_most = omega arith;
        room = call.room;
      },
      sym (volts ∙ zeroed),
    )

pub route-refused : {s t : RigState} {a b : List ℕ} {e : RigStop} → Routes s t a b (Err e) → IsSeating s → IsSeating t
route-refused {s} {t} {a} {b} {e} call seating = IsSeating-steady (Happens-route (Err e) call) tt seating

pub route-refused-proven : {s t : RigState} {a b classes : List ℕ} {e : RigStop} → Routes s t a b (Err e) → IsProven s classes → IsProven t classes
route-refused-proven {s} {t} {a} {b} {classes} {e} call proven = IsProven-happens (Happens-route (Err e) call) proven

-- ---- zero calls

-- so many zero calls failed
pub record Lowering (start now : RigState) (i : ℕ) : Type 0 where
  pub happens : Happens start now (replicate i (Zero false)) None
  pub rose : 0 < i → Rose start.faults now.faults
  pub room : start.spare ≤ now.spare + i

replicate-push : (i : ℕ) (e : Event) → replicate i e ++ e ∷ [] ≡ replicate (suc i) e
replicate-push zero e = refl
replicate-push (suc i) e = ap (λ es. e ∷ es) (replicate-push i e)

pub Lowering-none : (s : RigState) → Lowering s s 0
Lowering-none s = record { happens = Happens-none s; rose = λ less. absurd (omega arith); room = omega arith }

-- a zero call that failed counts as no refusal here
pub Lowering-more : {s t u : RigState} {i : ℕ} {e : RigStop} → Lowering s t i → Zeroes t u (Err e) → Lowering s u (i + 1)
Lowering-more {s} {t} {u} {i} {e} before call =
    let one : Happens t u (Zero false ∷ []) None = record {
      frame = call.err;
      cause = record { later = call.called.cause.later; rose = λ is. cc };
      no_fault = λ calm done. absurd (All-head IsDone (Zero false) [] done);
      told = λ h. call.called.told;
    } in
    record {
      happens = Happens-as (replicate-push i (Zero false) ∙ ap (λ (n : ℕ). replicate n (Zero false)) (sym (add-one i))) (Happens-then before.happens one);
      rose = λ less.
          let risen = call.called.cause.rose (failed e (Err e) refl call.no_memory) in
          let later = before.happens.cause.later in
          omega (arith, risen, later);
      room = omega (arith, before.room, call.spare);
    }
  where
    failed : (e : RigStop) (r : Result Unit RigStop) → r ≡ Err e → (r ≡ Err Memory → ⊥) → Some e ≡ Some Failed
    failed Failed r is no_memory = refl
    failed Memory r is no_memory = absurd (no_memory is)

pub Lowering-done : {s t u : RigState} {i : ℕ} {x : Unit} → Lowering s t i → i < 3 → Zeroes t u (Ok x) → GoesDown s u
Lowering-done {s} {t} {u} {i} before few call = record {
  failed = i;
  few = omega arith;
  happens = Happens-then before.happens (Happens-records (Zero true) call.called call.ok);
}

pub Lowering-stuck : {s t : RigState} {i : ℕ} → i ≡ 3 → Lowering s t i → IsStuck s t
Lowering-stuck {s} {t} {i} all before =
    let at : Lowering s t 3 = subst (Lowering s t) all before in
    record { happens = record { frame = at.happens.frame; cause = record { later = at.happens.cause.later; rose = λ is. at.rose (omega arith) }; no_fault = λ calm done. absurd (calm refl); told = at.happens.told } }

-- ---- what is left after zero

source_kept : {s t : RigState} {es : List Event} {stop : Option RigStop} → Happens s t es stop → ((rows : List Row) → All (IsTrueOf rows s.points) es) → t.volts ≡ 0 → IsSeated s → IsSeating t
source_kept h more volts seated = record { unit = IsSeated-happens h more seated; unpowered = volts }

zeros_true : (i : ℕ) (rows : List Row) (n : ℕ) → All (IsTrueOf rows n) (replicate i (Zero false) ++ Zero true ∷ [])
zeros_true zero rows n = All-cons (IsTrueOf rows n) (Zero true) [] tt (All-nil (IsTrueOf rows n))
zeros_true (suc i) rows n = All-cons (IsTrueOf rows n) (Zero false) (replicate i (Zero false) ++ Zero true ∷ []) tt (zeros_true i rows n)

zeros_volts : (i : ℕ) (s : RigState) → (happened_all (replicate i (Zero false) ++ Zero true ∷ []) s).volts ≡ 0
zeros_volts zero s = refl
zeros_volts (suc i) s = zeros_volts i (happened (Zero false) s)

pub down-seating : {s t : RigState} → GoesDown s t → IsSeated s → IsSeating t
down-seating {s} {t} down seated =
    source_kept down.happens (λ rows. zeros_true down.failed rows s.points) (ap (λ (v : RigState). v.volts) down.happens.frame ∙ zeros_volts down.failed s) seated

pub down-proven : {s t : RigState} {classes : List ℕ} → GoesDown s t → IsProven s classes → IsProven t classes
down-proven down proven = IsProven-happens down.happens proven
