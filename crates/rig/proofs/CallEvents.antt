-- Each call as the events that it adds.
use Rattle.std.proofs.Common.{◌≡◌, ℕ, ◌+◌, ◌≤◌, ◌%◌, Bool, true, List, [], ◌∷◌, Option, Result, Ok, sym, ◌∙◌, ap, arith}
use Rattle.std.specs.Result.{result_err}
use Rattle.rig.specs.declared.event.Event.{Event}
use Rattle.rig.specs.declared.event.Event.TheVariants.{Ohms, Junction, Door, Route, Raise, Leak, Residual, Tick}
use Rattle.rig.specs.declared.event.Leak.{Leak as LeakReading}
use Rattle.rig.specs.declared.rig.RigStop.{RigStop}
use Rattle.rig.specs.RigState.{RigState}
use Rattle.rig.specs.Happened.{Happens}
use Rattle.rig.specs.Calls.{CanRaise, Permission, ReadsInterlock, ReadsJunction, ReadsLeak, ReadsOhms, ReadsResidual, Routes, Ticks}
use Rattle.rig.specs.Powered.{IsLive}
use Rattle.rig.specs.Seating.{IsSeating, IsTrueOf}
use Rattle.rig.proofs.Happening.{answered, AllSteady, Happens-answered, Happens-done, IsProven-happens, IsSeated-happens, IsSeated-steady, IsSeating-steady, IsSomePermit-happens, door_steady, junction_steady, leak_steady, ohms_steady, residual_steady, steady-answered, steady-route, steady-volts, tick_steady}
use Rattle.std.proofs.lemmas.List.Elements.{All-cons, All-nil}

-- ---- what each call adds

pub Happens-ohms : {s t : RigState} {a b : ℕ} (result : Result (Option ℕ) RigStop) → ReadsOhms s t a b result → Happens s t (answered (Ohms a b) result) (result_err result)
Happens-ohms {s} {t} {a} {b} result call = Happens-answered (Ohms a b) result call.called call.ok call.err

pub Happens-junction : {s t : RigState} {a b : ℕ} (result : Result (Option ℕ) RigStop) → ReadsJunction s t a b result → Happens s t (answered (Junction a b) result) (result_err result)
Happens-junction {s} {t} {a} {b} result call = Happens-answered (Junction a b) result call.called call.ok call.err

pub Happens-interlock : {s t : RigState} (result : Result Bool RigStop) → ReadsInterlock s t result → Happens s t (answered Door result) (result_err result)
Happens-interlock result call = Happens-answered Door result call.called call.ok call.err

pub Happens-leak : {s t : RigState} (result : Result LeakReading RigStop) → ReadsLeak s t result → Happens s t (answered Leak result) (result_err result)
Happens-leak result call = Happens-answered Leak result call.called call.ok call.err

pub Happens-residual : {s t : RigState} (result : Result ℕ RigStop) → ReadsResidual s t result → Happens s t (answered Residual result) (result_err result)
Happens-residual result call = Happens-answered Residual result call.called call.ok call.err

pub Happens-tick : {s t : RigState} (result : Result Unit RigStop) → Ticks s t result → Happens s t (answered (λ _. Tick) result) (result_err result)
Happens-tick result call = Happens-done Tick result call.called call.ok call.err

pub Happens-route : {s t : RigState} {a b : List ℕ} (result : Result Unit RigStop) → Routes s t a b result → Happens s t (answered (λ _. Route a b) result) (result_err result)
Happens-route {s} {t} {a} {b} result call = Happens-done (Route a b) result call.called call.ok call.err

-- ---- the seating stays

pub IsSeating-ohms : {s t : RigState} {a b : ℕ} (result : Result (Option ℕ) RigStop) → ReadsOhms s t a b result → IsSeating s → IsSeating t
IsSeating-ohms {s} {t} {a} {b} result call seating = IsSeating-steady (Happens-ohms result call) (steady-answered (Ohms a b) result (ohms_steady a b)) seating

pub IsSeating-junction : {s t : RigState} {a b : ℕ} (result : Result (Option ℕ) RigStop) → ReadsJunction s t a b result → IsSeating s → IsSeating t
IsSeating-junction {s} {t} {a} {b} result call seating = IsSeating-steady (Happens-junction result call) (steady-answered (Junction a b) result (junction_steady a b)) seating

pub IsSeating-residual : {s t : RigState} (result : Result ℕ RigStop) → ReadsResidual s t result → IsSeating s → IsSeating t
IsSeating-residual result call seating = IsSeating-steady (Happens-residual result call) (steady-answered Residual result residual_steady) seating

pub IsSeating-tick : {s t : RigState} (result : Result Unit RigStop) → Ticks s t result → IsSeating s → IsSeating t
IsSeating-tick result call seating = IsSeating-steady (Happens-tick result call) (steady-answered (λ _. Tick) result (λ _. tick_steady)) seating

-- ---- a live unit stays live

pub IsLive-steady : {s t : RigState} {es : List Event} {stop : Option RigStop} {classes : List ℕ} {permit : Permission} → Happens s t es stop → AllSteady es → s.spare ≤ t.spare → IsLive s classes permit → IsLive t classes permit
IsLive-steady {s} {t} {es} {stop} {classes} {permit} h steady spare live =
    let volts = steady-volts h steady in
    record {
      unit = IsSeated-steady h steady live.unit;
      proven = IsProven-happens h live.proven;
      permitted = IsSomePermit-happens h permit (steady-route h steady) live.permitted;
      by_fifty = ap (λ (v : ℕ). v % 50) volts ∙ live.by_fifty;
      at_most = let low = live.at_most in omega arith;
      room = let room = live.room in omega arith;
    }

-- with the volts that the state keeps beside the rig
pub live-interlock : {s t : RigState} {classes : List ℕ} {permit : Permission} {v : ℕ} (result : Result Bool RigStop) → ReadsInterlock s t result → IsLive s classes permit × (v ≡ s.volts) → IsLive t classes permit × (v ≡ t.volts)
live-interlock result call live =
    let h = Happens-interlock result call in
    let steady = steady-answered Door result door_steady in
    (IsLive-steady h steady call.spare live.0, live.1 ∙ sym (steady-volts h steady))

pub live-tick : {s t : RigState} {classes : List ℕ} {permit : Permission} {v : ℕ} (result : Result Unit RigStop) → Ticks s t result → IsLive s classes permit × (v ≡ s.volts) → IsLive t classes permit × (v ≡ t.volts)
live-tick result call live =
    let h = Happens-tick result call in
    let steady = steady-answered (λ _. Tick) result (λ _. tick_steady) in
    (IsLive-steady h steady call.spare live.0, live.1 ∙ sym (steady-volts h steady))

pub live-leak : {s t : RigState} {classes : List ℕ} {permit : Permission} {v : ℕ} (result : Result LeakReading RigStop) → ReadsLeak s t result → IsLive s classes permit × (v ≡ s.volts) → IsLive t classes permit × (v ≡ t.volts)
live-leak result call live =
    let h = Happens-leak result call in
    let steady = steady-answered Leak result leak_steady in
    (IsLive-steady h steady call.spare live.0, live.1 ∙ sym (steady-volts h steady))

-- a raise by 50, done or failed
pub live-raised : {s t : RigState} {stop : Option RigStop} {classes : List ℕ} {permit : Permission} {v : ℕ} {done : Bool} → Happens s t (Raise (v + 50) done ∷ []) stop → s.spare ≤ t.spare → v + 50 ≤ 2000 → IsLive s classes permit × (v ≡ s.volts) → IsLive t classes permit × (v + 50 ≡ t.volts)
live-raised {s} {t} {stop} {classes} {permit} {v} h spare low live =
    let volts : t.volts ≡ v + 50 = ap (λ (x : RigState). x.volts) h.frame in (
      record {
        unit = IsSeated-happens h (λ rows. All-cons (IsTrueOf rows s.points) _ [] tt (All-nil (IsTrueOf rows s.points))) live.0.unit;
        proven = IsProven-happens h live.0.proven;
        permitted = IsSomePermit-happens h permit (ap (λ (x : RigState). x.route) h.frame) live.0.permitted;
        by_fifty = let by = live.0.by_fifty in let same = live.1 in omega arith;
        at_most = omega arith;
        room = let room = live.0.room in omega arith;
      },
      sym volts,
    )

-- after a closed reading a raise by 50 is allowed
pub can-raise : {s t : RigState} {classes : List ℕ} {permit : Permission} {v : ℕ} → ReadsInterlock s t (Ok true) → s.volts + 50 ≤ 2000 → IsLive s classes permit × (v ≡ s.volts) → CanRaise t permit (v + 50)
can-raise {s} {t} {classes} {permit} {v} call low live =
    let h = Happens-interlock (Ok true) call in
    let now = live-interlock (Ok true) call live in
    let volts = now.1 in
    let same = live.1 in
    record {
      seated = now.0.unit.seated;
      routed = now.0.permitted;
      closed = ap (λ (x : RigState). x.closed_now) h.frame;
      by_fifty = let by = now.0.by_fifty in omega arith;
      at_most = omega arith;
      step = omega arith;
    }
