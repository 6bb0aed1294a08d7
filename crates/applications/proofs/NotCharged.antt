-- Whether the last event is a residual that stands after 100 ticks.
use Rattle.std.proofs.Common.{◌≡◌, inl, inr, ℕ, ◌<◌, true, false, List, [], ◌∷◌, ◌++◌, length, replicate, Option, Some, None, Result, Ok, Err, refl, sym, ◌∙◌, ap, subst, arith, append_assoc, append-nil, length-append}
use Rattle.rig.specs.declared.event.Event.{Event}
use Rattle.rig.specs.declared.event.Event.TheVariants.{Reading, Ohms, Junction, Door, Route, Raise, Leak, Zero, Residual, Tick}
use Rattle.rig.specs.declared.rig.RigStop.{RigStop}
use Rattle.rig.specs.Discharge.{WaitEnds, discharged_volts, most_waits, waited}
use Rattle.rig.specs.Source.{Source, source_from}
use Rattle.rig.proofs.Order.{source_from-append}
use Rattle.applications.specs.Measuring.{IsNotCharged}
use Rattle.applications.proofs.Resting.{waited-ticks, zeros, zeros-ticks}

-- ---- the last event

-- the first ones and the last one of two lists that are one
pub last_same : (xs ys : List Event) (x y : Event) → xs ++ x ∷ [] ≡ ys ++ y ∷ [] → (xs ≡ ys) × (x ≡ y)
last_same [] [] x y e = (refl, cc)
last_same [] (z ∷ zs) x y e = absurd (omega (arith, ap length e, length-append zs (y ∷ [])))
last_same (w ∷ ws) [] x y e = absurd (omega (arith, ap length e, length-append ws (x ∷ [])))
last_same (w ∷ ws) (z ∷ zs) x y e =
    let tail : ws ++ x ∷ [] ≡ zs ++ y ∷ [] = cc in
    let head : w ≡ z = cc in
    let r = last_same ws zs x y tail in
    (ap (λ (v : Event). v ∷ ws) head ∙ ap (λ (vs : List Event). z ∷ vs) r.0, r.1)

pub record Ending (es : List Event) : Type 0 where
  pub before : List Event
  pub last : Event
  pub are : es ≡ before ++ last ∷ []

ending : (e : Event) (es : List Event) → Ending (e ∷ es)
ending e [] = record { before = []; last = e; are = refl }
ending e (x ∷ xs) = let r = ending x xs in record { before = e ∷ r.before; last = r.last; are = ap (λ (ys : List Event). e ∷ ys) r.are }

abbrev pub IsNoResidual : Event → Type 0
IsNoResidual (Residual v) = ⊥
IsNoResidual (Reading a b met) = Unit {0}
IsNoResidual (Ohms a b r) = Unit {0}
IsNoResidual (Junction a b d) = Unit {0}
IsNoResidual (Door closed) = Unit {0}
IsNoResidual (Route a b) = Unit {0}
IsNoResidual (Raise v done) = Unit {0}
IsNoResidual (Leak g) = Unit {0}
IsNoResidual (Zero done) = Unit {0}
IsNoResidual Tick = Unit {0}

-- ---- not charged

pub charged-none : IsNotCharged []
charged-none = λ before v e high s. absurd (omega (arith, ap length e, length-append before (Residual v ∷ [])))

-- another event is the last
pub charged-other : (xs : List Event) (x : Event) → IsNoResidual x → IsNotCharged (xs ++ x ∷ [])
charged-other xs x other = λ before v e high s.
    let same = (last_same xs before x (Residual v) e).1 in
    absurd (subst IsNoResidual same other)

-- a residual that is not above 30 volts, or before 100 ticks
pub charged-low : (xs : List Event) (w : ℕ) → (discharged_volts < w → (s : Source) → (source_from s xs).ticks < most_waits) → IsNotCharged (xs ++ Residual w ∷ [])
charged-low xs w low = λ before v e high s.
    let r = last_same xs before (Residual w) (Residual v) e in
    let same : w ≡ v = cc in
    subst (λ (ys : List Event). (source_from s ys).ticks < most_waits) r.0 (low (omega arith) s)

pub charged-append : (xs ys : List Event) → IsNotCharged xs → IsNotCharged ys → IsNotCharged (xs ++ ys)
charged-append xs [] first second = subst IsNotCharged (sym (append-nil xs)) first
charged-append xs (y ∷ ys) first second = λ before v e high s.
    let view = ending y ys in
    let whole : (xs ++ view.before) ++ view.last ∷ [] ≡ before ++ Residual v ∷ [] = append_assoc xs view.before (view.last ∷ []) ∙ ap (λ (es : List Event). xs ++ es) (sym view.are) ∙ e in
    let r = last_same (xs ++ view.before) before view.last (Residual v) whole in
    let ends : y ∷ ys ≡ view.before ++ Residual v ∷ [] = view.are ∙ ap (λ (x : Event). view.before ++ x ∷ []) r.1 in
    let P : Source → Type 0 = λ x. x.ticks < most_waits in
    subst (λ (es : List Event). P (source_from s es)) r.0 (subst P (sym (source_from-append s xs view.before)) (second view.before v ends high (source_from s xs)))

-- ---- an application

-- it went to zero
pub charged-zeros : (xs : List Event) (k : ℕ) → IsNotCharged (xs ++ zeros k)
charged-zeros xs k = subst IsNotCharged (append_assoc xs (replicate k (Zero false)) (Zero true ∷ [])) (charged-other (xs ++ replicate k (Zero false)) (Zero true) tt)

waited-end : (v : ℕ) (vs : List ℕ) → (before : List Event) × (waited (v ∷ vs) ≡ before ++ Tick ∷ [])
waited-end v [] = (Residual v ∷ [], refl)
waited-end v (w ∷ ws) = let r = waited-end w ws in (Residual v ∷ Tick ∷ r.0, ap (λ (es : List Event). Residual v ∷ Tick ∷ es) r.1)

-- and was waited for, with no residual after it
charged-waited : (xs : List Event) (k : ℕ) (vs : List ℕ) → IsNotCharged ((xs ++ zeros k) ++ (waited vs ++ []))
charged-waited xs k [] = subst IsNotCharged (sym (append-nil (xs ++ zeros k))) (charged-zeros xs k)
charged-waited xs k (v ∷ vs) =
    let r = waited-end v vs in
    let is : ((xs ++ zeros k) ++ r.0) ++ Tick ∷ [] ≡ (xs ++ zeros k) ++ (waited (v ∷ vs) ++ []) =
    append_assoc (xs ++ zeros k) r.0 (Tick ∷ []) ∙ ap (λ (es : List Event). (xs ++ zeros k) ++ es) (sym r.1 ∙ sym (append-nil (waited (v ∷ vs)))) in
    subst IsNotCharged is (charged-other ((xs ++ zeros k) ++ r.0) Tick tt)

-- with a residual after it
pub waited-since : (xs : List Event) (k : ℕ) (vs : List ℕ) (s : Source) → (source_from s ((xs ++ zeros k) ++ waited vs)).ticks ≡ length vs
waited-since xs k vs s =
    let zeroed = ap (λ (y : Source). y.ticks) (source_from-append s xs (zeros k)) ∙ zeros-ticks k (source_from s xs) in
    let later = ap (λ (y : Source). y.ticks) (source_from-append s (xs ++ zeros k) (waited vs)) ∙ waited-ticks vs (source_from s (xs ++ zeros k)) in
    omega arith

charged-read : (xs : List Event) (k : ℕ) (vs : List ℕ) (w : ℕ) → (discharged_volts < w → length vs < most_waits) → IsNotCharged ((xs ++ zeros k) ++ (waited vs ++ Residual w ∷ []))
charged-read xs k vs w low =
    subst IsNotCharged (append_assoc (xs ++ zeros k) (waited vs) (Residual w ∷ []))
    (charged-low ((xs ++ zeros k) ++ waited vs) w (λ high s. let since = waited-since xs k vs s in let few = low high in omega arith))

-- unless it was found charged
abbrev pub IsNoCharge : Result (Option ℕ) RigStop → Type 0
IsNoCharge (Ok None) = Unit {0}
IsNoCharge (Ok (Some v)) = ⊥
IsNoCharge (Err e) = Unit {0}

pub charged-wait : (xs : List Event) (k : ℕ) (result : Result (Option ℕ) RigStop) (vs : List ℕ) (last : List Event) → WaitEnds result vs last → IsNoCharge result → IsNotCharged ((xs ++ zeros k) ++ (waited vs ++ last))
charged-wait xs k (Ok None) vs last ends uncharged =
    let P : List Event → Type 0 = λ l. IsNotCharged ((xs ++ zeros k) ++ (waited vs ++ l)) in
    subst P (sym ends.2) (charged-read xs k vs ends.0 (λ high. absurd (let low = ends.1 in omega arith)))
charged-wait xs k (Ok (Some v)) vs last ends uncharged = absurd uncharged
charged-wait xs k (Err e) vs last ends uncharged =
    let P : List Event → Type 0 = λ l. IsNotCharged ((xs ++ zeros k) ++ (waited vs ++ l)) in
    elim ends as (λ _. P last) [
      | inl is ↦ subst P (sym is) (charged-waited xs k vs)
      | inr is ↦ subst P (sym is.2) (charged-read xs k vs is.0 (λ high. is.1))
    ]
