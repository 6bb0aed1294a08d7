-- Events after which the source rests, or is stuck.
use Rattle.std.proofs.Common.{◌≡◌, ℕ, zero, suc, ◌+◌, ◌-◌, ◌^◌, ◌≤◌, min, true, false, List, [], ◌∷◌, ◌++◌, length, replicate, Option, Some, None, Result, Ok, Err, refl, sym, subst, arith, inl, inr, ◌⊎◌}
use Rattle.std.specs.Prelude.{All}
use Rattle.std.proofs.lemmas.List.Elements.{All-cons, All-head, All-nil}
use Rattle.partition.specs.Partitions.{Meets}
use Rattle.base.specs.Causes.{Rose}
use Rattle.rig.specs.declared.event.Event.{Event}
use Rattle.rig.specs.declared.event.Event.TheVariants.{Reading, Ohms, Junction, Door, Leak, Raise, Residual, Route, Tick, Zero}
use Rattle.rig.specs.declared.rig.RigStop.{RigStop}
use Rattle.rig.specs.RigState.{RigState}
use Rattle.rig.specs.Discharge.{WaitEnds, waited}
use Rattle.rig.specs.Happened.{IsDone, happened, happened_all, opens_after}
use Rattle.rig.specs.Source.{Source, source_after, source_from}
use Rattle.rig.specs.Trail.{IsOfSource}
use Rattle.rig.proofs.Happening.{happened_all-append}
use Rattle.rig.proofs.Order.{MayFollowAll-append, source_from-append}
use Rattle.applications.specs.Holding.{MayFollowAt, StandsAt}
use Rattle.applications.specs.Measuring.{ComesToRest, GetsStuck, IsNoDoor, IsNoFailedZero, Rests, StaysAtRest}

-- ---- rest

pub rest-none : (bonds : List ℕ) → StaysAtRest bonds []
rest-none bonds = λ s r. record { allowed = tt; rests = r }

pub rest-append : (bonds : List ℕ) (xs ys : List Event) → StaysAtRest bonds xs → StaysAtRest bonds ys → StaysAtRest bonds (xs ++ ys)
rest-append bonds xs ys first second = λ s r.
    let one = first s r in
    let two = second (source_from s xs) one.rests in
    record {
      allowed = MayFollowAll-append bonds s xs ys one.allowed two.allowed;
      rests = subst Rests (sym (source_from-append s xs ys)) two.rests;
    }

abbrev pub zeros : ℕ → List Event
zeros k = replicate k (Zero false) ++ Zero true ∷ []

pub zeros-rest : (bonds : List ℕ) (k : ℕ) (s : Source) → ComesToRest bonds s (zeros k)
zeros-rest bonds zero s = record { allowed = (tt, tt); rests = record { volts = refl; ended = refl; no_stop = refl } }
zeros-rest bonds (suc k) s = let later = zeros-rest bonds k (source_after s (Zero false)) in record { allowed = (tt, later.allowed); rests = later.rests }

pub zeros-of_source : (k : ℕ) → All IsOfSource (zeros k)
zeros-of_source zero = All-cons IsOfSource (Zero true) [] tt (All-nil IsOfSource)
zeros-of_source (suc k) = All-cons IsOfSource (Zero false) (zeros k) tt (zeros-of_source k)

pub zeros-no_door : (k : ℕ) → All IsNoDoor (zeros k)
zeros-no_door zero = All-cons IsNoDoor (Zero true) [] tt (All-nil IsNoDoor)
zeros-no_door (suc k) = All-cons IsNoDoor (Zero false) (zeros k) tt (zeros-no_door k)

pub zeros-ticks : (k : ℕ) (s : Source) → (source_from s (zeros k)).ticks ≡ 0
zeros-ticks zero s = refl
zeros-ticks (suc k) s = zeros-ticks k (source_after s (Zero false))

-- the route between groups that may be powered
module _ (bonds a b : List ℕ) (apart : Meets bonds a b → ⊥) where
  route-stands : (s : Source) → Rests s → StandsAt (source_after s (Route a b)) 0
  route-stands s r = record { routed = refl; volts = r.volts; no_stop = r.no_stop }

  pub held-rest : (es : List Event) (k : ℕ) → MayFollowAt 0 es → StaysAtRest bonds (Route a b ∷ es ++ zeros k)
  held-rest es k allowed = λ s r.
      let t = source_after s (Route a b) in
      let end = zeros-rest bonds k (source_from t es) in
      record {
        allowed = (record { at_zero = r.volts; apart = apart }, MayFollowAll-append bonds t es (zeros k) (allowed bonds t (route-stands s r)) end.allowed);
        rests = subst Rests (sym (source_from-append t es (zeros k))) end.rests;
      }

  stuck-end : (s : Source) → GetsStuck bonds s (replicate 3 (Zero false))
  stuck-end s = record { allowed = (tt, (tt, (tt, tt))); stuck = omega arith }

  pub held-stuck : (es : List Event) → MayFollowAt 0 es → (s : Source) → Rests s → GetsStuck bonds s (Route a b ∷ es ++ replicate 3 (Zero false))
  held-stuck es allowed = λ s r.
      let t = source_after s (Route a b) in
      let end = stuck-end (source_from t es) in
      let P : Source → Type 0 = λ x. 3 ≤ x.failed_zeros in
      record {
        allowed = (record { at_zero = r.volts; apart = apart }, MayFollowAll-append bonds t es (replicate 3 (Zero false)) (allowed bonds t (route-stands s r)) end.allowed);
        stuck = subst P (sym (source_from-append t es (replicate 3 (Zero false)))) end.stuck;
      }

-- ---- the discharge

residual-rest : (bonds : List ℕ) (v : ℕ) → StaysAtRest bonds (Residual v ∷ [])
residual-rest bonds v = λ s r. record { allowed = (r.volts, tt); rests = record { volts = r.volts; ended = r.ended; no_stop = r.no_stop } }

wait-rest : (bonds : List ℕ) (v : ℕ) → StaysAtRest bonds (Residual v ∷ Tick ∷ [])
wait-rest bonds v = λ s r. record {
  allowed = (r.volts, (record { door_read = λ powered. absurd (let zeroed = r.volts in omega arith); no_stop = r.no_stop }, tt));
  rests = record { volts = r.volts; ended = r.ended; no_stop = r.no_stop };
}

pub waited-rest : (bonds : List ℕ) (vs : List ℕ) → StaysAtRest bonds (waited vs)
waited-rest bonds [] = rest-none bonds
waited-rest bonds (v ∷ vs) = rest-append bonds (Residual v ∷ Tick ∷ []) (waited vs) (wait-rest bonds v) (waited-rest bonds vs)

-- zero calls of which none failed, and what a discharge adds, are of calls that did not fail
pub zeros-done : (k : ℕ) → All IsNoFailedZero (zeros k) → All IsDone (zeros k)
zeros-done zero none = All-cons IsDone (Zero true) [] tt (All-nil IsDone)
zeros-done (suc k) none = absurd (All-head IsNoFailedZero (Zero false) (zeros k) none)

pub waited-done : (vs : List ℕ) → All IsDone (waited vs)
waited-done [] = All-nil IsDone
waited-done (v ∷ vs) = All-cons IsDone (Residual v) (Tick ∷ waited vs) tt (All-cons IsDone Tick (waited vs) tt (waited-done vs))

pub waited-of_source : (vs : List ℕ) → All IsOfSource (waited vs)
waited-of_source [] = All-nil IsOfSource
waited-of_source (v ∷ vs) = All-cons IsOfSource (Residual v) (Tick ∷ waited vs) tt (All-cons IsOfSource Tick (waited vs) tt (waited-of_source vs))

pub waited-ticks : (vs : List ℕ) (s : Source) → (source_from s (waited vs)).ticks ≡ s.ticks + length vs
waited-ticks [] s = omega arith
waited-ticks (v ∷ vs) s = omega (arith, waited-ticks vs (source_after s Tick))

-- the last reading, if there was one
pub last-cases : (result : Result (Option ℕ) RigStop) (waits : List ℕ) (last : List Event) → WaitEnds result waits last → (last ≡ []) ⊎ ((v : ℕ) × (last ≡ Residual v ∷ []))
last-cases (Ok None) waits last ends = inr (ends.0, ends.2)
last-cases (Ok (Some v)) waits last ends = inr (v, ends.2)
last-cases (Err e) waits last ends = elim ends as (λ _. (last ≡ []) ⊎ ((v : ℕ) × (last ≡ Residual v ∷ []))) [ inl is ↦ inl is | inr is ↦ inr (is.0, is.2) ]

pub last-done : (result : Result (Option ℕ) RigStop) (waits : List ℕ) (last : List Event) → WaitEnds result waits last → All IsDone last
last-done result waits last ends = elim (last-cases result waits last ends) as (λ _. All IsDone last) [
  | inl is ↦ subst (All IsDone) (sym is) (All-nil IsDone)
  | inr is ↦ subst (All IsDone) (sym is.1) (All-cons IsDone (Residual is.0) [] tt (All-nil IsDone))
]

pub last-rest : (bonds : List ℕ) (result : Result (Option ℕ) RigStop) (waits : List ℕ) (last : List Event) → WaitEnds result waits last → StaysAtRest bonds last
last-rest bonds result waits last ends = elim (last-cases result waits last ends) as (λ _. StaysAtRest bonds last) [
  | inl is ↦ subst (StaysAtRest bonds) (sym is) (rest-none bonds)
  | inr is ↦ subst (StaysAtRest bonds) (sym is.1) (residual-rest bonds is.0)
]

pub last-of_source : (result : Result (Option ℕ) RigStop) (waits : List ℕ) (last : List Event) → WaitEnds result waits last → All IsOfSource last
last-of_source result waits last ends = elim (last-cases result waits last ends) as (λ _. All IsOfSource last) [
  | inl is ↦ subst (All IsOfSource) (sym is) (All-nil IsOfSource)
  | inr is ↦ subst (All IsOfSource) (sym is.1) (All-cons IsOfSource (Residual is.0) [] tt (All-nil IsOfSource))
]

-- ---- the count of open readings

opens-keep : (k n : ℕ) (e : Event) → min k (2 ^ 64 - 1) ≤ n → min k (2 ^ 64 - 1) ≤ opens_after n e
opens-keep k n (Door true) h = h
opens-keep k n (Door false) h = omega arith
opens-keep k n (Reading a b met) h = h
opens-keep k n (Ohms a b r) h = h
opens-keep k n (Junction a b d) h = h
opens-keep k n (Route a b) h = h
opens-keep k n (Raise v done) h = h
opens-keep k n (Leak g) h = h
opens-keep k n (Zero done) h = h
opens-keep k n (Residual v) h = h
opens-keep k n Tick h = h

pub opens-all : (k : ℕ) (es : List Event) (s : RigState) → min k (2 ^ 64 - 1) ≤ s.opens → min k (2 ^ 64 - 1) ≤ (happened_all es s).opens
opens-all k [] s h = h
opens-all k (e ∷ es) s h = opens-all k es (happened e s) (opens-keep k s.opens e h)

-- an open reading raises it
pub opens-rose : (before after : List Event) (s : RigState) → Rose s.opens (happened_all (before ++ Door false ∷ after) s).opens
opens-rose before after s =
    let t = happened_all before s in
    let kept : min s.opens (2 ^ 64 - 1) ≤ t.opens = opens-all s.opens before s (omega arith) in
    let risen : min (s.opens + 1) (2 ^ 64 - 1) ≤ (happened (Door false) t).opens = omega arith in
    let last = opens-all (s.opens + 1) after (happened (Door false) t) risen in
    subst (λ (x : RigState). Rose s.opens x.opens) (sym (happened_all-append before (Door false ∷ after) s)) last
