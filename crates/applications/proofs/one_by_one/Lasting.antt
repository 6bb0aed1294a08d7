-- The charge of a unit that was discharged, or was not.
use Rattle.std.proofs.Common.{◌≡◌, ◌⊎◌, inl, inr, ℕ, zero, suc, ◌+◌, ◌<◌, ◌≤◌, Bool, true, false, List, [], ◌∷◌, ◌++◌, length, replicate, Option, Some, None, Result, Ok, Err, IsTrue, if◌then◌else◌, refl, sym, ◌∙◌, ap, subst, arith}
use Rattle.std.specs.Prelude.{IfSome, IsSome, nat_lt, ◌&&◌, ◌||◌}
use Rattle.std.proofs.lemmas.Bool.{ltb-true, le-ltb, lt-ltb}
use Rattle.rig.specs.declared.event.Event.{Event}
use Rattle.rig.specs.declared.event.Event.TheVariants.{Reading, Ohms, Junction, Door, Route, Raise, Leak, Zero, Residual, Tick}
use Rattle.rig.specs.declared.rig.RigStop.{RigStop}
use Rattle.rig.specs.declared.unit.Row.{Row}
use Rattle.rig.specs.RigState.{RigState}
use Rattle.rig.specs.Discharge.{IsTrueCharge, Waits, discharged_volts, most_waits, waited}
use Rattle.rig.specs.Happened.{Happens}
use Rattle.rig.specs.Source.{Source, at_rest, residual_of, source_after, source_from, source_of}
use Rattle.rig.specs.Values.{charge_of}
use Rattle.rig.proofs.Happening.{Happens-honest, Happens-trail, Happens-truth, followed}
use Rattle.rig.proofs.Order.{source_from-append}
use Rattle.applications.specs.Charge.{HasLasting, lasting}
use Rattle.applications.specs.Holding.{Leads, StandsAt}
use Rattle.applications.proofs.Resting.{waited-ticks, zeros, zeros-ticks}

-- ---- a voltage stood

-- where the first of two sources stands at a voltage, the second was raised
Raised : Source → Source → Type 0
Raised s x = 0 < s.volts → x.raised ≡ true

raised-after : (s x : Source) (e : Event) → Raised s x → Raised (source_after s e) (source_after x e)
unfolding Raised
raised-after s x (Reading a b met) h = h
raised-after s x (Ohms a b r) h = h
raised-after s x (Junction a b d) h = h
raised-after s x (Door true) h = h
raised-after s x (Door false) h = h
raised-after s x (Route a b) h = h
raised-after s x (Raise v done) h = λ some. refl
raised-after s x (Leak g) h = h
raised-after s x (Zero true) h = λ some. absurd (omega arith)
raised-after s x (Zero false) h = h
raised-after s x (Residual v) h = h
raised-after s x Tick h = h

raised-all : (s x : Source) (es : List Event) → Raised s x → Raised (source_from s es) (source_from x es)
raised-all s x [] h = h
raised-all s x (e ∷ es) h = raised-all (source_after s e) (source_after x e) es (raised-after s x e h)

routed : Source
routed = record at_rest { routed = true }

-- events that lead from zero to a voltage raise it
pub leads-raised : {w : ℕ} {es : List Event} → Leads 0 w es → 0 < w → (x : Source) → (source_from x es).raised ≡ true
unfolding Raised routed
leads-raised {w} {es} leads some x =
    let end = leads.then routed (record { routed = refl; volts = refl; no_stop = refl }) in
    raised-all routed x es (λ more. absurd (omega arith)) (let at = end.volts in omega arith)

-- once raised, a source stays so
stays-after : (x : Source) (e : Event) → x.raised ≡ true → (source_after x e).raised ≡ true
stays-after x (Reading a b met) h = h
stays-after x (Ohms a b r) h = h
stays-after x (Junction a b d) h = h
stays-after x (Door true) h = h
stays-after x (Door false) h = h
stays-after x (Route a b) h = h
stays-after x (Raise v done) h = refl
stays-after x (Leak g) h = h
stays-after x (Zero true) h = h
stays-after x (Zero false) h = h
stays-after x (Residual v) h = h
stays-after x Tick h = h

stays-raised : (x : Source) (es : List Event) → x.raised ≡ true → (source_from x es).raised ≡ true
stays-raised x [] h = h
stays-raised x (e ∷ es) h = stays-raised (source_after x e) es (stays-after x e h)

-- so it is after a raise
pub raise-raised : (climb : List Event) (v : ℕ) (dwell : List Event) (x : Source) → (source_from x (climb ++ Raise v true ∷ dwell)).raised ≡ true
raise-raised climb v dwell x =
    ap (λ (y : Source). y.raised) (source_from-append x climb (Raise v true ∷ dwell)) ∙ stays-raised (source_after (source_from x climb) (Raise v true)) dwell refl

-- ---- what a residual tells of a charge

second : (a b : Bool) → (a && b) ≡ true → b ≡ true
second true b h = h
second false b h = absurd (cc)

residual-none : (charge : Option (ℕ × ℕ)) (s : Source) (v : ℕ) → s.raised ≡ true → s.ticks ≤ most_waits → v ≤ discharged_volts → v ≡ residual_of charge s → lasting charge ≡ None
residual-none None s v raised few low is = refl
residual-none (Some (volts, ticks)) s v raised few low is = at (nat_lt discharged_volts volts) refl (nat_lt most_waits ticks) refl
  where
    at : (high : Bool) → nat_lt discharged_volts volts ≡ high → (long : Bool) → nat_lt most_waits ticks ≡ long → lasting (Some (volts, ticks)) ≡ None
    at false e long f = rw e refl
    at true e false f = rw (e, f) refl
    at true e true f =
        let above = ltb-true discharged_volts volts e in
        let more = ltb-true most_waits ticks f in
        let stands : residual_of (Some (volts, ticks)) s ≡ volts = rw (raised, lt-ltb s.ticks ticks (omega arith)) refl in
        absurd (omega arith)

residual-some : (charge : Option (ℕ × ℕ)) (s : Source) (v : ℕ) → most_waits ≤ s.ticks → discharged_volts < v → v ≡ residual_of charge s → lasting charge ≡ Some v
residual-some None s v long high is = absurd (omega arith)
residual-some (Some (volts, ticks)) s v long high is = at (s.raised && nat_lt s.ticks ticks) refl
  where
    at : (b : Bool) → (s.raised && nat_lt s.ticks ticks) ≡ b → lasting (Some (volts, ticks)) ≡ Some v
    at false e = absurd (let none : residual_of (Some (volts, ticks)) s ≡ 0 = rw e refl in omega arith)
    at true e =
        let stands : residual_of (Some (volts, ticks)) s ≡ volts = rw e refl in
        let more = ltb-true s.ticks ticks (second s.raised (nat_lt s.ticks ticks) e) in
        let same : volts ≡ v = sym stands ∙ sym is in
        rw (lt-ltb discharged_volts volts (omega arith), lt-ltb most_waits ticks (omega arith)) (ap (λ (n : ℕ). Some n) same)

-- ---- after an application

followed-some : (es : List Event) (o : Option (List Event)) → IsSome o → (trail : List Event) × (followed es o ≡ Some (trail ++ es))
followed-some es None some = absurd (let e : false ≡ true = some in cc)
followed-some es (Some trail) some = (trail, refl)

-- what lasted later lasted before
pub lasting-before : {s t : RigState} {es : List Event} {stop : Option RigStop} (volts : Option ℕ) → Happens s t es stop → HasLasting t volts → HasLasting s volts
lasting-before {s} {t} {es} {stop} volts h lasts = λ honest told.
    let Q : Option (List Row) → Type 0 = λ o. IfSome o (λ rows. lasting (charge_of rows) ≡ volts) in
    let there = followed-some es s.trail told in
    let told_after : IsSome t.trail = subst (λ (o : Option (List Event)). IsSome o) (sym (Happens-trail h ∙ there.1)) refl in
    subst Q (Happens-truth h) (lasts (subst IsTrue (sym (Happens-honest h)) honest) told_after)

of_reading : (truth : Option (List Row)) (trail : Option (List Event)) (v : ℕ) (vs : List Event) (volts : Option ℕ) → IsSome trail
    → IfSome truth (λ rows. IfSome trail (λ t. v ≡ residual_of (charge_of rows) (source_of (t ++ vs))))
    → ((rows : List Row) (t : List Event) → trail ≡ Some t → v ≡ residual_of (charge_of rows) (source_of (t ++ vs)) → lasting (charge_of rows) ≡ volts)
    → IfSome truth (λ rows. lasting (charge_of rows) ≡ volts)
of_reading None trail v vs volts told is f = tt
of_reading (Some rows) None v vs volts told is f = absurd (let e : false ≡ true = told in cc)
of_reading (Some rows) (Some t) v vs volts told is f = f rows t refl is

module _ (es : List Event) (k : ℕ) where
  ticks-of : (before : List Event) (vs : List ℕ) → (source_of ((before ++ (es ++ zeros k)) ++ waited vs)).ticks ≡ length vs
  ticks-of before vs =
      let one = source_from-append at_rest (before ++ (es ++ zeros k)) (waited vs) in
      let two = source_from-append at_rest before (es ++ zeros k) in
      let three = source_from-append (source_of before) es (zeros k) in
      let zeroed = zeros-ticks k (source_from (source_of before) es) in
      let later = waited-ticks vs (source_of (before ++ (es ++ zeros k))) in
      let a = ap (λ (x : Source). x.ticks) one in
      let b = ap (λ (x : Source). x.ticks) two in
      let c = ap (λ (x : Source). x.ticks) three in
      omega arith

module _ {s r : RigState} (es : List Event) (k : ℕ) (down : Happens s r (es ++ zeros k) None) where
  trail-of : (t : List Event) → r.trail ≡ Some t → IsSome s.trail → (before : List Event) × (t ≡ before ++ (es ++ zeros k))
  trail-of t is told =
      let there = followed-some (es ++ zeros k) s.trail told in
      (there.0, some_same (sym is ∙ Happens-trail down ∙ there.1))
    where
      some_same : {x y : List Event} → Some x ≡ Some y → x ≡ y
      some_same e = cc

  told-down : IsSome s.trail → IsSome r.trail
  told-down told =
      let there = followed-some (es ++ zeros k) s.trail told in
      subst (λ (o : Option (List Event)). IsSome o) (sym (Happens-trail down ∙ there.1)) refl

  last_true : {w : RigState} (waits : Waits r w (Ok None)) → IsTrue r.honest → IfSome r.truth (λ rows. IfSome r.trail (λ trail. waits.ends.0 ≡ residual_of (charge_of rows) (source_of (trail ++ waited waits.waits))))
  last_true {w} waits honest = subst (λ (last : List Event). IsTrueCharge r (waited waits.waits) last) waits.ends.2 waits.truth honest

  -- the unit was discharged after a voltage
  pub discharged-none : {w : RigState} → ((x : Source) → (source_from x es).raised ≡ true) → Waits r w (Ok None) → HasLasting s None
  discharged-none {w} raised waits = λ honest told.
      let Q : Option (List Row) → Type 0 = λ o. IfSome o (λ rows. lasting (charge_of rows) ≡ None) in
      let fact : (rows : List Row) (t : List Event) → r.trail ≡ Some t → waits.ends.0 ≡ residual_of (charge_of rows) (source_of (t ++ waited waits.waits)) → lasting (charge_of rows) ≡ None =
      λ rows t is reads.
      let there = trail-of t is told in
      let src : Source = source_of ((there.0 ++ (es ++ zeros k)) ++ waited waits.waits) in
      let same : waits.ends.0 ≡ residual_of (charge_of rows) src = reads ∙ ap (λ (l : List Event). residual_of (charge_of rows) (source_of (l ++ waited waits.waits))) there.1 in
      let up : src.raised ≡ true =
      ap (λ (x : Source). x.raised) (source_from-append at_rest (there.0 ++ (es ++ zeros k)) (waited waits.waits))
      ∙ stays-raised (source_of (there.0 ++ (es ++ zeros k))) (waited waits.waits)
      (ap (λ (x : Source). x.raised) (source_from-append at_rest there.0 (es ++ zeros k) ∙ source_from-append (source_of there.0) es (zeros k))
      ∙ stays-raised (source_from (source_of there.0) es) (zeros k) (raised (source_of there.0))) in
      let few : src.ticks ≤ most_waits = let count = ticks-of es k there.0 waits.waits in let most = waits.few in omega arith in
      residual-none (charge_of rows) src waits.ends.0 up few waits.ends.1 same in
      subst Q (Happens-truth down)
      (of_reading r.truth r.trail waits.ends.0 (waited waits.waits) None (told-down told) (last_true waits (subst IsTrue (sym (Happens-honest down)) honest)) fact)

  -- it was not
  pub charged-some : {w : RigState} {v : ℕ} → Waits r w (Ok (Some v)) → HasLasting s (Some v)
  charged-some {w} {v} waits = λ honest told.
      let Q : Option (List Row) → Type 0 = λ o. IfSome o (λ rows. lasting (charge_of rows) ≡ Some v) in
      let fact : (rows : List Row) (t : List Event) → r.trail ≡ Some t → v ≡ residual_of (charge_of rows) (source_of (t ++ waited waits.waits)) → lasting (charge_of rows) ≡ Some v =
      λ rows t is reads.
      let there = trail-of t is told in
      let src : Source = source_of ((there.0 ++ (es ++ zeros k)) ++ waited waits.waits) in
      let same : v ≡ residual_of (charge_of rows) src = reads ∙ ap (λ (l : List Event). residual_of (charge_of rows) (source_of (l ++ waited waits.waits))) there.1 in
      let long : most_waits ≤ src.ticks = let count = ticks-of es k there.0 waits.waits in let all = waits.ends.1 in omega arith in
      residual-some (charge_of rows) src v long waits.ends.0 same in
      let truth : IsTrueCharge r (waited waits.waits) (Residual v ∷ []) = subst (λ (last : List Event). IsTrueCharge r (waited waits.waits) last) waits.ends.2 waits.truth in
      subst Q (Happens-truth down)
      (of_reading r.truth r.trail v (waited waits.waits) (Some v) (told-down told) (truth (subst IsTrue (sym (Happens-honest down)) honest)) fact)
