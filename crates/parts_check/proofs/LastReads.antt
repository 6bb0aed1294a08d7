-- The last readings of a trail are those of the check.
use Rattle.std.proofs.Common.{◌≡◌, ◌≢◌, ℕ, Bool, true, false, ◌==◌, ◌&&◌, List, [], ◌∷◌, ◌++◌, Option, Some, None, refl, sym, ◌∙◌, ap, subst, inl, inr, if◌then◌else◌}
use Rattle.std.specs.Prelude.{fold}
use Rattle.std.proofs.lemmas.Bool.{eq-eqb, eqb-true}
use Rattle.std.proofs.lemmas.List.Sums.{fold-append}
use Rattle.partition.proofs.InTurn.{InTurn}
use Rattle.partition.proofs.classes.Labels.{neq-eqb}
use Rattle.partition.proofs.Members.{In}
use Rattle.rig.specs.declared.event.Event.{Event}
use Rattle.parts_check.specs.PartsRead.{junction_after, last_junction, last_ohms, ohms_after}
use Rattle.parts_check.specs.Probed.{DiodeRead, Probed, ResistorRead, diode_probes, junction_events, ohms_event, probes_of, resistor_probes}

-- the two points of a reading are not those that are looked for
abbrev pub Apart : ℕ × ℕ → ℕ × ℕ → Type 0
Apart x y = (x.0 ≡ y.0) × (x.1 ≡ y.1) → ⊥

module _ {X : Type 0} (x y : X) (p q a b : ℕ) where
  kept_by : (t : Bool) → (p == a) ≡ t → Apart (p, q) (a, b) → (if (p == a) && (q == b) then x else y) ≡ y
  kept_by false e apart = ap (λ (t : Bool). if t && (q == b) then x else y) e
  kept_by true e apart =
      ap (λ (t : Bool). if t && (q == b) then x else y) e
      ∙ ap (λ (t : Bool). if t then x else y) (neq-eqb q b (λ is. apart (eqb-true p a e, is)))

  kept : Apart (p, q) (a, b) → (if (p == a) && (q == b) then x else y) ≡ y
  kept apart = kept_by (p == a) refl apart

found : {X : Type 0} (x y : X) (a b : ℕ) → (if (a == a) && (b == b) then x else y) ≡ x
found x y a b =
    ap (λ (t : Bool). if t && (b == b) then x else y) (eq-eqb a a refl)
    ∙ ap (λ (t : Bool). if t then x else y) (eq-eqb b b refl)

-- ---- resistors

abbrev pub ends_of : ResistorRead → ℕ × ℕ
ends_of x = (x.part.a, x.part.b)

-- no two resistors have the same ends
abbrev pub ResistorsApart : List ResistorRead → Type 0
ResistorsApart reads = InTurn (λ x y. Apart (ends_of y) (ends_of x)) reads

ohms-past : (a b : ℕ) (before : Option (Option ℕ)) (reads : List DiodeRead) → fold (ohms_after a b) before (diode_probes reads) ≡ before
ohms-past a b before [] = refl
ohms-past a b before (y ∷ ys) = ohms-past a b before ys

ohms-kept : (a b : ℕ) (before : Option (Option ℕ)) (reads : List ResistorRead) → ((y : ResistorRead) → In y reads → Apart (ends_of y) (a, b))
    → fold (ohms_after a b) before (resistor_probes reads) ≡ before
ohms-kept a b before [] apart = refl
ohms-kept a b before (y ∷ ys) apart =
    ap (λ (o : Option (Option ℕ)). fold (ohms_after a b) o (resistor_probes ys)) (kept (Some y.ohms) before y.part.a y.part.b a b (apart y (inl refl)))
    ∙ ohms-kept a b before ys (λ z i. apart z (inr i))

ohms-found : (reads : List ResistorRead) → ResistorsApart reads → (before : Option (Option ℕ)) (x : ResistorRead) → In x reads
    → fold (ohms_after x.part.a x.part.b) before (resistor_probes reads) ≡ Some x.ohms
ohms-found [] apart before x i = absurd i
ohms-found (y ∷ ys) apart before x (inl is) =
    let P : ResistorRead → Type 0 = λ z. fold (ohms_after z.part.a z.part.b) before (resistor_probes (y ∷ ys)) ≡ Some z.ohms in
    subst P is (
    ap (λ (o : Option (Option ℕ)). fold (ohms_after y.part.a y.part.b) o (resistor_probes ys)) (found (Some y.ohms) before y.part.a y.part.b)
    ∙ ohms-kept y.part.a y.part.b (Some y.ohms) ys apart.0
    )
ohms-found (y ∷ ys) apart before x (inr i) = ohms-found ys apart.1 (ohms_after x.part.a x.part.b before (ohms_event y)) x i

-- ---- diodes

abbrev pub ways_of : DiodeRead → ℕ × ℕ
ways_of x = (x.part.from, x.part.to)

abbrev pub back_of : DiodeRead → ℕ × ℕ
back_of x = (x.part.to, x.part.from)

-- neither reading of the one is of the points of the other, in this order
pub record NoneOf (y : DiodeRead) (points : ℕ × ℕ) : Type 0 where
  pub forward : Apart (ways_of y) points
  pub back : Apart (back_of y) points

-- no two diodes lie between the same points, and none between a point and itself
pub record DiodesApart (reads : List DiodeRead) : Type 0 where
  pub others : InTurn (λ x y. NoneOf y (ways_of x) × NoneOf y (back_of x)) reads
  pub itself : (x : DiodeRead) → In x reads → x.part.from ≢ x.part.to

junction-past : (a b : ℕ) (before : Option (Option ℕ)) (reads : List ResistorRead) → fold (junction_after a b) before (resistor_probes reads) ≡ before
junction-past a b before [] = refl
junction-past a b before (y ∷ ys) = junction-past a b before ys

junction-kept : (a b : ℕ) (before : Option (Option ℕ)) (reads : List DiodeRead) → ((y : DiodeRead) → In y reads → NoneOf y (a, b))
    → fold (junction_after a b) before (diode_probes reads) ≡ before
junction-kept a b before [] apart = refl
junction-kept a b before (y ∷ ys) apart =
    let none = apart y (inl refl) in
    let one = kept (Some y.forward) before y.part.from y.part.to a b none.forward in
    let more : Option (Option ℕ) → Option (Option ℕ) = λ o. fold (junction_after a b) o (diode_probes ys) in
    ap (λ (o : Option (Option ℕ)). more (if (y.part.to == a) && (y.part.from == b) then Some y.back else o)) one
    ∙ ap more (kept (Some y.back) before y.part.to y.part.from a b none.back)
    ∙ junction-kept a b before ys (λ z i. apart z (inr i))

-- the readings of one diode, and none of the later ones
module _ (y : DiodeRead) (ys : List DiodeRead) (before : Option (Option ℕ)) (crossed : y.part.from ≢ y.part.to) where
  forward-here : ((z : DiodeRead) → In z ys → NoneOf z (ways_of y))
      → fold (junction_after y.part.from y.part.to) before (diode_probes (y ∷ ys)) ≡ Some y.forward
  forward-here apart =
      let a = y.part.from in
      let b = y.part.to in
      let more : Option (Option ℕ) → Option (Option ℕ) = λ o. fold (junction_after a b) o (diode_probes ys) in
      ap (λ (o : Option (Option ℕ)). more (if (b == a) && (a == b) then Some y.back else o)) (found (Some y.forward) before a b)
      ∙ ap more (kept (Some y.back) (Some y.forward) b a a b (λ same. crossed (sym same.0)))
      ∙ junction-kept a b (Some y.forward) ys apart

  back-here : ((z : DiodeRead) → In z ys → NoneOf z (back_of y)) → fold (junction_after y.part.to y.part.from) before (diode_probes (y ∷ ys)) ≡ Some y.back
  back-here apart =
      let a = y.part.from in
      let b = y.part.to in
      let more : Option (Option ℕ) → Option (Option ℕ) = λ o. fold (junction_after b a) o (diode_probes ys) in
      ap more (found (Some y.back) (if (a == b) && (b == a) then Some y.forward else before) b a)
      ∙ junction-kept b a (Some y.back) ys apart

rest_apart : (y : DiodeRead) (ys : List DiodeRead) → DiodesApart (y ∷ ys) → DiodesApart ys
rest_apart y ys apart = record { others = apart.others.1; itself = λ x i. apart.itself x (inr i) }

forward-found : (reads : List DiodeRead) → DiodesApart reads → (before : Option (Option ℕ)) (x : DiodeRead) → In x reads
    → fold (junction_after x.part.from x.part.to) before (diode_probes reads) ≡ Some x.forward
forward-found [] apart before x i = absurd i
forward-found (y ∷ ys) apart before x (inl is) =
    let P : DiodeRead → Type 0 = λ z. fold (junction_after z.part.from z.part.to) before (diode_probes (y ∷ ys)) ≡ Some z.forward in
    subst P is (forward-here y ys before (apart.itself y (inl refl)) (λ z i. (apart.others.0 z i).0))
forward-found (y ∷ ys) apart before x (inr i) =
    forward-found ys (rest_apart y ys apart) (fold (junction_after x.part.from x.part.to) before (junction_events y)) x i

back-found : (reads : List DiodeRead) → DiodesApart reads → (before : Option (Option ℕ)) (x : DiodeRead) → In x reads
    → fold (junction_after x.part.to x.part.from) before (diode_probes reads) ≡ Some x.back
back-found [] apart before x i = absurd i
back-found (y ∷ ys) apart before x (inl is) =
    let P : DiodeRead → Type 0 = λ z. fold (junction_after z.part.to z.part.from) before (diode_probes (y ∷ ys)) ≡ Some z.back in
    subst P is (back-here y ys before (apart.itself y (inl refl)) (λ z i. (apart.others.0 z i).1))
back-found (y ∷ ys) apart before x (inr i) = back-found ys (rest_apart y ys apart) (fold (junction_after x.part.to x.part.from) before (junction_events y)) x i

-- ---- in a trail

module _ (trail : List Event) (probed : Probed) where
  pub last-ohms : ResistorsApart probed.resistors → (x : ResistorRead) → In x probed.resistors
      → last_ohms (trail ++ probes_of probed) x.part.a x.part.b ≡ Some x.ohms
  last-ohms apart x i =
      let after = ohms_after x.part.a x.part.b in
      fold-append after None trail (probes_of probed)
      ∙ fold-append after (fold after None trail) (resistor_probes probed.resistors) (diode_probes probed.diodes)
      ∙ ohms-past x.part.a x.part.b (fold after (fold after None trail) (resistor_probes probed.resistors)) probed.diodes
      ∙ ohms-found probed.resistors apart (fold after None trail) x i

  past : (a b : ℕ)
      → last_junction (trail ++ probes_of probed) a b ≡ fold (junction_after a b) (fold (junction_after a b) None trail) (diode_probes probed.diodes)
  past a b =
      let after = junction_after a b in
      fold-append after None trail (probes_of probed)
      ∙ fold-append after (fold after None trail) (resistor_probes probed.resistors) (diode_probes probed.diodes)
      ∙ ap (λ (o : Option (Option ℕ)). fold after o (diode_probes probed.diodes)) (junction-past a b (fold after None trail) probed.resistors)

  pub last-forward : DiodesApart probed.diodes → (x : DiodeRead) → In x probed.diodes
      → last_junction (trail ++ probes_of probed) x.part.from x.part.to ≡ Some x.forward
  last-forward apart x i = past x.part.from x.part.to ∙ forward-found probed.diodes apart (fold (junction_after x.part.from x.part.to) None trail) x i

  pub last-back : DiodesApart probed.diodes → (x : DiodeRead) → In x probed.diodes
      → last_junction (trail ++ probes_of probed) x.part.to x.part.from ≡ Some x.back
  last-back apart x i = past x.part.to x.part.from ∙ back-found probed.diodes apart (fold (junction_after x.part.to x.part.from) None trail) x i
