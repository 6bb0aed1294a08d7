-- Readings of components keep the order of high voltage: no voltage stands, and they leave the source as it is.
use Rattle.std.proofs.Common.{◌≡◌, ℕ, List, [], ◌∷◌, ◌++◌, Option, Some, None, sym, ap, subst, append_assoc, append-nil}
use Rattle.std.specs.Prelude.{All, IfSome, IsTrue}
use Rattle.std.proofs.lemmas.List.Elements.{All-head, All-tail}
use Rattle.rig.specs.declared.event.Event.{Event}
use Rattle.rig.specs.declared.event.Event.TheVariants.{Reading, Ohms, Junction, Door, Route, Raise, Leak, Zero, Residual, Tick}
use Rattle.rig.specs.declared.rig.RigStop.{RigStop}
use Rattle.rig.specs.Happened.{Happens}
use Rattle.rig.specs.HvOrder.{HvAt, HvOrder, OrderAfter}
use Rattle.rig.specs.RigState.{RigState}
use Rattle.rig.specs.Source.{Ends, at_rest, source_of}
use Rattle.rig.specs.Trail.{IsProbe}
use Rattle.rig.proofs.Happening.{Happens-trail, followed}
use Rattle.rig.proofs.Order.{OrderAfter-append, rest-of, source_from-append}
use Rattle.parts_check.specs.Checking.{StaysInOrder}

-- one more reading leaves the source as it was
same-source : (t : List Event) (e : Event) → IsProbe e → source_of (t ++ e ∷ []) ≡ source_of t
same-source t (Ohms a b r) is = source_from-append at_rest t (Ohms a b r ∷ [])
same-source t (Junction a b d) is = source_from-append at_rest t (Junction a b d ∷ [])
same-source t (Reading a b met) is = absurd is
same-source t (Door closed) is = absurd is
same-source t (Route a b) is = absurd is
same-source t (Raise v done) is = absurd is
same-source t (Leak g) is = absurd is
same-source t (Zero done) is = absurd is
same-source t (Residual v) is = absurd is
same-source t Tick is = absurd is

allowed : (classes bonds : List ℕ) (t : List Event) (e : Event) → IsProbe e → Ends t → HvAt classes bonds t e
allowed classes bonds t (Ohms a b r) is ends = record { source = (rest-of t ends).0; readings = tt }
allowed classes bonds t (Junction a b d) is ends = record { source = (rest-of t ends).0; readings = tt }
allowed classes bonds t (Reading a b met) is ends = absurd is
allowed classes bonds t (Door closed) is ends = absurd is
allowed classes bonds t (Route a b) is ends = absurd is
allowed classes bonds t (Raise v done) is ends = absurd is
allowed classes bonds t (Leak g) is ends = absurd is
allowed classes bonds t (Zero done) is ends = absurd is
allowed classes bonds t (Residual v) is ends = absurd is
allowed classes bonds t Tick is ends = absurd is

all-allowed : (classes bonds : List ℕ) (t es : List Event) → All IsProbe es → Ends t → OrderAfter classes bonds t es × Ends (t ++ es)
all-allowed classes bonds t [] probes ends = (tt, subst Ends (sym (append-nil t)) ends)
all-allowed classes bonds t (e ∷ es) probes ends =
    let is = All-head IsProbe e es probes in
    let kept : Ends (t ++ e ∷ []) = subst IsTrue (sym (ap (λ s. s.ended) (same-source t e is))) ends in
    let more = all-allowed classes bonds (t ++ e ∷ []) es (All-tail IsProbe e es probes) kept in
    ((allowed classes bonds t e is ends, more.0), subst Ends (append_assoc t (e ∷ []) es) more.1)

in-order : (classes bonds : List ℕ) (es : List Event) (trail : Option (List Event)) → All IsProbe es → IfSome trail (λ t. HvOrder classes bonds t × Ends t)
    → IfSome (followed es trail) (λ t. HvOrder classes bonds t × Ends t)
in-order classes bonds es None probes order = tt
in-order classes bonds es (Some t) probes order =
    let more = all-allowed classes bonds t es probes order.1 in
    (OrderAfter-append classes bonds [] t es order.0 more.0, more.1)

pub StaysInOrder-probes : {s t : RigState} {es : List Event} {stop : Option RigStop} → All IsProbe es → Happens s t es stop → StaysInOrder s t
StaysInOrder-probes {s} {t} {es} probes h = λ classes bonds order.
    let P : Option (List Event) → Type 0 = λ trail. IfSome trail (λ x. HvOrder classes bonds x × Ends x) in
    subst P (sym (Happens-trail h)) (in-order classes bonds es s.trail probes order)
