-- What holds of the events of a call holds of the trail after it.
use Rattle.std.proofs.Common.{◌≡◌, List, ◌++◌, Option, Some, None, Result, Ok, Err, sym, subst}
use Rattle.std.specs.Prelude.{IfOk, IfSome, IsSome}
use Rattle.rig.specs.declared.event.Event.{Event}
use Rattle.rig.specs.declared.rig.RigStop.{RigStop}
use Rattle.rig.specs.RigState.{RigState}
use Rattle.rig.specs.Happened.{Happens}
use Rattle.rig.proofs.Happening.{Happens-trail, followed}

pub on_trail : {s t : RigState} {es : List Event} {stop : Option RigStop} (P : List Event → Type 0) → Happens s t es stop → ((before : List Event) → P (before ++ es)) → IfSome t.trail P
on_trail {s} {t} {es} P h holds = let Q : Option (List Event) → Type 0 = λ o. IfSome o P in subst Q (sym (Happens-trail h)) (at s.trail)
  where
    at : (o : Option (List Event)) → IfSome (followed es o) P
    at None = tt
    at (Some trail) = holds trail

-- both facts of an answer
pub IfOk-two : {T E : Type 0} (r : Result T E) (P Q S : T → Type 0) → ((x : T) → P x → Q x → S x) → IfOk r P → IfOk r Q → IfOk r S
IfOk-two (Ok x) P Q S f h k = f x h k
IfOk-two (Err e) P Q S f h k = tt

pub not_none : {X : Type 0} (o : Option X) → IsSome o → o ≡ None → ⊥
not_none {X} None h is = absurd (let e : IsSome {T = X} None = h in cc)
not_none (Some x) h is = cc
