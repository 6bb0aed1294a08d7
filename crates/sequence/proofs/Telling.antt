-- What an honest rig that tells its units says of the seated one.
use Rattle.std.proofs.Common.{◌≡◌, ℕ, Bool, true, false, List, Option, Some, None, IsTrue, refl, sym, ◌∙◌, ap, subst, if◌then◌else◌}
use Rattle.std.specs.Prelude.{IfSome, IsSome, is_some, option_map, ◌&&◌}
use Rattle.rig.specs.Happened.{Happens}
use Rattle.rig.specs.Joins.{unit_rows}
use Rattle.rig.specs.RigState.{RigState}
use Rattle.rig.specs.declared.event.Event.{Event}
use Rattle.rig.specs.declared.rig.RigStop.{RigStop}
use Rattle.rig.specs.declared.unit.Row.{Row}
use Rattle.rig.specs.declared.unit.Unit.{Unit}
use Rattle.rig.proofs.Happening.{Happens-honest, Happens-trail, Happens-truth, followed}
use Rattle.wirelist.specs.declared.program.Program.{Program}
use Rattle.unit_outcome.specs.Found.{Findings, found_in, found_of, told_by}
use Rattle.unit_outcome.specs.Spent.{OfRows}
use Rattle.unit_outcome.specs.Tested.{HasUnit, Keeps}

-- what was said of the rows holds after some events
told-before : (es : List Event) (o : Option (List Event)) → IsSome (followed es o) → IsSome o
told-before es None told = told
told-before es (Some t) told = refl

pub rows-after : {s t : RigState} {es : List Event} {stop : Option RigStop} (P : List Row → Type 0) → Happens s t es stop → OfRows s P → OfRows t P
rows-after {s} {t} {es} P h says = λ honest told.
    subst (λ (o : Option (List Row)). IfSome o P) (sym (Happens-truth h))
    (says (subst IsTrue (Happens-honest h) honest) (told-before es s.trail (subst (λ (o : Option (List Event)). IsSome o) (Happens-trail h) told)))

-- the unit, its rows, and what was said of them
pub record Sees (p : Program) (serial : List ℕ) (attempt : ℕ) (Q : List Row → Type 0) (findings : Findings) : Type 0 where
  pub rows : List Row
  pub there : findings serial attempt ≡ Some (found_of p rows)
  pub so : Q rows

module _ (p : Program) (serial : List ℕ) (attempt : ℕ) {old u : RigState} (keeps : Keeps old u) (unit : HasUnit serial attempt old u) (Q : List Row → Type 0) (says : OfRows u Q) where
  seen : IsTrue old.honest → is_some old.trail ≡ true → (o : Option (List Unit))
      → IfSome o (λ units. (rows : List Row) × (unit_rows units serial attempt ≡ Some rows) × (u.truth ≡ Some rows)) → IfSome (option_map (λ (units : List Unit). found_in units p) o) (Sees p serial attempt Q)
  seen honest told None h = tt
  seen honest told (Some units) h =
      let said = says (subst IsTrue (sym keeps.honest) honest) (keeps.trail ∙ told) in
      record { rows = h.0; there = ap (option_map (found_of p)) h.1; so = subst (λ (o : Option (List Row)). IfSome o Q) h.2 said }

  pub sees : IfSome (told_by p old) (Sees p serial attempt Q)
  sees = at old.honest refl (is_some old.trail) refl
    where
      at : (a : Bool) → old.honest ≡ a → (b : Bool) → is_some old.trail ≡ b → IfSome (told_by p old) (Sees p serial attempt Q)
      at true e true f = rw (e, f) (seen e f old.units unit)
      at true e false f = rw (e, f) tt
      at false e b f = rw e tt

pub told-each : (o : Option Findings) (P Q : Findings → Type 0) → ((f : Findings) → P f → Q f) → IfSome o P → IfSome o Q
told-each None P Q f h = tt
told-each (Some findings) P Q f h = f findings h

pub told-always : (o : Option Findings) (P : Findings → Type 0) → ((f : Findings) → P f) → IfSome o P
told-always None P f = tt
told-always (Some findings) P f = f findings

-- there is no such unit
pub tells-none : (p : Program) (serial : List ℕ) (attempt : ℕ) (old : RigState) → IfSome old.units (λ units. unit_rows units serial attempt ≡ None) → IfSome (told_by p old) (λ findings. findings serial attempt ≡ None)
tells-none p serial attempt old none = at (old.honest && is_some old.trail) old.units none
  where
    at : (b : Bool) (o : Option (List Unit)) → IfSome o (λ units. unit_rows units serial attempt ≡ None)
        → IfSome (if b then option_map (λ (units : List Unit). found_in units p) o else None) (λ (findings : Findings). findings serial attempt ≡ None)
    at false o h = tt
    at true None h = tt
    at true (Some units) h = ap (option_map (found_of p)) h
