-- The partitions that the unit may have, and the points of the readings.
use Rattle.std.proofs.Common.{◌≡◌, ◌↔◌, inl, inr, ℕ, Bool, List, [], ◌∷◌, ◌++◌, length, Option, None, Some, Result, Ok, Err, IsTrue, sym, ◌∙◌, ap, subst}
use Rattle.std.specs.Prelude.{Contains}
use Rattle.std.proofs.lemmas.List.Elements.{Contains-append_left, Contains-append_right, Contains-get_or, Contains-push_cases}
use Rattle.partition.specs.Partitions.{HasClass, IsOver, Meets}
use Rattle.rig.specs.declared.event.Event.{Event}
use Rattle.rig.specs.declared.event.Event.TheVariants.{Reading}
use Rattle.rig.specs.declared.rig.RigStop.{RigStop}
use Rattle.rig.specs.RigState.{RigState}
use Rattle.rig.specs.Calls.{Conducts}
use Rattle.rig.specs.Readings.{Reads}
use Rattle.rig.specs.Trail.{Agrees, Extends, ReadsAmong}
use Rattle.rig.proofs.Reading.{Agrees-before, Extends-recorded, Extends-refl, Teaches-conducts}
use Rattle.learn.specs.Groups.{IsPossible, IsReadingOf}

-- ---- the partitions that the unit may have

pub IsPossible-over : {state : RigState} {classes other : List ℕ} → length classes ≡ state.points → IsOver classes other → Agrees state other
    → IsPossible state other
IsPossible-over points over agrees = record { size = over.size ∙ points; agrees = agrees }

pub IsPossible-before : {old new : RigState} {stop : Option RigStop} (classes : List ℕ) → Reads old new stop → IsPossible new classes → IsPossible old classes
IsPossible-before classes reads possible = record {
  size = possible.size
      ∙ ap (λ (s : RigState). s.points) reads.frame;
  agrees = Agrees-before classes reads possible.agrees;
}

-- what a reading teaches of them
pub IsPossible-conducts : {old new : RigState} {a b : List ℕ} (met : Bool) → Conducts old new a b (Ok met) → (classes : List ℕ) → IsPossible new classes
    → IsPossible old classes × (IsTrue met ↔ Meets classes a b)
IsPossible-conducts met call classes possible =
    let taught = Teaches-conducts (Ok met) call classes possible.agrees in
    (record { size = possible.size ∙ ap (λ (s : RigState). s.points) call.ok; agrees = taught.0 }, taught.1)

-- ---- the points of the readings

pub Extends-weaken : (P Q : Event → Type 0) → ((e : Event) → P e → Q e) → (s t : Option (List Event)) → Extends P s t → Extends Q s t
Extends-weaken P Q weaker None t is = is
Extends-weaken P Q weaker (Some s) t (more, kind, is) = (more, λ k d lt. weaker _ (kind k d lt), is)

-- one reading, which is not recorded where it was refused
pub Extends-conducts : (P : Event → Type 0) {old new : RigState} {a b : List ℕ} (result : Result Bool RigStop) → Conducts old new a b result
    → ((met : Bool) → P (Reading a b met)) → Extends P old.trail new.trail
Extends-conducts P {old} {new} {a} {b} (Ok met) call each =
    let Q : Option (List Event) → Type 0 = λ trail. Extends P old.trail trail in
    subst Q (sym (ap (λ (s : RigState). s.trail) call.ok)) (Extends-recorded P (Reading a b met) old.trail (each met))
Extends-conducts P {old} {new} {a} {b} (Err e) call each =
    let Q : Option (List Event) → Type 0 = λ trail. Extends P old.trail trail in
    subst Q (sym (ap (λ (s : RigState). s.trail) call.err)) (Extends-refl P old.trail)

IsReadingOf-weaken : (xs ys : List ℕ) → ((p : ℕ) → Contains xs p → Contains ys p) → (e : Event) → IsReadingOf xs e → IsReadingOf ys e
IsReadingOf-weaken xs ys among (Reading a b met) (in_a, in_b) = (λ k d lt. among _ (in_a k d lt), λ k d lt. among _ (in_b k d lt))
IsReadingOf-weaken xs ys among _ is = absurd is

-- readings of these points are readings of more points
pub Extends-points : (xs ys : List ℕ) → ((p : ℕ) → Contains xs p → Contains ys p) → (s t : Option (List Event)) → Extends (IsReadingOf xs) s t
    → Extends (IsReadingOf ys) s t
Extends-points xs ys among s t = Extends-weaken (IsReadingOf xs) (IsReadingOf ys) (IsReadingOf-weaken xs ys among) s t

IsReadingOf-among : (xs classes : List ℕ) → ((p : ℕ) → Contains xs p → HasClass classes p) → (e : Event) → IsReadingOf xs e → ReadsAmong classes e
IsReadingOf-among xs classes count (Reading a b met) (in_a, in_b) = (λ k d lt. count _ (in_a k d lt), λ k d lt. count _ (in_b k d lt))
IsReadingOf-among xs classes count _ is = absurd is

-- readings of points that count
pub Extends-among : (xs classes : List ℕ) → ((p : ℕ) → Contains xs p → HasClass classes p) → (s t : Option (List Event)) → Extends (IsReadingOf xs) s t
    → Extends (ReadsAmong classes) s t
Extends-among xs classes count s t = Extends-weaken (IsReadingOf xs) (ReadsAmong classes) (IsReadingOf-among xs classes count) s t

-- the points of a reading are its own
pub IsReadingOf-own : (a b : List ℕ) (met : Bool) → IsReadingOf (a ++ b) (Reading a b met)
IsReadingOf-own a b met = (λ k d lt. Contains-append_left a b _ (Contains-get_or a k d lt), λ k d lt. Contains-append_right a b _ (Contains-get_or b k d lt))

-- the second group and a point of the first are points of both
pub points-turned : (a b : List ℕ) (q : ℕ) → Contains a q → (p : ℕ) → Contains (b ++ q ∷ []) p → Contains (a ++ b) p
points-turned a b q in_a p in' =
    let P : ℕ → Type 0 = λ r. Contains a r in
    elim (Contains-push_cases b q p in') as (λ _. Contains (a ++ b) p) [
      | inl in_b ↦ Contains-append_right a b p in_b
      | inr is ↦ Contains-append_left a b p (subst P is in_a)
    ]
