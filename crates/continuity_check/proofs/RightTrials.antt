-- Right answers are those of the unit's classes.
use Rattle.std.proofs.Common.{◌≡◌, ◌∷◌, [], ℕ, suc, Bool, true, false, List, map, refl, sym, ◌∙◌, ap, arith}
use Rattle.std.specs.Prelude.{All}
use Rattle.std.proofs.lemmas.Bool.{eq-eqb, eqb-true}
use Rattle.partition.specs.Classes.{JoinsBelow}
use Rattle.partition.proofs.classes.WalkLaws.{joined_by-walk, walk-joined_by}
use Rattle.rig.specs.declared.unit.Row.{Row}
use Rattle.rig.specs.Joins.{joins_of, joined_classes}
use Rattle.continuity_check.specs.Compared.{Trial, trial_of}
use Rattle.continuity_check.specs.Trials.{IsBelow, IsRight}

bool_agree : (s t : Bool) → (s ≡ true → t ≡ true) → (t ≡ true → s ≡ true) → s ≡ t
bool_agree true true f g = refl
bool_agree true false f g = sym (f refl)
bool_agree false true f g = g refl
bool_agree false false f g = refl

All-head : {X : Type 0} (P : X → Type 0) (x : X) (xs : List X) → All P (x ∷ xs) → P x
All-head P x xs all = all 0 x (omega arith)

All-tail : {X : Type 0} (P : X → Type 0) (x : X) (xs : List X) → All P (x ∷ xs) → All P xs
All-tail P x xs all k d lt = all (suc k) d (omega arith)

module _ (rows : List Row) (n : ℕ) (below : JoinsBelow (joins_of rows) n) where
  right_met : (t : Trial) → IsBelow n t → IsRight rows t → t.met ≡ (trial_of (joined_classes rows n) t.compared).met
  right_met t inside right =
      bool_agree t.met _
      (λ met. eq-eqb _ _ (walk-joined_by (joins_of rows) n below (right.0 met)))
      (λ same. right.1 (joined_by-walk (joins_of rows) n below t.compared.head t.compared.point inside.0 inside.1 (eqb-true _ _ same)))

  pub right_trials : (trials : List Trial) → All (IsBelow n) trials → All (IsRight rows) trials → trials ≡ map (trial_of (joined_classes rows n)) (map (λ (t : Trial). t.compared) trials)
  right_trials [] inside right = refl
  right_trials (t ∷ ts) inside right =
      let here = right_met t (All-head (IsBelow n) t ts inside) (All-head (IsRight rows) t ts right) in
      let rest = right_trials ts (All-tail (IsBelow n) t ts inside) (All-tail (IsRight rows) t ts right) in
      let first : t ≡ trial_of (joined_classes rows n) t.compared = ap (λ (met : Bool). record { compared = t.compared; met = met }) here in
      ap (λ (x : Trial). x ∷ ts) first ∙ ap (λ (xs : List Trial). trial_of (joined_classes rows n) t.compared ∷ xs) rest
