-- The first breakdown of a unit is the first of the list of bits and steps.
use Rattle.std.proofs.Common.{◌≡◌, ℕ, zero, suc, ◌+◌, ◌*◌, ◌/◌, ◌-◌, ◌<◌, Bool, true, false, List, [], ◌∷◌, ◌++◌, map, Option, Some, None, IsTrue, if◌then◌else◌, refl, sym, ◌∙◌, ap, subst, arith, inl, inr, ◌⊎◌, append-nil}
use Rattle.std.specs.Prelude.{find, flat_map, option_map}
use Rattle.std.specs.Option.{option_or}
use Rattle.std.proofs.lemmas.Grind.{flat_map-append}
use Rattle.std.proofs.lemmas.List.Folds.{find-append}
use Rattle.std.proofs.lemmas.List.{map-append}
use Rattle.std.proofs.Math.Nat.{eq-or-lt_of_le}
use Rattle.partition.specs.Classes.{points_below}
use Rattle.partition.proofs.classes.HeadLemmas.{points_below-suc}
use Rattle.rig.specs.declared.unit.Row.{Row}
use Rattle.wirelist.specs.Clusters.{cluster_count}
use Rattle.wirelist.specs.declared.program.Program.{Program}
use Rattle.wirelist.specs.declared.program.Withstand.{Withstand}
use Rattle.hv.specs.declared.withstanding.WithstandFault.{WithstandFault}
use Rattle.hv.specs.Routes.{tested_bits}
use Rattle.hv.specs.Withstanding.{BitHolds, BreaksFirst, IsFirstBreakdown}
use Rattle.unit_outcome.specs.Defined.{breaks_at, fault_at, first_breakdown, test_steps}

true-is : (b : Bool) → IsTrue b → b ≡ true
true-is true is = refl
true-is false is = absurd (cc)

-- ---- the first of some stages that finds something

module _ {X : Type 0} (found : ℕ → Option X) (all : ℕ → Option X) (none : all zero ≡ None) (more : (n : ℕ) → all (suc n) ≡ option_or (all n) (found n)) where
  none-found : (n : ℕ) → ((i : ℕ) → i < n → found i ≡ None) → all n ≡ None
  none-found zero each = none
  none-found (suc n) each =
      more n ∙ ap (λ (o : Option X). option_or o (found n)) (none-found n (λ i lt. each i (omega arith))) ∙ ap (λ (o : Option X). option_or None o) (each n (omega arith))

  first-found : (n i : ℕ) (x : X) → i < n → ((j : ℕ) → j < i → found j ≡ None) → found i ≡ Some x → all n ≡ Some x
  first-found zero i x lt earlier is = absurd (omega arith)
  first-found (suc n) i x lt earlier is = at (eq-or-lt_of_le (omega arith)) (λ below. first-found n i x below earlier is)
    where
      here : i ≡ n → all (suc n) ≡ Some x
      here e =
          more n ∙ ap (λ (o : Option X). option_or o (found n)) (none-found n (λ j below. earlier j (omega arith)))
          ∙ subst (λ (k : ℕ). found k ≡ Some x) e is

      at : (i ≡ n) ⊎ (i < n) → (i < n → all n ≡ Some x) → all (suc n) ≡ Some x
      at (inl e) before = here e
      at (inr below) before = more n ∙ ap (λ (o : Option X). option_or o (found n)) (before below)

-- ---- the steps of a bit, and the bits

module _ (p : Program) (rows : List Row) (test : Withstand) where
  t : ℕ × ℕ → Bool
  t = breaks_at p rows test

  step_at : ℕ → ℕ → ℕ × ℕ
  step_at j i = (j, 50 * (i + 1))

  in_step : ℕ → ℕ → Option (ℕ × ℕ)
  in_step j i = find t (step_at j i ∷ [])

  steps_to : ℕ → ℕ → List (ℕ × ℕ)
  steps_to j n = map (λ v. (j, v)) (map (λ i. 50 * (i + 1)) (points_below n))

  in_steps : ℕ → ℕ → Option (ℕ × ℕ)
  in_steps j n = find t (steps_to j n)

  steps-more : (j n : ℕ) → in_steps j (suc n) ≡ option_or (in_steps j n) (in_step j n)
  unfolding in_steps steps_to in_step step_at t
  steps-more j n =
      let grown : steps_to j (suc n) ≡ steps_to j n ++ step_at j n ∷ [] =
      ap (λ (ks : List ℕ). map (λ v. (j, v)) (map (λ i. 50 * (i + 1)) ks)) (points_below-suc n)
      ∙ ap (λ (ks : List ℕ). map (λ (v : ℕ). (j, v)) ks) (map-append (λ i. 50 * (i + 1)) (points_below n) (n ∷ []))
      ∙ map-append (λ (v : ℕ). (j, v)) (map (λ i. 50 * (i + 1)) (points_below n)) ((50 * (n + 1)) ∷ []) in
      ap (find t) grown ∙ find-append t (steps_to j n) (step_at j n ∷ [])

  steps : ℕ
  steps = test.volts / 50

  in_bit : ℕ → Option (ℕ × ℕ)
  in_bit j = in_steps j steps

  bits_to : ℕ → List (ℕ × ℕ)
  bits_to m = flat_map (λ j. map (λ v. (j, v)) (test_steps test.volts)) (points_below m)

  in_bits : ℕ → Option (ℕ × ℕ)
  in_bits m = find t (bits_to m)

  bits-more : (m : ℕ) → in_bits (suc m) ≡ option_or (in_bits m) (in_bit m)
  unfolding in_bits bits_to in_bit in_steps steps_to steps
  bits-more m =
      let f : ℕ → List (ℕ × ℕ) = λ j. map (λ v. (j, v)) (test_steps test.volts) in
      let grown : bits_to (suc m) ≡ bits_to m ++ f m =
      ap (flat_map f) (points_below-suc m) ∙ flat_map-append f (points_below m) (m ∷ []) ∙ ap (λ (l : List (ℕ × ℕ)). bits_to m ++ l) (append-nil (f m)) in
      ap (find t) grown ∙ find-append t (bits_to m) (f m)

  -- ---- what holds, and what breaks down

  step-holds : (j v i : ℕ) → BitHolds p rows test v j → 50 * (i + 1) < v → in_step j i ≡ None
  unfolding in_step step_at t
  step-holds j v i holds below =
      ap (λ (b : Bool). if b then Some (j, 50 * (i + 1)) else None) (holds (50 * (i + 1)) (omega arith) (omega arith) below)

  no_steps : (j : ℕ) → in_steps j zero ≡ None
  unfolding in_steps steps_to
  no_steps j = refl

  step-below : (i : ℕ) → i < steps → 50 * (i + 1) < test.volts + 50
  unfolding steps
  step-below i lt = omega arith

  bit-holds : (j : ℕ) → BitHolds p rows test (test.volts + 50) j → in_bit j ≡ None
  unfolding in_bit
  bit-holds j holds = none-found (in_step j) (in_steps j) (no_steps j) (steps-more j) steps (λ i lt. step-holds j (test.volts + 50) i holds (step-below i lt))

  step-breaks : (j i : ℕ) → IsTrue (t (step_at j i)) → in_step j i ≡ Some (step_at j i)
  unfolding in_step
  step-breaks j i broke = ap (λ (b : Bool). if b then Some (step_at j i) else None) (true-is (t (step_at j i)) broke)

  bit-breaks-at : (fault : WithstandFault) (i : ℕ) → 50 * (i + 1) ≡ fault.volts → i < steps → BreaksFirst p rows test fault → in_bit fault.bit ≡ Some (fault.bit, fault.volts)
  unfolding in_bit step_at t
  bit-breaks-at fault i whole few breaks =
      let j : ℕ = fault.bit in
      let broke : IsTrue (breaks_at p rows test (j, 50 * (i + 1))) = subst (λ (v : ℕ). IsTrue (breaks_at p rows test (j, v))) (sym whole) breaks.breaks in
      subst (λ (v : ℕ). in_steps j steps ≡ Some (j, v)) whole
      (first-found (in_step j) (in_steps j) (no_steps j) (steps-more j) steps i (step_at j i) few (λ k lt. step-holds j fault.volts k breaks.earlier_steps (omega arith)) (step-breaks j i broke))

  bit-breaks : (fault : WithstandFault) → BreaksFirst p rows test fault → in_bit fault.bit ≡ Some (fault.bit, fault.volts)
  unfolding steps
  bit-breaks fault breaks =
      let some = breaks.step.some in
      let by = breaks.step.by_fifty in
      let most = breaks.step.at_most in
      bit-breaks-at fault (fault.volts / 50 - 1) (omega arith) (omega arith) breaks

  none-before : in_bits zero ≡ None
  unfolding in_bits bits_to
  none-before = refl

  is-first : (found : Option WithstandFault) → IsFirstBreakdown p rows test found → found ≡ option_map (fault_at p rows) (in_bits (tested_bits (cluster_count p)))
  is-first None holds =
      sym (ap (option_map (fault_at p rows)) (none-found in_bit in_bits none-before bits-more (tested_bits (cluster_count p)) (λ j lt. bit-holds j (holds j lt))))
  is-first (Some fault) breaks =
      let first = first-found in_bit in_bits none-before bits-more (tested_bits (cluster_count p)) fault.bit (fault.bit, fault.volts) breaks.bit (λ j lt. bit-holds j (breaks.earlier_bits j lt)) (bit-breaks fault breaks) in
      let stated : fault ≡ fault_at p rows (fault.bit, fault.volts) = ap (λ (leak : Option ℕ). record { bit = fault.bit; volts = fault.volts; leak = leak }) breaks.stated in
      ap (λ (f : WithstandFault). Some f) stated ∙ sym (ap (option_map (fault_at p rows)) first)

pub is_first_breakdown : (p : Program) (rows : List Row) (test : Withstand) (found : Option WithstandFault) → IsFirstBreakdown p rows test found → found ≡ first_breakdown p rows test
unfolding in_bits bits_to t
is_first_breakdown p rows test found is = is-first p rows test found is
