-- The test of insulation, if the program has one, and the test of withstand after it.
use Rattle.std.proofs.Common.{◌≡◌, ◌≤◌, ◌<◌, ◌*◌, ◌/◌, inl, inr, ℕ, Bool, true, false, List, [], ◌∷◌, ◌++◌, length, Option, Some, None, refl, sym, ◌∙◌, ap, subst, arith, if◌then◌else◌, append_assoc}
use Rattle.std.specs.Prelude.{IfSome, IsSome, IsSomeAnd, is_some, nat_le, nat_lt, ◌||◌, ◌&&◌}
use Rattle.std.proofs.lemmas.Bool.{lt-ltb}
use Rattle.rig.specs.Happened.{Happens}
use Rattle.rig.specs.RigState.{RigState}
use Rattle.rig.specs.Trail.{IsOfSource}
use Rattle.rig.specs.Values.{charge_of}
use Rattle.rig.specs.declared.event.Event.{Event}
use Rattle.rig.specs.declared.event.Leak.{Leak}
use Rattle.rig.specs.declared.rig.RigStop.{RigStop}
use Rattle.rig.specs.declared.unit.Row.{Row}
use Rattle.rig.proofs.Happening.{Happens-trail, followed}
use Rattle.std.proofs.lemmas.List.Elements.{All-append}
use Rattle.wirelist.specs.Clusters.{cluster_count}
use Rattle.wirelist.specs.Ranges.{LeakFaultsInRange, OutcomeInRange}
use Rattle.wirelist.specs.declared.faults.LeakFault.{LeakFault}
use Rattle.wirelist.specs.declared.outcome.Outcome.{Outcome}
use Rattle.wirelist.specs.declared.outcome.Outcome.TheVariants.{Insulation as InsulationOutcome}
use Rattle.wirelist.specs.declared.program.Insulation.{Insulation}
use Rattle.wirelist.specs.declared.program.Program.{Program}
use Rattle.applications.specs.Charge.{HasLasting, lasting}
use Rattle.applications.specs.Counting.{TalliesMore}
use Rattle.applications.specs.Each.{MeasuresAll}
use Rattle.applications.specs.declared.sides.Sides.{Sides}
use Rattle.hv.specs.Insulating.{Insulates, Measured, insulation_faults}
use Rattle.hv.specs.Routes.{cluster_pairs, tested_clusters}
use Rattle.hv.specs.declared.withstanding.WithstandFault.{WithstandFault}
use Rattle.unit_outcome.specs.Defined.{has_voltage, insulation_found, insulation_found_by, voltage_charge, voltage_outcome, withstand_found, withstand_or_pass}
use Rattle.unit_outcome.specs.Enough.{both, insulation_counts, voltage_for}
use Rattle.unit_outcome.specs.Shown.{LeaksGive, MeasuredShown, StoodShown}
use Rattle.unit_outcome.specs.Spent.{OfRows}
use Rattle.unit_outcome.specs.Tested.{IsInOrderOf}
use Rattle.sequence.specs.Stages.{Adds, FindsBreakdown, FindsVoltage, Goes, Grows, IsOfVoltage, breakdown_counts}
use Rattle.sequence.proofs.stages.Broken.{no-charge, two_or_one}
use Rattle.sequence.proofs.Going.{goes-runs, goes-then, rows-all, rows-before, rows-both, rows-each}
use Rattle.sequence.proofs.Tallying.{adds-less, adds-then, grows-then, grows-weaken, more-adds}

-- ---- trails

-- what holds of a trail, and of it with these events, holds later
pub later-trail : {s t : RigState} {es : List Event} {stop : Option RigStop} (P Q : List Event → Type 0) → ((trail : List Event) → P trail → Q (trail ++ es)) → Happens s t es stop → IfSome s.trail P → IfSome t.trail Q
later-trail {s} {t} {es} P Q f h before = let W : Option (List Event) → Type 0 = λ o. IfSome o Q in subst W (sym (Happens-trail h)) (at s.trail before)
  where
    at : (o : Option (List Event)) → IfSome o P → IfSome (followed es o) Q
    at None k = tt
    at (Some trail) k = f trail k

pub trail-both : (P Q S : List Event → Type 0) (o : Option (List Event)) → ((trail : List Event) → P trail → Q trail → S trail) → IfSome o P → IfSome o Q → IfSome o S
trail-both P Q S None f h k = tt
trail-both P Q S (Some trail) f h k = f trail h k

measures-after : (v t : ℕ) (pairs : List Sides) (leaks : List Leak) (es more : List Event) → MeasuresAll v t pairs leaks es → MeasuresAll v t pairs leaks (es ++ more)
measures-after v t [] [] es more h = tt
measures-after v t [] (leak ∷ leaks) es more h = h
measures-after v t (pair ∷ pairs) [] es more h = h
measures-after v t (pair ∷ pairs) (leak ∷ leaks) es more h = (
  h.0,
  h.1,
  h.2 ++ more,
  ap (λ (xs : List Event). xs ++ more) h.3 ∙ append_assoc (h.0 ++ h.1) h.2 more,
  h.4,
  measures-after v t pairs leaks h.2 more h.5,
)

-- ---- the outcome

-- by the faults of insulation that are found
voltage-of : (p : Program) (rows : List Row) (leaks : List LeakFault) → insulation_found p rows ≡ leaks
    → voltage_outcome p rows ≡ (if nat_lt 0 (length leaks) then InsulationOutcome leaks else withstand_or_pass (withstand_found p rows))
voltage-of p rows leaks is = ap (λ (l : List LeakFault). if nat_lt 0 (length l) then InsulationOutcome l else withstand_or_pass (withstand_found p rows)) is

found-by : (p : Program) (rows : List Row) (o : Option Insulation) → p.insulation ≡ o → insulation_found p rows ≡ insulation_found_by p rows o
found-by p rows o is = ap (insulation_found_by p rows) is

-- of no fault of insulation
none-leaks : (p : Program) (rows : List Row) (failed : Option WithstandFault) → insulation_found p rows ≡ [] → failed ≡ withstand_found p rows → withstand_or_pass failed ≡ voltage_outcome p rows
none-leaks p rows failed none is = ap withstand_or_pass is ∙ sym (voltage-of p rows [] none)

of-voltage : (failed : Option WithstandFault) → IsOfVoltage (withstand_or_pass failed)
of-voltage None = tt
of-voltage (Some fault) = tt

-- what both tests count
both-counts : (p : Program) (failed : Option WithstandFault) → both (insulation_counts p p.insulation) (breakdown_counts p failed) ≡ voltage_for p (withstand_or_pass failed)
both-counts p None = refl
both-counts p (Some fault) = refl

measured-shown : (p : Program) (failed : Option WithstandFault) (trail : List Event) → IfSome p.insulation (LeaksGive p trail []) → MeasuredShown p (withstand_or_pass failed) trail
measured-shown p None trail h = h
measured-shown p (Some fault) trail h = h

-- ---- a program without the test

module _ (p : Program) (none : p.insulation ≡ None) {s u : RigState} (outcome : Outcome) (f : FindsBreakdown p s u outcome) where
  charge-none : (rows : List Row) → (IsSome p.withstand → voltage_charge p rows ≡ None) → voltage_charge p rows ≡ None
  charge-none rows h = at (is_some p.withstand) refl
    where
      at : (b : Bool) → is_some p.withstand ≡ b → voltage_charge p rows ≡ None
      at true e = h e
      at false e =
          let no : (is_some p.insulation || is_some p.withstand) ≡ false = ap (λ (o : Option Insulation). is_some o || is_some p.withstand) none ∙ e in
          let not : has_voltage p ≡ false = ap (λ (b : Bool). b && nat_le 2 (cluster_count p)) no in
          rw not refl

  none-counts : Grows (Adds 0 (voltage_for p (withstand_or_pass f.failed))) s u
  none-counts =
      subst (λ v. Grows (Adds 0 v) s u) (both-counts p f.failed)
      (subst (λ (o : Option Insulation). Grows (Adds 0 (both (insulation_counts p o) (breakdown_counts p f.failed))) s u) (sym none)
      (grows-weaken _ _ (λ x y h. adds-less 0 _ _ x y (record { routes = omega arith; raises = omega arith; ticks = omega arith; leaks = omega arith }) h) f.counts))

  pub voltage-none : FindsVoltage p s u outcome
  voltage-none = subst (λ (o : Outcome). FindsVoltage p s u o) (sym f.outcome_is) (record {
    goes = f.goes;
    of_source = f.of_source;
    of_voltage = of-voltage f.failed;
    in_range = subst OutcomeInRange f.outcome_is f.in_range;
    counts = none-counts;
    shown = trail-both (StoodShown p outcome) (StoodShown p outcome) _ u.trail
        (λ trail h k. (measured-shown p f.failed trail (subst (λ (o : Option Insulation). IfSome o (LeaksGive p trail [])) (sym none) tt), subst (λ (o : Outcome). StoodShown p o trail) f.outcome_is h))
        f.shown f.shown;
    truth = rows-each s _ _ (λ rows h. (none-leaks p rows f.failed (found-by p rows None none) h.0, charge-none rows h.1)) f.truth;
  })

-- ---- a program with the test

first-test : (p : Program) (test : Insulation) → p.insulation ≡ Some test → (is_some p.insulation || is_some p.withstand) ≡ true
first-test p test is = ap (λ (o : Option Insulation). is_some o || is_some p.withstand) is

-- the last tally counts the test
abbrev pub Counts : Program → Insulation → RigState → RigState → Type 0
Counts p test s t = let n = tested_clusters (cluster_count p) in TalliesMore n (n * (test.volts / 50)) (n * test.ticks) n s t

module _ (p : Program) (test : Insulation) (is : p.insulation ≡ Some test) {s t : RigState} (order : IsInOrderOf p s → IsInOrderOf p t) (zeroed : t.volts ≡ 0) where
  abbrev pub goes-insulated : {faults : List LeakFault} → Insulates p test s t faults → Goes p s t None
  goes-insulated made = goes-runs p made.runs order zeroed

  -- of an honest rig the faults are those that are found, and no charge lasts
  truths : {faults : List LeakFault} → Insulates p test s t faults → OfRows s (λ rows. (insulation_found p rows ≡ faults) × (voltage_charge p rows ≡ None))
  truths {faults} made =
      rows-both s (λ rows. faults ≡ insulation_faults p rows test) (λ rows. voltage_charge p rows ≡ None) _ (λ rows h k. (found-by p rows (Some test) is ∙ sym h, k)) (λ honest told. made.truth honest)
      (charges made.discharged)
    where
      charges : (2 ≤ cluster_count p → HasLasting s None) → OfRows s (λ rows. voltage_charge p rows ≡ None)
      charges f = elim (two_or_one (cluster_count p)) as (λ _. OfRows s (λ rows. voltage_charge p rows ≡ None)) [
        | inl two ↦ rows-each s (λ rows. lasting (charge_of rows) ≡ None) _ (λ rows h. no-charge p rows (first-test p test is) (λ _. h)) (f two)
        | inr few ↦ rows-all s _ (λ rows. no-charge p rows (first-test p test is) (λ two. absurd (omega arith)))
      ]

  leaks-given : {faults : List LeakFault} (made : Insulates p test s t faults) (more : List Event) (trail : List Event) → Measured p test made.leaks trail → LeaksGive p (trail ++ more) faults test
  leaks-given made more trail h = record { leaks = made.leaks; measured = measures-after test.volts test.ticks (cluster_pairs p) made.leaks trail more h; faults_are = made.faults_are }

  counted : Counts p test s t → Grows (Adds 0 (insulation_counts p p.insulation)) s t
  counted more = subst (λ (o : Option Insulation). Grows (Adds 0 (insulation_counts p o)) s t) (sym is) (let n = tested_clusters (cluster_count p) in more-adds n (n * (test.volts / 50)) (n * test.ticks) n more)

  -- without a fault, and then the test of withstand
  pub voltage-then : {u : RigState} (outcome : Outcome) → Insulates p test s t [] → Counts p test s t → FindsBreakdown p t u outcome → FindsVoltage p s u outcome
  voltage-then {u} outcome made more f = subst (λ (o : Outcome). FindsVoltage p s u o) (sym f.outcome_is) (record {
    goes = goes-then (goes-insulated made) f.goes;
    of_source = All-append IsOfSource made.events f.goes.events made.runs.of_source f.of_source;
    of_voltage = of-voltage f.failed;
    in_range = subst OutcomeInRange f.outcome_is f.in_range;
    counts = subst (λ v. Grows (Adds 0 v) s u) (both-counts p f.failed) (grows-then _ _ _ (adds-then 0 0 (insulation_counts p p.insulation) (breakdown_counts p f.failed)) (counted more) f.counts);
    shown = trail-both (λ trail. LeaksGive p trail [] test) (StoodShown p outcome) _ u.trail
        (λ trail h k. (measured-shown p f.failed trail (subst (λ (o : Option Insulation). IfSome o (LeaksGive p trail [])) (sym is) h), subst (λ (o : Outcome). StoodShown p o trail) f.outcome_is k))
        (later-trail (Measured p test made.leaks) (λ trail. LeaksGive p trail [] test) (leaks-given made f.goes.events) f.goes.happens made.on_trail) f.shown;
    truth = rows-both s _ _ _ (λ rows h k. (none-leaks p rows f.failed h.0 k.0, h.1)) (truths made) (rows-before _ made.runs.happens f.truth);
  })

  -- with faults
  pub voltage-faults : (faults : List LeakFault) → Insulates p test s t faults → Counts p test s t → (0 < length faults → LeakFaultsInRange faults) → 0 < length faults
      → FindsVoltage p s t (InsulationOutcome faults)
  voltage-faults faults made more range some = record {
    goes = goes-insulated made;
    of_source = made.runs.of_source;
    of_voltage = tt;
    in_range = range some;
    counts = counted more;
    shown = trail-both (Measured p test made.leaks) (Measured p test made.leaks) _ t.trail
        (λ trail h k. (subst (λ (o : Option Insulation). IsSomeAnd o (LeaksGive p trail faults)) (sym is) (record { leaks = made.leaks; measured = h; faults_are = made.faults_are }), tt))
        made.on_trail made.on_trail;
    truth = rows-each s _ _ (λ rows h. (sym (voltage-of p rows faults h.0 ∙ rw (lt-ltb 0 (length faults) some) refl), h.1)) (truths made);
  }

-- by the program's test
pub under_insulation : (p : Program) (P Q : Insulation → Type 0) (G : Type 0) → IsSome p.insulation → ((test : Insulation) → p.insulation ≡ Some test → P test → Q test → G) → IfSome p.insulation P → IfSome p.insulation Q → G
under_insulation p P Q G some f h k = at p.insulation refl h k
  where
    at : (o : Option Insulation) → p.insulation ≡ o → IfSome o P → IfSome o Q → G
    at None e x y = absurd (let none : is_some p.insulation ≡ false = ap (λ (o : Option Insulation). is_some o) e in let one : is_some p.insulation ≡ true = some in cc)
    at (Some test) e x y = f test e x y

pub some-first : (p : Program) → IsSome p.insulation → (is_some p.insulation || is_some p.withstand) ≡ true
some-first p some = ap (λ (b : Bool). b || is_some p.withstand) some

-- a list that is not empty
pub some-length : {X : Type 0} (xs : List X) → (xs ≡ [] → false ≡ true) → 0 < length xs
some-length [] none = absurd (let e : false ≡ true = none refl in cc)
some-length (x ∷ xs) none = omega arith
