-- The test of withstand, if the program has one.
use Rattle.std.proofs.Common.{◌≡◌, ◌≤◌, ◌+◌, ◌*◌, ◌/◌, ◌⊎◌, inl, inr, ℕ, zero, suc, Bool, true, false, List, Option, Some, None, refl, sym, ◌∙◌, ap, subst, arith}
use Rattle.std.specs.Prelude.{IfSome, IsSome, IsSomeAnd, is_some, nat_le, ◌||◌, ◌&&◌}
use Rattle.std.proofs.lemmas.Bool.{lt-leb}
use Rattle.std.proofs.lemmas.List.Elements.{All-nil}
use Rattle.rig.specs.RigState.{RigState}
use Rattle.rig.specs.Trail.{IsOfSource}
use Rattle.rig.specs.Values.{charge_of}
use Rattle.rig.specs.declared.event.Event.{Event}
use Rattle.rig.specs.declared.unit.Row.{Row}
use Rattle.wirelist.specs.Clusters.{cluster_count}
use Rattle.wirelist.specs.Ranges.{OutcomeInRange}
use Rattle.wirelist.specs.declared.program.Program.{Program}
use Rattle.wirelist.specs.declared.program.Withstand.{Withstand}
use Rattle.applications.specs.Charge.{HasLasting, lasting}
use Rattle.hv.specs.Routes.{tested_bits}
use Rattle.hv.specs.Withstanding.{EndsFailed, FaultInRange, IsFirstBreakdown, Stood, WithstandTallies, Withstands}
use Rattle.hv.specs.declared.withstanding.WithstandFault.{WithstandFault}
use Rattle.unit_outcome.specs.Defined.{has_voltage, voltage_charge, withstand_found, withstand_or_pass}
use Rattle.unit_outcome.specs.Enough.{no_voltage}
use Rattle.unit_outcome.specs.Shown.{StoodShown}
use Rattle.unit_outcome.specs.Spent.{OfRows}
use Rattle.unit_outcome.specs.Tested.{IsInOrderOf}
use Rattle.unit_outcome.proofs.FirstBreakdown.{is_first_breakdown}
use Rattle.sequence.specs.Stages.{Adds, FindsBreakdown, Grows, breakdown_counts}
use Rattle.sequence.proofs.Going.{goes-none, goes-runs, lasting-charge, rows-all, rows-both}
use Rattle.sequence.proofs.Tallying.{adds-less, adds-none, grows-none, grows-weaken, more-adds}

-- ---- a program without the test

module _ (p : Program) (none : p.withstand ≡ None) (s : RigState) (zeroed : s.volts ≡ 0) where
  no-counts : Grows (Adds 0 (breakdown_counts p None)) s s
  no-counts = rw none (grows-none (Adds 0 no_voltage) adds-none refl)

  pub finds-none : FindsBreakdown p s s (withstand_or_pass None)
  finds-none = record {
    failed = None;
    outcome_is = refl;
    goes = goes-none p s zeroed;
    of_source = All-nil IsOfSource;
    in_range = tt;
    counts = no-counts;
    shown = at s.trail;
    truth = rows-all s (λ rows. (None ≡ withstand_found p rows) × (IsSome p.withstand → voltage_charge p rows ≡ None))
        (λ rows. (rw none refl, λ some. absurd (let e : is_some p.withstand ≡ true = some in let f : is_some p.withstand ≡ false = ap (λ (o : Option Withstand). is_some o) none in cc)));
  }
    where
      at : (o : Option (List Event)) → IfSome o (StoodShown p (withstand_or_pass None))
      at None = tt
      at (Some trail) = rw none tt

-- ---- a program with the test

pub two_or_one : (c : ℕ) → (2 ≤ c) ⊎ (c ≤ 1)
two_or_one zero = inr (omega arith)
two_or_one (suc zero) = inr (omega arith)
two_or_one (suc (suc c)) = inl (omega arith)

-- no charge lasts where two clusters are tested
pub no-charge : (p : Program) (rows : List Row) → (is_some p.insulation || is_some p.withstand) ≡ true → (2 ≤ cluster_count p → lasting (charge_of rows) ≡ None) → voltage_charge p rows ≡ None
no-charge p rows some f = elim (two_or_one (cluster_count p)) as (λ _. voltage_charge p rows ≡ None) [
  | inl two ↦ lasting-charge p rows None some two (f two)
  | inr few ↦
      let not : has_voltage p ≡ false = ap (λ (b : Bool). b && nat_le 2 (cluster_count p)) some ∙ lt-leb 2 (cluster_count p) (omega arith) in
      rw not refl
]

either : (a : Bool) → (a || true) ≡ true
either true = refl
either false = refl

-- by the program's test
pub under_test : (p : Program) (P Q : Withstand → Type 0) (G : Type 0) → is_some p.withstand ≡ true → ((test : Withstand) → p.withstand ≡ Some test → P test → Q test → G) → IfSome p.withstand P → IfSome p.withstand Q → G
under_test p P Q G some f h k = at p.withstand refl h k
  where
    at : (o : Option Withstand) → p.withstand ≡ o → IfSome o P → IfSome o Q → G
    at None e x y = absurd (let none : is_some p.withstand ≡ false = ap (λ (o : Option Withstand). is_some o) e in cc)
    at (Some test) e x y = f test e x y

pub none-of : (o : Option Withstand) → is_some o ≡ false → o ≡ None
none-of None h = refl
none-of (Some test) h = absurd (cc)

pub some-second : (p : Program) → is_some p.withstand ≡ true → (is_some p.insulation || is_some p.withstand) ≡ true
some-second p some = ap (λ (b : Bool). is_some p.insulation || b) some ∙ either (is_some p.insulation)

ranged : (failed : Option WithstandFault) → IfSome failed FaultInRange → OutcomeInRange (withstand_or_pass failed)
ranged None h = tt
ranged (Some fault) h = h

pub each : (P Q : List Event → Type 0) (o : Option (List Event)) → ((trail : List Event) → P trail → Q trail) → IfSome o P → IfSome o Q
each P Q None f h = tt
each P Q (Some trail) f h = f trail h

module _ (p : Program) (test : Withstand) (is : p.withstand ≡ Some test) where
  some-test : (is_some p.insulation || is_some p.withstand) ≡ true
  some-test = ap (λ (o : Option Withstand). is_some p.insulation || is_some o) is ∙ either (is_some p.insulation)

  under : (P : Option Withstand → Type 0) → P (Some test) → P p.withstand
  under P h = subst P (sym is) h

  -- what the counts come to
  counted : (s t : RigState) (failed : Option WithstandFault) → WithstandTallies p test s t failed → Grows (Adds 0 (breakdown_counts p failed)) s t
  counted s t None more =
      let w = tested_bits (cluster_count p) in
      rw is (more-adds w (w * (test.volts / 50)) (w * test.ticks) (w * test.ticks) more)
  counted s t (Some fault) more =
      let j = fault.bit in
      let exact = more-adds (j + 1) (j * (test.volts / 50) + fault.volts / 50) (j * test.ticks) (j * test.ticks + 1) more in
      rw is (grows-weaken _ _ (λ x y h. adds-less 0 _ _ x y (record { routes = omega arith; raises = omega arith; ticks = omega arith; leaks = omega arith }) h) exact)

  truths : (s : RigState) (failed : Option WithstandFault) → OfRows s (λ rows. IsFirstBreakdown p rows test failed) → OfRows s (λ rows. 2 ≤ cluster_count p → lasting (charge_of rows) ≡ None)
      → OfRows s (λ rows. (failed ≡ withstand_found p rows) × (IsSome p.withstand → voltage_charge p rows ≡ None))
  truths s failed first discharged =
      rows-both s (λ rows. IsFirstBreakdown p rows test failed) (λ rows. 2 ≤ cluster_count p → lasting (charge_of rows) ≡ None) _
      (λ rows h k. (is_first_breakdown p rows test failed h ∙ sym (rw is refl), λ some. no-charge p rows some-test k))
      first discharged

  at_two : (s : RigState) → (2 ≤ cluster_count p → HasLasting s None) → OfRows s (λ rows. 2 ≤ cluster_count p → lasting (charge_of rows) ≡ None)
  at_two s f = elim (two_or_one (cluster_count p)) as (λ _. OfRows s (λ rows. 2 ≤ cluster_count p → lasting (charge_of rows) ≡ None)) [
    | inl two ↦ rows-both s (λ rows. lasting (charge_of rows) ≡ None) (λ rows. lasting (charge_of rows) ≡ None) _ (λ rows h k e. h) (f two) (f two)
    | inr few ↦ rows-all s _ (λ rows two. absurd (omega arith))
  ]

  module _ {s t : RigState} (order : IsInOrderOf p s → IsInOrderOf p t) (zeroed : t.volts ≡ 0) where
    pub finds-breakdown : (failed : Option WithstandFault) → Withstands p test s t failed → WithstandTallies p test s t failed → IfSome failed FaultInRange → FindsBreakdown p s t (withstand_or_pass failed)
    finds-breakdown None made more range =
        let so = made.so in
        record {
          failed = None;
          outcome_is = refl;
          goes = goes-runs p so.runs order zeroed;
          of_source = so.runs.of_source;
          in_range = ranged None range;
          counts = counted s t None more;
          shown = each (Stood p test) (StoodShown p (withstand_or_pass None)) t.trail (λ trail h. under (λ o. IfSome o (λ x. Stood p x trail)) h) so.on_trail;
          truth = truths s None (λ honest told. made.truth honest) (at_two s so.discharged);
        }
    finds-breakdown (Some fault) made more range =
        let so = made.so in
        record {
          failed = Some fault;
          outcome_is = refl;
          goes = goes-runs p so.runs order zeroed;
          of_source = so.runs.of_source;
          in_range = ranged (Some fault) range;
          counts = counted s t (Some fault) more;
          shown = each (EndsFailed p fault) (StoodShown p (withstand_or_pass (Some fault))) t.trail (λ trail h. under (λ o. IsSomeAnd o (λ x. EndsFailed p fault trail)) h) so.on_trail;
          truth = truths s (Some fault) (λ honest told. made.truth honest) (at_two s (λ two. so.discharged));
        }
