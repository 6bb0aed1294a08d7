-- The test of withstand, as that of a program.
use Rattle.std.proofs.Common.{◌≡◌, ℕ, zero, suc, ◌+◌, ◌-◌, ◌*◌, ◌/◌, ◌<◌, ◌≤◌, ◌^◌, true, false, List, [], length, map, take, get_or, Option, Some, None, IsTrue, refl, sym, ◌∙◌, ap, subst, arith, zero-add}
use Rattle.std.specs.Prelude.{IfSome}
use Rattle.std.proofs.lemmas.List.{get_or-take, length-take-le}
use Rattle.std.proofs.lemmas.List.FromFn.{get_or-map-range_with_len, length-map-range_with_len}
use Rattle.partition.specs.Classes.{points_below}
use Rattle.partition.specs.Digits.{digits_of}
use Rattle.partition.specs.Heads.{heads_below}
use Rattle.partition.specs.NetTable.{net_count}
use Rattle.partition.proofs.classes.HeadLemmas.{length-heads_below-grows}
use Rattle.partition.proofs.DigitLaws.{digits_enough, digits_least}
use Rattle.rig.specs.declared.event.Leak.{Leak}
use Rattle.rig.specs.declared.unit.Row.{Row}
use Rattle.rig.specs.RigState.{RigState}
use Rattle.rig.specs.Values.{leak_of}
use Rattle.wirelist.specs.declared.program.Program.{Program}
use Rattle.wirelist.specs.declared.program.Withstand.{Withstand}
use Rattle.wirelist.specs.Clusters.{cluster_classes, cluster_count, net_clusters, side}
use Rattle.wirelist.specs.Programs.{IsProgram, IsWithstand}
use Rattle.wirelist.specs.Ranges.{most_bits}
use Rattle.applications.specs.declared.endurance.Endurance.{Endurance}
use Rattle.applications.specs.declared.sides.Sides.{Sides}
use Rattle.applications.specs.declared.standing_each.PairBreakdown.{PairBreakdown}
use Rattle.applications.specs.Counting.{Gains}
use Rattle.applications.specs.Each.{AllHold, FailedAt, StandsAll, StandsEach, StoodAll}
use Rattle.applications.specs.Enduring.{HoldsBelow, IsEndurance, breaks_down}
use Rattle.applications.specs.Measuring.{StopsAtRest}
use Rattle.applications.specs.Standing.{EndsBroken, TellsBetween}
use Rattle.applications.proofs.Counted.{gains-less, gains-none, tallies-more}
use Rattle.applications.proofs.one_by_one.EnduredEach.{broken-before, stands-before}
use Rattle.applications.proofs.one_by_one.Runs.{Runs-none}
use Rattle.cluster_groups.specs.Laws.{IsClusterable}
use Rattle.hv.specs.declared.withstanding.WithstandFault.{WithstandFault}
use Rattle.hv.specs.Routes.{bit_pairs, sides_of_bit, tested_bits}
use Rattle.hv.specs.Stated.{stated_leak}
use Rattle.hv.specs.Withstanding.{BitHolds, EndsFailed, FaultInRange, IsFirstBreakdown, IsStep, StatesReading, Stood, Withstands, WithstandsSo, WithstandTallies, endurance_of, fault_of, side_leak}
use Rattle.hv.proofs.Trails.{on_trail}

-- ---- how many bits are tested

pub length-bit_pairs : (p : Program) → length (bit_pairs p) ≡ tested_bits (cluster_count p)
length-bit_pairs p = length-map-range_with_len (sides_of_bit p) 0 (tested_bits (cluster_count p))

bits-none : (count : ℕ) → count ≤ 1 → tested_bits count ≡ 0
bits-none count alone =
    let last : count - 1 ≡ 0 = omega arith in
    let least : digits_of 0 ≤ 0 = digits_least 0 0 (omega arith) in
    omega (arith, ap digits_of last)

pub bit_pairs-none : (p : Program) → cluster_count p ≤ 1 → bit_pairs p ≡ []
bit_pairs-none p alone = ap (λ (n : ℕ). map (sides_of_bit p) (points_below n)) (bits-none (cluster_count p) alone)

-- where there are two clusters there are bits
digits-some : (n : ℕ) → 0 < n → 0 < digits_of n
digits-some n some = at (digits_of n) (digits_enough n)
  where
    at : (d : ℕ) → n < 2 ^ d → 0 < d
    at zero below = absurd (omega arith)
    at (suc d) below = omega arith

bits-more : (p : Program) → 2 ≤ cluster_count p → 0 < length (bit_pairs p)
bits-more p two = omega (arith, length-bit_pairs p, digits-some (cluster_count p - 1) (omega arith))

-- no more clusters than nets
clusters-few : (p : Program) → cluster_count p ≤ net_count p.nets
clusters-few p =
    let at : 0 + net_count p.nets ≡ net_count p.nets = zero-add (net_count p.nets) in
    omega (arith, length-heads_below-grows (net_clusters p) 0 (net_count p.nets), ap (λ (n : ℕ). length (heads_below (net_clusters p) n)) at)

pub bits-few : (p : Program) → IsProgram p → net_count p.nets ≤ p.nets.points → tested_bits (cluster_count p) ≤ most_bits
bits-few p program few =
    let points = program.points in
    let clusters = clusters-few p in
    digits_least (cluster_count p - 1) most_bits (omega arith)

-- pair j is the two sides of bit j
pair_at : (p : Program) (j : ℕ) (d : Sides) → j < tested_bits (cluster_count p) → get_or (bit_pairs p) j d ≡ sides_of_bit p j
pair_at p j d lt = get_or-map-range_with_len (sides_of_bit p) 0 (tested_bits (cluster_count p)) j j d lt (zero-add j)

-- ---- what an honest rig tells

module _ (p : Program) (test : Withstand) where
  -- each of the first m bits holds
  hold-bits : (rows : List Row) (m : ℕ) → m ≤ tested_bits (cluster_count p) → AllHold rows p.nets.points (endurance_of test) (take m (bit_pairs p)) → (j : ℕ) → j < m → BitHolds p rows test (test.volts + 50) j
  hold-bits rows m le all j lt =
      let d : Sides = sides_of_bit p j in
      let size : length (take m (bit_pairs p)) ≡ m = omega (arith, length-take-le m (bit_pairs p) (omega (arith, length-bit_pairs p))) in
      let at : get_or (take m (bit_pairs p)) j d ≡ sides_of_bit p j = get_or-take m (bit_pairs p) j d lt ∙ pair_at p j d (omega arith) in
      subst (λ (pair : Sides). HoldsBelow (leak_of rows p.nets.points pair.left pair.right) test.nanoamps (test.volts + 50)) at (all j d (omega arith))

  hold-all : (rows : List Row) → AllHold rows p.nets.points (endurance_of test) (bit_pairs p) → IsFirstBreakdown p rows test None
  hold-all rows all j lt =
      let d : Sides = sides_of_bit p j in
      subst (λ (pair : Sides). HoldsBelow (leak_of rows p.nets.points pair.left pair.right) test.nanoamps (test.volts + 50)) (pair_at p j d lt)
      (all j d (omega (arith, length-bit_pairs p)))

-- the fault is that of the breakdown, if there was one
abbrev pub FaultsAs : Option PairBreakdown → Option WithstandFault → Type 0
FaultsAs None None = Unit {0}
FaultsAs None (Some fault) = ⊥
FaultsAs (Some failed) None = ⊥
FaultsAs (Some failed) (Some fault) = fault ≡ fault_of failed

-- ---- the test was made

module _ (p : Program) (ok : IsClusterable p) (test : Withstand) {s t : RigState} (points : s.points ≡ p.nets.points) where
  stands-whole : StoodAll (cluster_classes p) s t (bit_pairs p) (endurance_of test) → Withstands p test s t None
  stands-whole made = record {
    so = record {
      events = made.events;
      runs = made.runs;
      stood = made.standing;
      on_trail = on_trail (Stood p test) made.runs.happens (λ before. stands-before test.volts test.ticks test.nanoamps (bit_pairs p) before made.events made.standing);
      counts =
          let P : ℕ → Type 0 = λ w. Gains 0 0 w (w * (test.volts / 50)) (w * test.ticks) (w * test.ticks) made.events in
          subst P (length-bit_pairs p) made.counts;
      discharged = λ enough. made.discharged (bits-more p enough);
    };
    truth = λ honest. of_truth s.truth (subst (λ (n : ℕ). IfSome s.truth (λ rows. AllHold rows n (endurance_of test) (bit_pairs p))) points (made.truth honest));
  }
    where
      of_truth : (o : Option (List Row)) → IfSome o (λ rows. AllHold rows p.nets.points (endurance_of test) (bit_pairs p)) → IfSome o (λ rows. IsFirstBreakdown p rows test None)
      of_truth None h = tt
      of_truth (Some rows) h = hold-all p test rows h

  fails-at : (failed : PairBreakdown) → FailedAt (cluster_classes p) s t (bit_pairs p) (endurance_of test) failed → Withstands p test s t (Some (fault_of failed))
  fails-at failed made =
      let v : ℕ = failed.broken.volts in
      let leak : Leak = failed.broken.leak in
      let bit : failed.pair < tested_bits (cluster_count p) = let here = made.here in omega (arith, length-bit_pairs p) in
      let pair : made.pair ≡ sides_of_bit p failed.pair = made.which ∙ pair_at p failed.pair made.pair bit in
      let step : IsStep test v = record { some = made.is.some; by_fifty = made.is.by_fifty; at_most = made.is.at_most } in
      let last : EndsBroken (side p failed.pair false) (side p failed.pair true) v leak made.events =
      subst (λ (x : Sides). EndsBroken x.left x.right v leak made.events) pair made.last in
      let broke : TellsBetween s (side p failed.pair false) (side p failed.pair true) (λ f. HoldsBelow f test.nanoamps v × (leak ≡ f v)) =
      subst (λ (x : Sides). TellsBetween s x.left x.right (λ f. HoldsBelow f test.nanoamps v × (leak ≡ f v))) pair made.broke in
      record {
        so = record {
          bit = bit;
          step = step;
          events = made.events;
          runs = made.runs;
          stood = made.standing;
          last = (leak, refl, last);
          on_trail = on_trail (EndsFailed p (fault_of failed)) made.runs.happens
              (λ before. (leak, refl, broken-before (side p failed.pair false) (side p failed.pair true) v leak before made.events last));
          counts = made.counts;
          discharged = made.discharged;
        };
        truth = λ honest.
            of_truth bit step made.is.above s.truth
            (subst (λ (n : ℕ). IfSome s.truth (λ rows. AllHold rows n (endurance_of test) (take failed.pair (bit_pairs p)))) points (made.truth honest))
            (subst (λ (n : ℕ). IfSome s.truth (λ rows. HoldsBelow (leak_of rows n (side p failed.pair false) (side p failed.pair true)) test.nanoamps v × (leak ≡ leak_of rows n (side p failed.pair false) (side p failed.pair true) v))) points (broke honest));
      }
    where
      of_truth : failed.pair < tested_bits (cluster_count p) → IsStep test failed.broken.volts → IsTrue (breaks_down test.nanoamps failed.broken.volts failed.broken.leak) → (o : Option (List Row))
          → IfSome o (λ rows. AllHold rows p.nets.points (endurance_of test) (take failed.pair (bit_pairs p)))
          → IfSome o (λ rows. HoldsBelow (side_leak p rows failed.pair) test.nanoamps failed.broken.volts × (failed.broken.leak ≡ side_leak p rows failed.pair failed.broken.volts))
          → IfSome o (λ rows. IsFirstBreakdown p rows test (Some (fault_of failed)))
      of_truth bit step above None h k = tt
      of_truth bit step above (Some rows) h k = record {
        bit = bit;
        step = step;
        breaks = subst (λ (g : Leak). IsTrue (breaks_down test.nanoamps failed.broken.volts g)) k.1 above;
        stated = ap stated_leak k.1;
        earlier_steps = k.0;
        earlier_bits = hold-bits p test rows failed.pair (omega arith) h;
      }

  pub withstands : (failed : Option PairBreakdown) → StandsEach (cluster_classes p) s t (bit_pairs p) (endurance_of test) failed → (fault : Option WithstandFault) → FaultsAs failed fault → Withstands p test s t fault
  withstands None made None is = stands-whole made
  withstands None made (Some fault) is = absurd is
  withstands (Some failed) made None is = absurd is
  withstands (Some failed) made (Some fault) is = subst (λ (x : WithstandFault). Withstands p test s t (Some x)) (sym is) (fails-at failed made)

-- with one cluster nothing is done
module _ (p : Program) (test : Withstand) (s : RigState) where
  pub withstands-none : cluster_count p ≤ 1 → Withstands p test s s None
  withstands-none alone =
      let empty : Stood p test [] = subst (λ (pairs : List Sides). StandsAll test.volts test.ticks test.nanoamps pairs []) (sym (bit_pairs-none p alone)) tt in
      let nothing = Runs-none (cluster_classes p) s in
      record {
        so = record {
          events = [];
          runs = nothing;
          stood = empty;
          on_trail = on_trail (Stood p test) nothing.happens (λ before. stands-before test.volts test.ticks test.nanoamps (bit_pairs p) before [] empty);
          counts =
              let P : ℕ → Type 0 = λ w. Gains 0 0 w (w * (test.volts / 50)) (w * test.ticks) (w * test.ticks) [] in
              subst P (sym (bits-none (cluster_count p) alone)) (gains-less (omega arith) (omega arith) (omega arith) (omega arith) (gains-none 0));
          discharged = λ two. absurd (omega arith);
        };
        truth = λ honest. of_truth s.truth;
      }
    where
      of_truth : (o : Option (List Row)) → IfSome o (λ rows. IsFirstBreakdown p rows test None)
      of_truth None = tt
      of_truth (Some rows) = λ j lt. absurd (omega (arith, bits-none (cluster_count p) alone))

-- ---- by the program's test

pub test-of : (p : Program) (test : Withstand) → IsProgram p → p.withstand ≡ Some test → IsWithstand test
test-of p test program is = let P : Option Withstand → Type 0 = λ o. IfSome o IsWithstand in subst P is program.withstand

pub endures : (test : Withstand) → IsWithstand test → IsEndurance (endurance_of test)
endures test is = record { some = let low = is.volts.0 in omega arith; by_fifty = is.steps; at_most = is.volts.1 }

pub of_test : (p : Program) (test : Withstand) (P : Withstand → Type 0) → p.withstand ≡ Some test → P test → IfSome p.withstand P
of_test p test P is h = let Q : Option Withstand → Type 0 = λ o. IfSome o P in subst Q (sym is) h

pub under_test : (o : Option Withstand) (P Q : Withstand → Type 0) → ((test : Withstand) → o ≡ Some test → P test → Q test) → IfSome o P → IfSome o Q
under_test None P Q f h = tt
under_test (Some test) P Q f h = f test refl h

pub withstood-tallies : {p : Program} {test : Withstand} {s t : RigState} (failed : Option WithstandFault) → s.volts ≡ 0 → Withstands p test s t failed → WithstandTallies p test s t failed
withstood-tallies None zeroed made = let so = made.so in tallies-more zeroed so.runs.happens so.counts
withstood-tallies (Some fault) zeroed made = let so = made.so in tallies-more zeroed so.runs.happens so.counts

withstood-so : (p : Program) (test : Withstand) {s t : RigState} (failed : Option WithstandFault) → WithstandsSo p test s t failed → StopsAtRest (cluster_classes p) s t None
withstood-so p test None so = record { events = _; runs = so.runs }
withstood-so p test (Some fault) so = record { events = _; runs = so.runs }

pub withstood-rests : (o : Option Withstand) (p : Program) {s t : RigState} (failed : Option WithstandFault) → (o ≡ None → ⊥) → IfSome o (λ test. Withstands p test s t failed) → StopsAtRest (cluster_classes p) s t None
withstood-rests None p failed some h = absurd (some refl)
withstood-rests (Some test) p failed some h = withstood-so p test failed h.so

pub fault-in_range : (p : Program) (test : Withstand) {s t : RigState} (failed : Option WithstandFault) → tested_bits (cluster_count p) ≤ most_bits → IsWithstand test → Withstands p test s t failed → IfSome failed StatesReading → IfSome failed FaultInRange
fault-in_range p test None few is made stated = tt
fault-in_range p test (Some fault) few is made stated =
    let so = made.so in
    let bit = so.bit in
    let some = so.step.some in
    let by = so.step.by_fifty in
    let most = so.step.at_most in
    let top = is.volts.1 in
    (omega arith, (omega arith, omega arith, by), stated)

pub withstood-range : (p : Program) → IsProgram p → (p.withstand ≡ None → ⊥) → (s t : RigState) (failed : Option WithstandFault) → tested_bits (cluster_count p) ≤ most_bits
    → IfSome p.withstand (λ test. Withstands p test s t failed) → IfSome failed StatesReading → IfSome failed FaultInRange
withstood-range p program some s t failed few made stated = go p.withstand program.withstand some made
  where
    go : (o : Option Withstand) → IfSome o IsWithstand → (o ≡ None → ⊥) → IfSome o (λ test. Withstands p test s t failed) → IfSome failed FaultInRange
    go None is some h = absurd (some refl)
    go (Some test) is some h = fault-in_range p test failed few is h stated

-- the bonds and the pairs are those of the program
pub stood-as : (s t : RigState) {bonds : List ℕ} {pairs : List Sides} {endurance : Endurance} (p : Program) (test : Withstand) (found failed : Option PairBreakdown) → found ≡ failed → bonds ≡ cluster_classes p → pairs ≡ bit_pairs p
    → endurance ≡ endurance_of test → StandsEach bonds s t pairs endurance found → StandsEach (cluster_classes p) s t (bit_pairs p) (endurance_of test) failed
stood-as s t {bonds} {pairs} {endurance} p test found failed found_is same are is made =
    subst (λ (o : Option PairBreakdown). StandsEach (cluster_classes p) s t (bit_pairs p) (endurance_of test) o) found_is
    (subst (λ (e : Endurance). StandsEach (cluster_classes p) s t (bit_pairs p) e found) is
    (subst (λ (xs : List Sides). StandsEach (cluster_classes p) s t xs endurance found) are (subst (λ (b : List ℕ). StandsEach b s t pairs endurance found) same made)))

-- where there are pairs there are two clusters, and else one
pub bits-some : (p : Program) (pairs : List Sides) → pairs ≡ bit_pairs p → (pairs ≡ [] → ⊥) → cluster_count p ≤ 1 → ⊥
bits-some p pairs is some alone = some (is ∙ bit_pairs-none p alone)

pub bits-alone : (p : Program) (pairs : List Sides) → pairs ≡ bit_pairs p → pairs ≡ [] → cluster_count p ≤ 1
bits-alone p pairs is none =
    let no_bits : tested_bits (cluster_count p) ≡ 0 = omega (arith, ap length (sym is ∙ none), length-bit_pairs p) in
    let low = digits_enough (cluster_count p - 1) in
    let top : 2 ^ tested_bits (cluster_count p) ≡ 1 = ap (λ (n : ℕ). 2 ^ n) no_bits in
    omega arith

-- the bit of a breakdown is a number of 8 bits
pub pair-small : (p : Program) → tested_bits (cluster_count p) ≤ most_bits → {s t : RigState} (test : Withstand) (failed : PairBreakdown) → StandsEach (cluster_classes p) s t (bit_pairs p) (endurance_of test) (Some failed) → failed.pair < 2 ^ 8
pair-small p few test failed made = let here = made.here in omega (arith, length-bit_pairs p)

pub withstands-some : (p : Program) (ok : IsClusterable p) (test : Withstand) {s t : RigState} → s.points ≡ p.nets.points → (failed : PairBreakdown) (fault : WithstandFault) → fault ≡ fault_of failed
    → StandsEach (cluster_classes p) s t (bit_pairs p) (endurance_of test) (Some failed) → Withstands p test s t (Some fault)
withstands-some p ok test points failed fault is made = withstands p ok test points (Some failed) made (Some fault) is

pub withstands-all : (p : Program) (ok : IsClusterable p) (test : Withstand) {s t : RigState} → s.points ≡ p.nets.points
    → StandsEach (cluster_classes p) s t (bit_pairs p) (endurance_of test) None → Withstands p test s t None
withstands-all p ok test points made = withstands p ok test points None made None tt
