-- What the tests of both units come to on a new simulator of the pair.
use Rattle.std.proofs.Common.{◌≡◌, ◌⊎◌, inl, inr, ℕ, ◌<◌, ◌≤◌, ◌+◌, Bool, true, false, List, [], ◌∷◌, ◌++◌, length, Option, None, Some, Ok, Err, refl, sym, ◌∙◌, ap, subst, arith, Contains}
use Rattle.std.specs.Prelude.{codes, is_some, option_map, IfSome, MatchOption, if◌then◌else◌, filter_map}
use Rattle.base.specs.Causes.{Rose}
use Rattle.partition.proofs.Members.{In}
use Rattle.rig.specs.Happened.{IsTold}
use Rattle.rig.specs.Joins.{unit_rows}
use Rattle.rig.specs.RigState.{RigState}
use Rattle.rig.specs.Values.{charge_in, first_charge}
use Rattle.applications.specs.Charge.{lasting}
use Rattle.rig.specs.declared.event.Tally.{Tally}
use Rattle.rig.specs.declared.unit.Row.{Row}
use Rattle.rig.specs.declared.unit.Row.TheVariants.{Wire}
use Rattle.rig.specs.declared.unit.Unit.{Unit as HarnessUnit}
use Rattle.harness.specs.declared.row.HarnessRow.TheVariants.{Door}
use Rattle.harness.specs.Units.{units_of}
use Rattle.rig_sim.specs.SimRig.{SimState, IsNew}
use Rattle.wirelist.specs.declared.outcome.Outcome.{Outcome}
use Rattle.wirelist.specs.declared.program.Program.{Program}
use Rattle.unit_outcome.specs.Defined.{outcome_of, charged_of, differs, unit_difference, has_part_fault, has_voltage}
use Rattle.unit_outcome.specs.Enough.{Enough}
use Rattle.unit_outcome.specs.Found.{Found, Findings, found_in, found_of, told_by, HasOutcome, StopsSo}
use Rattle.unit_outcome.specs.Tested.{Keeps, AddsTally, IsTallyOf, IsTested, IsStopped, IsCutOff}
use Rattle.unit_outcome.specs.declared.run.UnitStop.{UnitStop}
use Rattle.unit_outcome.specs.declared.run.UnitStop.TheVariants as stop
use Rattle.unit_outcome.proofs.Told.{told_stays}
use Rattle.soak_pair.specs.Pair.{soak_program, soak_units, soak_rows, good_rows, bad_rows, good_outcome, bad_outcome}
use Rattle.soak_pair.proofs.SoakUnits.{IsWireBelow, good_wires, bad_wires, units_are, no_doors}
use Rattle.soak.specs.Soaked.{IsOfPair, IsSoaked, EndsInOrder, StopsSoak}
use Rattle.soak.specs.Between.{IsGood, StopsOne}
use Rattle.soak.specs.declared.run.SoakStop.TheVariants.{RigFault, NotZero, Memory}

-- ---- the two units have no charge

wires_charge : (rows : List Row) → ((row : Row) → In row rows → (a : ℕ) × (b : ℕ) × (row ≡ Wire a b)) → filter_map charge_in rows ≡ []
wires_charge [] wires = refl
wires_charge (row ∷ rows) wires =
    let first = wires row (inl refl) in
    let rest = wires_charge rows (λ r held. wires r (inr held)) in
    subst (λ (r : Row). filter_map charge_in (r ∷ rows) ≡ []) (sym first.2) rest

either_none : (b : Bool) (x y : Option ℕ) → x ≡ None → y ≡ None → (if b then x else y) ≡ None
either_none true x y one other = one
either_none false x y one other = other

uncharged : (p : Program) (rows : List Row) → filter_map charge_in rows ≡ [] → charged_of p rows ≡ None
uncharged p rows none =
    let last : lasting (first_charge (filter_map charge_in rows)) ≡ None = ap (λ (charges : List (ℕ × ℕ)). lasting (first_charge charges)) none in
    either_none (differs (unit_difference p rows)) None _ refl (either_none (has_part_fault p rows) None _ refl (either_none (has_voltage p) _ None last refl))

wires_of : (n : ℕ) (row : Row) → IsWireBelow n row → (a : ℕ) × (b : ℕ) × (row ≡ Wire a b)
wires_of n row wire = (wire.a, wire.b, wire.is)

pub good_uncharged : (n : ℕ) → charged_of (soak_program n) (good_rows n) ≡ None
good_uncharged n = uncharged (soak_program n) (good_rows n) (wires_charge (good_rows n) (λ row held. wires_of n row (good_wires n row held)))

pub bad_uncharged : (n : ℕ) → charged_of (soak_program n) (bad_rows n) ≡ None
bad_uncharged n = uncharged (soak_program n) (bad_rows n) (wires_charge (bad_rows n) (λ row held. wires_of n row (bad_wires n row held)))

-- ---- what the rig tells of them

abbrev findings : ℕ → Findings
findings n = found_in (soak_units n) (soak_program n)

module _ (n : ℕ) (began : SimState) (new : IsNew (soak_rows n) began) where
  told_new : told_by (soak_program n) began.state ≡ Some (findings n)
  told_new = ap (λ (s : RigState). told_by (soak_program n) s) new.state ∙ ap (λ (units : List HarnessUnit). Some (found_in units (soak_program n))) (sym (units_are n))

  pub told_later : (state : RigState) → Keeps began.state state → told_by (soak_program n) state ≡ Some (findings n)
  told_later state keeps = told_stays (soak_program n) keeps ∙ told_new

  -- no count fell, and what it tells is so
  is_told : IsTold began.state
  is_told = subst IsTold (sym new.state) (record { faults = λ a b. omega arith; opens = omega arith; tallies = λ some. some; coming = λ some. some; left = refl; few = omega arith })

  pub keeps_new : Keeps began.state began.state
  keeps_new = record {
    points = refl;
    honest = refl;
    units = refl;
    states = refl;
    most_faults = refl;
    most_opens = refl;
    trail = refl;
    tallies = refl;
    faults = omega arith;
    opens = omega arith;
    spent = omega arith;
    seats = omega arith;
    told = is_told;
  }

  pub order_new : EndsInOrder n began.state
  order_new = inl (ap (λ (s : RigState). s.trail) new.state)

pub keeps_then : {a b c : RigState} → Keeps a b → Keeps b c → Keeps a c
keeps_then one other = record {
  points = other.points ∙ one.points;
  honest = other.honest ∙ one.honest;
  units = other.units ∙ one.units;
  states = other.states ∙ one.states;
  most_faults = other.most_faults ∙ one.most_faults;
  most_opens = other.most_opens ∙ one.most_opens;
  trail = other.trail ∙ one.trail;
  tallies = other.tallies ∙ one.tallies;
  faults = (let p = one.faults in let q = other.faults in omega arith);
  opens = (let p = one.opens in let q = other.opens in omega arith);
  spent = (let p = one.spent in let q = other.spent in omega arith);
  seats = (let p = one.seats in let q = other.seats in omega arith);
  told = other.told;
}

-- what is told of a unit that is there is its outcome
outcome_is : (found : Option Found) (program : Program) (rows : List Row) (outcome : Outcome) → found ≡ Some (found_of program rows) → HasOutcome found outcome → outcome ≡ outcome_of program rows
outcome_is found program rows outcome is has =
    let there = has.there in
    let same : has.found ≡ found_of program rows = cc in
    has.outcome_is ∙ ap (λ (f : Found). f.outcome) same

if_told : (P : Findings → Type 0) (o : Option Findings) (f : Findings) → o ≡ Some f → IfSome o P → P f
if_told P o f is told = subst (λ (x : Option Findings). IfSome x P) is told

module _ (n : ℕ) (began : SimState) (new : IsNew (soak_rows n) began) (old state : RigState) (keeps : Keeps began.state old) (serial : List ℕ) (rows : List Row) (unit : unit_rows (soak_units n) serial 1 ≡ Some rows) where
  found_there : (findings n) serial 1 ≡ Some (found_of (soak_program n) rows)
  found_there = ap (option_map (found_of (soak_program n))) unit

  pub tested_outcome : (outcome : Outcome) → IsTested (soak_program n) serial 1 old state outcome → outcome ≡ outcome_of (soak_program n) rows
  tested_outcome outcome tested =
      outcome_is ((findings n) serial 1) (soak_program n) rows outcome found_there (if_told _ (told_by (soak_program n) old) (findings n) (told_later n began new old keeps) tested.told)

-- ---- the tallies

tally_after : (Q : Tally → Type 0) (old new : RigState) (tallies : List Tally) → old.tallies ≡ Some tallies → AddsTally Q old new → (tally : Tally) × (new.tallies ≡ Some (tallies ++ tally ∷ [])) × Q tally
tally_after Q old new tallies is adds = subst (λ (o : Option (List Tally)). MatchOption o (new.tallies ≡ None) (λ ts. (tally : Tally) × (new.tallies ≡ Some (ts ++ tally ∷ [])) × Q tally)) is adds

-- ---- both units tested

module _ (n : ℕ) (began : SimState) (new : IsNew (soak_rows n) began) (between state : RigState) (good bad : Outcome)
    (first : IsTested (soak_program n) (codes "GOOD") 1 began.state between good) (last : IsTested (soak_program n) (codes "BAD") 1 between state bad) where
  pub good_is : good ≡ good_outcome n
  good_is = tested_outcome n began new began.state between (keeps_new n began new) (codes "GOOD") (good_rows n) refl good first

  pub bad_is : bad ≡ bad_outcome n
  bad_is = tested_outcome n began new between state first.keeps (codes "BAD") (bad_rows n) refl bad last

  pub is_soaked : IsSoaked n state
  is_soaked =
      let one = tally_after _ began.state between [] (ap (λ (s : RigState). s.tallies) new.state) first.tally in
      let other = tally_after _ between state (one.0 ∷ []) one.1 last.tally in
      record {
        began = began;
        between = between;
        new = new;
        good = subst (IsTested (soak_program n) (codes "GOOD") 1 began.state between) good_is first;
        bad = subst (IsTested (soak_program n) (codes "BAD") 1 between state) bad_is last;
        good_tally = one.0;
        bad_tally = other.0;
        tallies = other.1;
        of_good = one.2.0;
        of_bad = other.2.0;
        enough_for_good = subst (λ (o : Outcome). Enough (soak_program n) o one.0) good_is one.2.1;
        enough_for_bad = subst (λ (o : Outcome). Enough (soak_program n) o other.0) bad_is other.2.1;
      }

-- ---- the stops

-- a count that rose is above none
rose_some : (old new : ℕ) → Rose old new → 0 < new
rose_some old new rose = omega arith

module _ (n : ℕ) (was : UnitStop SimState) (s : StopsOne n was) where
  abbrev p : Program
  p = soak_program n

  abbrev found : Option Found
  found = (findings n) s.serial 1

  found_is : found ≡ Some (found_of p s.rows)
  found_is = ap (option_map (found_of p)) s.unit

  stops_so : StopsSo found was
  stops_so = if_told _ (told_by p s.old) (findings n) (told_later n s.began s.new s.old s.keeps) s.stopped.told

  pub not_empty : (rig : SimState) → was ≡ stop.Empty rig → ⊥
  not_empty rig is =
      let none : found ≡ None = subst (StopsSo found) is stops_so in
      let some = found_is in
      cc

  pub not_charged : (rig : SimState) (volts : ℕ) → was ≡ stop.NotDischarged rig volts → ⊥
  not_charged rig volts is =
      let at : (f : Found) × (found ≡ Some f) × (f.charged ≡ Some volts) = subst (StopsSo found) is stops_so in
      let some = found_is in
      let there = at.1 in
      let same : at.0 ≡ found_of p s.rows = cc in
      let both : None ≡ Some volts = sym s.uncharged ∙ ap (λ (f : Found). f.charged) (sym same) ∙ at.2 in
      cc

  pub not_open : (rig : SimState) → was ≡ stop.InterlockOpen rig → ⊥
  not_open rig is =
      let stopped = subst (IsStopped (λ (sim : SimState). sim.state) p s.serial 1 s.old) is s.stopped in
      let rose = stopped.cause.opens in
      let most : rig.state.most_opens ≡ Some 0 =
      stopped.keeps.most_opens ∙ s.keeps.most_opens ∙ ap (λ (r : RigState). r.most_opens) s.new.state ∙ ap (λ (listed : List ℕ). Some (length listed)) (no_doors n s.began.doors.listed s.new.doors) in
      let few : rig.state.opens ≤ 0 = subst (λ (o : Option ℕ). IfSome o (λ most. rig.state.opens ≤ most)) most stopped.keeps.told.opens in
      omega arith

  order_after : (state : RigState) → IsCutOff p s.serial 1 s.old state → EndsInOrder n state
  order_after state (inl (refused, at_zero)) = subst (λ (r : RigState). EndsInOrder n r) (sym refused.frame) s.order
  order_after state (inr stops) = inr stops.order

  pub rig_fault : (rig : SimState) → was ≡ stop.RigFault rig → StopsSoak n (RigFault rig)
  rig_fault rig is =
      let stopped = subst (IsStopped (λ (sim : SimState). sim.state) p s.serial 1 s.old) is s.stopped in
      (record { began = s.began; new = s.new; keeps = keeps_then s.keeps stopped.keeps }, rose_some _ _ stopped.cause.1, order_after rig.state stopped.cause.0)

  pub memory : (rig : SimState) → was ≡ stop.Memory rig → StopsSoak n (Memory (Some rig))
  memory rig is =
      let stopped = subst (IsStopped (λ (sim : SimState). sim.state) p s.serial 1 s.old) is s.stopped in
      (record { began = s.began; new = s.new; keeps = keeps_then s.keeps stopped.keeps }, order_after rig.state stopped.cause)

  pub not_zero : (rig : SimState) → was ≡ stop.NotZero rig → StopsSoak n (NotZero rig)
  not_zero rig is =
      let stopped = subst (IsStopped (λ (sim : SimState). sim.state) p s.serial 1 s.old) is s.stopped in
      (record { began = s.began; new = s.new; keeps = keeps_then s.keeps stopped.keeps }, rose_some _ _ stopped.cause.rose, stopped.cause.order)

-- ---- what stops one of them

pub stops_good : (n : ℕ) (began : SimState) (new : IsNew (soak_rows n) began) (was : UnitStop SimState) → IsStopped (λ (sim : SimState). sim.state) (soak_program n) (codes "GOOD") 1 began.state was → StopsOne n was
stops_good n began new was stopped = record {
  began = began;
  new = new;
  old = began.state;
  keeps = keeps_new n began new;
  order = order_new n began new;
  serial = codes "GOOD";
  rows = good_rows n;
  unit = refl;
  uncharged = good_uncharged n;
  stopped = stopped;
}

pub stops_bad : (n : ℕ) (began : SimState) (new : IsNew (soak_rows n) began) (between : RigState) (good : Outcome) → IsTested (soak_program n) (codes "GOOD") 1 began.state between good
    → (was : UnitStop SimState) → IsStopped (λ (sim : SimState). sim.state) (soak_program n) (codes "BAD") 1 between was → StopsOne n was
stops_bad n began new between good first was stopped = record {
  began = began;
  new = new;
  old = between;
  keeps = first.keeps;
  order = inr first.order;
  serial = codes "BAD";
  rows = bad_rows n;
  unit = refl;
  uncharged = bad_uncharged n;
  stopped = stopped;
}

pub bad_stops : (n : ℕ) (p : Program) (between : RigState) (good : Outcome) → IsGood n p between good
    → (was : UnitStop SimState) → IsStopped (λ (sim : SimState). sim.state) p (codes "BAD") 1 between was → StopsOne n was
bad_stops n p between good b was stopped =
    stops_bad n b.began b.new between good (subst (λ (q : Program). IsTested q (codes "GOOD") 1 b.began.state between good) b.program b.good) was
    (subst (λ (q : Program). IsStopped (λ (sim : SimState). sim.state) q (codes "BAD") 1 between was) b.program stopped)

pub good_stops : (n : ℕ) (p : Program) (began : SimState) → p ≡ soak_program n → IsNew (soak_rows n) began
    → (was : UnitStop SimState) → IsStopped (λ (sim : SimState). sim.state) p (codes "GOOD") 1 began.state was → StopsOne n was
good_stops n p began is new was stopped = stops_good n began new was (subst (λ (q : Program). IsStopped (λ (sim : SimState). sim.state) q (codes "GOOD") 1 began.state was) is stopped)

module _ (n : ℕ) (p : Program) (between : RigState) (good : Outcome) (b : IsGood n p between good) (state : RigState) (bad : Outcome) (tested : IsTested p (codes "BAD") 1 between state bad) where
  first_of : IsTested (soak_program n) (codes "GOOD") 1 b.began.state between good
  first_of = subst (λ (q : Program). IsTested q (codes "GOOD") 1 b.began.state between good) b.program b.good

  last_of : IsTested (soak_program n) (codes "BAD") 1 between state bad
  last_of = subst (λ (q : Program). IsTested q (codes "BAD") 1 between state bad) b.program tested

  pub both_good : good ≡ good_outcome n
  both_good = good_is n b.began b.new between state good bad first_of last_of

  pub both_bad : bad ≡ bad_outcome n
  both_bad = bad_is n b.began b.new between state good bad first_of last_of

  pub both_soaked : IsSoaked n state
  both_soaked = is_soaked n b.began b.new between state good bad first_of last_of
