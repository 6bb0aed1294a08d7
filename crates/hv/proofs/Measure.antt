-- The test of insulation, as that of a program.
use Rattle.std.proofs.Common.{◌≡◌, ◌⊎◌, inl, inr, ℕ, zero, suc, ◌*◌, ◌/◌, ◌<◌, ◌≤◌, Bool, true, false, leb, List, [], ◌∷◌, length, map, filter, eqb, Option, Some, None, refl, sym, ◌∙◌, ap, subst, arith}
use Rattle.std.specs.Prelude.{IfSome}
use Rattle.std.proofs.lemmas.Bool.{le-leb, leb-true, lt-leb}
use Rattle.std.proofs.lemmas.List.{length-map}
use Rattle.partition.specs.NetTable.{judged_points}
use Rattle.rig.specs.declared.event.Event.{Event}
use Rattle.rig.specs.declared.event.Leak.{Leak}
use Rattle.rig.specs.declared.unit.Row.{Row}
use Rattle.rig.specs.RigState.{RigState}
use Rattle.wirelist.specs.declared.faults.LeakFault.{LeakFault}
use Rattle.wirelist.specs.declared.program.Insulation.{Insulation}
use Rattle.wirelist.specs.declared.program.Program.{Program}
use Rattle.wirelist.specs.Clusters.{cluster_classes, cluster_count, cluster_first_at, cluster_firsts, clusters_of}
use Rattle.wirelist.specs.Programs.{IsInsulation, IsProgram}
use Rattle.wirelist.specs.Ranges.{LeakFaultsInRange, most_clusters}
use Rattle.applications.specs.declared.sides.Sides.{Sides}
use Rattle.applications.specs.Counting.{Gains, TalliesMore}
use Rattle.applications.specs.Each.{MeasuresAll, MeasuresEach, leak_between}
use Rattle.applications.specs.Measuring.{StopsAtRest}
use Rattle.applications.proofs.Counted.{gains-less, gains-none, tallies-more}
use Rattle.applications.proofs.one_by_one.LeakEach.{measures-before}
use Rattle.applications.proofs.one_by_one.Runs.{Runs-none}
use Rattle.cluster_groups.specs.Laws.{IsClusterable}
use Rattle.hv.specs.Insulating.{AreStated, Insulates, Measured, cluster_leaks, faults_from, insulation_faults}
use Rattle.hv.specs.Routes.{against_others, cluster_pairs, tested_clusters}
use Rattle.hv.proofs.Faults.{alone-no_faults, faults-in_range}
use Rattle.hv.proofs.Trails.{on_trail}

-- ---- how many clusters are measured

length-clusters_of : (p : Program) → length (clusters_of p) ≡ cluster_count p
length-clusters_of p = length-map (cluster_firsts p) (λ first. filter (λ point. eqb (cluster_first_at p point) first) (judged_points p.nets))

pub length-cluster_pairs : (p : Program) → length (cluster_pairs p) ≡ tested_clusters (cluster_count p)
length-cluster_pairs p = go (leb 2 (cluster_count p)) refl
  where
    go : (b : Bool) → leb 2 (cluster_count p) ≡ b → length (cluster_pairs p) ≡ tested_clusters (cluster_count p)
    go true two = rw two (length-map (clusters_of p) (against_others p) ∙ length-clusters_of p)
    go false few = rw few refl

pub cluster_pairs-none : (p : Program) → cluster_count p ≤ 1 → cluster_pairs p ≡ []
cluster_pairs-none p alone = rw (lt-leb 2 (cluster_count p) (omega arith)) refl

-- where there are two clusters there are pairs
pairs-more : (p : Program) → 2 ≤ cluster_count p → 0 < length (cluster_pairs p)
pairs-more p two =
    let size : tested_clusters (cluster_count p) ≡ cluster_count p = rw (le-leb 2 (cluster_count p) two) refl in
    omega (arith, length-cluster_pairs p)

tested-none : (count : ℕ) → count ≤ 1 → tested_clusters count ≡ 0
tested-none count alone = rw (lt-leb 2 count (omega arith)) refl

-- where there are pairs there are two clusters
pub pairs-some : (p : Program) (pairs : List Sides) → pairs ≡ cluster_pairs p → (pairs ≡ [] → ⊥) → 2 ≤ cluster_count p
pairs-some p pairs is some = go (leb 2 (cluster_count p)) refl
  where
    go : (b : Bool) → leb 2 (cluster_count p) ≡ b → 2 ≤ cluster_count p
    go true two = leb-true 2 (cluster_count p) two
    go false few = absurd (some (is ∙ rw few refl))

two_or_less : (c : ℕ) → (2 ≤ c) ⊎ (c ≤ 1)
two_or_less zero = inr (omega arith)
two_or_less (suc zero) = inr (omega arith)
two_or_less (suc (suc c)) = inl (omega arith)

pub pairs-none : (p : Program) (pairs : List Sides) → pairs ≡ cluster_pairs p → pairs ≡ [] → cluster_count p ≤ 1
pairs-none p pairs is none = go (leb 2 (cluster_count p)) refl
  where
    go : (b : Bool) → leb 2 (cluster_count p) ≡ b → cluster_count p ≤ 1
    go true two =
        let low = leb-true 2 (cluster_count p) two in
        let size : tested_clusters (cluster_count p) ≡ cluster_count p = rw two refl in
        absurd (omega (arith, ap length (sym is ∙ none), length-cluster_pairs p))
    go false few = elim (two_or_less (cluster_count p)) as (λ _. cluster_count p ≤ 1) [
      | inl two ↦ absurd (let e : false ≡ true = sym few ∙ le-leb 2 (cluster_count p) two in cc)
      | inr less ↦ less
    ]

-- ---- the leaks of a unit

map_twice : (f : Sides → Leak) (g : List ℕ → Sides) (xs : List (List ℕ)) → map f (map g xs) ≡ map (λ x. f (g x)) xs
map_twice f g [] = refl
map_twice f g (x ∷ xs) = ap (λ (ys : List Leak). f (g x) ∷ ys) (map_twice f g xs)

pair_leaks : (p : Program) (rows : List Row) (v : ℕ) → 2 ≤ cluster_count p → map (leak_between rows p.nets.points v) (cluster_pairs p) ≡ cluster_leaks p rows v
pair_leaks p rows v two = rw (le-leb 2 (cluster_count p) two) (map_twice (leak_between rows p.nets.points v) (against_others p) (clusters_of p))

-- ---- the test was made

module _ (p : Program) (ok : IsClusterable p) (test : Insulation) {s : RigState} (points : s.points ≡ p.nets.points) where
  pub insulates : {t : RigState} (leaks : List Leak) (faults : List LeakFault) → 2 ≤ cluster_count p → MeasuresEach (cluster_classes p) s t (cluster_pairs p) test.volts test.ticks leaks → faults ≡ faults_from test.megohms 0 leaks
      → Insulates p test s t faults
  insulates {t} leaks faults two made is = record {
    events = made.events;
    leaks = leaks;
    runs = made.runs;
    measured = made.measured;
    on_trail = on_trail (Measured p test leaks) made.runs.happens (λ before. measures-before test.volts test.ticks (cluster_pairs p) leaks before made.events made.measured);
    faults_are = is;
    counts =
        let P : ℕ → Type 0 = λ n. Gains 0 0 n (n * (test.volts / 50)) (n * test.ticks) n made.events in
        subst P (length-cluster_pairs p) made.counts;
    truth = λ honest. of_truth s.truth (made.truth honest);
    discharged = λ enough. made.discharged (pairs-more p enough);
  }
    where
      of_truth : (o : Option (List Row)) → IfSome o (λ rows. leaks ≡ map (leak_between rows s.points test.volts) (cluster_pairs p)) → IfSome o (λ rows. faults ≡ insulation_faults p rows test)
      of_truth None h = tt
      of_truth (Some rows) h =
          is ∙ ap (faults_from test.megohms 0) (h ∙ ap (λ (n : ℕ). map (leak_between rows n test.volts) (cluster_pairs p)) points ∙ pair_leaks p rows test.volts two)

-- with one cluster nothing is done
module _ (p : Program) (ok : IsClusterable p) (test : Insulation) (s : RigState) where
  pub insulates-none : (faults : List LeakFault) → cluster_count p ≤ 1 → faults ≡ [] → Insulates p test s s faults
  insulates-none faults alone none =
      let no_pairs = cluster_pairs-none p alone in
      let empty : Measured p test [] [] = subst (λ (pairs : List Sides). MeasuresAll test.volts test.ticks pairs [] []) (sym no_pairs) tt in
      let nothing = Runs-none (cluster_classes p) s in
      record {
        events = [];
        leaks = [];
        runs = nothing;
        measured = empty;
        on_trail = on_trail (Measured p test []) nothing.happens (λ before. measures-before test.volts test.ticks (cluster_pairs p) [] before [] empty);
        faults_are = none;
        counts =
            let P : ℕ → Type 0 = λ n. Gains 0 0 n (n * (test.volts / 50)) (n * test.ticks) n [] in
            subst P (sym (tested-none (cluster_count p) alone)) (gains-less (omega arith) (omega arith) (omega arith) (omega arith) (gains-none 0));
        truth = λ honest. of_truth s.truth;
        discharged = λ two. absurd (omega arith);
      }
    where
      of_truth : (o : Option (List Row)) → IfSome o (λ rows. faults ≡ insulation_faults p rows test)
      of_truth None = tt
      of_truth (Some rows) = none ∙ sym (alone-no_faults p ok alone rows test)

-- as many leaks as pairs
pub length-leaks : (v t : ℕ) (pairs : List Sides) (leaks : List Leak) (events : List Event) → MeasuresAll v t pairs leaks events → length leaks ≡ length pairs
length-leaks v t [] [] events h = refl
length-leaks v t [] (g ∷ gs) events h = absurd h
length-leaks v t (x ∷ xs) [] events h = absurd h
length-leaks v t (x ∷ xs) (g ∷ gs) events h = ap suc (length-leaks v t xs gs h.2 h.5)

tested-few : (count : ℕ) → tested_clusters count ≤ count
tested-few count = go (leb 2 count) refl
  where
    go : (b : Bool) → leb 2 count ≡ b → tested_clusters count ≤ count
    go true e = rw e (omega arith)
    go false e = rw e (omega arith)

pub leaks-few : (p : Program) (test : Insulation) (leaks : List Leak) (events : List Event) → Measured p test leaks events → length leaks ≤ cluster_count p
leaks-few p test leaks events h = omega (arith, length-leaks test.volts test.ticks (cluster_pairs p) leaks events h, length-cluster_pairs p, tested-few (cluster_count p))

-- ---- by the program's test

-- the ranges of the test
pub test-of : (p : Program) (test : Insulation) → IsProgram p → p.insulation ≡ Some test → IsInsulation test
test-of p test program is = let P : Option Insulation → Type 0 = λ o. IfSome o IsInsulation in subst P is program.insulation

pub of_test : (p : Program) (test : Insulation) (P : Insulation → Type 0) → p.insulation ≡ Some test → P test → IfSome p.insulation P
of_test p test P is h = let Q : Option Insulation → Type 0 = λ o. IfSome o P in subst Q (sym is) h

pub under_test : (o : Option Insulation) (P Q : Insulation → Type 0) → ((test : Insulation) → o ≡ Some test → P test → Q test) → IfSome o P → IfSome o Q
under_test None P Q f h = tt
under_test (Some test) P Q f h = f test refl h

pub insulated-tallies : {p : Program} {test : Insulation} {s t : RigState} {faults : List LeakFault} → s.volts ≡ 0 → Insulates p test s t faults
    → let n = tested_clusters (cluster_count p) in TalliesMore n (n * (test.volts / 50)) (n * test.ticks) n s t
insulated-tallies zeroed made = tallies-more zeroed made.runs.happens made.counts

pub insulated-rests : (o : Option Insulation) (p : Program) {s t : RigState} (faults : List LeakFault) → (o ≡ None → ⊥) → IfSome o (λ test. Insulates p test s t faults) → StopsAtRest (cluster_classes p) s t None
insulated-rests None p faults some h = absurd (some refl)
insulated-rests (Some test) p faults some h = record { events = h.events; runs = h.runs }

-- the faults are in the ranges of records
pub insulated-range : (p : Program) → IsProgram p → (p.insulation ≡ None → ⊥) → (s t : RigState) (faults : List LeakFault) → IfSome p.insulation (λ test. Insulates p test s t faults) → AreStated faults → 0 < length faults → LeakFaultsInRange faults
insulated-range p program some s t faults made stated more = go p.insulation program.clusters some made
  where
    go : (o : Option Insulation) → IfSome o (λ _. cluster_count p ≤ most_clusters) → (o ≡ None → ⊥) → IfSome o (λ test. Insulates p test s t faults) → LeakFaultsInRange faults
    go None most some h = absurd (some refl)
    go (Some test) most some h =
        let few = leaks-few p test h.leaks h.events h.measured in
        faults-in_range test.megohms h.leaks faults h.faults_are (omega arith) stated more

-- the bonds and the pairs are those of the program
pub measured-as : {s t : RigState} {bonds : List ℕ} {pairs : List Sides} {v k : ℕ} {leaks : List Leak} (p : Program) → bonds ≡ cluster_classes p → pairs ≡ cluster_pairs p → MeasuresEach bonds s t pairs v k leaks
    → MeasuresEach (cluster_classes p) s t (cluster_pairs p) v k leaks
measured-as {s} {t} {bonds} {pairs} {v} {k} {leaks} p same are made =
    subst (λ (xs : List Sides). MeasuresEach (cluster_classes p) s t xs v k leaks) are (subst (λ (b : List ℕ). MeasuresEach b s t pairs v k leaks) same made)

-- so few leaks that their places are numbers of 32 bits
pub leaks-place : (p : Program) → IsProgram p → (test : Insulation) → p.insulation ≡ Some test → {s t : RigState} (v k : ℕ) (leaks : List Leak) → MeasuresEach (cluster_classes p) s t (cluster_pairs p) v k leaks → length leaks ≤ most_clusters
leaks-place p program test is {s} {t} v k leaks made =
    let most : cluster_count p ≤ most_clusters = let P : Option Insulation → Type 0 = λ o. IfSome o (λ _. cluster_count p ≤ most_clusters) in subst P is program.clusters in
    omega (arith, length-leaks v k (cluster_pairs p) leaks made.events made.measured, length-cluster_pairs p, tested-few (cluster_count p))

pub measured-rests : {bonds : List ℕ} {s t : RigState} {pairs : List Sides} {v k : ℕ} {leaks : List Leak} → MeasuresEach bonds s t pairs v k leaks → StopsAtRest bonds s t None
measured-rests made = record { events = made.events; runs = made.runs }
