-- The test of insulation resistance.
--     insulation_faults p rows test   the faults of a unit: each cluster that arcs or leaks too much against all other judged points
--     Measured p test leaks events    among the events one application for each cluster, in order
--     Insulates ..                    the test was made, with these faults
use Rattle.std.specs.Prelude.{◌≡◌, ◌+◌, ◌*◌, ◌/◌, ◌≤◌, ℕ, Bool, true, nat_lt, List, [], ◌∷◌, ◌++◌, map, All, IsTrue, IfSome, None, if◌then◌else◌}
use Rattle.rig.specs.declared.event.Event.{Event}
use Rattle.rig.specs.declared.event.Leak.{Leak}
use Rattle.rig.specs.declared.event.Leak.TheVariants.{Arc, PicoSiemens}
use Rattle.rig.specs.declared.unit.Row.{Row}
use Rattle.rig.specs.RigState.{RigState}
use Rattle.rig.specs.Values.{leak_of}
use Rattle.wirelist.specs.declared.faults.LeakFault.{LeakFault}
use Rattle.wirelist.specs.declared.program.Insulation.{Insulation}
use Rattle.wirelist.specs.declared.program.Program.{Program}
use Rattle.wirelist.specs.Clusters.{cluster_classes, cluster_count, clusters_of, others}
use Rattle.wirelist.specs.Ranges.{IsReading}
use Rattle.applications.specs.Charge.{HasLasting}
use Rattle.applications.specs.Counting.{Gains}
use Rattle.applications.specs.Each.{MeasuresAll}
use Rattle.applications.specs.Measuring.{Runs}
use Rattle.hv.specs.Routes.{cluster_pairs, tested_clusters}
use Rattle.hv.specs.Stated.{stated_leak}

-- ---- the faults of a unit

-- an arc, or a resistance below so many megohms
abbrev pub too_leaky : ℕ → Leak → Bool
too_leaky megohms Arc = true
too_leaky megohms (PicoSiemens g) = nat_lt 1000000 (g * megohms)

-- the fault of cluster i, if its leak is one
abbrev pub faults_at : ℕ → ℕ → Leak → List LeakFault
faults_at megohms i leak = if too_leaky megohms leak then record { cluster = i; reading = stated_leak leak } ∷ [] else []

-- the faults of the clusters from number i on
abbrev pub faults_from : ℕ → ℕ → List Leak → List LeakFault
faults_from megohms i [] = []
faults_from megohms i (leak ∷ leaks) = faults_at megohms i leak ++ faults_from megohms (i + 1) leaks

-- what a unit leaks from each cluster to all other judged points at v volts
abbrev pub cluster_leaks : Program → List Row → ℕ → List Leak
cluster_leaks p rows v = map (λ group. leak_of rows p.nets.points group (others p group) v) (clusters_of p)

abbrev pub insulation_faults : Program → List Row → Insulation → List LeakFault
insulation_faults p rows test = faults_from test.megohms 0 (cluster_leaks p rows test.volts)

-- each reading is a number of 64 bits
abbrev pub AreStated : List LeakFault → Type 0
AreStated faults = All (λ (fault : LeakFault). IfSome fault.reading IsReading) faults

-- ---- the test

-- for each cluster in order an application of it against all other judged points at the volts of the test for its ticks, with
-- one leak after these and before the zero; with one cluster there is none
abbrev pub Measured : Program → Insulation → List Leak → List Event → Type 0
Measured p test leaks events = MeasuresAll test.volts test.ticks (cluster_pairs p) leaks events

-- The clusters were measured; the faults are those of the leaks that were read in these applications. Of an honest rig they are
-- those of the unit.
pub record Insulates (p : Program) (test : Insulation) (old new : RigState) (faults : List LeakFault) : Type 0 where
  pub events : List Event
  pub leaks : List Leak
  pub runs : Runs (cluster_classes p) old new events None
  pub measured : Measured p test leaks events
  pub on_trail : IfSome new.trail (Measured p test leaks)
  pub faults_are : faults ≡ faults_from test.megohms 0 leaks
  pub counts : let n = tested_clusters (cluster_count p) in Gains 0 0 n (n * (test.volts / 50)) (n * test.ticks) n events
  pub truth : IsTrue old.honest → IfSome old.truth (λ rows. faults ≡ insulation_faults p rows test)
  -- with two clusters or more, no charge lasts on the unit
  pub discharged : 2 ≤ cluster_count p → HasLasting old None
