-- The faults of leaks.
use Rattle.std.proofs.Common.{◌≡◌, inl, inr, ℕ, zero, suc, ◌+◌, ◌<◌, ◌≤◌, Bool, true, false, not, ◌&&◌, ◌||◌, List, [], ◌∷◌, ◌++◌, length, map, filter, get_or, refl, sym, ◌∙◌, ap, subst, arith, All, AllPairs, append-nil, append_assoc}
use Rattle.std.specs.Prelude.{IfSome, sum_by, take}
use Rattle.std.specs.List.{list_any}
use Rattle.std.proofs.Math.Nat.{zero-mul}
use Rattle.std.proofs.lemmas.List.{take_more}
use Rattle.std.proofs.lemmas.List.Elements.{All-cons, All-head, All-nil, All-tail}
use Rattle.std.proofs.lemmas.List.Kept.{AllPairs-cons}
use Rattle.partition.specs.Classes.{has}
use Rattle.partition.specs.NetTable.{judged_points}
use Rattle.partition.proofs.Members.{In, In-has}
use Rattle.partition.proofs.tables.NetLaws.{Contains-In}
use Rattle.rig.specs.declared.event.Leak.{Leak}
use Rattle.rig.specs.declared.event.Leak.TheVariants.{PicoSiemens}
use Rattle.rig.specs.declared.unit.Row.{Row}
use Rattle.rig.specs.declared.unit.Row.TheVariants as row
use Rattle.rig.specs.Joins.{joined_classes}
use Rattle.rig.specs.Values.{crosses, leak_of, row_arcs, row_conductance, touches}
use Rattle.wirelist.specs.declared.faults.LeakFault.{LeakFault}
use Rattle.wirelist.specs.declared.program.Insulation.{Insulation}
use Rattle.wirelist.specs.declared.program.Program.{Program}
use Rattle.wirelist.specs.Clusters.{cluster_count, clusters_of, others}
use Rattle.wirelist.specs.Ranges.{IsReading, LeakFaultBefore, LeakFaultInRange, LeakFaultsInRange, most_clusters}
use Rattle.cluster_groups.specs.Laws.{IsClusterable, cluster_at}
use Rattle.cluster_groups.proofs.Grouping.{clusters_law, number_law}
use Rattle.hv.specs.Insulating.{AreStated, faults_at, faults_from, insulation_faults, too_leaky}

-- ---- one leak more

pub faults_from-push : (megohms i : ℕ) (leaks : List Leak) (leak : Leak) → faults_from megohms i (leaks ++ leak ∷ []) ≡ faults_from megohms i leaks ++ faults_at megohms (i + length leaks) leak
faults_from-push megohms i [] leak = append-nil (faults_at megohms i leak) ∙ ap (λ (n : ℕ). faults_at megohms n leak) (omega arith)
faults_from-push megohms i (g ∷ gs) leak =
    let place : (i + 1) + length gs ≡ i + length (g ∷ gs) = omega arith in
    ap (λ (xs : List LeakFault). faults_at megohms i g ++ xs) (faults_from-push megohms (i + 1) gs leak ∙ ap (λ (n : ℕ). faults_from megohms (i + 1) gs ++ faults_at megohms n leak) place)
    ∙ sym (append_assoc (faults_at megohms i g) (faults_from megohms (i + 1) gs) (faults_at megohms (i + length (g ∷ gs)) leak))

length_take : (leaks : List Leak) (i : ℕ) → i ≤ length leaks → length (take i leaks) ≡ i
length_take leaks zero le = refl
length_take [] (suc i) le = absurd (omega arith)
length_take (x ∷ xs) (suc i) le = ap suc (length_take xs i (omega arith))

pub faults-more : (megohms : ℕ) (leaks : List Leak) (faults more : List LeakFault) (i : ℕ) (leak d : Leak) → i < length leaks → leak ≡ get_or leaks i d → faults ≡ faults_from megohms 0 (take i leaks) → more ≡ faults ++ faults_at megohms i leak
    → more ≡ faults_from megohms 0 (take (i + 1) leaks)
faults-more megohms leaks faults more i leak d less here is pushed =
    let next : take i leaks ++ leak ∷ [] ≡ take (i + 1) leaks = ap (λ (g : Leak). take i leaks ++ g ∷ []) here ∙ sym (take_more leaks i d less) in
    let place : i ≡ 0 + length (take i leaks) = let size = length_take leaks i (omega arith) in omega arith in
    pushed ∙ ap (λ (fs : List LeakFault). fs ++ faults_at megohms i leak) is
    ∙ ap (λ (n : ℕ). faults_from megohms 0 (take i leaks) ++ faults_at megohms n leak) place
    ∙ sym (faults_from-push megohms 0 (take i leaks) leak) ∙ ap (faults_from megohms 0) next

-- ---- the ranges of the faults

-- clusters from number i on, of n clusters, each after the one before
pub record FromTo (i n : ℕ) (faults : List LeakFault) : Type 0 where
  pub few : length faults ≤ n
  pub low : All (λ (f : LeakFault). i ≤ f.cluster) faults
  pub high : All (λ (f : LeakFault). f.cluster < i + n) faults
  pub order : AllPairs LeakFaultBefore faults

all_weaker : (P Q : LeakFault → Type 0) (xs : List LeakFault) → ((f : LeakFault) → P f → Q f) → All P xs → All Q xs
all_weaker P Q [] h all = All-nil Q
all_weaker P Q (x ∷ xs) h all = All-cons Q x xs (h x (All-head P x xs all)) (all_weaker P Q xs h (All-tail P x xs all))

later : (i n : ℕ) (faults : List LeakFault) → FromTo (i + 1) n faults → FromTo i (suc n) faults
later i n faults h = record {
  few = let few = h.few in omega arith;
  low = all_weaker (λ (f : LeakFault). i + 1 ≤ f.cluster) (λ (f : LeakFault). i ≤ f.cluster) faults (λ f low. omega arith) h.low;
  high = all_weaker (λ (f : LeakFault). f.cluster < (i + 1) + n) (λ (f : LeakFault). f.cluster < i + suc n) faults (λ f high. omega arith) h.high;
  order = h.order;
}

joined : (i n : ℕ) (fault : LeakFault) (faults : List LeakFault) → fault.cluster ≡ i → FromTo (i + 1) n faults → FromTo i (suc n) (fault ∷ faults)
joined i n fault faults is h =
    let rest = later i n faults h in
    record {
      few = let few = h.few in omega arith;
      low = All-cons (λ (f : LeakFault). i ≤ f.cluster) fault faults (omega arith) rest.low;
      high = All-cons (λ (f : LeakFault). f.cluster < i + suc n) fault faults (omega arith) rest.high;
      order = AllPairs-cons LeakFaultBefore fault faults (all_weaker (λ (f : LeakFault). i + 1 ≤ f.cluster) (LeakFaultBefore fault) faults (λ f low. omega arith) h.low) h.order;
    }

pub faults_from-range : (megohms i : ℕ) (leaks : List Leak) → FromTo i (length leaks) (faults_from megohms i leaks)
faults_from-range megohms i [] = record { few = omega arith; low = All-nil (λ (f : LeakFault). i ≤ f.cluster); high = All-nil (λ (f : LeakFault). f.cluster < i + 0); order = λ a b d lt inside. absurd (omega arith) }
faults_from-range megohms i (g ∷ gs) = go (too_leaky megohms g) refl (faults_from-range megohms (i + 1) gs)
  where
    go : (b : Bool) → too_leaky megohms g ≡ b → FromTo (i + 1) (length gs) (faults_from megohms (i + 1) gs) → FromTo i (length (g ∷ gs)) (faults_from megohms i (g ∷ gs))
    go true e h = rw e (joined i (length gs) _ (faults_from megohms (i + 1) gs) refl h)
    go false e h = rw e (later i (length gs) (faults_from megohms (i + 1) gs) h)

pub faults-in_range : (megohms : ℕ) (leaks : List Leak) (faults : List LeakFault) → faults ≡ faults_from megohms 0 leaks → length leaks ≤ most_clusters → AreStated faults → 0 < length faults → LeakFaultsInRange faults
faults-in_range megohms leaks faults is few stated some =
    let range : FromTo 0 (length leaks) faults = subst (FromTo 0 (length leaks)) (sym is) (faults_from-range megohms 0 leaks) in
    let count = range.few in
    (omega arith, omega arith, both faults range.high stated, range.order)
  where
    both : (xs : List LeakFault) → All (λ (f : LeakFault). f.cluster < 0 + length leaks) xs → AreStated xs → All LeakFaultInRange xs
    both [] high readings = All-nil LeakFaultInRange
    both (x ∷ xs) high readings =
        All-cons LeakFaultInRange x xs
        (let lt = All-head (λ (f : LeakFault). f.cluster < 0 + length leaks) x xs high in omega arith, All-head (λ (f : LeakFault). IfSome f.reading IsReading) x xs readings)
        (both xs (All-tail (λ (f : LeakFault). f.cluster < 0 + length leaks) x xs high) (All-tail (λ (f : LeakFault). IfSome f.reading IsReading) x xs readings))

-- ---- one cluster alone leaks to nothing

no_touch : (a b : Bool) → ((a && false) || (false && b)) ≡ false
no_touch true b = refl
no_touch false b = refl

nothing_crosses : (classes a : List ℕ) (x y : ℕ) → crosses classes a [] x y ≡ false
nothing_crosses classes a x y = no_touch (touches classes x a) (touches classes y a)

and_false : (a b : Bool) → b ≡ false → (a && b) ≡ false
and_false true b e = e
and_false false b e = refl

no_conductance : (classes a : List ℕ) (r : Row) → row_conductance classes a [] r ≡ 0
no_conductance classes a (row.Leak x y g) = rw (nothing_crosses classes a x y) refl
no_conductance classes a (row.Resistor x y r) = rw (nothing_crosses classes a x y, and_false _ false refl) refl
no_conductance classes a (row.Wire x y) = refl
no_conductance classes a (row.Diode x y d) = refl
no_conductance classes a (row.Arc x y v) = refl
no_conductance classes a (row.Charge v x) = refl

no_arc : (classes a : List ℕ) (v : ℕ) (r : Row) → row_arcs classes a [] v r ≡ false
no_arc classes a v (row.Arc x y w) = and_false _ _ (nothing_crosses classes a x y)
no_arc classes a v (row.Diode x y d) = nothing_crosses classes a x y
no_arc classes a v (row.Leak x y g) = refl
no_arc classes a v (row.Resistor x y r) = refl
no_arc classes a v (row.Wire x y) = refl
no_arc classes a v (row.Charge w x) = refl

no_sum : (classes a : List ℕ) (rows : List Row) → sum_by (row_conductance classes a []) rows ≡ 0
no_sum classes a [] = refl
no_sum classes a (r ∷ rs) = rw (no_conductance classes a r, no_sum classes a rs) refl

no_arcs : (classes a : List ℕ) (v : ℕ) (rows : List Row) → list_any (row_arcs classes a [] v) rows ≡ false
no_arcs classes a v [] = refl
no_arcs classes a v (r ∷ rs) = rw (no_arc classes a v r, no_arcs classes a v rs) refl

no_leak : (rows : List Row) (n v : ℕ) (a : List ℕ) → leak_of rows n a [] v ≡ PicoSiemens 0
no_leak rows n v a = rw (no_arcs (joined_classes rows n) a v rows, no_sum (joined_classes rows n) a rows) refl

no_fault : (megohms i : ℕ) → faults_at megohms i (PicoSiemens 0) ≡ []
no_fault megohms i = rw zero-mul refl

filter-none : (t : ℕ → Bool) (xs : List ℕ) → ((x : ℕ) → In x xs → t x ≡ false) → filter t xs ≡ []
filter-none t [] h = refl
filter-none t (x ∷ xs) h = rw (h x (inl refl), filter-none t xs (λ y i. h y (inr i))) refl

module _ (p : Program) (ok : IsClusterable p) (alone : cluster_count p ≤ 1) where
  -- the one cluster has all judged points
  no_others : (group : List ℕ) → clusters_of p ≡ group ∷ [] → others p group ≡ []
  no_others group is =
      filter-none (λ q. not (has group q)) (judged_points p.nets)
      (λ q i.
      let at = (clusters_law p ok).all_points q (In-has q (judged_points p.nets) i) in
      let first : at.0 ≡ 0 = let lt = at.1 in omega arith in
      let there : In q (cluster_at p 0) = subst (λ (k : ℕ). In q (cluster_at p k)) first (Contains-In q (cluster_at p at.0) at.2) in
      ap not (In-has q group (subst (λ (gs : List (List ℕ)). In q (get_or gs 0 [])) is there)))

  pub alone-no_faults : (rows : List Row) (test : Insulation) → insulation_faults p rows test ≡ []
  alone-no_faults rows test = go (clusters_of p) refl
    where
      go : (groups : List (List ℕ)) → clusters_of p ≡ groups → insulation_faults p rows test ≡ []
      go [] is = ap (λ (gs : List (List ℕ)). faults_from test.megohms 0 (map (λ group. leak_of rows p.nets.points group (others p group) test.volts) gs)) is
      go (group ∷ []) is =
          ap (λ (gs : List (List ℕ)). faults_from test.megohms 0 (map (λ group. leak_of rows p.nets.points group (others p group) test.volts) gs)) is
          ∙ ap (λ (xs : List ℕ). faults_from test.megohms 0 (leak_of rows p.nets.points group xs test.volts ∷ [])) (no_others group is)
          ∙ ap (λ (g : Leak). faults_from test.megohms 0 (g ∷ [])) (no_leak rows p.nets.points test.volts group)
          ∙ append-nil (faults_at test.megohms 0 (PicoSiemens 0)) ∙ no_fault test.megohms 0
      go (x ∷ y ∷ more) is = absurd (let count = (number_law p ok).count in let size = ap length is in omega arith)
