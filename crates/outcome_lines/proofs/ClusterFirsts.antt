-- The first net of a cluster is the least net that holds a point of it.
use Rattle.std.proofs.Common.{◌≡◌, ℕ, ◌<◌, ◌≤◌, true, [], get_or, sym, ◌∙◌, ap, arith}
use Rattle.std.specs.Prelude.{Contains}
use Rattle.std.proofs.lemmas.List.Elements.{Contains-get_or}
use Rattle.partition.specs.Classes.{class_at, has}
use Rattle.partition.specs.NetTable.{all_nets, head_of, judged_points, net_at, net_count}
use Rattle.partition.proofs.classes.HeadLemmas.{heads_below-are}
use Rattle.partition.proofs.tables.KeptLemmas.{net_at-below, net_at-is}
use Rattle.partition.proofs.tables.NetClasses.{head_judged, number_at}
use Rattle.partition.proofs.tables.NetLaws.{Contains-In, net_facts}
use Rattle.wirelist.specs.declared.program.Program.{Program}
use Rattle.wirelist.specs.Clusters.{cluster_count, cluster_first_at, cluster_firsts, net_clusters}
use Rattle.cluster_groups.specs.Laws.{IsClusterable, cluster_at}
use Rattle.cluster_groups.proofs.Lists.{In-Contains}
use Rattle.cluster_groups.proofs.Numbering.{In-cluster, cluster-In, net-least, number-is, number-place}
use Rattle.outcome_lines.specs.FirstNets.{IsFirstNet}

module _ (p : Program) (ok : IsClusterable p) (k : ℕ) (lt : k < cluster_count p) where
  abbrev first : ℕ
  first = get_or (cluster_firsts p) k 0

  -- the head of the first net is in the cluster
  first_point : (h : ℕ) × Contains (cluster_at p k) h × (net_at p.nets h ≡ first)
  first_point =
      let is = heads_below-are (net_clusters p) (net_count p.nets) first (Contains-get_or (cluster_firsts p) k 0 lt) in
      let net = get_or (all_nets p.nets) first [] in
      let h = head_of net in
      let judged : has (judged_points p.nets) h ≡ true = head_judged p.nets ok.nets first is.0 in
      let at : net_at p.nets h ≡ first = net_at-is p.nets ok.nets h first judged is.0 ((net_facts p.nets ok.nets).head_in (first, net) (number_at p.nets ok.nets first is.0)) in
      let here : first ≡ cluster_first_at p h = sym (ap (class_at (net_clusters p)) at ∙ is.1) in
      (h, In-Contains h (cluster_at p k) (In-cluster p ok k h lt judged (sym (number-is p ok h k judged lt here))), at)

  -- no net that holds a point of the cluster comes before it
  first_low : (q : ℕ) → Contains (cluster_at p k) q → first ≤ net_at p.nets q
  first_low q there =
      let c = cluster-In p ok k q lt (Contains-In q (cluster_at p k) there) in
      let place = number-place p ok q c.0 in
      let is : first ≡ cluster_first_at p q = ap (λ (n : ℕ). get_or (cluster_firsts p) n 0) (sym c.1) ∙ place.1 in
      let least = net-least p ok (net_at p.nets q) (net_at-below p.nets ok.nets q c.0) in
      omega arith

  pub first_net-is : (net : ℕ) → IsFirstNet p.nets (cluster_at p k) net → net ≡ first
  first_net-is net least =
      let h = first_point in
      let up = least.least h.0 h.1 in
      let down = first_low least.one.0 least.one.1 in
      let at = least.one.2 in
      let here = h.2 in
      omega arith
