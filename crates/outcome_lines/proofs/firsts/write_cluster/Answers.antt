use Rattle.std.proofs.Common.{◌≡◌, ◌<◌, ℕ, List, length, sym, ◌∙◌, ap, subst, arith}
use Rattle.std.specs.Prelude.{Contains}
use Rattle.wirelist.specs.Clusters.{cluster_count, cluster_firsts}
use Rattle.cluster_groups.specs.Laws.{IsGroupOf, cluster_at}
use Rattle.cluster_groups.specs.Numbered.{Numbered, is_cluster, points_with}
use Rattle.cluster_groups.proofs.Grouping.{clusters_law}
use Rattle.cluster_groups.proofs.Numbering.{cluster-numbered}
use Rattle.outcome_lines.specs.Labels.{label_at, labels_of_nets}
use Rattle.outcome_lines.specs.FirstNets.{IsFirstNet}
use Rattle.outcome_lines.proofs.Appending.{named}
use Rattle.outcome_lines.proofs.LabelLemmas.{label_map}
use Rattle.outcome_lines.proofs.ClusterFirsts.{first_net-is}
use Rattle.outcome_lines.proofs.firsts.write_cluster.Goals as goal

within : (c : goal.After-as_slice) → c.args.number < cluster_count c.args.program.now
within c = omega (arith, c.if-number-from.false, c.from.ensures, c.count.ensures, ap (λ (n : Numbered). n.count) c.requires.clusters)

-- the points are those of the cluster
group_is : (c : goal.After-as_slice) → c.as_slice.result.now ≡ cluster_at c.args.program.now c.args.number
group_is c =
    c.as_slice.ensures
    ∙ c.in_ok-group.ensures
    ∙ ap (λ (n : Numbered). points_with (is_cluster c.args.number) n.numbers) c.requires.clusters
    ∙ cluster-numbered c.args.program.now c.requires.clusterable c.args.number (within c)

group : (c : goal.After-as_slice) → IsGroupOf c.args.program.now (cluster_at c.args.program.now c.args.number)
group c = (clusters_law c.args.program.now c.requires.clusterable).groups c.args.number (within c)

pub first_net-first-requires-clause-some : goal.first_net-first-requires-clause-some
first_net-first-requires-clause-some c = let g = group c in subst (λ (l : List ℕ). 0 < length l) (sym (group_is c)) g.some

pub first_net-first-requires-clause-judged : goal.first_net-first-requires-clause-judged
first_net-first-requires-clause-judged c = λ q there. let g = group c in g.judged q (subst (λ (l : List ℕ). Contains l q) (group_is c) there)

pub returns : goal.returns
returns c =
    let p = c.args.program.now in
    let lt : c.args.number < cluster_count p = omega (arith, c.if-number-from.false, c.from.ensures, c.count.ensures, ap (λ (n : Numbered). n.count) c.requires.clusters) in
    let is = c.as_slice.ensures ∙ c.in_ok-group.ensures ∙ ap (λ (n : Numbered). points_with (is_cluster c.args.number) n.numbers) c.requires.clusters ∙ cluster-numbered p c.requires.clusterable c.args.number lt in
    let first = first_net-is p c.requires.clusterable c.args.number lt c.first_net-first.result (subst (λ (l : List ℕ). IsFirstNet p.nets l c.first_net-first.result) is c.first_net-first.ensures) in
    named _ c.args.out.now _ _ _ (ap (label_at (labels_of_nets p)) first ∙ sym (label_map (label_at (labels_of_nets p)) (cluster_firsts p) c.args.number lt)) c.write_net_of.ensures
