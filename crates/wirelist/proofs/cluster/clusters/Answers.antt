use Rattle.std.proofs.Common.{◌<◌, ◌^◌, ℕ, List, All, length, sym, ◌∙◌, ap, subst}
use Rattle.std.proofs.lemmas.Result.{IfOk-weaker}
use Rattle.partition.specs.Partitions.{IsLabel}
use Rattle.wirelist.proofs.ClusterLemmas.{clusters_are, labels_are, labels_size}
use Rattle.wirelist.proofs.cluster.clusters.Goals as goal

pub by_labels-requires-clause-few : goal.by_labels-requires-clause-few
by_labels-requires-clause-few c =
    let linked = c.in_ok-linked.ensures in
    subst (λ (n : ℕ). n < 2 ^ 16)
    (sym (ap length (c.as_slice.ensures ∙ c.in_ok-labels.ensures) ∙ labels_size c.args.p.now.nets linked.table c.in_ok-linked.linked linked.nets linked.few linked.small))
    linked.small

pub by_labels-requires-clause-labels : goal.by_labels-requires-clause-labels
by_labels-requires-clause-labels c =
    let linked = c.in_ok-linked.ensures in
    subst (λ (xs : List ℕ). All (IsLabel (length xs)) xs) (sym (c.as_slice.ensures ∙ c.in_ok-labels.ensures))
    (labels_are c.args.p.now.nets linked.table c.in_ok-linked.linked linked.nets linked.few linked.small)

pub returns : goal.returns
returns c =
    let linked = c.in_ok-linked.ensures in
    IfOk-weaker c.by_labels.result _ _
    (clusters_are c.args.p.now linked.table linked.few linked.small c.in_ok-linked.linked c.as_slice.result.now linked.nets linked.linked (c.as_slice.ensures ∙ c.in_ok-labels.ensures))
    c.by_labels.ensures
