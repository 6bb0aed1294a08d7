use Rattle.std.proofs.Common.{◌∙◌, List, ℕ, All, length, sym, ap, subst, arith}
use Rattle.std.proofs.lemmas.List.FromFn.{length-map-range_with_len}
use Rattle.std.proofs.lemmas.Result.{IfOk-weaker}
use Rattle.partition.specs.Claims.{head_class}
use Rattle.partition.specs.Classes.{class_at, classes_by, judged_in}
use Rattle.partition.specs.Partitions.{IsLabel}
use Rattle.difference.proofs.LabelSteps.{heads_are, labels_are, rebuilt_is}
use Rattle.partition.proofs.classes.MergeLemmas.{written-back}
use Rattle.difference.proofs.rebuilding.rebuild.Goals as goal

pub write_labels-requires-clause-size : goal.write_labels-requires-clause-size
write_labels-requires-clause-size c =
    ap length (c.deref_mut.ensures.value ∙ c.in_ok-labels.ensures.labels) ∙ length-map-range_with_len (head_class c.args.nets.now) 0 c.args.nets.now.points

pub write_labels-requires-clause-heads : goal.write_labels-requires-clause-heads
write_labels-requires-clause-heads c = heads_are c.args.nets.now c.head_labels.ensures.valid c.deref_mut.result.now (c.deref_mut.ensures.value ∙ c.in_ok-labels.ensures.labels)

pub by_labels-requires-clause-labels : goal.by_labels-requires-clause-labels
by_labels-requires-clause-labels c =
    let made =
    c.deref.ensures.value
    ∙ written-back c.write_labels.new.labels c.in_ok-labels.labels.items c.in_ok-labels.labels.len (omega (arith, c.write_labels.auto.labels, c.deref_mut.ensures.len, ap length c.deref_mut.ensures.value))
    (omega (arith, c.deref_mut.ensures.len, ap length c.deref_mut.ensures.value)) in
    subst (λ (xs : List ℕ). All (IsLabel (length xs)) xs) (sym made)
    (labels_are c.args.nets.now c.args.d.now c.head_labels.ensures.valid c.requires c.head_labels.ensures.few c.write_labels.new.labels c.write_labels.ensures)

pub returns : goal.returns
returns c =
    let made =
    c.deref.ensures.value
    ∙ written-back c.write_labels.new.labels c.in_ok-labels.labels.items c.in_ok-labels.labels.len (omega (arith, c.write_labels.auto.labels, c.deref_mut.ensures.len, ap length c.deref_mut.ensures.value))
    (omega (arith, c.deref_mut.ensures.len, ap length c.deref_mut.ensures.value)) in
    IfOk-weaker c.by_labels.result _ _
    (λ p e.
    rebuilt_is c.args.nets.now c.args.d.now c.head_labels.ensures.valid c.requires c.head_labels.ensures.few c.write_labels.new.labels c.write_labels.ensures p
    (e ∙ ap (λ (xs : List ℕ). classes_by (judged_in xs) (length xs) (class_at xs)) made))
    c.by_labels.ensures
