use Rattle.std.proofs.Common.{◌<◌, ℕ, List, length, get_or, sym, ◌∙◌, subst, arith}
use Rattle.std.proofs.lemmas.List.{get_or_default}
use Rattle.partition.specs.NetTable.{net_count}
use Rattle.difference.proofs.LabelSteps.{net_inside, short_more}
use Rattle.difference.proofs.rebuilding.label_short.Goals as goal

pub label-requires : goal.label-requires
label-requires c = λ k d l.
    let items = c.as_slice-net-items.result.now in
    let number = get_or items c.loop-net.net-index 0 in
    let below = subst (λ (xs : List ℕ). get_or xs c.loop-net.net-index 0 < net_count c.args.nets.now) (sym c.as_slice-net-items.ensures)
    (c.requires.short.nets c.loop-net.net-index 0 (subst (λ (xs : List ℕ). c.loop-net.net-index < length xs) c.as_slice-net-items.ensures c.loop-net-test.true)) in
    omega (arith, net_inside c.args.nets.now c.net.ensures.valid c.net.result.now number k d below c.net.ensures.net l, c.loop-net.auto.labels, c.requires.size)

pub loop-net-preserved : goal.loop-net-preserved
loop-net-preserved c =
    let items = c.as_slice-net-items.result.now in
    let number = get_or items c.loop-net.net-index 0 in
    let below = subst (λ (xs : List ℕ). get_or xs c.loop-net.net-index 0 < net_count c.args.nets.now) (sym c.as_slice-net-items.ensures)
    (c.requires.short.nets c.loop-net.net-index 0 (subst (λ (xs : List ℕ). c.loop-net.net-index < length xs) c.as_slice-net-items.ensures c.loop-net-test.true)) in
    short_more c.args.nets.now c.net.ensures.valid c.args.labels.now c.loop-net.labels c.label.new.labels items c.net.result.now c.loop-net.net-index number c.args.short.now.class
    (c.loop-net.auto.labels ∙ c.requires.size) c.loop-net.invariant c.loop-net-test.true (get_or_default items c.loop-net.net-index 0 number c.loop-net-test.true) below c.net.ensures.net c.label.ensures
