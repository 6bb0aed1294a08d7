use Rattle.std.proofs.Common.{arith, ap, length}
use Rattle.std.proofs.lemmas.List.Sums.{sum_by_more_le}
use Rattle.difference.specs.declared.wiring.Short.{Short}
use Rattle.records.proofs.Orders.{shorts_few}
use Rattle.records.proofs.wiring.nets_of.Goals as goal

pub overflow_add-nets : goal.overflow_add-nets
overflow_add-nets c =
    let size = λ (x : Short). length x.nets in
    let more = sum_by_more_le size c.args.shorts.now c.loop-short.short-index c.short-item.result c.loop-short-test.true in
    let few = shorts_few c.args.shorts.now c.requires in
    let same = ap size c.short-item.is in
    omega (arith, c.len.ensures, c.loop-short.invariant)
