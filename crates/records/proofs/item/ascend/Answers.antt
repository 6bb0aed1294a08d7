use Rattle.records.proofs.Orders.{one_more}
use Rattle.records.proofs.item.ascend.Goals as goal

pub loop-i-preserved : goal.loop-i-preserved
loop-i-preserved g c =
    one_more g.T.Item.Before g.met.T.Item.before_is_transitive c.args.items.now c.loop-i.i c.index-items-i.result c.index-items-i-in-loop-i.result c.loop-i.auto.i c.loop-i-test.true c.index-items-i.is c.index-items-i-in-loop-i.is (c.before-in-loop-i.ensures.0 (let e = c.if-not-before.false in cc)) c.loop-i.invariant
