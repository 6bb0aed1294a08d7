use Rattle.partition.proofs.tables.ClaimLemmas.{joined_more}
use Rattle.partition.proofs.lists.NetLists.joined.Goals as goal

pub loop-net-preserved : goal.loop-net-preserved
loop-net-preserved c =
    joined_more c.deref-net-items.result.now c.loop-net.points c.append.new.self c.net-item.result c.as_slice.result.now c.loop-net.net-index c.loop-net.invariant c.loop-net-test.true c.net-item.is
    c.as_slice.ensures c.in_ok-append.ensures.ok
