use Rattle.hv.specs.Routes.{numbered_pair}
use Rattle.hv.proofs.Pairs.{pairs-push}
use Rattle.hv.proofs.routes.pair_clusters.Goals as goal

pub loop-k-preserved : goal.loop-k-preserved
loop-k-preserved c =
    pairs-push (numbered_pair c.args.clusters.now.numbers) c.loop-k.pairs.items _ c.loop-k.k c.in_ok-left.left c.in_ok-right.right c.loop-k.invariant c.in_ok-push.ensures.items c.in_ok-left.ensures c.in_ok-right.ensures
