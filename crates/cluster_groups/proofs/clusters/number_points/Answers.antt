use Rattle.cluster_groups.proofs.Placing.{numbers-push}
use Rattle.cluster_groups.proofs.clusters.number_points.Goals as goal

pub loop-q-preserved : goal.loop-q-preserved
loop-q-preserved c = numbers-push c.args.classes.now c.args.places.now c.loop-q.numbers.items _ c.loop-q.q c.number_of.result c.loop-q.invariant c.in_ok-push.ensures.items c.number_of.ensures
