use Rattle.partition.proofs.classes.HeadLemmas.{points_below-push}
use Rattle.harness.proofs.forest.Forest.new.Goals as goal

pub loop-point-preserved : goal.loop-point-preserved
loop-point-preserved c = points_below-push _ _ _ c.loop-point.invariant c.in_ok-push.ensures.items
