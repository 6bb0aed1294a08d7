use Rattle.std.proofs.Common.{◌∙◌, get_or, sym}
use Rattle.std.proofs.lemmas.List.{get_or_default}
use Rattle.partition.specs.Classes.{no_class}
use Rattle.cluster_groups.proofs.Placing.{points-push, points-skip}
use Rattle.cluster_groups.proofs.clusters.points_of.Goals as goal
use Rattle.cluster_groups.proofs.clusters.points_of.Goals.{then-takes+in_ok-push, else-takes}

pub loop-q-preserved : goal.loop-q-preserved
loop-q-preserved c =
    let number = get_or_default c.args.numbers.now c.loop-q.q no_class 0 c.loop-q-test.true in
    elim c.if-takes.branch [
      | then-takes+in_ok-push w ↦
          points-push c.args.choice c.args.numbers.now c.loop-q.list _ c.loop-q.q (get_or c.args.numbers.now c.loop-q.q 0) c.loop-q.invariant number (sym c.takes.ensures ∙ w.if-takes.true)
          (w.list-is ∙ w.in_ok-push.ensures.ok)
      | else-takes w ↦
          points-skip c.args.choice c.args.numbers.now c.loop-q.list _ c.loop-q.q (get_or c.args.numbers.now c.loop-q.q 0) c.loop-q.invariant number (sym c.takes.ensures ∙ w.if-takes.false) w.list-is
    ]
