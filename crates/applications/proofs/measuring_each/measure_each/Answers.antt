use Rattle.std.proofs.Common.{subst}
use Rattle.rig.specs.Trail.{Determines}
use Rattle.applications.proofs.one_by_one.InOrder.{runs-in_order, stop-in_order, voltage-by}
use Rattle.applications.proofs.Counted.{tallies-more}
use Rattle.applications.proofs.one_application.Together.{IfOk-map}
use Rattle.applications.proofs.measuring_each.measure_each.Goals as goal

pub returns-clause-voltage : goal.returns-clause-voltage
returns-clause-voltage g c = λ before.
    let determines = subst (Determines (g.R.Rig.state c.args.proven.rig)) c.partition-partition.ensures.same c.partition-partition.ensures.determines in
    voltage-by c.measure_in_order.result _ _ _ _
    (λ done made. runs-in_order c.args.proven.partition c.args.bonds.now (g.R.Rig.state done.proven.rig) determines made.runs before)
    (λ stop stopped. stop-in_order c.args.proven.partition c.args.bonds.now g.R.Rig.state (g.R.Rig.state c.args.proven.rig) stop determines stopped before)
    c.measure_in_order.ensures.ok c.measure_in_order.ensures.err

pub returns-clause-tallies : goal.returns-clause-tallies
returns-clause-tallies g c =
    IfOk-map c.measure_in_order.result _ _ (λ done made. tallies-more c.points-point_count.ensures.seating.unpowered made.runs.happens made.counts) c.measure_in_order.ensures.ok
