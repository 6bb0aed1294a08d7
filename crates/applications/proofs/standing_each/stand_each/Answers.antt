use Rattle.std.proofs.Common.{subst}
use Rattle.rig.specs.Trail.{Determines}
use Rattle.applications.proofs.one_by_one.InOrder.{runs-in_order, stop-in_order, voltage-by}
use Rattle.applications.proofs.one_application.Together.{IfOk-map}
use Rattle.applications.proofs.one_by_one.EnduredEach.{withstood-rests, withstood-tallies}
use Rattle.applications.proofs.standing_each.stand_each.Goals as goal

pub returns-clause-voltage : goal.returns-clause-voltage
returns-clause-voltage g c = λ before.
    let determines = subst (Determines (g.R.Rig.state c.args.proven.rig)) c.partition-partition.ensures.same c.partition-partition.ensures.determines in
    voltage-by c.stand_in_order.result _ _ _ _
    (λ done made. runs-in_order c.args.proven.partition c.args.bonds.now (g.R.Rig.state done.proven.rig) determines (withstood-rests c.args.pairs.now c.args.test done.failed made).runs before)
    (λ stop stopped. stop-in_order c.args.proven.partition c.args.bonds.now g.R.Rig.state (g.R.Rig.state c.args.proven.rig) stop determines stopped before)
    c.stand_in_order.ensures.ok c.stand_in_order.ensures.err

pub returns-clause-tallies : goal.returns-clause-tallies
returns-clause-tallies g c =
    IfOk-map c.stand_in_order.result _ _ (λ done made. withstood-tallies c.args.bonds.now (g.R.Rig.state c.args.proven.rig) (g.R.Rig.state done.proven.rig) c.args.pairs.now c.args.test done.failed c.points-point_count.ensures.seating.unpowered made) c.stand_in_order.ensures.ok
