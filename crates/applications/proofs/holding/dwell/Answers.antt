use Rattle.std.proofs.Common.{◌∙◌}
use Rattle.applications.proofs.one_application.Climbing.{Dwelling-more, dwell-no_door, dwell-no_tick, dwell-open, stopped}
use Rattle.applications.proofs.holding.dwell.Goals as goal

pub returns-in_err-door-clause-err : goal.returns-in_err-door-clause-err
returns-in_err-door-clause-err g c =
    stopped _ (dwell-no_door c.loop-i.invariant.dwelling c.in_err-door.ensures.call) c.from_residual.result c.from_residual.ensures.1

pub returns-then-not-branch-clause-err : goal.returns-then-not-branch-clause-err
returns-then-not-branch-clause-err g c = dwell-open c.loop-i.invariant.dwelling (rw c.if-not-branch.true at c.in_ok-door.ensures.call)

pub returns-in_err-tick-clause-err : goal.returns-in_err-tick-clause-err
returns-in_err-tick-clause-err g c =
    stopped _ (dwell-no_tick c.loop-i.invariant.dwelling (rw c.if-not-branch.false at c.in_ok-door.ensures.call) c.in_err-tick.ensures.call) c.from_residual-in_err-tick.result c.from_residual-in_err-tick.ensures.1

pub loop-i-preserved : goal.loop-i-preserved
loop-i-preserved g c = record {
  dwelling = Dwelling-more c.loop-i.invariant.dwelling (rw c.if-not-branch.false at c.in_ok-door.ensures.call) c.in_ok-tick.ensures.call;
  partition = c.in_ok-tick.ensures.partition ∙ c.in_ok-door.ensures.partition ∙ c.loop-i.invariant.partition;
  permit = c.in_ok-tick.ensures.permit ∙ c.in_ok-door.ensures.permit ∙ c.loop-i.invariant.permit;
}
