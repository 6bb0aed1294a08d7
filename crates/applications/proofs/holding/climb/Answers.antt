use Rattle.std.proofs.Common.{◌∙◌, arith}
use Rattle.applications.proofs.one_application.Climbing.{Climbing-more, Climbing-volts, climb-broken, climb-no_tick, passed_on, stopped}
use Rattle.applications.proofs.holding.climb.Goals as goal

pub step-requires : goal.step-requires
step-requires g c =
    let at = Climbing-volts c.requires.zero c.loop-i.invariant.climbing in
    let less = c.loop-i-test.true in
    let most = c.requires.most in
    omega arith

pub returns-in_err-step-clause-err : goal.returns-in_err-step-clause-err
returns-in_err-step-clause-err g c =
    passed_on (climb-broken c.requires.zero c.loop-i-test.true c.requires.most c.loop-i.invariant.climbing c.in_err-step.ensures.steps) c.from_residual.result c.from_residual.ensures.1

pub returns-in_err-tick-clause-err : goal.returns-in_err-tick-clause-err
returns-in_err-tick-clause-err g c =
    stopped _ (climb-no_tick c.requires.zero c.loop-i-test.true c.requires.most c.loop-i.invariant.climbing c.in_ok-step.ensures.steps c.in_err-tick.ensures.call) c.from_residual-in_err-tick.result c.from_residual-in_err-tick.ensures.1

pub loop-i-preserved : goal.loop-i-preserved
loop-i-preserved g c = record {
  climbing = Climbing-more c.requires.zero c.loop-i.invariant.climbing c.in_ok-step.ensures.steps c.in_ok-tick.ensures.call;
  partition = c.in_ok-tick.ensures.partition ∙ c.in_ok-step.ensures.partition ∙ c.loop-i.invariant.partition;
  permit = c.in_ok-tick.ensures.permit ∙ c.in_ok-step.ensures.permit ∙ c.loop-i.invariant.permit;
}
