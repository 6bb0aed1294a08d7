use Rattle.std.proofs.Common.{◌∙◌, arith, refl, sym}
use Rattle.applications.proofs.one_application.Climbing.{passed_on, stopped}
use Rattle.applications.proofs.one_application.Turns.{Risen-more, Risen-none, Risen-volts, raised-volts, rise-breaks, rise-no_leak, rise-no_step, rise-no_tick}
use Rattle.applications.proofs.enduring.rise.Goals as goal

pub loop-i-init : goal.loop-i-init
loop-i-init g c = record { rose = Risen-none (g.R.Rig.state c.args.live.now.rig) c.args.nanoamps; partition = refl; permit = refl }

pub step-requires : goal.step-requires
step-requires g c =
    let at = Risen-volts c.requires.zero c.loop-i.invariant.rose in
    let less = c.loop-i-test.true in
    let most = c.requires.most in
    omega arith

pub returns-in_err-step-clause-err : goal.returns-in_err-step-clause-err
returns-in_err-step-clause-err g c =
    passed_on (rise-no_step c.requires.zero c.loop-i-test.true c.requires.most c.loop-i.invariant.rose c.in_err-step.ensures.steps) c.from_residual.result c.from_residual.ensures.1

pub leak-requires : goal.leak-requires
leak-requires g c =
    let at = raised-volts c.requires.zero c.loop-i-test.true c.requires.most c.loop-i.invariant.rose c.in_ok-step.ensures.steps in
    omega arith

pub returns-in_err-leak-clause-err : goal.returns-in_err-leak-clause-err
returns-in_err-leak-clause-err g c =
    stopped _ (rise-no_leak c.requires.zero c.loop-i-test.true c.requires.most c.loop-i.invariant.rose c.in_ok-step.ensures.steps c.in_err-leak.ensures.call) c.from_residual-in_err-leak.result c.from_residual-in_err-leak.ensures.1

pub returns-in_err-tick-clause-err : goal.returns-in_err-tick-clause-err
returns-in_err-tick-clause-err g c =
    stopped _ (rise-no_tick c.requires.zero c.loop-i-test.true c.requires.most c.loop-i.invariant.rose c.in_ok-step.ensures.steps c.in_ok-leak.ensures.call c.in_err-tick.ensures.call) c.from_residual-in_err-tick.result c.from_residual-in_err-tick.ensures.1

pub returns-then-is_breakdown-clause-ok : goal.returns-then-is_breakdown-clause-ok
returns-then-is_breakdown-clause-ok g c =
    rise-breaks c.requires.zero c.loop-i-test.true c.requires.most c.loop-i.invariant.rose c.in_ok-step.ensures.steps c.in_ok-leak.ensures.call (sym c.is_breakdown.ensures ∙ c.if-is_breakdown.true)

pub loop-i-preserved : goal.loop-i-preserved
loop-i-preserved g c = record {
  rose = Risen-more c.requires.zero c.loop-i-test.true c.requires.most c.loop-i.invariant.rose c.in_ok-step.ensures.steps c.in_ok-leak.ensures.call (sym c.is_breakdown.ensures ∙ c.if-is_breakdown.false) c.in_ok-tick.ensures.call;
  partition = c.in_ok-tick.ensures.partition ∙ c.in_ok-leak.ensures.partition ∙ c.in_ok-step.ensures.partition ∙ c.loop-i.invariant.partition;
  permit = c.in_ok-tick.ensures.permit ∙ c.in_ok-leak.ensures.permit ∙ c.in_ok-step.ensures.permit ∙ c.loop-i.invariant.permit;
}
