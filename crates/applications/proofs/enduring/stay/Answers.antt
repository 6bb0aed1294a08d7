use Rattle.std.proofs.Common.{◌∙◌, arith, refl, sym}
use Rattle.applications.proofs.one_application.Climbing.{stopped}
use Rattle.applications.proofs.one_application.Turns.{Stayed-more, Stayed-none, closed-volts, stay-breaks, stay-no_door, stay-no_leak, stay-no_tick, stay-open}
use Rattle.applications.proofs.enduring.stay.Goals as goal

pub loop-i-init : goal.loop-i-init
loop-i-init g c = record { stayed = Stayed-none (g.R.Rig.state c.args.live.now.rig) c.args.volts c.args.nanoamps; partition = refl; permit = refl }

pub returns-in_err-door-clause-err : goal.returns-in_err-door-clause-err
returns-in_err-door-clause-err g c =
    stopped _ (stay-no_door c.requires.at c.loop-i.invariant.stayed c.in_err-door.ensures.call) c.from_residual.result c.from_residual.ensures.1

pub returns-then-not-branch-clause-err : goal.returns-then-not-branch-clause-err
returns-then-not-branch-clause-err g c = stay-open c.requires.at c.loop-i.invariant.stayed (rw c.if-not-branch.true at c.in_ok-door.ensures.call)

pub leak-requires : goal.leak-requires
leak-requires g c =
    let at = closed-volts c.requires.at c.loop-i.invariant.stayed (rw c.if-not-branch.false at c.in_ok-door.ensures.call) in
    let some = c.requires.some in
    omega arith

pub returns-in_err-leak-clause-err : goal.returns-in_err-leak-clause-err
returns-in_err-leak-clause-err g c =
    stopped _ (stay-no_leak c.requires.at c.loop-i.invariant.stayed (rw c.if-not-branch.false at c.in_ok-door.ensures.call) c.in_err-leak.ensures.call) c.from_residual-in_err-leak.result c.from_residual-in_err-leak.ensures.1

pub returns-then-is_breakdown-clause-ok : goal.returns-then-is_breakdown-clause-ok
returns-then-is_breakdown-clause-ok g c =
    stay-breaks c.requires.at c.loop-i.invariant.stayed (rw c.if-not-branch.false at c.in_ok-door.ensures.call) c.in_ok-leak.ensures.call (sym c.is_breakdown.ensures ∙ c.if-is_breakdown.true)

pub returns-in_err-tick-clause-err : goal.returns-in_err-tick-clause-err
returns-in_err-tick-clause-err g c =
    stopped _ (stay-no_tick c.requires.at c.loop-i.invariant.stayed (rw c.if-not-branch.false at c.in_ok-door.ensures.call) c.in_ok-leak.ensures.call c.in_err-tick.ensures.call) c.from_residual-in_err-tick.result c.from_residual-in_err-tick.ensures.1

pub loop-i-preserved : goal.loop-i-preserved
loop-i-preserved g c = record {
  stayed = Stayed-more c.requires.at c.loop-i.invariant.stayed (rw c.if-not-branch.false at c.in_ok-door.ensures.call) c.in_ok-leak.ensures.call c.requires.some (sym c.is_breakdown.ensures ∙ c.if-is_breakdown.false) c.in_ok-tick.ensures.call;
  partition = c.in_ok-tick.ensures.partition ∙ c.in_ok-leak.ensures.partition ∙ c.in_ok-door.ensures.partition ∙ c.loop-i.invariant.partition;
  permit = c.in_ok-tick.ensures.permit ∙ c.in_ok-leak.ensures.permit ∙ c.in_ok-door.ensures.permit ∙ c.loop-i.invariant.permit;
}
