use Rattle.std.proofs.Common.{arith}
use Rattle.applications.proofs.one_application.Climbing.{passed_on, stopped}
use Rattle.applications.proofs.one_application.Held.{dwell-broken, dwelt-volts, holds, no_leak}
use Rattle.applications.proofs.holding.hold.Goals as goal

pub returns-in_err-dwell-clause-err : goal.returns-in_err-dwell-clause-err
returns-in_err-dwell-clause-err g c =
    passed_on (dwell-broken c.requires.zero c.requires.by_fifty c.requires.most c.in_ok-climb.ensures.ok _ c.in_err-dwell.ensures.err) c.from_residual-in_err-dwell.result c.from_residual-in_err-dwell.ensures.1

pub leak-requires : goal.leak-requires
leak-requires g c =
    let at = dwelt-volts c.requires.zero c.requires.by_fifty c.requires.most c.in_ok-climb.ensures.ok c.args.ticks c.in_ok-dwell.ensures.ok in
    let some = c.requires.some in
    omega arith

pub returns-in_err-leak-clause-err : goal.returns-in_err-leak-clause-err
returns-in_err-leak-clause-err g c =
    stopped _ (no_leak c.requires.zero c.requires.by_fifty c.requires.most c.in_ok-climb.ensures.ok c.args.ticks c.in_ok-dwell.ensures.ok _ c.in_err-leak.ensures.call) c.from_residual-in_err-leak.result c.from_residual-in_err-leak.ensures.1

pub returns-clause-ok : goal.returns-clause-ok
returns-clause-ok g c = holds c.requires.zero c.requires.by_fifty c.requires.most c.in_ok-climb.ensures.ok c.args.ticks c.in_ok-dwell.ensures.ok _ c.in_ok-leak.ensures.call
