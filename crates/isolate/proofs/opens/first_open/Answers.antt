use Rattle.std.proofs.Common.{arith}
use Rattle.rig.specs.Trail.{ReadsAmong}
use Rattle.rig.proofs.Reading.{Reads-then, Reads-refused, Extends-trans}
use Rattle.isolate.proofs.Checking.{Checking-all, Checking-bound, Checking-next, Checking-start}
use Rattle.isolate.proofs.opens.first_open.Goals as goal

pub loop-i-init : goal.loop-i-init
loop-i-init g c = Checking-start _ _
    (record { partition = c.points.ensures.valid.partition; points = c.requires.points; some = c.requires.some; few = c.points.ensures.valid.few })

pub returns-in_err-is_open-clause-reads : goal.returns-in_err-is_open-clause-reads
returns-in_err-is_open-clause-reads g c = Reads-refused c.loop-i.invariant.reads c.in_err-is_open.ensures.reads _ c.from_residual.ensures.1

pub returns-in_err-is_open-clause-at_most : goal.returns-in_err-is_open-clause-at_most
returns-in_err-is_open-clause-at_most g c = Checking-bound c.loop-i.invariant _ (omega arith) c.in_err-is_open.ensures.at_most

pub returns-then-branch-clause-reads : goal.returns-then-branch-clause-reads
returns-then-branch-clause-reads g c = Reads-then c.loop-i.invariant.reads c.in_ok-is_open.ensures.reads

pub returns-then-branch-clause-at_most : goal.returns-then-branch-clause-at_most
returns-then-branch-clause-at_most g c = Checking-bound c.loop-i.invariant _ (omega arith) c.in_ok-is_open.ensures.at_most

pub returns-in_err-is_open-clause-judged : goal.returns-in_err-is_open-clause-judged
returns-in_err-is_open-clause-judged g c = Extends-trans (ReadsAmong c.args.programmed.now) _ _ _ c.loop-i.invariant.among c.in_err-is_open.ensures.judged

pub returns-then-branch-clause-judged : goal.returns-then-branch-clause-judged
returns-then-branch-clause-judged g c = Extends-trans (ReadsAmong c.args.programmed.now) _ _ _ c.loop-i.invariant.among c.in_ok-is_open.ensures.judged

pub loop-i-preserved : goal.loop-i-preserved
loop-i-preserved g c = Checking-next c.loop-i.invariant c.in_ok-is_open.ensures.reads c.in_ok-is_open.ensures.judged
    (λ other possible has. c.in_ok-is_open.ensures.joined (cc) has other possible) c.in_ok-is_open.ensures.spent

pub returns-clause-continuous : goal.returns-clause-continuous
returns-clause-continuous g c = λ _. record { partition = c.loop-i.invariant.partition; forces = Checking-all c.loop-i.invariant (omega arith) }
