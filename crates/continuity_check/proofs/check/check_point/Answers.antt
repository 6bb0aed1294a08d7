use Rattle.std.proofs.Common.{ap}
use Rattle.rig.specs.RigState.{RigState}
use Rattle.continuity_check.proofs.Comparing.{Compares-met, Compares-open, StopsAt-here}
use Rattle.continuity_check.proofs.check.check_point.Goals as goal

pub returns-then-branch-clause-compares : goal.returns-then-branch-clause-compares
returns-then-branch-clause-compares g c =
    Compares-met (record { name = c.args.name.now; head = c.args.head; point = c.args.point }) c.requires.groups (rw c.if-branch.true at c.in_ok-conducts.ensures.call)

pub returns-clause-compares : goal.returns-clause-compares
returns-clause-compares g c =
    Compares-open (record { name = c.args.name.now; head = c.args.head; point = c.args.point }) c.requires.groups (rw c.if-branch.false at c.in_ok-conducts.ensures.call)
    c.in_ok-note_open.ensures.lines c.in_ok-note_open.ensures.opens

-- the failed reading is in no trail
pub returns-in_err-conducts-clause-failed : goal.returns-in_err-conducts-clause-failed
returns-in_err-conducts-clause-failed g c = λ failed.
    StopsAt-here c.args.sheet.now (record { name = c.args.name.now; head = c.args.head; point = c.args.point }) (ap (λ (s : RigState). s.trail) c.in_err-conducts.ensures.call.err)
