use Rattle.std.proofs.Common.{◌+◌, ◌∙◌, [], Err, drop, sym, subst, ap, arith}
use Rattle.std.specs.Prelude.{zip}
use Rattle.continuity_check.specs.Compared.{compared_of}
use Rattle.rig.specs.RigState.{RigState}
use Rattle.rig.proofs.Reading.{Reads-refused}
use Rattle.continuity_check.specs.Trials.{Compares, empty_sheet}
use Rattle.continuity_check.proofs.Comparing.{StopsAt-after, was_failure}
use Rattle.continuity_check.proofs.Checking.{Checking, Checking-none, Checking-more}
use Rattle.continuity_check.proofs.NamedNets.{net_group, named_is, compared_of-more, compared_of-all, compared_of-split}
use Rattle.continuity_check.proofs.check.check_nets.Goals as goal

pub loop-i-init : goal.loop-i-init
loop-i-init g c =
    subst (λ s. Checking (g.R.Rig.state c.args.seat.now) (g.R.Rig.state c.args.seat.now) empty_sheet s []) (sym c.new-sheet.ensures)
    (Checking-none (g.R.Rig.state c.args.seat.now) empty_sheet (omega arith))

pub check_net-requires-clause-net : goal.check_net-requires-clause-net
check_net-requires-clause-net g c =
    net_group c.args.nets.now (g.R.Rig.state c.loop-i.seat).points c.loop-i.i c.net.result.now c.named-i-end.ensures.valid
    (c.requires.points ∙ sym (ap (λ (s : RigState). s.points) c.loop-i.invariant.reads.frame)) (omega (arith, c.loop-i-test.true, c.named-i-end.ensures.named)) c.net.ensures.net

pub returns-in_err-check_net-clause-reads : goal.returns-in_err-check_net-clause-reads
returns-in_err-check_net-clause-reads g c = Reads-refused c.loop-i.invariant.reads c.in_err-check_net.ensures.reads _ c.from_residual.ensures.1

pub loop-i-preserved : goal.loop-i-preserved
loop-i-preserved g c =
    Checking-more _ _ c.loop-i.invariant c.in_ok-check_net.ensures.reads c.in_ok-check_net.ensures.compares c.in_ok-check_net.ensures.fits
    (compared_of-more c.args.names.now c.args.nets.now.named c.loop-i.i c.index-names-i.result c.net.result.now c.requires.names (omega (arith, c.loop-i-test.true, c.named-i-end.ensures.named))
    c.index-names-i.is (c.net.ensures.net ∙ named_is c.args.nets.now c.loop-i.i (omega (arith, c.loop-i-test.true, c.named-i-end.ensures.named))))

pub returns-clause-compares : goal.returns-clause-compares
returns-clause-compares g c =
    subst (λ l. Compares (g.R.Rig.state c.args.seat.now) (g.R.Rig.state c.loop-i.seat) empty_sheet c.loop-i.sheet l)
    (compared_of-all c.args.names.now c.args.nets.now.named c.loop-i.i (omega (arith, c.loop-i-test.false, c.named-i-end.ensures.named))) c.loop-i.invariant.compares

pub returns-in_err-check_net-clause-failed : goal.returns-in_err-check_net-clause-failed
returns-in_err-check_net-clause-failed g c = λ failed.
    let i = c.loop-i.i in
    StopsAt-after (compared_of (drop (i + 1) (zip c.args.names.now c.args.nets.now.named))) c.loop-i.invariant.reads c.loop-i.invariant.compares
    (c.in_err-check_net.ensures.failed (ap Err (was_failure c.from_residual.result c.from_residual.ensures.1 failed)))
    (compared_of-split c.args.names.now c.args.nets.now.named i c.index-names-i.result c.net.result.now c.requires.names (omega (arith, c.loop-i-test.true, c.named-i-end.ensures.named))
    c.index-names-i.is (c.net.ensures.net ∙ named_is c.args.nets.now i (omega (arith, c.loop-i-test.true, c.named-i-end.ensures.named))))
