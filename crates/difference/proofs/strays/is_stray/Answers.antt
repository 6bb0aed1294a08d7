use Rattle.std.proofs.Common.{arith}
use Rattle.difference.proofs.MeasuredLemmas.{counts_judged, judged_inside, measured_size, none_judged}
use Rattle.difference.proofs.StraySteps.{head_is, stray_is, stray_not}
use Rattle.difference.proofs.strays.is_stray.Goals as goal

pub judges-requires : goal.judges-requires
judges-requires c = omega (arith, measured_size c.args.nets.now c.args.measured.now c.requires.measured, c.requires.inside)

pub net_of-requires : goal.net_of-requires
net_of-requires c = counts_judged c.args.nets.now c.args.measured.now c.requires.measured c.requires.few c.args.point (c.judges.ensures.judged c.if-judges.true)

pub same-requires-clause-b : goal.same-requires-clause-b
same-requires-clause-b c = judged_inside c.args.nets.now c.args.measured.now c.requires.measured c.head.result c.head.ensures.judged

pub returns-then-judges : goal.returns-then-judges
returns-then-judges c =
    stray_is c.args.nets.now c.args.measured.now c.args.point c.head.result c.same.result
    (counts_judged c.args.nets.now c.args.measured.now c.requires.measured c.requires.few c.args.point (c.judges.ensures.judged c.if-judges.true))
    (head_is c.args.nets.now c.args.point c.net_of.result c.head.result c.net_of.ensures.number c.head.ensures.head) c.same.ensures

pub returns-else-judges : goal.returns-else-judges
returns-else-judges c =
    stray_not c.args.nets.now c.args.measured.now c.args.point c.judges.result c.if-judges.false
    (none_judged c.args.nets.now c.args.measured.now c.requires.measured c.requires.few c.args.point (c.judges.ensures.none c.if-judges.false))
