use Rattle.std.proofs.Common.{ap, arith}
use Rattle.rig.specs.RigState.{RigState}
use Rattle.rig.specs.Trail.{ReadsAmong}
use Rattle.rig.proofs.Reading.{Reads-none, Extends-refl}
use Rattle.learn.proofs.Possible.{Extends-conducts}
use Rattle.isolate.proofs.Checking.{head_judged, heads_to-other, heads_to-skip, heads_to-read}
use Rattle.isolate.proofs.JudgedCounts.{judged_to-more, judged_to-skip}
use Rattle.isolate.proofs.opens.is_open.Goals as goal

pub returns-then-not-judges-clause-reads : goal.returns-then-not-judges-clause-reads
returns-then-not-judges-clause-reads g c = Reads-none _

pub returns-then-not-judges-clause-spent : goal.returns-then-not-judges-clause-spent
returns-then-not-judges-clause-spent g c =
    let none = c.judges.ensures.none c.if-not-judges.true in
    let few = c.requires.partition.few in
    omega (arith, heads_to-other c.args.programmed.now c.args.point (λ own. absurd (omega arith)), judged_to-skip c.args.programmed.now c.args.point none)

pub returns-then-not-judges-clause-at_most : goal.returns-then-not-judges-clause-at_most
returns-then-not-judges-clause-at_most g c =
    let none = c.judges.ensures.none c.if-not-judges.true in
    let few = c.requires.partition.few in
    omega (arith, heads_to-other c.args.programmed.now c.args.point (λ own. absurd (omega arith)), judged_to-skip c.args.programmed.now c.args.point none)

pub returns-then-eq-clause-reads : goal.returns-then-eq-clause-reads
returns-then-eq-clause-reads g c = Reads-none _

pub returns-then-eq-clause-spent : goal.returns-then-eq-clause-spent
returns-then-eq-clause-spent g c = omega
    (arith, heads_to-skip c.args.programmed.now c.args.point c.class_of-head.result c.class_of-head.ensures c.if-eq.ensures, judged_to-more c.args.programmed.now c.args.point (c.judges.ensures.judged c.if-not-judges.false))

pub returns-then-eq-clause-at_most : goal.returns-then-eq-clause-at_most
returns-then-eq-clause-at_most g c = omega
    (arith, heads_to-skip c.args.programmed.now c.args.point c.class_of-head.result c.class_of-head.ensures c.if-eq.ensures, judged_to-more c.args.programmed.now c.args.point (c.judges.ensures.judged c.if-not-judges.false))

pub returns-in_err-conducts-clause-at_most : goal.returns-in_err-conducts-clause-at_most
returns-in_err-conducts-clause-at_most g c = omega
    (arith, heads_to-read c.args.programmed.now c.args.point c.class_of-head.result c.class_of-head.ensures c.if-eq.ensures, judged_to-more c.args.programmed.now c.args.point (c.judges.ensures.judged c.if-not-judges.false), c.in_err-conducts.ensures.call.spent.1)

pub returns-clause-spent : goal.returns-clause-spent
returns-clause-spent g c = omega
    (arith, heads_to-read c.args.programmed.now c.args.point c.class_of-head.result c.class_of-head.ensures c.if-eq.ensures, judged_to-more c.args.programmed.now c.args.point (c.judges.ensures.judged c.if-not-judges.false), ap (λ (s : RigState). s.spent) c.in_ok-conducts.ensures.call.ok)

pub returns-clause-at_most : goal.returns-clause-at_most
returns-clause-at_most g c = omega
    (arith, heads_to-read c.args.programmed.now c.args.point c.class_of-head.result c.class_of-head.ensures c.if-eq.ensures, judged_to-more c.args.programmed.now c.args.point (c.judges.ensures.judged c.if-not-judges.false), ap (λ (s : RigState). s.spent) c.in_ok-conducts.ensures.call.ok)

pub returns-then-not-judges-clause-judged : goal.returns-then-not-judges-clause-judged
returns-then-not-judges-clause-judged g c = Extends-refl (ReadsAmong c.args.programmed.now) _

pub returns-then-eq-clause-judged : goal.returns-then-eq-clause-judged
returns-then-eq-clause-judged g c = Extends-refl (ReadsAmong c.args.programmed.now) _

pub returns-in_err-conducts-clause-judged : goal.returns-in_err-conducts-clause-judged
returns-in_err-conducts-clause-judged g c =
    Extends-conducts (ReadsAmong c.args.programmed.now) _ c.in_err-conducts.ensures.call
    (head_judged c.args.programmed.now c.args.point c.class_of-head.result c.requires.partition.partition
    (c.judges.ensures.judged c.if-not-judges.false) c.class_of-head.ensures)

pub returns-clause-judged : goal.returns-clause-judged
returns-clause-judged g c =
    Extends-conducts (ReadsAmong c.args.programmed.now) _ c.in_ok-conducts.ensures.call
    (head_judged c.args.programmed.now c.args.point c.class_of-head.result c.requires.partition.partition
    (c.judges.ensures.judged c.if-not-judges.false) c.class_of-head.ensures)
