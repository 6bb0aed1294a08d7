use Rattle.std.proofs.Common.{◌+◌, ◌-◌, ◌≤◌, None, arith, refl}
use Rattle.partition.specs.Digits.{digits_of}
use Rattle.isolate.specs.Counts.{ReadsJudged}
use Rattle.partition.specs.NetTable.{programmed_of}
use Rattle.isolate.specs.Opens.{IsOpen}
use Rattle.rig.specs.Readings.{Reads}
use Rattle.sequence.specs.Wired.{IsOfJudged}
use Rattle.unit_outcome.specs.Enough.{checking_readings, judged_count, net_classes}
use Rattle.sequence.proofs.Contradicted.{open-contradicts}
use Rattle.sequence.proofs.stages.Wirings.{continuity-bound, continuity-count, differs-then, still-judged, stops-then, when_err, when_ok, wires-then, wiring-of}
use Rattle.sequence.proofs.wiring.read_wiring.Goals as goal

pub read_isolation-requires-clause-judged : goal.read_isolation-requires-clause-judged
read_isolation-requires-clause-judged g c = still-judged {p = c.args.p.now} c.requires.judged (wiring-of refl c.in-Ok.ensures.reads c.in-Ok.ensures.judged)

pub returns-in-Ok-clause-ok : goal.returns-in-Ok-clause-ok
returns-in-Ok-clause-ok g c =
    let p = c.args.p.now in
    let s = g.R.Rig.state c.args.seat in
    let t = g.R.Rig.state c.in-Ok.unit.rig in
    let a = judged_count p - net_classes p in
    let b = digits_of (net_classes p - 1) in
    when_ok c.read_isolation.result _ _
    (wires-then g.R.Rig.state p (wiring-of refl c.in-Ok.ensures.reads c.in-Ok.ensures.judged) a b (checking_readings p) (continuity-count p c.requires.program s t c.in-Ok.ensures.spent) refl)
    c.read_isolation.ensures.ok

pub returns-in-Ok-clause-err : goal.returns-in-Ok-clause-err
returns-in-Ok-clause-err g c =
    when_err c.read_isolation.result _ _ (stops-then g.R.Rig.state c.args.p.now (wiring-of refl c.in-Ok.ensures.reads c.in-Ok.ensures.judged)) c.read_isolation.ensures.err

pub read_difference-requires-clause-judged : goal.read_difference-requires-clause-judged
read_difference-requires-clause-judged g c =
    let s = g.R.Rig.state c.args.seat in
    let t = g.R.Rig.state c.in-Err-OpenAt.seat in
    let reads : Reads s t None = rw c.in-Err-OpenAt.field-0-is at c.in-Err-OpenAt.ensures.reads in
    let judged : ReadsJudged (programmed_of c.args.p.now.nets) s t = rw c.in-Err-OpenAt.field-0-is at c.in-Err-OpenAt.ensures.judged in
    still-judged {p = c.args.p.now} c.requires.judged (wiring-of refl reads judged)

pub read_difference-requires-clause-contradiction : goal.read_difference-requires-clause-contradiction
read_difference-requires-clause-contradiction g c =
    let s = g.R.Rig.state c.args.seat in
    let t = g.R.Rig.state c.in-Err-OpenAt.seat in
    let reads : Reads s t None = rw c.in-Err-OpenAt.field-0-is at c.in-Err-OpenAt.ensures.reads in
    let judged : ReadsJudged (programmed_of c.args.p.now.nets) s t = rw c.in-Err-OpenAt.field-0-is at c.in-Err-OpenAt.ensures.judged in
    let open_at : IsOpen t c.args.p.now.nets c.in-Err-OpenAt.field-0-1 c.in-Err-OpenAt.field-0-2 = rw c.in-Err-OpenAt.field-0-is at c.in-Err-OpenAt.ensures.open in
    let now : IsOfJudged c.args.p.now t = still-judged {p = c.args.p.now} c.requires.judged (wiring-of refl reads judged) in
    open-contradicts c.args.p.now c.requires.program t c.in-Err-OpenAt.field-0-1 c.in-Err-OpenAt.field-0-2 open_at now

pub returns-in-Err-OpenAt-clause-ok : goal.returns-in-Err-OpenAt-clause-ok
returns-in-Err-OpenAt-clause-ok g c =
    let p = c.args.p.now in
    let s = g.R.Rig.state c.args.seat in
    let t = g.R.Rig.state c.in-Err-OpenAt.seat in
    let reads : Reads s t None = rw c.in-Err-OpenAt.field-0-is at c.in-Err-OpenAt.ensures.reads in
    let judged : ReadsJudged (programmed_of p.nets) s t = rw c.in-Err-OpenAt.field-0-is at c.in-Err-OpenAt.ensures.judged in
    let most : t.spent + net_classes p ≤ s.spent + judged_count p = rw c.in-Err-OpenAt.field-0-is at c.in-Err-OpenAt.ensures.at_most in
    let a = judged_count p - net_classes p in
    when_ok c.read_difference.result _ _ (differs-then g.R.Rig.state p (wiring-of refl reads judged) a (checking_readings p) (continuity-bound p c.requires.program s t most) (omega arith)) c.read_difference.ensures.ok

pub returns-in-Err-OpenAt-clause-err : goal.returns-in-Err-OpenAt-clause-err
returns-in-Err-OpenAt-clause-err g c =
    let s = g.R.Rig.state c.args.seat in
    let t = g.R.Rig.state c.in-Err-OpenAt.seat in
    let reads : Reads s t None = rw c.in-Err-OpenAt.field-0-is at c.in-Err-OpenAt.ensures.reads in
    let judged : ReadsJudged (programmed_of c.args.p.now.nets) s t = rw c.in-Err-OpenAt.field-0-is at c.in-Err-OpenAt.ensures.judged in
    when_err c.read_difference.result _ _ (stops-then g.R.Rig.state c.args.p.now (wiring-of refl reads judged)) c.read_difference.ensures.err
