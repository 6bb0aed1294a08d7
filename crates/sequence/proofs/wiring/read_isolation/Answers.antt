use Rattle.std.proofs.Common.{ℕ, ◌+◌, ◌-◌, ◌≤◌, List, None, ◌∙◌, arith, subst}
use Rattle.partition.specs.Digits.{digits_of}
use Rattle.partition.specs.Heads.{heads}
use Rattle.isolate.specs.Coded.{IsShortReading}
use Rattle.isolate.specs.Counts.{ReadsJudged}
use Rattle.learn.specs.Learned.{IsLearned}
use Rattle.unit_outcome.specs.Enough.{class_count, net_classes}
use Rattle.sequence.proofs.Contradicted.{short-contradicts}
use Rattle.rig.specs.Readings.{Reads}
use Rattle.sequence.proofs.stages.Wirings.{differs-then, isolated, stops-then, when_err, when_ok, wiring-of}
use Rattle.sequence.proofs.wiring.read_isolation.Goals as goal

pub read_difference-requires-clause-contradiction : goal.read_difference-requires-clause-contradiction
read_difference-requires-clause-contradiction g c =
    let state = g.R.Rig.state c.in-Err-ShortAt.seat in
    let short = rw c.in-Err-ShortAt.field-0-is at c.in-Err-ShortAt.ensures.short in
    short-contradicts c.args.p.now state c.in-Err-ShortAt.field-0-1 (subst (λ (m : List ℕ). IsShortReading state (heads m) c.in-Err-ShortAt.field-0-1) c.requires.partition short)

pub returns-in-Ok-clause-ok : goal.returns-in-Ok-clause-ok
returns-in-Ok-clause-ok g c = (
  c.in-Ok.ensures.partition ∙ c.requires.partition,
  isolated c.requires.partition c.in-Ok.ensures.reads c.in-Ok.ensures.judged (subst (IsLearned (g.R.Rig.state c.in-Ok.proven.rig)) c.in-Ok.ensures.partition c.in-Ok.ensures.proven) c.in-Ok.ensures.spent,
)

pub returns-in-Err-ShortAt-clause-ok : goal.returns-in-Err-ShortAt-clause-ok
returns-in-Err-ShortAt-clause-ok g c =
    let p = c.args.p.now in
    let s = g.R.Rig.state c.args.unit.rig in
    let t = g.R.Rig.state c.in-Err-ShortAt.seat in
    let reads : Reads s t None = rw c.in-Err-ShortAt.field-0-is at c.in-Err-ShortAt.ensures.reads in
    let judged : ReadsJudged c.args.unit.partition s t = rw c.in-Err-ShortAt.field-0-is at c.in-Err-ShortAt.ensures.judged in
    let most : t.spent ≤ s.spent + digits_of (class_count c.args.unit.partition - 1) = rw c.in-Err-ShortAt.field-0-is at c.in-Err-ShortAt.ensures.at_most in
    let n = digits_of (net_classes p - 1) in
    let bound : t.spent ≤ s.spent + n = subst (λ (m : List ℕ). t.spent ≤ s.spent + digits_of (class_count m - 1)) c.requires.partition most in
    when_ok c.read_difference.result _ _ (differs-then g.R.Rig.state p (wiring-of c.requires.partition reads judged) n n bound (omega arith)) c.read_difference.ensures.ok

pub returns-in-Err-ShortAt-clause-err : goal.returns-in-Err-ShortAt-clause-err
returns-in-Err-ShortAt-clause-err g c =
    let s = g.R.Rig.state c.args.unit.rig in
    let t = g.R.Rig.state c.in-Err-ShortAt.seat in
    let reads : Reads s t None = rw c.in-Err-ShortAt.field-0-is at c.in-Err-ShortAt.ensures.reads in
    let judged : ReadsJudged c.args.unit.partition s t = rw c.in-Err-ShortAt.field-0-is at c.in-Err-ShortAt.ensures.judged in
    when_err c.read_difference.result _ _ (stops-then g.R.Rig.state c.args.p.now (wiring-of c.requires.partition reads judged)) c.read_difference.ensures.err
