use Rattle.std.proofs.Common.{◌≡◌, ◌∙◌, true, false, List, Ok, refl, sym, ap, subst}
use Rattle.records.specs.declared.record.StationRecord.{StationRecord}
use Rattle.serials.specs.Decided.{IsDecided}
use Rattle.serials.specs.declared.decision.Decision.{Decision}
use Rattle.serials.specs.declared.decision.Decision.TheVariants as decision
use Rattle.ledger.specs.Kept.{is_full}
use Rattle.ledger.specs.Ledger.{Tells}
use Rattle.station.specs.declared.answer.Answer.TheVariants as answer
use Rattle.station.specs.declared.answer.Refused.TheVariants as refused
use Rattle.station.specs.AnswerText.{DecidesDays}
use Rattle.station.specs.Applied.{Applied}
use Rattle.station.specs.RigAfter.{TestOf}
use Rattle.station.specs.Step.{StepBy, verdict_at}
use Rattle.station.specs.View.{StationState}
use Rattle.station.proofs.Ending.{says_same, says_no, says_full}
use Rattle.station.proofs.Applying.{answers_same, keeps_applied, command_applied}
use Rattle.station.proofs.station.Station.carry_out.Goals as goal

pub returns-in-Same-clause-applied : goal.returns-in-Same-clause-applied
returns-in-Same-clause-applied g c =
    let s = c.args.self in
    let k = c.in-Same.number in
    let v = c.verdict_of-verdict.result in
    let verdict : v ≡ verdict_at s.records k =
    c.verdict_of-verdict.ensures ∙ ap (λ (R : List StationRecord). verdict_at R k) (c.as_slice.ensures ∙ c.records.ensures.records ∙ ap (λ (t : StationState). t.records) c.self.view_is) in
    subst (λ (d : Decision). Applied g.R.Rig.state g.D.Disk.state (TestOf c.args.c.now d) (λ f. StepBy f s.program s.records c.args.c.now c.args.moment d) s (Ok c.answered.result)) (sym c.in-Same.is)
    (answers_same g.R.Rig.state g.D.Disk.state (TestOf c.args.c.now (decision.Same k)) (λ f. StepBy f s.program s.records c.args.c.now c.args.moment (decision.Same k)) s
    c.answered.result (answer.Same k v) tt c.answered.ensures.answer c.answered.ensures.station c.answered.ensures.standing
    (λ tells f. says_same f s.program s.records c.args.c.now c.args.moment k v verdict) refl)

pub returns-in-No-clause-applied : goal.returns-in-No-clause-applied
returns-in-No-clause-applied g c =
    let s = c.args.self in
    let r = c.in-No.rule in
    subst (λ (d : Decision). Applied g.R.Rig.state g.D.Disk.state (TestOf c.args.c.now d) (λ f. StepBy f s.program s.records c.args.c.now c.args.moment d) s (Ok c.answered-in-No.result)) (sym c.in-No.is)
    (answers_same g.R.Rig.state g.D.Disk.state (TestOf c.args.c.now (decision.No r)) (λ f. StepBy f s.program s.records c.args.c.now c.args.moment (decision.No r)) s
    c.answered-in-No.result (answer.No (refused.Rule r)) (subst DecidesDays c.in-No.is c.requires.days) c.answered-in-No.ensures.answer c.answered-in-No.ensures.station c.answered-in-No.ensures.standing
    (λ tells f. says_no f s.program s.records c.args.c.now c.args.moment r) refl)

pub returns-in-Keep-clause-applied : goal.returns-in-Keep-clause-applied
returns-in-Keep-clause-applied g c =
    let s = c.args.self in
    subst (λ (d : Decision). Applied g.R.Rig.state g.D.Disk.state (TestOf c.args.c.now d) (λ f. StepBy f s.program s.records c.args.c.now c.args.moment d) s c.keep.result) (sym c.in-Keep.is)
    (keeps_applied g.R.Rig.state g.D.Disk.state s c.args.c.now c.args.moment (subst (IsDecided s.records c.args.c.now s.program) c.in-Keep.is c.requires.decided) c.keep.ensures.unpowered c.keep.result c.keep.ensures.storing)

pub returns-then-full-clause-applied : goal.returns-then-full-clause-applied
returns-then-full-clause-applied g c =
    let s = c.args.self in
    let a = c.in-Test.attempt in
    subst (λ (d : Decision). Applied g.R.Rig.state g.D.Disk.state (TestOf c.args.c.now d) (λ f. StepBy f s.program s.records c.args.c.now c.args.moment d) s (Ok c.answered-then-full.result)) (sym c.in-Test.is)
    (answers_same g.R.Rig.state g.D.Disk.state (TestOf c.args.c.now (decision.Test a)) (λ f. StepBy f s.program s.records c.args.c.now c.args.moment (decision.Test a)) s
    c.answered-then-full.result (answer.No refused.Full) tt c.answered-then-full.ensures.answer c.answered-then-full.ensures.station c.answered-then-full.ensures.standing
    (λ tells f. says_full f s.program s.records c.args.c.now c.args.moment a (subst (λ (t : StationState). Tells t.disk → is_full t.records ≡ true) c.self-in-Test.view_is (λ told. sym (c.full.ensures.told told) ∙ c.if-full.true) tells)) refl)

pub returns-in-Test-c-clause-applied : goal.returns-in-Test-c-clause-applied
returns-in-Test-c-clause-applied g c =
    let s = c.args.self in
    subst (λ (d : Decision). Applied g.R.Rig.state g.D.Disk.state (TestOf c.args.c.now d) (λ f. StepBy f s.program s.records c.args.c.now c.args.moment d) s c.test.result) (sym c.in-Test.is)
    (command_applied g.R.Rig.state g.D.Disk.state s c.in-Test-c.id c.in-Test-c.serial c.in-Test-c.staff c.in-Test.attempt c.args.moment c.args.c.now c.test.result c.in-Test-c.is
    (subst (λ (t : StationState). Tells t.disk → is_full t.records ≡ false) c.self-in-Test.view_is (λ told. sym (c.full.ensures.told told) ∙ c.if-full.false)) c.test.ensures.applied)
