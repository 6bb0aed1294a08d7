use Rattle.std.proofs.Common.{[], ap, ◌∙◌, Option}
use Rattle.std.specs.Option.{option_or}
use Rattle.serials.specs.declared.decision.Rule.{Rule}
use Rattle.serials.specs.Decide.{not_marked, staff_missing}
use Rattle.serials.specs.RuleParts.{a_test}
use Rattle.serials.proofs.DecideLemmas.{testing_adopted}
use Rattle.serials.proofs.book.Book.against_testing.Goals as goal

pub returns-in-Some-calibration_over : goal.returns-in-Some-calibration_over
returns-in-Some-calibration_over c =
    let more = option_or (not_marked c.args.self.now (a_test c.args.staff.now)) (staff_missing c.args.self.now (a_test c.args.staff.now)) in
    ap (λ (o : Option Rule). option_or o more) (c.in-Some-calibration_over.ensures [] [] c.args.staff.now)
    ∙ testing_adopted c.args.self.now c.args.staff.now c.args.moment c.args.p.now c.in-Some.adopted.now c.in-Some.ensures c.if-not-are_same.ensures

pub returns : goal.returns
returns c =
    let more = option_or (not_marked c.args.self.now (a_test c.args.staff.now)) (staff_missing c.args.self.now (a_test c.args.staff.now)) in
    c.against_staff.ensures [] []
    ∙ (ap (λ (o : Option Rule). option_or o more) (c.in_default-calibration_over.ensures [] [] c.args.staff.now)
    ∙ testing_adopted c.args.self.now c.args.staff.now c.args.moment c.args.p.now c.in-Some.adopted.now c.in-Some.ensures c.if-not-are_same.ensures)
