use Rattle.std.proofs.Common.{ap, sym, ◌∙◌}
use Rattle.serials.specs.declared.command.Command.TheVariants as command
use Rattle.serials.specs.declared.facts.SerialFacts.{SerialFacts}
use Rattle.serials.specs.Decide.{not_newer, not_later, no_wirelist, enrolled_already}
use Rattle.serials.specs.RuleParts.{unit_rule, test_rule}
use Rattle.std.specs.Option.{option_or}
use Rattle.serials.proofs.DecideLemmas.{or_none, enrol_table, at_command, test_passed}
use Rattle.serials.proofs.book.Book.rule_against.Goals as goal

pub returns-in-Adopt : goal.returns-in-Adopt
returns-in-Adopt c =
    let d = command.Adopt c.in-Adopt.id in
    at_command c.args.self.now c.args.c.now d c.args.moment c.args.p.now c.not_newer.result c.in-Adopt.is (c.not_newer.ensures c.in-Adopt.id ∙ sym (or_none (not_newer c.args.self.now c.args.p.now d)))

pub returns-in-Calibrate : goal.returns-in-Calibrate
returns-in-Calibrate c =
    let d = command.Calibrate c.in-Calibrate.id c.in-Calibrate.day in
    at_command c.args.self.now c.args.c.now d c.args.moment c.args.p.now c.not_later.result c.in-Calibrate.is (c.not_later.ensures c.in-Calibrate.id ∙ sym (or_none (not_later c.args.self.now d)))

pub returns-in-Enrol : goal.returns-in-Enrol
returns-in-Enrol c =
    let d = command.Enrol c.in-Enrol.id c.in-Enrol.serial in
    at_command c.args.self.now c.args.c.now d c.args.moment c.args.p.now c.against_enrolment.result c.in-Enrol.is
    (c.against_enrolment.ensures c.in-Enrol.id ∙ enrol_table (no_wirelist c.args.self.now d) (enrolled_already c.args.self.now d))

pub returns-in-None : goal.returns-in-None
returns-in-None c =
    let R = c.args.self.now in
    let p = c.args.p.now in
    let d = command.Test c.in-Test.id c.in-Test.serial c.in-Test.staff in
    let ruled = c.against_test.ensures ∙ ap (λ (f : SerialFacts). option_or (unit_rule f) (test_rule f p.attempts)) c.history.ensures in
    at_command R c.args.c.now d c.args.moment p c.against_test.result c.in-Test.is
    (test_passed R c.in-Test.id c.in-Test.serial c.in-Test.staff c.args.moment p c.against_test.result (sym c.in-None.is ∙ c.against_testing.ensures) ruled)
