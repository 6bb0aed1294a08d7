use Rattle.std.proofs.Common.{None, Some, sym, ◌∙◌}
use Rattle.serials.proofs.DecideLemmas.{is_number, decide-again, decide-rules, all_decided}
use Rattle.serials.proofs.book.Book.decide.Goals as goal

pub again-requires : goal.again-requires
again-requires c = is_number c.args.self.now c.id.result c.in-Some.number (sym c.by_id.ensures ∙ c.in-Some.is)

pub returns-in-Some-clause-by_the_rules : goal.returns-in-Some-clause-by_the_rules
returns-in-Some-clause-by_the_rules c =
    c.again.ensures ∙ sym (decide-again c.args.self.now c.args.c.now c.args.moment c.args.p.now c.id.result c.in-Some.number c.id.ensures (sym c.by_id.ensures ∙ c.in-Some.is))

pub returns-in-Some-clause-decided : goal.returns-in-Some-clause-decided
returns-in-Some-clause-decided c =
    all_decided c.args.self.now c.args.c.now c.args.moment c.args.p.now c.again.result
    (c.again.ensures ∙ sym (decide-again c.args.self.now c.args.c.now c.args.moment c.args.p.now c.id.result c.in-Some.number c.id.ensures (sym c.by_id.ensures ∙ c.in-Some.is)))

pub returns-in-Some-rule_against-clause-by_the_rules : goal.returns-in-Some-rule_against-clause-by_the_rules
returns-in-Some-rule_against-clause-by_the_rules c =
    sym (decide-rules c.args.self.now c.args.c.now c.args.moment c.args.p.now c.id.result (Some c.in-Some-rule_against.rule) c.id.ensures (sym c.by_id.ensures ∙ c.in_default.is) (sym c.in-Some-rule_against.is ∙ c.rule_against.ensures))

pub returns-in-None-clause-by_the_rules : goal.returns-in-None-clause-by_the_rules
returns-in-None-clause-by_the_rules c =
    c.allowed.ensures ∙ sym (decide-rules c.args.self.now c.args.c.now c.args.moment c.args.p.now c.id.result None c.id.ensures (sym c.by_id.ensures ∙ c.in_default.is) (sym c.in-None.is ∙ c.rule_against.ensures))
