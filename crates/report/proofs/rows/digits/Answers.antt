use Rattle.std.proofs.Common.{List, ℕ, sym, subst, ◌∙◌, arith}
use Rattle.report.specs.Writing.{IsPlain}
use Rattle.report.proofs.PlainRows.{decimal_plain}
use Rattle.report.proofs.rows.digits.Goals as goal

pub returns-clause-plain : goal.returns-clause-plain
returns-clause-plain c =
    subst (λ (l : List ℕ). IsPlain l) (sym (c.from_string.ensures ∙ c.in_ok-text.ensures.ok)) (decimal_plain c.args.number (omega arith))
