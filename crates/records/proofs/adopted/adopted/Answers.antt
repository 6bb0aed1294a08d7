use Rattle.std.proofs.Common.{sym, ◌∙◌}
use Rattle.records.proofs.Texts.{refused_is_none, other_is_none, same_is_found}
use Rattle.records.proofs.adopted.adopted.Goals as goal

pub returns-in-Err : goal.returns-in-Err
returns-in-Err c = refused_is_none c.args.text.now c.read.result c.in-Err.refusal c.stop_of.result c.read.ensures.printed c.in-Err.is c.stop_of.ensures.1

pub returns-then-not-are_same : goal.returns-then-not-are_same
returns-then-not-are_same c =
    other_is_none c.args.text.now c.read.result c.in-Ok.program c.read.ensures.printed c.in-Ok.is
    (λ same. let yes = c.are_same.ensures.1 (c.as_slice.ensures ∙ c.in_ok-printed.ensures ∙ same) in let other = c.if-not-are_same.true in cc)

pub returns : goal.returns
returns c =
    same_is_found c.args.text.now c.read.result c.in-Ok.program c.read.ensures.printed c.in-Ok.is c.in-Ok.ensures.valid
    (sym c.in_ok-printed.ensures ∙ sym c.as_slice.ensures ∙ c.are_same.ensures.0 (let same = c.if-not-are_same.false in cc))
