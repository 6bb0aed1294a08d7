use Rattle.words.proofs.TwoOptions.{named_in_order, named_in_either}
use Rattle.words.proofs.forms.has_both.Goals as goal

pub returns-then-are_named : goal.returns-then-are_named
returns-then-are_named c = named_in_order c.args.options.now _ _ c.in-len2.len_at_least c.in-len2.len_below _ _ (c.are_named.ensures.0 c.if-are_named.true)

pub returns : goal.returns
returns c = named_in_either c.args.options.now _ _ c.in-len2.len_at_least c.in-len2.len_below _ _ _ _ c.if-are_named.false c.are_named.ensures c.are_named-2.ensures
