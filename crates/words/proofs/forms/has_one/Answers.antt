use Rattle.words.proofs.TwoOptions.{named_alone}
use Rattle.words.proofs.forms.has_one.Goals as goal

pub returns : goal.returns
returns c = named_alone c.args.options.now _ c.in-len1.len_at_least c.in-len1.len_below _ _ c.is_named.ensures
