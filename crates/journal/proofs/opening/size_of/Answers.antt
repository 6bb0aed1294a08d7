use Rattle.std.proofs.Common.{◌∙◌, arith, rules}
use Rattle.journal.proofs.wholes.Opened.{size_is}
use Rattle.journal.proofs.opening.size_of.Goals as goal

pub returns : goal.returns
returns c = size_is c.args.field.now c.from.result (search rules) (λ i. omega (arith, c.fits-field i)) (c.from.ensures ∙ c.from_be_bytes.ensures) (omega (arith, c.from.ensures))
