use Rattle.std.proofs.Common.{sym, ◌∙◌, ap}
use Rattle.wirelist_reader.specs.Kinds.{number}
use Rattle.wirelist_reader.proofs.Numbers.{word_number}
use Rattle.wirelist_reader.proofs.field.number_between.Goals as goal

pub returns-clause-number : goal.returns-clause-number
returns-clause-number c =
    sym (word_number c.field.result.now c.args.low c.args.most c.in-Some.number c.ranges.most.fits c.in-Some.ensures.number) ∙ ap number c.field.ensures
