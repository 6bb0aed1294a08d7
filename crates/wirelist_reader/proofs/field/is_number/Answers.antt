use Rattle.std.proofs.Common.{sym}
use Rattle.wirelist_reader.proofs.Numbers.{word_is_number, no_word_no_number}
use Rattle.wirelist_reader.proofs.field.is_number.Goals as goal

pub returns-in-Some : goal.returns-in-Some
returns-in-Some c = sym (word_is_number c.args.field.now c.args.low c.args.most c.in-Some.field-0 c.ranges.most.fits c.in-Some.ensures.number)

pub returns-in-None : goal.returns-in-None
returns-in-None c = sym (no_word_no_number c.args.field.now c.args.low c.args.most c.in-None.ensures.none)
