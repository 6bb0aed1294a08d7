use Rattle.wirelist_reader.proofs.Numbers.{volts_by_word, no_volts}
use Rattle.wirelist_reader.proofs.field.are_volts.Goals as goal

pub returns-in-Some : goal.returns-in-Some
returns-in-Some c = volts_by_word c.args.field.now c.args.low c.args.most c.in-Some.volts c.ranges.most.fits c.in-Some.ensures.number

pub returns-in-None : goal.returns-in-None
returns-in-None c = no_volts c.args.field.now c.args.low c.args.most c.in-None.ensures.none
