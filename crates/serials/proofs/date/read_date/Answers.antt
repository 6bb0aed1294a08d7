use Rattle.serials.proofs.ReadDates.{read_date-is}
use Rattle.serials.proofs.date.read_date.Goals as goal

pub returns : goal.returns
returns c = read_date-is c.args.bytes.now c.day_of.result c.day_of.ensures.none c.day_of.ensures.some
