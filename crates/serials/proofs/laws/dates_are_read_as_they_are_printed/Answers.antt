use Rattle.serials.proofs.ReadDates.{dates_read}
use Rattle.serials.proofs.laws.dates_are_read_as_they_are_printed.Goals as goal

pub returns : goal.returns
returns c = dates_read
