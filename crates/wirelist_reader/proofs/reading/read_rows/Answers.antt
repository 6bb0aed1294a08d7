use Rattle.wirelist_reader.proofs.faultless.GivenRows.{fit_of_faultless}
use Rattle.wirelist_reader.proofs.reading.read_rows.Goals as goal

pub read_heads-requires : goal.read_heads-requires
read_heads-requires c = fit_of_faultless c.args.rows.now c.in_default.ensures
