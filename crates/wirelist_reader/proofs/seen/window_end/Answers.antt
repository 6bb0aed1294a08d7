use Rattle.wirelist_reader.proofs.faultless.NamedRows.{window_end_number}
use Rattle.wirelist_reader.proofs.seen.window_end.Goals as goal

pub number_at-requires : goal.number_at-requires
number_at-requires c = window_end_number c.args.row.now c.requires.fit c.requires.component c.args.place c.requires.place
