use Rattle.wirelist_reader.proofs.faultless.NamedRows.{named_name}
use Rattle.wirelist_reader.proofs.seen.name_of.Goals as goal

pub name_at-requires : goal.name_at-requires
name_at-requires c = named_name c.args.row.now c.requires.fit c.requires.named
