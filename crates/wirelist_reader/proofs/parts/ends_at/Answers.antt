use Rattle.wirelist_reader.proofs.PartsLists.{component_point}
use Rattle.wirelist_reader.proofs.parts.ends_at.Goals as goal

pub point_at-requires : goal.point_at-requires
point_at-requires c = (component_point c.args.row.now c.requires.fit c.requires.component).0

pub point_at-requires-2 : goal.point_at-requires-2
point_at-requires-2 c = (component_point c.args.row.now c.requires.fit c.requires.component).1
