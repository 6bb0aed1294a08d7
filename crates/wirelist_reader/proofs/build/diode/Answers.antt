use Rattle.wirelist_reader.proofs.build.diode.Goals as goal
use Rattle.wirelist_reader.proofs.faultless.BuildFacts.{diode_name, diode_point, diode_window}

pub name_at-requires : goal.name_at-requires
name_at-requires c = diode_name c.args.row.now c.requires.fit c.requires.kind

pub point_at-requires : goal.point_at-requires
point_at-requires c = (diode_point c.args.row.now c.requires.fit c.requires.kind).0

pub point_at-requires-2 : goal.point_at-requires-2
point_at-requires-2 c = (diode_point c.args.row.now c.requires.fit c.requires.kind).1

pub number_at-requires : goal.number_at-requires
number_at-requires c = (diode_window c.args.row.now c.requires.fit c.requires.kind).0

pub number_at-requires-2 : goal.number_at-requires-2
number_at-requires-2 c = (diode_window c.args.row.now c.requires.fit c.requires.kind).1
