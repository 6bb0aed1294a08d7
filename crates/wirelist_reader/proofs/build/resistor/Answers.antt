use Rattle.wirelist_reader.proofs.build.resistor.Goals as goal
use Rattle.wirelist_reader.proofs.faultless.BuildFacts.{resistor_name, resistor_point, resistor_window}

pub name_at-requires : goal.name_at-requires
name_at-requires c = resistor_name c.args.row.now c.requires.fit c.requires.kind

pub point_at-requires : goal.point_at-requires
point_at-requires c = (resistor_point c.args.row.now c.requires.fit c.requires.kind).0

pub point_at-requires-2 : goal.point_at-requires-2
point_at-requires-2 c = (resistor_point c.args.row.now c.requires.fit c.requires.kind).1

pub number_at-requires : goal.number_at-requires
number_at-requires c = (resistor_window c.args.row.now c.requires.fit c.requires.kind).0

pub number_at-requires-2 : goal.number_at-requires-2
number_at-requires-2 c = (resistor_window c.args.row.now c.requires.fit c.requires.kind).1
