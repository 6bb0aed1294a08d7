use Rattle.wirelist_reader.specs.declared.kind.Kind.TheVariants.{Insulation}
use Rattle.wirelist_reader.proofs.faultless.BuildFacts.{insulation_numbers}
use Rattle.wirelist_reader.proofs.faultless.BuildLists.{first_fits}
use Rattle.wirelist_reader.proofs.build.insulation.Goals as goal

pub number_at-requires : goal.number_at-requires
number_at-requires c =
    let first = first_fits Insulation c.args.rows.now c.in_ok-row.row.now c.requires c.in_ok-row.ensures in
    (insulation_numbers c.in_ok-row.row.now first.1 first.0).0

pub number_at-requires-2 : goal.number_at-requires-2
number_at-requires-2 c =
    let first = first_fits Insulation c.args.rows.now c.in_ok-row.row.now c.requires c.in_ok-row.ensures in
    (insulation_numbers c.in_ok-row.row.now first.1 first.0).1

pub number_at-requires-3 : goal.number_at-requires-3
number_at-requires-3 c =
    let first = first_fits Insulation c.args.rows.now c.in_ok-row.row.now c.requires c.in_ok-row.ensures in
    (insulation_numbers c.in_ok-row.row.now first.1 first.0).2
