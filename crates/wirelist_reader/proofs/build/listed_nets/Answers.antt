use Rattle.std.proofs.Common.{◌≡◌, true, rules}
use Rattle.wirelist_reader.specs.Rows.{is_kind}
use Rattle.wirelist_reader.specs.declared.kind.Kind.TheVariants.{Net}
use Rattle.wirelist_reader.proofs.faultless.BuildFacts.{net_points}
use Rattle.wirelist_reader.proofs.faultless.BuildLists.{row_fits}
use Rattle.wirelist_reader.proofs.build.listed_nets.Goals as goal

pub points_from-requires : goal.points_from-requires
points_from-requires c =
    let is : is_kind Net c.row-item.result ≡ true = cc in
    net_points c.row-item.result (row_fits c.args.rows.now c.loop-row.row-index c.row-item.result c.requires (search rules) c.row-item.is) is
