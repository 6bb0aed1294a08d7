use Rattle.std.proofs.Common.{◌≡◌, true, rules}
use Rattle.wirelist_reader.specs.Rows.{is_kind}
use Rattle.wirelist_reader.specs.declared.kind.Kind.TheVariants.{Net}
use Rattle.wirelist_reader.proofs.faultless.BuildFacts.{net_name}
use Rattle.wirelist_reader.proofs.faultless.BuildLists.{row_fits}
use Rattle.wirelist_reader.proofs.build.net_names.Goals as goal

pub name_at-requires : goal.name_at-requires
name_at-requires c =
    let is : is_kind Net c.row-item.result ≡ true = cc in
    net_name c.row-item.result (row_fits c.args.rows.now c.loop-row.row-index c.row-item.result c.requires (search rules) c.row-item.is) is
