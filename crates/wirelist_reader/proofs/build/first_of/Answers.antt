use Rattle.std.proofs.Common.{◌≡◌, true, rules}
use Rattle.wirelist_reader.specs.Rows.{is_kind}
use Rattle.wirelist_reader.proofs.faultless.BuildLists.{first_row}
use Rattle.wirelist_reader.proofs.build.first_of.Goals as goal

pub returns-then-is_kind : goal.returns-then-is_kind
returns-then-is_kind c =
    let is : is_kind c.args.kind c.row-item.result ≡ true = cc in
    first_row c.args.kind c.args.rows.now c.loop-row.row-index c.row-item.result c.loop-row.invariant (search rules) c.row-item.is is
