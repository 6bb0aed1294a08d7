use Rattle.std.proofs.Common.{◌≡◌, take, map}
use Rattle.wirelist_reader.specs.Rows.{field_at, rows_of_kind}
use Rattle.wirelist_reader.specs.declared.kind.Kind.TheVariants.{Net}
use Rattle.wirelist_reader.proofs.build.net_names.Given as goal

abbrev pub invariant-loop-row : goal.invariant-loop-row
invariant-loop-row l = l.names ≡ map (λ row. field_at row 1) (rows_of_kind Net (take l.row-index l.rows))
