use Rattle.std.proofs.Common.{◌∙◌}
use Rattle.csv.specs.Records.{fields_of}
use Rattle.wirelist_rows.proofs.FilledLemmas.{field_at_is_slice_get}
use Rattle.wirelist_rows.proofs.table.Row.get.Goals as goal

pub returns : goal.returns
returns c = rw (← c.self.view_is) (c.get.ensures.value ∙ field_at_is_slice_get (fields_of c.self.inside.record) c.args.place)
