use Rattle.csv.specs.Records.{fields_of}
use Rattle.wirelist_rows.proofs.FilledLemmas.{field_there, field_missing}
use Rattle.wirelist_rows.proofs.table.field_of.Goals as goal

pub returns-in-Some : goal.returns-in-Some
returns-in-Some c = field_there (fields_of c.args.read.now) c.args.place c.in-Some.field c.in-Some.ensures.value

pub returns-in-None : goal.returns-in-None
returns-in-None c = field_missing (fields_of c.args.read.now) c.args.place c.in-None.ensures.value
