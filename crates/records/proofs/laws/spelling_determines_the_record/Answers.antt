use Rattle.records.proofs.OneRecord.{one_record}
use Rattle.records.proofs.laws.spelling_determines_the_record.Goals as goal

pub returns : goal.returns
returns c = one_record
