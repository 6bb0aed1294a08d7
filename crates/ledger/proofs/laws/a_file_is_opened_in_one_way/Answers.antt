use Rattle.ledger.proofs.OneOpening.{one_way}
use Rattle.ledger.proofs.laws.a_file_is_opened_in_one_way.Goals as goal

pub returns : goal.returns
returns c = one_way c.args.file.now
