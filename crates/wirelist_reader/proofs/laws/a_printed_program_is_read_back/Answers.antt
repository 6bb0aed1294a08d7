use Rattle.wirelist_reader.proofs.printed.ReadBackLaw.{read_back}
use Rattle.wirelist_reader.proofs.laws.a_printed_program_is_read_back.Goals as goal

pub returns : goal.returns
returns c = read_back
