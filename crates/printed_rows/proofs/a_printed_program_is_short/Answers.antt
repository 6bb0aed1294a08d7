use Rattle.printed_rows.proofs.Lengths.{canonical_short}
use Rattle.printed_rows.proofs.a_printed_program_is_short.Goals as goal

pub returns : goal.returns
returns c = canonical_short
