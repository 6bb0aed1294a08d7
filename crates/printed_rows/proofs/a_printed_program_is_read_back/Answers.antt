use Rattle.printed_rows.proofs.Printed.{printed_records}
use Rattle.printed_rows.proofs.a_printed_program_is_read_back.Goals as goal

pub returns : goal.returns
returns c = printed_records
