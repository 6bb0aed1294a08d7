use Rattle.std.proofs.Common.{arith, ap, length}
use Rattle.records.proofs.Lengths.{text_short}
use Rattle.records.proofs.adopted.write_program.Goals as goal

pub overflow_cast-len : goal.overflow_cast-len
overflow_cast-len c =
    let short = text_short c.args.program.now c.requires in
    let same = ap length c.in_ok-text.ensures in
    omega (arith, c.len.ensures)
