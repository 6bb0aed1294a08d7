use Rattle.lines.specs.Lines.{lines_of}
use Rattle.harness.proofs.Reading.{Progress}
use Rattle.harness.proofs.file.read_lines.Given as goal

abbrev pub invariant-loop-line : goal.invariant-loop-line
invariant-loop-line l = Progress (lines_of l.fn.bytes) l.line-iterator l.number l.above
