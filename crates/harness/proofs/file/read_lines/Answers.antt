use Rattle.std.proofs.Common.{List, ℕ, subst}
use Rattle.lines.specs.Lines.{lines_of}
use Rattle.harness.proofs.Reading.{Progress, step}
use Rattle.harness.proofs.file.read_lines.Goals as goal

pub loop-line-preserved : goal.loop-line-preserved
loop-line-preserved c =
    step (lines_of c.args.bytes.now) c.next.new.self c.in-Some.line.now c.loop-line.number c.loop-line.above c.in_ok-above.above
    (subst (λ (rest : List (List ℕ)). Progress (lines_of c.args.bytes.now) rest c.loop-line.number c.loop-line.above) c.in-Some.ensures.steps c.loop-line.invariant)
    c.in_ok-above.ensures.few c.in_ok-above.ensures.read
