use Rattle.std.proofs.Common.{◌≡◌, ◌++◌, take}
use Rattle.outcome_lines.specs.OutcomeLines.{points_text}
use Rattle.outcome_lines.proofs.wiring.write_points.Given as goal

abbrev pub invariant-loop-point : goal.invariant-loop-point
invariant-loop-point l = l.out ≡ l.fn.out ++ points_text (take l.point-index l.points)
