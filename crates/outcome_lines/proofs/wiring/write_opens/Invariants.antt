use Rattle.std.proofs.Common.{◌≡◌, ◌++◌, take}
use Rattle.std.specs.Prelude.{option_copied}
use Rattle.std.specs.List.{flat_map}
use Rattle.outcome_lines.specs.OutcomeLines.{open_line}
use Rattle.outcome_lines.proofs.wiring.write_opens.Given as goal

abbrev pub invariant-loop-piece : goal.invariant-loop-piece
invariant-loop-piece l = l.out ≡ l.fn.out ++ flat_map (open_line (option_copied l.fn.program)) (take l.piece-index l.opens)
