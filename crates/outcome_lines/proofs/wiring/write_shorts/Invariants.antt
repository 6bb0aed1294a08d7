use Rattle.std.proofs.Common.{◌≡◌, ◌++◌, take}
use Rattle.std.specs.Prelude.{option_copied}
use Rattle.std.specs.List.{flat_map}
use Rattle.outcome_lines.specs.OutcomeLines.{short_line}
use Rattle.outcome_lines.proofs.wiring.write_shorts.Given as goal

abbrev pub invariant-loop-short : goal.invariant-loop-short
invariant-loop-short l = l.out ≡ l.fn.out ++ flat_map (short_line (option_copied l.fn.program)) (take l.short-index l.shorts)
