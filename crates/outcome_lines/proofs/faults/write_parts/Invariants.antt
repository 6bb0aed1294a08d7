use Rattle.std.proofs.Common.{◌≡◌, ◌++◌, take}
use Rattle.std.specs.Prelude.{option_copied}
use Rattle.std.specs.List.{flat_map}
use Rattle.outcome_lines.specs.OutcomeLines.{part_line}
use Rattle.outcome_lines.proofs.faults.write_parts.Given as goal

abbrev pub invariant-loop-fault : goal.invariant-loop-fault
invariant-loop-fault l = l.out ≡ l.fn.out ++ flat_map (part_line (option_copied l.fn.program)) (take l.fault-index l.faults)
