use Rattle.std.proofs.Common.{◌≡◌, ◌++◌, take, Some}
use Rattle.std.specs.List.{flat_map}
use Rattle.outcome_lines.specs.OutcomeLines.{leak_line}
use Rattle.outcome_lines.proofs.faults.write_leaks_of.Given as goal

abbrev pub invariant-loop-fault : goal.invariant-loop-fault
invariant-loop-fault l = l.out ≡ l.fn.out ++ flat_map (leak_line (Some l.program)) (take l.fault-index l.faults)
