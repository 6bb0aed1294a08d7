use Rattle.std.proofs.Common.{◌≡◌, ◌++◌, take}
use Rattle.std.specs.Prelude.{option_copied}
use Rattle.std.specs.List.{flat_map}
use Rattle.outcome_lines.specs.OutcomeLines.{miswire_line}
use Rattle.outcome_lines.proofs.wiring.write_miswires.Given as goal

abbrev pub invariant-loop-miswire : goal.invariant-loop-miswire
invariant-loop-miswire l = l.out ≡ l.fn.out ++ flat_map (miswire_line (option_copied l.fn.program)) (take l.miswire-index l.miswires)
