use Rattle.std.proofs.Common.{◌≡◌, ◌++◌, take}
use Rattle.std.specs.Prelude.{option_copied}
use Rattle.outcome_lines.specs.OutcomeLines.{nets_text}
use Rattle.outcome_lines.proofs.wiring.write_nets.Given as goal

abbrev pub invariant-loop-net : goal.invariant-loop-net
invariant-loop-net l = l.out ≡ l.fn.out ++ nets_text (option_copied l.fn.program) (take l.net-index l.nets)
