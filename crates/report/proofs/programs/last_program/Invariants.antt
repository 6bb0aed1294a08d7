use Rattle.std.proofs.Common.{◌≡◌, take}
use Rattle.std.specs.Prelude.{option_copied}
use Rattle.serials.specs.Scan.{last_program}
use Rattle.report.proofs.programs.last_program.Given as goal

abbrev pub invariant-loop-noted : goal.invariant-loop-noted
invariant-loop-noted l = option_copied l.program ≡ last_program (take l.noted-index l.records)
