use Rattle.std.proofs.Common.{◌≡◌, map}
use Rattle.std.specs.List.{range_with_len}
use Rattle.learned_program.specs.LearnedProgram.{learned_name}
use Rattle.learned_program.proofs.names.names_of.Given as goal

abbrev pub invariant-loop-i : goal.invariant-loop-i
invariant-loop-i l = l.names ≡ map learned_name (range_with_len 1 l.i)
