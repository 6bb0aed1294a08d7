use Rattle.std.proofs.Common.{◌≡◌, filter, map, take, length, ltb}
use Rattle.learned_program.specs.LearnedProgram.{class_points}
use Rattle.learned_program.proofs.classes.classes_of.Given as goal

abbrev pub invariant-loop-head : goal.invariant-loop-head
invariant-loop-head l = l.lists ≡ filter (λ net. ltb 1 (length net)) (map (class_points l.partition) (take l.head-index l.head-items))
