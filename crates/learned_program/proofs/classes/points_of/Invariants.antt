use Rattle.std.proofs.Common.{◌≡◌, filter, eqb}
use Rattle.partition.specs.Classes.{points_below, class_at}
use Rattle.learned_program.proofs.classes.points_of.Given as goal

abbrev pub invariant-loop-p : goal.invariant-loop-p
invariant-loop-p l = l.list ≡ filter (λ q. eqb (class_at l.partition q) l.class) (points_below l.p)
