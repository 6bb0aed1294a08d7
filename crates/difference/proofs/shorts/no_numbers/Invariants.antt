use Rattle.std.proofs.Common.{◌≡◌, [], replicate, List, ℕ}
use Rattle.difference.proofs.shorts.no_numbers.Given as goal

abbrev pub invariant-loop : goal.invariant-loop
invariant-loop l = let none : List ℕ = [] in l.lists.items ≡ replicate l.counter none
