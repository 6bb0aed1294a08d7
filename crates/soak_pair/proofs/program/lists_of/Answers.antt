use Rattle.std.proofs.Common.{◌∙◌, sym, ap, List, ℕ, map, ◌+◌, ◌++◌, ◌∷◌, [], arith}
use Rattle.std.proofs.lemmas.List.FromFn.{map-range_with_len_more}
use Rattle.std.specs.List.{range_with_len}
use Rattle.soak_pair.specs.Pair.{soak_net}
use Rattle.soak_pair.proofs.program.lists_of.Goals as goal

pub loop-i-preserved : goal.loop-i-preserved
loop-i-preserved c =
    c.in_ok-push.ensures.ok
    ∙ ap (λ (lists : List (List ℕ)). lists ++ c.in_ok-from_slice.field-0 ∷ []) c.loop-i.invariant
    ∙ ap (λ (list : List ℕ). map soak_net (range_with_len 0 c.loop-i.i) ++ list ∷ []) c.in_ok-from_slice.ensures
    ∙ sym (map-range_with_len_more soak_net 0 c.loop-i.i c.loop-i.i (omega arith))
