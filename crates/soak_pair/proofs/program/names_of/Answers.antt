use Rattle.std.proofs.Common.{◌∙◌, sym, ap, List, ℕ, map, ◌+◌, ◌++◌, ◌∷◌, [], arith}
use Rattle.std.proofs.lemmas.List.FromFn.{map-range_with_len_more}
use Rattle.std.specs.List.{range_with_len}
use Rattle.soak_pair.specs.Pair.{soak_name}
use Rattle.soak_pair.proofs.program.names_of.Goals as goal

pub loop-i-preserved : goal.loop-i-preserved
loop-i-preserved c =
    c.in_ok-push.ensures.ok
    ∙ ap (λ (names : List (List ℕ)). names ++ c.in_ok-name_of.field-0 ∷ []) c.loop-i.invariant
    ∙ ap (λ (name : List ℕ). map soak_name (range_with_len 0 c.loop-i.i) ++ name ∷ []) c.in_ok-name_of.ensures
    ∙ sym (map-range_with_len_more soak_name 0 c.loop-i.i c.loop-i.i (omega arith))
