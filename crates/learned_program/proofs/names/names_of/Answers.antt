use Rattle.std.proofs.Common.{◌∙◌, sym, ap, List, ℕ, map, ◌+◌, ◌++◌, ◌∷◌, [], arith}
use Rattle.std.proofs.lemmas.List.FromFn.{map-range_with_len_more}
use Rattle.std.specs.List.{range_with_len}
use Rattle.learned_program.specs.LearnedProgram.{learned_name}
use Rattle.learned_program.proofs.names.names_of.Goals as goal

pub loop-i-preserved : goal.loop-i-preserved
loop-i-preserved c =
    c.in_ok-push.ensures.ok
    ∙ ap (λ (names : List (List ℕ)). names ++ c.in_ok-name_of.field-0 ∷ []) c.loop-i.invariant
    ∙ ap (λ (name : List ℕ). map learned_name (range_with_len 1 c.loop-i.i) ++ name ∷ []) c.in_ok-name_of.ensures
    ∙ sym (map-range_with_len_more learned_name 1 c.loop-i.i (c.loop-i.i + 1) (omega arith))
