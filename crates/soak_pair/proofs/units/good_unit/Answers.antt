use Rattle.std.proofs.Common.{◌∙◌, sym, ap, List, map, ◌+◌, ◌++◌, ◌∷◌, [], arith}
use Rattle.std.proofs.lemmas.List.FromFn.{map-range_with_len_more}
use Rattle.std.specs.List.{range_with_len}
use Rattle.rig.specs.declared.unit.Row.{Row}
use Rattle.soak_pair.specs.Pair.{net_wire}
use Rattle.soak_pair.proofs.units.good_unit.Goals as goal

pub loop-i-preserved : goal.loop-i-preserved
loop-i-preserved c =
    c.in_ok-push.ensures.ok
    ∙ ap (λ (rows : List Row). rows ++ c.wire.result ∷ []) c.loop-i.invariant
    ∙ ap (λ (row : Row). map net_wire (range_with_len 0 c.loop-i.i) ++ row ∷ []) c.wire.ensures
    ∙ sym (map-range_with_len_more net_wire 0 c.loop-i.i c.loop-i.i (omega arith))
