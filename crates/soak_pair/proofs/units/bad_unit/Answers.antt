use Rattle.std.proofs.Common.{◌∙◌, sym, ap, List, ◌+◌, ◌++◌, ◌∷◌, [], arith}
use Rattle.rig.specs.declared.unit.Row.{Row}
use Rattle.soak_pair.specs.Pair.{bad_four}
use Rattle.soak_pair.proofs.SoakUnits.{fours_more}
use Rattle.soak_pair.proofs.units.bad_unit.Goals as goal

pub loop-q-preserved : goal.loop-q-preserved
loop-q-preserved c = c.in_ok-push_four.ensures ∙ ap (λ (rows : List Row). rows ++ bad_four c.loop-q.q) c.loop-q.invariant ∙ sym (fours_more c.loop-q.q)
