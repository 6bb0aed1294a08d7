use Rattle.std.proofs.Common.{◌++◌, ◌∷◌, [], sym, ◌∙◌, ap}
use Rattle.wirelist_reader.specs.declared.parts.PartEnds.{PartEnds}
use Rattle.wirelist_reader.proofs.PartsLists.{ends_more, ends_same}
use Rattle.wirelist_reader.proofs.parts.add_ends.Goals as goal
use Rattle.wirelist_reader.proofs.parts.add_ends.Goals.{then-is_kind+in_ok-push, else-is_kind}

pub loop-i-preserved : goal.loop-i-preserved
loop-i-preserved c =
    let row = c.index-rows-i.result in
    let rows = c.args.rows.now in
    let old = c.args.ends.now.items in
    let ends = c.loop-i.ends.items in
    elim c.if-is_kind.branch [
      | then-is_kind+in_ok-push w ↦
          rw w.ends-is (
          w.in_ok-push.ensures.items
          ∙ ap (λ (part : PartEnds). ends ++ part ∷ []) w.ends_at.ensures
          ∙ ends_more c.args.kind rows c.loop-i.i row old ends c.loop-i-test.true c.index-rows-i.is (sym c.is_kind.ensures ∙ w.if-is_kind.true) c.loop-i.invariant
          )
      | else-is_kind w ↦
          rw w.ends-is (ends_same c.args.kind rows c.loop-i.i row old ends c.loop-i-test.true c.index-rows-i.is (sym c.is_kind.ensures ∙ w.if-is_kind.false) c.loop-i.invariant)
    ]
